use Rattle.std.proofs.Common.{◌∙◌, ap, not, sym}
use Rattle.cfs_tracker.specs.View.{view_of}
use Rattle.cfs_tracker.proofs.Passing.{stuck}
use Rattle.cfs_tracker.proofs.tracker.Tracker.may_take.Goals as goal

pub returns-else-not-is_before : goal.returns-else-not-is_before
returns-else-not-is_before g c =
    ap not c.if-not-is_before.false
    ∙ sym (stuck (view_of c.args.self.now) c.args.passed.now c.args.entry.now c.requires
    (sym c.is_before.ensures ∙ c.if-not-is_before.false))
