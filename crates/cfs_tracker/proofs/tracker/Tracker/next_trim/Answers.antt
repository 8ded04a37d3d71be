use Rattle.std.proofs.Common.{◌∙◌, arith, sym}
use Rattle.cfs_tracker.specs.View.{view_of}
use Rattle.cfs_tracker.proofs.Trimming.{trim-from}
use Rattle.cfs_tracker.proofs.tracker.Tracker.next_trim.Goals as goal

pub returns-clause-block : goal.returns-clause-block
returns-clause-block g c =
    c.find_trim.ensures.block
    ∙ sym (trim-from (view_of c.args.self.now) c.first_past.result c.len-count.result
    (omega (arith, c.len-count.ensures)) c.first_past.ensures.inside
    c.first_past.ensures.before)
