use Rattle.std.proofs.Common.{◌∙◌, ap}
use Rattle.cfs_tracker.specs.Dispatch.{is_still_at}
use Rattle.cfs_tracker.proofs.Dispatching.{still-held}
use Rattle.cfs_tracker.proofs.tracker.Tracker.are_still.Goals as goal

pub returns-then-is_still-clause-none : goal.returns-then-is_still-clause-none
returns-then-is_still-clause-none g c = λ all.
    c.is_still-then-is_still.ensures
    ∙ (ap (λ cells. is_still_at cells c.args.second) c.as_slice-cells.ensures.value
    ∙ still-held c.args.self.now.cells.items c.args.second all)

pub returns-else-is_still-clause-none : goal.returns-else-is_still-clause-none
returns-else-is_still-clause-none g c = λ all.
    c.is_still.ensures
    ∙ (ap (λ cells. is_still_at cells c.args.first) c.as_slice-cells.ensures.value
    ∙ still-held c.args.self.now.cells.items c.args.first all)
