use Rattle.std.proofs.Common.{Result, Ok, Err, OnOk, IfOk}
use Rattle.cfs_pmem.specs.Images.{Seen, WordStep, IsSure}
use Rattle.cfs_slot.specs.declared.slot.Slot.{Slot}
use Rattle.cfs_slot.specs.declared.staged.Staged.{Staged}
use Rattle.cfs_slot.specs.Regions.{after_stage, of_staged}
use Rattle.cfs_device_tests.proofs.slot.stage.Goals as goal

sure_of : {R : Type 0} {g : _} (seen : R → Seen WordStep) (result : Result (Staged R g) (Slot R g)) → OnOk result (IsSure (seen (after_stage result)))
    → IfOk result (λ staged. IsSure (seen (of_staged staged)))
sure_of seen (Ok staged) h = h
sure_of seen (Err slot) h = tt

pub returns-then-is_stageable : goal.returns-then-is_stageable
returns-then-is_stageable g c = sure_of g.R.Region.seen c.stage.result c.stage.ensures.writes.sure
