use Rattle.std.proofs.Common.{◌<◌, length, arith}
use Rattle.std.proofs.lemmas.List.{get_or_default}
use Rattle.std.proofs.lemmas.List.Edits.{map_over_more}
use Rattle.cfs_pmem.specs.Meter.{counted}
use Rattle.cfs_pmem.proofs.meter.count_all.Goals as goal

pub loop-plan-preserved : goal.loop-plan-preserved
loop-plan-preserved c =
    let within : c.loop-plan.plan-index < length c.loop-plan.plan-items = omega arith in
    rw c.count.ensures
    (map_over_more (counted c.args.device c.args.writing) c.deref_mut-plan-items.result.now c.loop-plan.plan-items c.loop-plan.plan-index _ c.loop-plan-test.true
    c.loop-plan.invariant (get_or_default c.loop-plan.plan-items c.loop-plan.plan-index _ _ within))
