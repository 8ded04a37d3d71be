use Rattle.std.proofs.Common.{◌∙◌, ◌-◌, ap, arith, refl}
use Rattle.cfs_pmem.specs.Meter.{supply_of, plans_of}
use Rattle.cfs_pmem.proofs.RunLemmas.{meets_stop, all_passed}
use Rattle.cfs_slot.specs.Regions.{of_slot}
use Rattle.cfs_slot.proofs.MeteredLemmas.{stage-writes}
use Rattle.cfs_slot.proofs.metered.stage_with_stop.Goals as goal

pub returns-clause-stopped : goal.returns-clause-stopped
returns-clause-stopped g c = λ obeys few.
    meets_stop (c.args.n - 1) c.stage.result (omega (arith, few, c.requires.some)) (stage-writes (g.R.Region.seen (of_slot c.args.slot)).device c.args.ino c.args.request.now c.args.grant)
    record { supply = ap (λ s. supply_of s) c.stop.ensures; plans = ap (λ s. plans_of s) c.stop.ensures ∙ c.requires.unplanned }
    c.stage.new.power.metered.answered (c.stage.ensures.writes.does obeys)

pub returns-clause-passed : goal.returns-clause-passed
returns-clause-passed g c = λ obeys many.
    all_passed (c.args.n - 1) c.stage.result (omega (arith, many)) (stage-writes (g.R.Region.seen (of_slot c.args.slot)).device c.args.ino c.args.request.now c.args.grant)
    record { supply = ap (λ s. supply_of s) c.stop.ensures; plans = ap (λ s. plans_of s) c.stop.ensures ∙ c.requires.unplanned }
    c.stage.new.power.metered.answered (c.stage.ensures.writes.does obeys)
