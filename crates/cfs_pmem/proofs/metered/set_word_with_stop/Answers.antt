use Rattle.std.proofs.Common.{◌∙◌, ◌-◌, ap, arith, refl}
use Rattle.cfs_pmem.specs.Meter.{supply_of, plans_of}
use Rattle.cfs_pmem.proofs.RunLemmas.{meets_stop, all_passed}
use Rattle.cfs_pmem.proofs.metered.set_word_with_stop.Goals as goal

pub returns-clause-stopped : goal.returns-clause-stopped
returns-clause-stopped g c = λ obeys few.
    meets_stop (c.args.n - 1) c.set_word.result (omega arith) (refl, (refl, tt))
    record { supply = ap (λ s. supply_of s) c.stop.ensures; plans = ap (λ s. plans_of s) c.stop.ensures ∙ c.requires.unplanned }
    c.set_word.new.power.metered.answered (c.set_word.ensures.set.does obeys)

pub returns-clause-passed : goal.returns-clause-passed
returns-clause-passed g c = λ obeys many.
    all_passed (c.args.n - 1) c.set_word.result (omega arith) (refl, (refl, tt))
    record { supply = ap (λ s. supply_of s) c.stop.ensures; plans = ap (λ s. plans_of s) c.stop.ensures ∙ c.requires.unplanned }
    c.set_word.new.power.metered.answered (c.set_word.ensures.set.does obeys)
