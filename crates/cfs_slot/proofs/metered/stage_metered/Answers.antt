use Rattle.cfs_pmem.proofs.RunLemmas.{is_run}
use Rattle.cfs_slot.proofs.metered.stage_metered.Goals as goal

pub returns : goal.returns
returns g c = λ obeys. is_run c.stage.result c.stage.new.power.metered.answered (c.stage.ensures.writes.does obeys)
