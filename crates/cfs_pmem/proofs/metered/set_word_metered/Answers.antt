use Rattle.cfs_pmem.proofs.RunLemmas.{is_run}
use Rattle.cfs_pmem.proofs.metered.set_word_metered.Goals as goal

pub returns-clause-run : goal.returns-clause-run
returns-clause-run g c = λ obeys. is_run c.set_word.result c.set_word.new.power.metered.answered (c.set_word.ensures.set.does obeys)
