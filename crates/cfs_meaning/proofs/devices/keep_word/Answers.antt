use Rattle.cfs_pmem.specs.Meters.{asked_of}
use Rattle.cfs_pmem.specs.WordOps.{set_ops}
use Rattle.cfs_meaning.proofs.Attempts.{attempts-words}
use Rattle.cfs_meaning.proofs.devices.keep_word.Goals as goal

pub returns-clause-attempts : goal.returns-clause-attempts
returns-clause-attempts g c = λ obeys.
    attempts-words (set_ops c.args.at c.args.word) c.set_word.result
    (asked_of c.args.meter.now) (asked_of c.set_word.new.power)
    (g.R.Region.seen c.args.region.now) (g.R.Region.seen c.set_word.new.region)
    c.set_word.new.power.metered.answered (c.set_word.ensures.set.does obeys)
