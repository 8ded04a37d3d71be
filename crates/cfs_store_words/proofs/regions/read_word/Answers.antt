use Rattle.std.proofs.Common.{}
use Rattle.cfs_pmem.specs.Images.{IsImage}
use Rattle.cfs_pmem.proofs.MomentLemmas.{begun, with_reading}
use Rattle.cfs_store_words.proofs.Calls.{cause-of, leaves-at}
use Rattle.cfs_store_words.proofs.regions.read_word.Goals as goal

pub returns-clause-leaves : goal.returns-clause-leaves
returns-clause-leaves g c =
    leaves-at IsImage g.R.Region.seen c.args.regions.now c.args.place c.index-regions-place.result
    c.read.new.self c.requires.place c.requires.distinct c.read.ensures.seen
    (with_reading (begun _ _ (λ image h. h)) c.read.ensures.seen c.read.ensures.asks)

pub returns-clause-cause : goal.returns-clause-cause
returns-clause-cause g c =
    cause-of g.R.Region.faults c.args.regions.now c.args.place c.index-regions-place.result
    c.read.new.self c.read.result c.requires.place c.read.ensures.cause
