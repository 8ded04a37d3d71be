use Rattle.std.proofs.Common.{}
use Rattle.cfs_pmem.proofs.MomentLemmas.{begun, with_reading}
use Rattle.cfs_block.specs.BlockImages.{IsBlockImage}
use Rattle.cfs_store_words.proofs.Calls.{cause-of, kept-at, leaves-at}
use Rattle.cfs_store_words.proofs.blocks.read_tag.Goals as goal

pub returns-clause-leaves : goal.returns-clause-leaves
returns-clause-leaves g c =
    leaves-at IsBlockImage g.B.Block.seen c.args.blocks.now c.args.place c.index-blocks-place.result
    c.tag.new.self c.requires.place c.requires.distinct c.tag.ensures.seen
    (with_reading (begun _ _ (λ image h. h)) c.tag.ensures.seen c.tag.ensures.asks)

pub returns-clause-numbers : goal.returns-clause-numbers
returns-clause-numbers g c =
    kept-at g.B.Block.number c.args.blocks.now c.args.place c.index-blocks-place.result
    c.tag.new.self c.requires.place c.tag.ensures.number

pub returns-clause-cause : goal.returns-clause-cause
returns-clause-cause g c =
    cause-of g.B.Block.faults c.args.blocks.now c.args.place c.index-blocks-place.result
    c.tag.new.self c.tag.result c.requires.place c.tag.ensures.cause
