use Rattle.cfs_fsck.proofs.Reading.{tags_none, tags_pushed}
use Rattle.cfs_fsck.proofs.words.read_tags.Goals as goal

pub loop-block-init : goal.loop-block-init
loop-block-init c = tags_none c.args.bytes.now c.args.queues _ c.in_ok-tags.ensures.items

pub loop-block-preserved : goal.loop-block-preserved
loop-block-preserved c =
    tags_pushed c.args.bytes.now c.args.queues c.loop-block.block c.loop-block.tags.items
    c.push.new.self.items c.word_at.result c.block_at.result c.in_ok-push.ensures.items
    c.loop-block.invariant c.word_at.ensures c.block_at.ensures
