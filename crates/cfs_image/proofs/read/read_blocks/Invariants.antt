use Rattle.cfs_image.specs.Reading.{AreBlocksOf}
use Rattle.cfs_image.proofs.read.read_blocks.Given as goal

abbrev pub invariant-loop-number : goal.invariant-loop-number
invariant-loop-number l = AreBlocksOf l.bytes l.queues l.number l.blocks.items
