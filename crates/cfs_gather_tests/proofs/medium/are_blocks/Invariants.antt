use Rattle.std.proofs.Common.{◌≡◌}
use Rattle.cfs_block.specs.MemoryBlocks.{number_of}
use Rattle.cfs_gather_tests.specs.InOrder.{block_device_of}
use Rattle.cfs_gather_tests.proofs.Follows.{FollowsSoFar}
use Rattle.cfs_gather_tests.proofs.medium.are_blocks.Given as goal

abbrev pub invariant-loop-block : goal.invariant-loop-block
invariant-loop-block l = record {
  at : l.number ≡ l.block-index;
  devices : FollowsSoFar block_device_of (λ number. number) 339 l.blocks l.block-index;
  numbers : FollowsSoFar number_of (λ number. number) 0 l.blocks l.block-index;
}
