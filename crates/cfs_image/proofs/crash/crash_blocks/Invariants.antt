use Rattle.std.proofs.Common.{◌≡◌, ◌<◌, ℕ, map, get_or}
use Rattle.cfs_pmem.specs.Images.{Seen}
use Rattle.cfs_block.specs.BlockImages.{BlockStep, IsBlockImage, content_of}
use Rattle.cfs_block.specs.MemoryBlocks.{seen_of, number_of, faults_of}
use Rattle.cfs_image.specs.Crash.{block_left_of, after_block_of}
use Rattle.cfs_image.proofs.Crashing.{IsLeft}
use Rattle.cfs_image.proofs.crash.crash_blocks.Given as goal

abbrev pub invariant-loop-block : goal.invariant-loop-block
invariant-loop-block l = record {
  left : IsLeft block_left_of after_block_of l.initial.pick (map seen_of l.initial.block-items) l.pick (map seen_of l.block-items) l.block-index;
  images : (k : ℕ) (d e : Seen BlockStep) → k < l.block-index → IsBlockImage (get_or (map seen_of l.initial.block-items) k d).history (content_of (get_or (map seen_of l.block-items) k e));
  numbers : map number_of l.block-items ≡ map number_of l.initial.block-items;
  faults : map faults_of l.block-items ≡ map faults_of l.initial.block-items;
}
