use Rattle.std.proofs.Common.{◌≡◌, map, take}
use Rattle.cfs_block.specs.BlockImages.{IsBlockImage}
use Rattle.cfs_store_words.specs.Leaves.{LeavesEach}
use Rattle.cfs_store_words.specs.Rows.{tag_in}
use Rattle.cfs_store_words.proofs.blocks.read_tags.Given as goal

abbrev pub invariant-loop-place : goal.invariant-loop-place
invariant-loop-place g l = record {
  leaves : LeavesEach IsBlockImage (g.P.Power.asked l.initial.power)
      (map g.B.Block.seen l.initial.blocks) (g.P.Power.asked l.power)
      (map g.B.Block.seen l.blocks);
  counts : map g.B.Block.faults l.blocks ≡ map g.B.Block.faults l.initial.blocks;
  numbers : map g.B.Block.number l.blocks ≡ map g.B.Block.number l.initial.blocks;
  tags : l.tags.items ≡ map tag_in (take l.place (map g.B.Block.seen l.initial.blocks));
}
