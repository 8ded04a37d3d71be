use Rattle.std.proofs.Common.{◌≡◌, ℕ, List, map, take}
use Rattle.cfs_file.specs.declared.request.Request.{Request}
use Rattle.cfs_pmem.specs.Objects.{all_devices}
use Rattle.cfs_block.specs.BlockImages.{Content}
use Rattle.cfs_recover.specs.Pieces.{ArePieces, LeavesBeside, with_writes_through}
use Rattle.cfs_recover.proofs.blocks.write_through.Given as goal

abbrev pub invariant-loop-piece : goal.invariant-loop-piece
invariant-loop-piece g l = record {
  so_far : map g.B.Block.seen l.blocks
      ≡ with_writes_through (take l.piece-index l.pieces) l.bytes
      (map g.B.Block.seen l.initial.blocks);
  beside : (ino : ℕ) (request : Request) (first : List Content) →
      ArePieces ino request first l.pieces →
      LeavesBeside ino request first (g.P.Power.asked l.initial.power)
      (map g.B.Block.seen l.initial.blocks) (g.P.Power.asked l.power)
      (map g.B.Block.seen l.blocks);
  devices : all_devices (map g.B.Block.seen l.blocks)
      ≡ all_devices (map g.B.Block.seen l.initial.blocks);
  numbers : map g.B.Block.number l.blocks ≡ map g.B.Block.number l.initial.blocks;
  counts : map g.B.Block.faults l.blocks ≡ map g.B.Block.faults l.initial.blocks;
}
