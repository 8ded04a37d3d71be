use Rattle.std.proofs.Common.{◌≡◌, ◌++◌, map}
use Rattle.std.specs.List.{flat_map}
use Rattle.cfs_inode.specs.View.{told_cell}
use Rattle.cfs_gather.specs.Seens.{block_of_cell}
use Rattle.cfs_gather.proofs.blocks.add_cells.Given as goal

abbrev pub invariant-loop-cell : goal.invariant-loop-cell
invariant-loop-cell g l =
    map g.B.Block.seen l.blocks.items ≡ map g.B.Block.seen l.initial.blocks.items
    ++ flat_map block_of_cell (map (told_cell g.B.Block.seen) l.yielded)
