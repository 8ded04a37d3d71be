-- The block of an outcome, whichever state it is in.
use Rattle.std.specs.Prelude.{Result, Ok, Err}
use Rattle.cfs_block.specs.declared.free_block.FreeBlock.{FreeBlock}
use Rattle.cfs_block.specs.declared.free_block.ZeroBlock.{ZeroBlock}

abbrev pub block_in : {B : Type 0} {g : _} → Result (ZeroBlock B g) (FreeBlock B g) → B
block_in (Ok zero) = zero.block
block_in (Err free) = free.block
