-- A stored file that a state can be made of.
use Rattle.std.specs.Prelude.{ℕ, List}
use Rattle.cfs_core.specs.declared.inode_core.Core.{Core}
use Rattle.cfs_inode.specs.New.{HasFile, MappedSeen}

-- Some core of which nothing is logged has this file: so many bytes, which stand in these blocks,
-- and zeros behind them.
abbrev pub IsLoadable : ℕ → List MappedSeen → Type 0
IsLoadable stored blocks = ∥ ((core : Core) × HasFile core stored blocks) ∥₁
