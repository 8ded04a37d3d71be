-- Cores that differ at one number, and at one block.
use Rattle.std.specs.Prelude.{ℕ, ◌≡◌, ◌≢◌}
use Rattle.cfs_core.specs.declared.inode_core.Core.{Core}
use Rattle.cfs_medium.specs.Shows.{holding}

-- the two know the same of every device but the slots at that number
pub record DiffersAt (place : ℕ) (core other : Core) : Type 0 where
  pub size : other.size ≡ core.size
  pub sizes : other.sizes ≡ core.sizes
  pub tags : other.tags ≡ core.tags
  pub loose : other.loose ≡ core.loose
  pub bytes : other.bytes ≡ core.bytes
  pub held : (at : ℕ) → at ≢ place → holding other other.doubt at ≡ holding core core.doubt at

-- the two know the same of every device but the size word
pub record DiffersInSize (core other : Core) : Type 0 where
  pub tags : other.tags ≡ core.tags
  pub loose : other.loose ≡ core.loose
  pub bytes : other.bytes ≡ core.bytes
  pub held : (at : ℕ) → holding other other.doubt at ≡ holding core core.doubt at
