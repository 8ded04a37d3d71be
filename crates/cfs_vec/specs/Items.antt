-- What a contract sees of a vector of fixed capacity.
use Rattle.std.specs.Prelude.{ℕ, List}
use Rattle.cfs_vec.specs.declared.fixed_vec.FixedVec.{FixedVec}
use Rattle.cfs_vec.specs.Cells.{somes}

-- the values, in order
abbrev pub items_of : {T : Type 0} {N : ℕ} → FixedVec T N → List T
items_of v = somes v.cells.items
