-- The counts of faults of several regions, of which a call fails by one.
use Rattle.std.specs.Prelude.{ℕ, ◌≡◌, ◌≤◌, List, Result, OnOk, OnErr}
use Rattle.std.proofs.Math.ListN.{get_or, set}
use Rattle.cfs_pmem.specs.Faults.{Rose}

-- one count rose, and the others are as before
pub record OneRose (before now : List ℕ) : Type 0 where
  pub place : ℕ
  pub rose : Rose (get_or before place 0) (get_or now place 0)
  pub others : now ≡ set before place (get_or now place 0)

-- The counts tell how a call ended: where it failed, that of one region rose; else all
-- are as before.
pub record HasOneCause {T E : Type 0} (before now : List ℕ) (result : Result T E) : Type 0 where
  pub later : (place : ℕ) → get_or before place 0 ≤ get_or now place 0
  pub failed : OnErr result (OneRose before now)
  pub passed : OnOk result (now ≡ before)
