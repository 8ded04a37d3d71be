-- Why a call failed, by the counts of faults.
use Rattle.std.specs.Prelude.{ℕ, ◌≡◌, ◌≢◌, ◌⊎◌, List, Result, Err}
use Rattle.cfs_pmem.specs.Faults.{Rose}
use Rattle.cfs_ckpt.specs.Causes.{OneRose}
use Rattle.cfs_names.specs.declared.store_refusal.StoreRefusal.{StoreRefusal}
use Rattle.cfs_names.specs.declared.store_refusal.StoreRefusal.TheVariants.{Failed}

-- It failed exactly for a fault of one region: of the selector or a copy, or of the next record.
pub record HasCauseOf {T : Type 0} (tables_old tables_new : List ℕ) (next_old next_new : ℕ)
    (result : Result T StoreRefusal) : Type 0 where
  pub failed : result ≡ Err Failed →
      (OneRose tables_old tables_new × (next_new ≡ next_old))
      ⊎ ((tables_new ≡ tables_old) × Rose next_old next_new)
  pub passed : result ≢ Err Failed → (tables_new ≡ tables_old) × (next_new ≡ next_old)
