-- The counts of a summary.
use Rattle.std.specs.Prelude.{ℕ}

pub record Totals : Type 0 where
  -- the number of the workload
  pub number : ℕ
  pub requests : ℕ
  pub writes : ℕ
  pub reads : ℕ
  pub syncs : ℕ
  -- the requests that were answered ok
  pub ok : ℕ
