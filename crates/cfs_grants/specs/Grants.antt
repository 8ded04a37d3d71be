-- The grants that stand, each at its queue.
use Rattle.std.specs.Prelude.{ℕ, suc, ◌==◌, Bool, false, List, [], ◌∷◌, Option, Some, None, slice_get}
use Rattle.std.specs.List.{list_any}
use Rattle.std.specs.Option.{option_and_then}
use Rattle.cfs_grants.specs.declared.grant.Grant.{Grant}

-- the grant that has a queue
abbrev pub grant_at : List (Option Grant) → ℕ → Option Grant
grant_at grants queue = option_and_then (λ row. row) (slice_get grants queue)

-- the lowest queue without a grant, where the first row is that of queue `first`
abbrev pub free_from : ℕ → List (Option Grant) → Option ℕ
free_from first [] = None
free_from first (None ∷ rows) = Some first
free_from first (Some grant ∷ rows) = free_from (suc first) rows

abbrev pub free_queue : List (Option Grant) → Option ℕ
free_queue grants = free_from 0 grants

-- whether a grant is for this file
abbrev pub is_for : ℕ → Option Grant → Bool
is_for ino None = false
is_for ino (Some grant) = grant.ino == ino

abbrev pub has_file : List (Option Grant) → ℕ → Bool
has_file grants ino = list_any (is_for ino) grants
