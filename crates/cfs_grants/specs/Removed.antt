-- The removed files, each at its record.
use Rattle.std.specs.Prelude.{ℕ, suc, Bool, not, ◌&&◌, List, [], ◌∷◌, Option, Some, None, is_some, slice_get, set, if◌then◌else◌}
use Rattle.std.specs.Option.{option_and_then}
use Rattle.cfs_grants.specs.declared.grant.Grant.{Grant}
use Rattle.cfs_grants.specs.declared.removed.Removed.{Removed}
use Rattle.cfs_grants.specs.Grants.{has_file}

-- the removed file of a record
abbrev pub row_of : List (Option Removed) → ℕ → Option Removed
row_of rows rec = option_and_then (λ row. row) (slice_get rows rec)

-- no pass has it, and no grant is for it
abbrev pub is_dying : List (Option Grant) → Removed → Bool
is_dying grants row = not (is_some row.by) && not (has_file grants row.ino)

-- the lowest record of such a file, where the first row is that of record `first`
abbrev pub first_dying : ℕ → List (Option Grant) → List (Option Removed) → Option (ℕ × ℕ)
first_dying first grants [] = None
first_dying first grants (None ∷ rows) = first_dying (suc first) grants rows
first_dying first grants (Some row ∷ rows) =
    if is_dying grants row then Some (first, row.ino) else first_dying (suc first) grants rows

-- what was found is given to a pass
abbrev pub given_to : ℕ → Option (ℕ × ℕ) → List (Option Removed) → List (Option Removed)
given_to by None rows = rows
given_to by (Some found) rows = set rows found.0 (Some record { ino = found.1; by = Some by })

-- no pass has it any more
abbrev pub kept_again : Option Removed → Option Removed
kept_again None = None
kept_again (Some row) = Some (record row { by = None })
