-- Grants by their numbers, each at its queue.
use Rattle.std.specs.Prelude.{ℕ, ◌==◌, Bool, false, ◌&&◌, ◌||◌, List, [], ◌∷◌, Option, Some, None, set}
use Rattle.std.specs.List.{list_any, position}
use Rattle.cfs_grants.specs.declared.grant.Grant.{Grant}

abbrev pub Rows : Type 0
Rows = List (Option Grant)

-- the row's grant has this number
abbrev pub is_numbered : ℕ → Option Grant → Bool
is_numbered number None = false
is_numbered number (Some grant) = grant.number == number

-- and it writes
abbrev pub is_writer : ℕ → Option Grant → Bool
is_writer number None = false
is_writer number (Some grant) = (grant.number == number) && grant.writes

-- and it reads, which no sync asks for
abbrev pub is_asker : Bool → ℕ → Option Grant → Bool
is_asker is_sync number None = false
is_asker is_sync number (Some grant) = (grant.number == number) && (is_sync || grant.reads)

abbrev pub stands : ℕ → Rows → Bool
stands number rows = list_any (λ row. is_numbered number row) rows

abbrev pub may_write : ℕ → Rows → Bool
may_write number rows = list_any (λ row. is_writer number row) rows

abbrev pub may_ask : Bool → ℕ → Rows → Bool
may_ask is_sync number rows = list_any (λ row. is_asker is_sync number row) rows

-- the number of the grant with the lowest queue
abbrev pub first_number : Rows → Option ℕ
first_number [] = None
first_number (None ∷ rows) = first_number rows
first_number (Some grant ∷ rows) = Some grant.number

-- the row is without a grant
abbrev pub closed_at : Option ℕ → Rows → Rows
closed_at None rows = rows
closed_at (Some queue) rows = set rows queue None

-- the grant of this number is gone
abbrev pub without_grant : ℕ → Rows → Rows
without_grant number rows = closed_at (position (λ row. is_numbered number row) rows) rows
