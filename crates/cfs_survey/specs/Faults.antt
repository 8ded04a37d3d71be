-- What a survey answers, and the plainest checks of one number.
use Rattle.std.specs.Prelude.{ℕ, ◌==◌, nat_le, List, Option, Some, None, Result, Ok, Err}
use Rattle.std.specs.List.{flat_map, range_with_len}
use Rattle.cfs_image.specs.Checks.{Check, Damage, check}
use Rattle.cfs_survey.specs.declared.fault.Fault.{Fault}

-- the damage that a fault names
abbrev pub damage_in : Fault → Damage
damage_in fault =
    record { offset = fault.offset; found = fault.found; against = fault.against }

-- the damage that an answer reports, or none
abbrev pub reported : {A : Type 0} → Result A Fault → Option Damage
reported (Ok done) = None
reported (Err fault) = Some (damage_in fault)

-- the number found at an offset is this one, at least this one, at most this one
abbrev pub equal : ℕ → ℕ → ℕ → Check
equal due offset found = check (found == due) offset found due

abbrev pub at_least : ℕ → ℕ → ℕ → Check
at_least bound offset found = check (nat_le bound found) offset found bound

abbrev pub at_most : ℕ → ℕ → ℕ → Check
at_most bound offset found = check (nat_le found bound) offset found bound

-- the checks of n numbers, from one on
unfoldable pub checks_from : (ℕ → List Check) → ℕ → ℕ → List Check
checks_from each from n = flat_map each (range_with_len from n)
