-- Numbers as runs of neighbours.
use Rattle.std.specs.Prelude.{ℕ, ◌≡◌, ◌+◌, ◌<◌, ◌≤◌, List, [], ◌∷◌, ◌++◌, ◌⊎◌, All, Contains, Some, drop, length, take, slice_get}
use Rattle.std.specs.List.{range_with_len}
use Rattle.cfs_extent.specs.declared.run.Run.{Run}

-- the number after the last one of a run
abbrev pub end_of : Run → ℕ
end_of run = run.first + run.count

-- the numbers of runs, one after another
abbrev pub numbers_of : List Run → List ℕ
numbers_of [] = []
numbers_of (run ∷ runs) = range_with_len run.first run.count ++ numbers_of runs

-- runs from a number on, below 256: none is empty, they ascend, and no two touch
abbrev pub AreRuns : ℕ → List Run → Type 0
AreRuns from [] = Unit {0}
AreRuns from (run ∷ runs) =
    (from ≤ run.first) × (0 < run.count) × (end_of run ≤ 256) × AreRuns (end_of run + 1) runs

-- where a run may begin after these: one past the end of the last
abbrev pub next_start : ℕ → List Run → ℕ
next_start from [] = from
next_start from (run ∷ runs) = next_start (end_of run + 1) runs

-- the first of these runs, if there is one, begins at a number or past it
abbrev pub StartsFrom : ℕ → List Run → Type 0
StartsFrom from [] = Unit {0}
StartsFrom from (run ∷ runs) = from ≤ run.first

-- the same of its end
abbrev pub EndsPast : ℕ → List Run → Type 0
EndsPast number [] = Unit {0}
EndsPast number (run ∷ runs) = number < end_of run

-- the first run that ends past a number, and how many numbers stand in the runs before it
pub record IsSeat (runs : List Run) (number at count : ℕ) : Type 0 where
  pub within : at ≤ length runs
  pub before : count ≡ length (numbers_of (take at runs))
  pub below : next_start 0 (take at runs) ≤ number + 1
  pub past : EndsPast number (drop at runs)

-- ascending numbers below 256, and for how many runs there is room
pub record Numbers : Type 0 where
  pub list : List ℕ
  pub room : ℕ

-- a number stands at an index, lower ones before it and higher ones behind it
pub record StandsAt (list : List ℕ) (index number : ℕ) : Type 0 where
  pub there : slice_get list index ≡ Some number
  pub below : All (λ other. other < number) (take index list)
  pub above : All (λ other. number < other) (drop (index + 1) list)

-- the lowest number of a list that is not below another
pub record IsLowest (list : List ℕ) (start number : ℕ) : Type 0 where
  pub from : start ≤ number
  pub there : Contains list number
  pub lowest : All (λ other. (other < start) ⊎ (number ≤ other)) list

-- each number of a list, from a number on, is above those before it
abbrev pub RisesFrom : ℕ → List ℕ → Type 0
RisesFrom start [] = Unit {0}
RisesFrom start (number ∷ list) = (start ≤ number) × RisesFrom (number + 1) list

-- ascending numbers below 256
pub record AreAscending (list : List ℕ) : Type 0 where
  pub ascending : RisesFrom 0 list
  pub below : All (λ number. number < 256) list
