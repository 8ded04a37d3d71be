-- The log of a value, and how a pass may change the value.
use Rattle.std.specs.Prelude.{◌≡◌, ◌≢◌, ℕ, ◌==◌, ◌<◌, All, List, [], ◌++◌, filter}

-- an entry: the number of the pass that made it, and what was entered
abbrev pub Entry : Type 0
Entry = ℕ × List ℕ

abbrev pub Log : Type 0
Log = List Entry

-- the part that a value keeps for one number
abbrev pub Part : Type 0
Part = List (List ℕ)

-- the entries of one number, in their order
abbrev pub entries_by : ℕ → Log → Log
entries_by number log = filter (λ (entry : Entry). entry.0 == number) log

-- the log begins with the front
abbrev pub BeginsWith : Log → Log → Type 0
BeginsWith log front = (rest : Log) × (log ≡ front ++ rest)

module _ {X : Type 0} (log : X → Log) (part : X → ℕ → Part) where
  -- the log only grew, by entries of this number, and the parts of all other numbers stayed
  pub record Grows (number : ℕ) (before after : X) : Type 0 where
    pub added : Log
    pub longer : log after ≡ log before ++ added
    pub by_it : All (λ entry. entry.0 ≡ number) added
    pub parts : (other : ℕ) → other ≢ number → part after other ≡ part before other

  -- no number below this one has an entry or a part
  abbrev pub IsNewTo : ℕ → X → Type 0
  IsNewTo passes value = (number : ℕ) → number < passes
      → (entries_by number (log value) ≡ []) × (part value number ≡ [])
