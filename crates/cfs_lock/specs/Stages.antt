-- How the fields of a pass agree with what it knows.
use Rattle.std.specs.Prelude.{ℕ, Bool, true, false, List, [], ◌∷◌, Option, None}
use Rattle.cfs_lock.specs.declared.view.Stage.{Stage}
use Rattle.cfs_lock.specs.declared.view.Stage.TheVariants.{Idle, Waits, Holds, Done}

-- the kind of a stage as a number
abbrev pub stage_code : {X : Type 0} → Stage X → ℕ
stage_code Idle = 0
stage_code (Holds ticket found) = 1
stage_code (Waits ticket) = 2
stage_code (Done ticket) = 3

-- the kind of the stage between two calls
abbrev pub code_of : Bool → ℕ
code_of false = 0
code_of true = 1

-- the slots in hand between two calls: inside it is the lock's one slot, whose value was handed out
abbrev pub in_hand : {X : Type 0} → Bool → List (ℕ × Option X)
in_hand false = []
in_hand true = (0, None) ∷ []
