-- When the power of one thread refuses a step: a function of its history.
use Rattle.std.specs.Prelude.{ℕ, ◌-◌, ◌≡◌, ◌==◌, ◌&&◌, ◌||◌, Bool, true, false, not, List, [], ◌∷◌, ◌++◌, map, filter, if◌then◌else◌}
use Rattle.std.specs.List.{list_any}
use Rattle.cfs_pmem.specs.declared.trace.Asked.{Asked}
use Rattle.cfs_pmem.specs.declared.trace.Asked.TheVariants.{Step, Stopped, Planned, Revived}
use Rattle.cfs_pmem.specs.declared.meter.Plan.{Plan}
use Rattle.cfs_pmem.specs.declared.meter.Supply.{Supply}
use Rattle.cfs_pmem.specs.declared.meter.Supply.TheVariants.{Steady, Until, Off}

-- The supply after one more step. Reading steps don't count, and once the stop has come it stays.
abbrev pub supply_after : Bool → Supply → Supply
supply_after writing Steady = Steady
supply_after false (Until passing) = Until passing
supply_after true (Until passing) = if passing == 0 then Off else Until (passing - 1)
supply_after writing Off = Off

abbrev pub is_off : Supply → Bool
is_off Steady = false
is_off (Until passing) = false
is_off Off = true

abbrev pub same_bool : Bool → Bool → Bool
same_bool true b = b
same_bool false b = not b

-- the plan speaks of steps of this device and direction
abbrev pub counts : ℕ → Bool → Plan → Bool
counts device writing plan = (plan.device == device) && same_bool plan.writing writing

-- the plan has come to the step that it refuses
abbrev pub is_due : ℕ → Bool → Plan → Bool
is_due device writing plan = counts device writing plan && (plan.passing == 0)

-- the plan after a step that it lets pass
abbrev pub counted : ℕ → Bool → Plan → Plan
counted device writing plan =
    if counts device writing plan then record plan { passing = plan.passing - 1 } else plan

-- The plans after one more step, whether it was refused or not: those that were due are spent.
abbrev pub plans_after : ℕ → Bool → List Plan → List Plan
plans_after device writing plans =
    map (counted device writing) (filter (λ plan. not (is_due device writing plan)) plans)

-- the stop that is set
abbrev pub supply_of : List Asked → Supply
supply_of [] = Steady
supply_of (Step device writing allowed ∷ before) = supply_after writing (supply_of before)
supply_of (Stopped n ∷ before) = Until (n - 1)
supply_of (Planned device writing k ∷ before) = supply_of before
supply_of (Revived ∷ before) = Steady

-- the plans that are set, the oldest first
abbrev pub plans_of : List Asked → List Plan
plans_of [] = []
plans_of (Step device writing allowed ∷ before) = plans_after device writing (plans_of before)
plans_of (Stopped n ∷ before) = plans_of before
plans_of (Planned device writing k ∷ before) =
    plans_of before ++ record { device = device; writing = writing; passing = k - 1 } ∷ []
plans_of (Revived ∷ before) = []

-- A step is refused where the stop has come, which a writing step may bring, or where a plan is
-- due.
abbrev pub refuses : ℕ → Bool → Supply → List Plan → Bool
refuses device writing supply plans =
    is_off (supply_after writing supply) || list_any (is_due device writing) plans

-- what a meter with this history answers to a step
abbrev pub answer : ℕ → Bool → List Asked → Bool
answer device writing asked = not (refuses device writing (supply_of asked) (plans_of asked))

abbrev pub Answers : Bool → Bool → Type 0
Answers allowed answer = allowed ≡ answer

-- each step was answered as the history before it says
abbrev pub IsAnswered : List Asked → Type 0
IsAnswered [] = Unit {0}
IsAnswered (Step device writing allowed ∷ before) =
    Answers allowed (answer device writing before) × IsAnswered before
IsAnswered (Stopped n ∷ before) = IsAnswered before
IsAnswered (Planned device writing k ∷ before) = IsAnswered before
IsAnswered (Revived ∷ before) = IsAnswered before

-- What a meter keeps true: its stop and plans are those of its history, each answer was right,
-- and where it is not armed it has no stop and no plan.
pub record IsMetered (asked : List Asked) (armed : Bool) (supply : Supply)
    (plans : List Plan) : Type 0 where
  pub supply_is : supply_of asked ≡ supply
  pub plans_are : plans_of asked ≡ plans
  pub answered : IsAnswered asked
  pub steady : armed ≡ false → supply ≡ Steady
  pub unplanned : armed ≡ false → plans ≡ []
