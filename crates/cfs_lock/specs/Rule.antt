-- The rule of the lock: what holds of its words, of the value and of all that passes know.
-- The words are the next ticket, the ticket that is served, both as far as 64 bits tell, and the
-- length of the log.
use Rattle.std.specs.Prelude.{◌≡◌, ◌≢◌, ℕ, zero, suc, ◌+◌, ◌%◌, ◌==◌, ◌<◌, ◌≤◌, All, List, [], ◌∷◌, Option, Some, length, sum_by, if◌then◌else◌}
use mathlib.Core.Option.{none, some}
use mathlib.Core.Option as maybe
use lib.ListN.{get_elem?}
use Rattle.atomic_table.specs.Table.{Me, State, Step}
use Rattle.cfs_lock.specs.declared.view.Stage.{Stage}
use Rattle.cfs_lock.specs.declared.view.Stage.TheVariants.{Idle, Waits, Holds, Done}
use Rattle.cfs_lock.specs.declared.view.View.{View}
use Rattle.cfs_lock.specs.Log.{BeginsWith, Log, Part, entries_by}
use Rattle.cfs_lock.specs.Views.{Finds, IsOf, at_stage, kept, left_with}

-- a ticket as a word shows it
abbrev pub word_of : ℕ → ℕ
word_of ticket = ticket % 18446744073709551616

module _ {X : Type 0} where
  abbrev pub busy_at : Stage X → ℕ
  busy_at Idle = 0
  busy_at (Waits ticket) = 1
  busy_at (Holds ticket found) = 1
  busy_at (Done ticket) = 1

  abbrev pub holding_at : Stage X → ℕ
  holding_at Idle = 0
  holding_at (Waits ticket) = 0
  holding_at (Holds ticket found) = 1
  holding_at (Done ticket) = 0

  abbrev pub ticket_at : ℕ → Stage X → ℕ
  ticket_at number Idle = 0
  ticket_at number (Waits ticket) = if ticket == number then 1 else 0
  ticket_at number (Holds ticket found) = if ticket == number then 1 else 0
  ticket_at number (Done ticket) = if ticket == number then 1 else 0

  -- 1 for a view with a ticket, for one that holds the value, for one with this ticket, else 0
  abbrev pub busy : View X → ℕ
  busy view = busy_at view.stage

  abbrev pub holding : View X → ℕ
  holding view = holding_at view.stage

  abbrev pub has_ticket : ℕ → View X → ℕ
  has_ticket ticket view = ticket_at ticket view.stage

  -- how many numbers a view keeps, and how often it keeps this one
  abbrev pub places : View X → ℕ
  places view = length view.books

  abbrev pub keeps_number : ℕ → View X → ℕ
  keeps_number number view = kept number view.books

  -- the slot, while so many views hold the value
  abbrev pub home_of : ℕ → X → maybe.Option (Option X)
  home_of zero value = some (Some value)
  home_of (suc n) value = none

  -- each ticket that is drawn and was not served is one view's, and no other ticket is
  pub record InLine (drawn served : ℕ) (views : List (View X)) : Type 0 where
    pub queue : sum_by busy views + served ≡ drawn
    pub turns : (ticket : ℕ) → served ≤ ticket → ticket < drawn
        → sum_by (has_ticket ticket) views ≡ 1
    pub past : (ticket : ℕ) → ticket < served → sum_by (has_ticket ticket) views ≡ 0
    pub coming : (ticket : ℕ) → drawn ≤ ticket → sum_by (has_ticket ticket) views ≡ 0

  -- each number below the next one is kept once, and no other is
  pub record Numbered (next bound : ℕ) (views : List (View X)) : Type 0 where
    pub given : (number : ℕ) → number < next → sum_by (keeps_number number) views ≡ 1
    pub fresh : (number : ℕ) → next ≤ number → sum_by (keeps_number number) views ≡ 0
    pub all_kept : sum_by places views ≡ next
    pub most : next ≤ bound
    pub narrow : bound < 4294967296

  -- what is served is the ticket of who holds the value or has counted its entries
  abbrev pub StageIs : ℕ → X → Stage X → Type 0
  StageIs served value Idle = Unit {0}
  StageIs served value (Waits ticket) = Unit {0}
  StageIs served value (Holds ticket found) = (ticket ≡ served) × (found ≡ value)
  StageIs served value (Done ticket) = ticket ≡ served

  module _ (log : X → Log) (part : X → ℕ → Part) where
    -- numbers that no pass has leave the value as it was at the start
    pub record Unused (base : Log) (bound next : ℕ) (value : X) : Type 0 where
      pub entries : (number : ℕ) → next ≤ number
          → entries_by number (log value) ≡ entries_by number base
      pub parts : (number : ℕ) → next ≤ number → number < bound → part value number ≡ []
      pub clean : (number : ℕ) → number < bound → entries_by number base ≡ []

    -- what one view has to do with the rest
    pub record Stands (base : Log) (bound served next : ℕ) (value : X)
        (view : View X) : Type 0 where
      pub stage : StageIs served value view.stage
      pub booked : busy view ≤ places view
      pub origin : 0 < places view → (view.base ≡ base) × (view.bound ≡ bound)
      pub fronts : All (λ front. BeginsWith (log value) front) view.seen
      pub books : All (IsOf log part value) view.books
      pub follows : keeps_number 0 view ≡ 0 → view.left ≡ 0
      pub leads : keeps_number 0 view ≢ 0 → view.left + next ≡ bound

    -- `value` is what is at home, or what the pass found that holds it
    pub record Kept (base : Log) (bound : ℕ) (s : State (Option X) (View X)) : Type 0 where
      pub drawn : ℕ
      pub served : ℕ
      pub next : ℕ
      pub value : X
      pub words : s.words ≡ word_of drawn ∷ word_of served ∷ length (log value) ∷ []
      pub homes : s.homes ≡ home_of (sum_by holding s.views) value ∷ []
      pub line : InLine drawn served s.views
      pub numbers : Numbered next bound s.views
      pub unused : Unused base bound next value
      pub each : (seat : ℕ) (view : View X) → get_elem? s.views seat ≡ some view
          → Stands base bound served next value view

    -- what each step tells: of the step, the seat before, the number found and the seat after
    abbrev pub drew : Step (Option X) → Me (Option X) (View X) → ℕ → Me (Option X) (View X) → Type 0
    drew st m found m' =
        (ticket : ℕ) × (found ≡ word_of ticket) × (m' ≡ (at_stage (Waits ticket) m.0, m.1))

    abbrev pub looked : Step (Option X) → Me (Option X) (View X) → ℕ → Me (Option X) (View X)
        → Type 0
    looked st m found m' = (ticket : ℕ) → m.0.stage ≡ Waits ticket
        → (found ≡ word_of ticket → (value : X) × Finds log part m.0 value
        × (m' ≡ (at_stage (Holds ticket value) m.0, (0, Some value) ∷ m.1)))
        × (found ≢ word_of ticket → m' ≡ m)

    abbrev pub counted : Step (Option X) → Me (Option X) (View X) → ℕ → Me (Option X) (View X)
        → Type 0
    counted st m found m' = (ticket : ℕ) (before after : X) → m.0.stage ≡ Holds ticket before
        → m.1 ≡ (0, Some after) ∷ []
        → m' ≡ (at_stage (Done ticket) (left_with log part after m.0), [])

    abbrev pub freed : Step (Option X) → Me (Option X) (View X) → ℕ → Me (Option X) (View X)
        → Type 0
    freed st m found m' = m' ≡ (at_stage Idle m.0, m.1)
