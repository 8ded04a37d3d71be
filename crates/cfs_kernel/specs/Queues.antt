-- The queues of a store: each is home, or out with its grant.
use Rattle.std.specs.Prelude.{ℕ, ◌≡◌, not, List, [], Option, Some, is_some, map, slice_get}
use Rattle.std.specs.Option.{option_and_then}
use Rattle.cfs_grants.specs.declared.grant.Grant.{Grant}
use Rattle.cfs_queue.specs.Queue.{Slots, out_slots}

-- the queue of a number, if it is home
abbrev pub home_at : {X : Type 0} → List (Option (Slots X)) → ℕ → Option (Slots X)
home_at home queue = option_and_then (λ row. row) (slice_get home queue)

-- each queue is out exactly where it has a grant
abbrev pub AreOut : {X : Type 0} → List (Option Grant) → List (Option (Slots X)) → Type 0
AreOut grants home = map (λ grant. is_some grant) grants ≡ map (λ queue. not (is_some queue)) home

-- each queue that is home stands at its number, and all its slots are free
abbrev pub AreWhole : {X : Type 0} → List (Option (Slots X)) → Type 0
AreWhole {X} home = (number : ℕ) (queue : Slots X) → home_at home number ≡ Some queue →
    (queue.number ≡ number) × (out_slots queue ≡ [])
