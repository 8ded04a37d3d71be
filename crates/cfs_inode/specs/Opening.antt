-- What the gate of an admission answers and leaves.
use Rattle.std.specs.Prelude.{ℕ, ◌+◌, ◌≡◌, Bool, true, false, Result, Ok, Err, List, [], ◌∷◌}
use Rattle.cfs_file.specs.declared.entry.Entry.{Entry}
use Rattle.cfs_file.specs.declared.request.Request.{Request}
use Rattle.cfs_pmem.specs.declared.trace.Asked.{Asked}
use Rattle.cfs_core.specs.declared.event.Event.TheVariants as events
use Rattle.cfs_tracker.specs.Admit.{admitted, doubted}
use Rattle.cfs_inode.specs.Heads.{OpensGate}
use Rattle.cfs_inode.specs.Makes.{CallMakes}
use Rattle.cfs_inode.specs.View.{Held, Seens, StateView}

-- the next place
abbrev pub next_place : StateView → ℕ
next_place state = state.tracker.count + 1

abbrev pub with_admitted : Request → ℕ → Held → StateView → StateView
with_admitted request grant held state =
    record state { tracker = admitted request grant held state.tracker }

abbrev pub with_doubted : Request → ℕ → Seens → StateView → StateView
with_doubted request grant slots state =
    record state { tracker = doubted request grant slots state.tracker }

-- the log's line of a request that takes the next place
pub record IsNext (state : StateView) (request : Request) (entry : Entry) : Type 0 where
  pub place_is : entry.place ≡ next_place state
  pub request_is : entry.request ≡ request

-- A call is the admission of a request, kept or not, whoever the line names.
abbrev pub AdmitMakes : Request → ℕ → Bool → List Asked → StateView → List Asked → StateView →
    Type 0
AdmitMakes request grant kept asked_old old asked_new new =
    (entry : Entry) → IsNext old request entry →
    CallMakes (events.Admit entry grant kept ∷ []) asked_old old asked_new new

-- What the gate's call leaves: it is open with the next place and the request pending there; or
-- that failed, and the request is in doubt with its slots as the device calls left them.
abbrev pub Opens : Bool → Request → ℕ → Seens → Result ℕ (Unit {0}) → List Asked → StateView →
    List Asked → StateView → Type 0
Opens obeys request grant staged (Ok place) asked_old old asked_new new =
    (slots : Seens) × (place ≡ next_place old)
    × (OpensGate obeys place (Ok tt) asked_old staged asked_new slots
    × (new ≡ with_admitted request grant (record { place = place; slots = slots }) old))
Opens obeys request grant staged (Err fault) asked_old old asked_new new =
    (slots : Seens)
    × (OpensGate obeys (next_place old) (Err tt) asked_old staged asked_new slots
    × (new ≡ with_doubted request grant slots old))

abbrev pub is_kept : Result ℕ (Unit {0}) → Bool
is_kept (Ok place) = true
is_kept (Err fault) = false
