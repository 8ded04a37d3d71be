-- The marking of a change, told of a tracker as something else.
use Rattle.std.proofs.Common.{◌≡◌, ◌∙◌, ap, List, ◌∷◌, map, Option, refl, sym, true}
use Rattle.std.proofs.Common.{false, ℕ, Bool}
use Rattle.std.specs.Option.{option_map}
use Rattle.cfs_tracker.specs.declared.doing.Doing.TheVariants as doings
use Rattle.cfs_tracker.specs.declared.tracker.Tracker.{Tracker}
use Rattle.cfs_tracker.specs.Dispatch.{waiting_slots}
use Rattle.cfs_tracker.specs.Mark.{marked, marked_doing, marking}
use Rattle.cfs_tracker.specs.View.{TrackerView, doing, entry_at, view_of, with_entry}
use Rattle.cfs_pmem.specs.Images.{Seen, WordStep}
use Rattle.cfs_block.specs.BlockImages.{BlockStep}
use Rattle.cfs_slot.specs.declared.doubt.Doubt.{Doubt}
use Rattle.cfs_slot.specs.declared.live.Live.{Live}
use Rattle.cfs_slot.specs.Reads.{regions_of}
use Rattle.cfs_slot.specs.Regions.{of_live, place_of, tails_of_live}
use Rattle.cfs_inode.specs.declared.state.State.{State}
use Rattle.cfs_inode.specs.Marking.{waiting_at, with_marked}
use Rattle.cfs_inode.specs.View.{Held, held_of, seens_of, state_view, told, told_doing, told_entry}
use Rattle.cfs_inode.proofs.States.{state-told}
use Rattle.cfs_inode.proofs.JobTells.{slots-told}
use Rattle.cfs_inode.proofs.Tells.{with-told, with-with}

marked-told : {S T : Type 0} (tell : S → T) (slots : S) (kept : Bool) →
    told_doing tell (marked_doing slots kept) ≡ marked_doing (tell slots) kept
marked-told tell slots true = refl
marked-told tell slots false = refl

told-marked : {S D B T E C : Type 0} (live : S → T) (doubt : D → E) (block : B → C) (place : ℕ)
    (slots : S) (kept : Bool) (view : TrackerView S D B) →
    told live doubt block (marked place slots kept (marking place view))
    ≡ marked place (live slots) kept (told live doubt block view)
told-marked live doubt block place slots kept view =
    ap (λ es. record (told live doubt block view) { entries = es })
    (ap (λ es. map (told_entry live) es)
    (with-with view.entries place doings.Marking (marked_doing slots kept))
    ∙ with-told live view.entries place (marked_doing slots kept))
    ∙ ap (λ now. record (told live doubt block view) {
      entries = with_entry place (doing now) (map (told_entry live) view.entries);
    }) (marked-told live slots kept)

pub state-waiting : {R B : Type 0} {g : _} (words : R → Seen WordStep)
    (bytes : B → Seen BlockStep) (state : State R B (Live R g) (Doubt R g)) (place : ℕ)
    (slots : Option (Live R g)) →
    slots ≡ waiting_slots (entry_at (view_of state.tracker).entries place) →
    waiting_at (state_view words bytes state) place ≡ option_map (held_of words) slots
state-waiting words bytes state place slots is =
    slots-told (held_of words) (view_of state.tracker).entries place
    ∙ ap (λ o. option_map (held_of words) o) (sym is)

pub state-marked : {R B : Type 0} {g : _} (words : R → Seen WordStep) (bytes : B → Seen BlockStep)
    (state : State R B (Live R g) (Doubt R g)) (now : Tracker (Live R g) (Doubt R g) B)
    (mid : TrackerView (Live R g) (Doubt R g) B) (place : ℕ) (live : Live R g) (kept : Bool) →
    view_of now ≡ marked place live kept mid → mid ≡ marking place (view_of state.tracker) →
    state_view words bytes (record state { tracker = now })
    ≡ with_marked place (held_of words live) kept (state_view words bytes state)
state-marked words bytes state now mid place live kept is was =
    state-told words bytes state now
    (marked place live kept (marking place (view_of state.tracker)))
    (is ∙ ap (λ v. marked place live kept v) was)
    ∙ ap (λ t. record (state_view words bytes state) { tracker = t })
    (told-marked (held_of words) (seens_of words) bytes place live kept (view_of state.tracker))

-- slots of which the head has changed
pub held-now : {R : Type 0} {g : _} (seen : R → Seen WordStep) (old new : Live R g) →
    place_of new ≡ place_of old → tails_of_live new ≡ tails_of_live old →
    held_of seen new ≡ record (held_of seen old) {
      slots = seen (of_live new) ∷ map seen (tails_of_live old);
    }
held-now {R} {g} seen old new place tails =
    ap (λ (n : ℕ). let held : Held = record { place = n; slots = map seen (regions_of new) } in
    held) place
    ∙ ap (λ (ts : List R).
    let held : Held = record { place = place_of old; slots = seen (of_live new) ∷ map seen ts } in
    held) tails
