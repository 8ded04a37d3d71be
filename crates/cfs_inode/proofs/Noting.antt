-- Other work is chosen while a change of a state stands ready.
use Rattle.std.proofs.Common.{◌≡◌, ◌∙◌, ap, inl, inr, [], None, Option, Some, refl, subst, sym, ℕ}
use Rattle.std.specs.Option.{option_map}
use Rattle.cfs_core.proofs.Order.{same_or_not}
use Rattle.cfs_pmem.specs.Images.{Seen, WordStep}
use Rattle.cfs_pmem.proofs.AllMomentLemmas.{all_begun}
use Rattle.cfs_block.specs.BlockImages.{BlockStep}
use Rattle.cfs_slot.specs.declared.doubt.Doubt.{Doubt}
use Rattle.cfs_slot.specs.declared.live.Live.{Live}
use Rattle.cfs_medium.proofs.LiveLeft.{shown-recovers}
use Rattle.cfs_tracker.specs.declared.pending.Pending.{Pending}
use Rattle.cfs_tracker.specs.declared.tracker.Tracker.{Tracker}
use Rattle.cfs_tracker.specs.View.{entry_at, view_of}
use Rattle.cfs_tracker.specs.Work.{noted, passed_entry}
use Rattle.cfs_tracker.proofs.Entries.{at-with, here-with}
use Rattle.cfs_tracker.proofs.Purging.{follows-noted}
use Rattle.cfs_inode.specs.declared.state.State.{State}
use Rattle.cfs_inode.specs.Notes.{with_noted}
use Rattle.cfs_inode.specs.Reads.{QuietlyMakes}
use Rattle.cfs_inode.specs.View.{Held, StateView, held_of, state_view}
use Rattle.cfs_inode.proofs.Goods.{good}
use Rattle.cfs_inode.proofs.States.{state-told}
use Rattle.cfs_inode.proofs.Tells.{with-told-by}

pub state-noted : {R B : Type 0} {g : _} (words : R → Seen WordStep) (bytes : B → Seen BlockStep)
    (state : State R B (Live R g) (Doubt R g)) (now : Tracker (Live R g) (Doubt R g) B)
    (place : ℕ) → view_of now ≡ noted place (view_of state.tracker) →
    state_view words bytes (record state { tracker = now })
    ≡ with_noted place (state_view words bytes state)
state-noted words bytes state now place is =
    state-told words bytes state now (noted place (view_of state.tracker)) is
    ∙ ap (λ es. record (state_view words bytes state) {
      tracker = record (state_view words bytes state).tracker { entries = es };
    }) (with-told-by (held_of words) (view_of state.tracker).entries place passed_entry passed_entry
    (λ e. refl))

-- what stands at a place does the same as before
pub record WasThere (state : StateView) (q : ℕ) (now : Pending Held) : Type 0 where
  pub was : Pending Held
  pub there : entry_at state.tracker.entries q ≡ Some was
  pub same : was.doing ≡ now.doing

own-there : (state : StateView) (q : ℕ) (entry : Option (Pending Held)) (now : Pending Held) →
    entry_at state.tracker.entries q ≡ entry → option_map passed_entry entry ≡ Some now →
    WasThere state q now
own-there state q None now is h = cc
own-there state q (Some e) now is h =
    let same : passed_entry e ≡ now = cc in
    record { was = e; there = is; same = ap (λ (x : Pending Held). x.doing) same }

was-there : (state : StateView) (place q : ℕ) (now : Pending Held) →
    entry_at (noted place state.tracker).entries q ≡ Some now → WasThere state q now
was-there state place q now is = elim (same_or_not q place) [
  | inl same ↦
      let here : entry_at (noted place state.tracker).entries q
      ≡ option_map passed_entry (entry_at state.tracker.entries q) =
      subst (λ (n : ℕ). entry_at (noted n state.tracker).entries q
      ≡ option_map passed_entry (entry_at state.tracker.entries q)) same
      (here-with state.tracker.entries q passed_entry (λ e. refl)) in
      own-there state q (entry_at state.tracker.entries q) now refl (sym here ∙ is)
  | inr beside ↦
      record {
        was = now;
        there = sym (at-with state.tracker.entries place q passed_entry (λ e. refl) beside) ∙ is;
        same = refl;
      }
]

pub note-made : (state : StateView) (place : ℕ) →
    QuietlyMakes [] state (with_noted place state)
note-made state place = λ asked jobs core world together.
    let stands = together.stands in
    record {
      run = tt;
      world = world;
      moments = λ n bound.
          all_begun asked world tt
          (shown-recovers state.ino n core world (good core stands.follows.reached) stands.shows
          bound);
      stands = record {
        stands = record {
          follows = follows-noted state.tracker core place stands.follows;
          shows = stands.shows;
          size = stands.size;
          slots = λ q entry held there has.
              let old = was-there state place q entry there in
              stands.slots q old.was held old.there (rw old.same has);
          doubt = stands.doubt;
          blocks = stands.blocks;
          rest = stands.rest;
        };
        out = together.out;
        once = together.once;
      };
    }
