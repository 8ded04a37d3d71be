-- What is to be marked next, told of a tracker as something else.
use Rattle.std.proofs.Common.{◌≡◌, ◌∙◌, ap, List, Option, None, Some, refl}
use Rattle.std.proofs.Common.{sym, ℕ}
use Rattle.std.specs.Option.{option_map}
use Rattle.cfs_pmem.specs.Images.{Seen, WordStep}
use Rattle.cfs_block.specs.BlockImages.{BlockStep}
use Rattle.cfs_slot.specs.declared.doubt.Doubt.{Doubt}
use Rattle.cfs_slot.specs.declared.live.Live.{Live}
use Rattle.cfs_tracker.specs.declared.doing.Doing.TheVariants as doings
use Rattle.cfs_tracker.specs.declared.pending.Pending.{Pending}
use Rattle.cfs_tracker.specs.declared.reading.Reading.{Reading}
use Rattle.cfs_tracker.specs.Mark.{is_next_mark, next_mark, next_mark_by}
use Rattle.cfs_tracker.specs.View.{TrackerView, entry_at, view_of}
use Rattle.cfs_inode.specs.declared.state.State.{State}
use Rattle.cfs_inode.specs.View.{held_of, seens_of, state_view, told, told_entry}
use Rattle.cfs_inode.proofs.Cases.{first-told, live-told, waiting-told}
use Rattle.cfs_inode.proofs.Tells.{at-told}

test-told : {S T : Type 0} (tell : S → T) (reads : List Reading) (later : Pending S) (after : ℕ)
    (e : Pending S) →
    is_next_mark reads (told_entry tell later) after (told_entry tell e)
    ≡ is_next_mark reads later after e
test-told tell reads later after e =
    rw (waiting-told tell e.doing, live-told tell later.doing) refl

by-told : {S D B T E C : Type 0} (live : S → T) (doubt : D → E) (block : B → C)
    (view : TrackerView S D B) (later : Option (Pending S)) (after : ℕ) →
    next_mark_by (told live doubt block view) (option_map (told_entry live) later) after
    ≡ next_mark_by view later after
by-told live doubt block view None after = refl
by-told live doubt block view (Some later) after =
    first-told live (is_next_mark view.reads later after)
    (is_next_mark view.reads (told_entry live later) after)
    (test-told live view.reads later after) view.entries

pub next-mark-told : {S D B T E C : Type 0} (live : S → T) (doubt : D → E) (block : B → C)
    (view : TrackerView S D B) (by after : ℕ) →
    next_mark (told live doubt block view) by after ≡ next_mark view by after
next-mark-told live doubt block view by after =
    ap (λ o. next_mark_by (told live doubt block view) o after) (at-told live view.entries by)
    ∙ by-told live doubt block view (entry_at view.entries by) after

-- of a state
pub state-next : {R B : Type 0} {g : _} (words : R → Seen WordStep) (bytes : B → Seen BlockStep)
    (state : State R B (Live R g) (Doubt R g)) (by after : ℕ) (found : Option ℕ) →
    found ≡ next_mark (view_of state.tracker) by after →
    next_mark (state_view words bytes state).tracker by after ≡ found
state-next words bytes state by after found is =
    next-mark-told (held_of words) (seens_of words) bytes (view_of state.tracker) by after ∙ sym is
