-- What becomes of a change is told of a tracker as it is.
use Rattle.std.proofs.Common.{◌≡◌, ◌∙◌, ◌&&◌, ap, cond, List, [], ◌∷◌, length, map}
use Rattle.std.proofs.Common.{Option, None, Some, refl, true, ℕ}
use Rattle.std.specs.List.{find, list_all, range_with_len}
use Rattle.std.proofs.lemmas.List.{length-map, map-set}
use Rattle.std.specs.Option.{option_map}
use Rattle.cfs_file.specs.declared.span.Span.{Span}
use Rattle.cfs_tracker.specs.declared.cell.Cell.{Cell}
use Rattle.cfs_tracker.specs.declared.cell.Cell.TheVariants as kinds
use Rattle.cfs_tracker.specs.declared.doing.Doing.{Doing}
use Rattle.cfs_tracker.specs.declared.doing.Doing.TheVariants as doings
use Rattle.cfs_tracker.specs.declared.pending.Pending.{Pending}
use Rattle.cfs_tracker.specs.declared.step.Step.{Step}
use Rattle.cfs_tracker.specs.declared.step.Step.TheVariants.{NotWaiting}
use Rattle.cfs_tracker.specs.Cells.{cell_at}
use Rattle.cfs_tracker.specs.Dispatch.{ahead, dispatched, first_cell, holder, is_ahead}
use Rattle.cfs_tracker.specs.Dispatch.{is_read_ahead, are_still, is_still, is_waiting_doing}
use Rattle.cfs_tracker.specs.Dispatch.{is_wanted_cell, lend, lent_to, lesser, next_cell, read_place}
use Rattle.cfs_tracker.specs.Dispatch.{second_cell, sent, step_at, step_behind, step_of}
use Rattle.cfs_tracker.specs.Dispatch.{step_of_blocks}
use Rattle.cfs_tracker.specs.Dispatch.{waiting_in, waiting_slots}
use Rattle.cfs_tracker.specs.View.{TrackerView, entry_at, with_entry}
use Rattle.cfs_tracker.proofs.Dispatching.{find-alike, still-held}
use Rattle.cfs_inode.specs.View.{told, told_cell, told_doing, told_entry}
use Rattle.cfs_inode.proofs.Cases.{cell-told, first-told, lent-told, live-told, mapped-at}
use Rattle.cfs_inode.proofs.Cases.{waiting-told}
use Rattle.cfs_inode.proofs.Tells.{at-told, with-told-by}

-- ---- the blocks

still-told : {B C : Type 0} (tell : B → C) (cell : Cell B) →
    is_still (told_cell tell cell) ≡ is_still cell
still-told tell kinds.Hole = refl
still-told tell (kinds.Home block) = refl
still-told tell (kinds.Unsure block) = refl
still-told tell (kinds.Lent place) = refl
still-told tell (kinds.Moving is_sure) = refl

pub all-still-told : {B C : Type 0} (tell : B → C) (cells : List (Cell B)) →
    list_all (λ cell. is_still cell) (map (told_cell tell) cells)
    ≡ list_all (λ cell. is_still cell) cells
all-still-told tell [] = refl
all-still-told tell (cell ∷ cells) =
    rw (still-told tell cell) (ap (λ b. is_still cell && b) (all-still-told tell cells))

-- where none is in a caller's hands, these two are not
pub all-are-still : {B : Type 0} (cells : List (Cell B)) (first second : Option ℕ) →
    list_all (λ cell. is_still cell) cells ≡ true → are_still cells first second ≡ true
all-are-still cells first second all =
    rw (still-held cells first all) (still-held cells second all)

wanted-told : {B C : Type 0} (tell : B → C) (cells : List (Cell B)) (span : Span)
    (done : Option ℕ) (block : ℕ) →
    is_wanted_cell (map (told_cell tell) cells) span done block
    ≡ is_wanted_cell cells span done block
wanted-told tell cells span done block =
    rw (mapped-at tell cells block) refl

pub next-told : {B C : Type 0} (tell : B → C) (cells : List (Cell B)) (span : Span)
    (done : Option ℕ) →
    next_cell (map (told_cell tell) cells) span done ≡ next_cell cells span done
next-told tell cells span done =
    find-alike (is_wanted_cell (map (told_cell tell) cells) span done)
    (is_wanted_cell cells span done) (range_with_len 0 (length (map (told_cell tell) cells)))
    (λ block. wanted-told tell cells span done block)
    ∙ ap (λ (n : ℕ). find (is_wanted_cell cells span done) (range_with_len 0 n))
    (length-map cells (told_cell tell))

one-told : {S T B C : Type 0} (live : S → T) (tell : B → C) (cells : List (Cell B))
    (entry : Pending S) →
    first_cell (map (told_cell tell) cells) (told_entry live entry) ≡ first_cell cells entry
one-told live tell cells entry =
    ap (λ (o : Option ℕ). cond entry.applied None o)
    (next-told tell cells entry.span entry.done)

second-told : {B C : Type 0} (tell : B → C) (cells : List (Cell B)) (span : Span)
    (first : Option ℕ) →
    second_cell (map (told_cell tell) cells) span first ≡ second_cell cells span first
second-told tell cells span None = refl
second-told tell cells span (Some block) = next-told tell cells span (Some block)

pub holder-told : {B C : Type 0} (tell : B → C) (cells : List (Cell B)) (held : Option ℕ) →
    holder (map (told_cell tell) cells) held ≡ holder cells held
holder-told tell cells None = refl
holder-told tell cells (Some block) =
    ap lent_to (cell-told tell cells block) ∙ lent-told tell (cell_at cells block)

blocks-told : {B C : Type 0} (tell : B → C) (cells : List (Cell B)) (first second : Option ℕ) →
    step_of_blocks (map (told_cell tell) cells) first second ≡ step_of_blocks cells first second
blocks-told tell cells first second =
    rw (holder-told tell cells first, holder-told tell cells second) refl

-- ---- what it waits for

ahead-told : {S D B T E C : Type 0} (live : S → T) (doubt : D → E) (block : B → C)
    (view : TrackerView S D B) (entry : Pending S) →
    ahead (told live doubt block view) (told_entry live entry) ≡ ahead view entry
ahead-told live doubt block view entry =
    ap (λ (o : Option ℕ). lesser o
    (read_place (find (is_read_ahead entry.place entry.span) view.reads)))
    (first-told live (is_ahead entry.place entry.span) (is_ahead entry.place entry.span)
    (λ e. rw (live-told live e.doing) refl) view.entries)

behind-told : {S D B T E C : Type 0} (live : S → T) (doubt : D → E) (block : B → C)
    (view : TrackerView S D B) (entry : Pending S) (before : Option ℕ) →
    step_behind (told live doubt block view) (told_entry live entry) before
    ≡ step_behind view entry before
behind-told live doubt block view entry (Some place) = refl
behind-told live doubt block view entry None =
    rw (
      one-told live block view.cells entry,
      second-told block view.cells entry.span (first_cell view.cells entry),
    ) (blocks-told block view.cells (first_cell view.cells entry)
    (second_cell view.cells entry.span (first_cell view.cells entry)))

pub of-told : {S D B T E C : Type 0} (live : S → T) (doubt : D → E) (block : B → C)
    (view : TrackerView S D B) (entry : Option (Pending S)) →
    step_of (told live doubt block view) (option_map (told_entry live) entry)
    ≡ step_of view entry
of-told live doubt block view None = refl
of-told live doubt block view (Some entry) =
    rw (waiting-told live entry.doing, ahead-told live doubt block view entry)
    (ap (λ (s : Step). cond (is_waiting_doing entry.doing) s NotWaiting)
    (behind-told live doubt block view entry (ahead view entry)))

pub step-told : {S D B T E C : Type 0} (live : S → T) (doubt : D → E) (block : B → C)
    (view : TrackerView S D B) (place : ℕ) →
    step_at (told live doubt block view) place ≡ step_at view place
step-told live doubt block view place =
    ap (λ o. step_of (told live doubt block view) o) (at-told live view.entries place)
    ∙ of-told live doubt block view (entry_at view.entries place)

-- ---- it is dispatched

waits-told : {S T : Type 0} (live : S → T) (now : Doing S) →
    waiting_in (told_doing live now) ≡ option_map live (waiting_in now)
waits-told live (doings.Waiting slots) = refl
waits-told live doings.Marking = refl
waits-told live (doings.Out first second) = refl
waits-told live (doings.Covered slots) = refl
waits-told live doings.Closing = refl

slots-of-told : {S T : Type 0} (live : S → T) (entry : Option (Pending S)) →
    waiting_slots (option_map (told_entry live) entry) ≡ option_map live (waiting_slots entry)
slots-of-told live None = refl
slots-of-told live (Some entry) = waits-told live entry.doing

pub slots-told : {S T : Type 0} (live : S → T) (es : List (Pending S)) (place : ℕ) →
    waiting_slots (entry_at (map (told_entry live) es) place)
    ≡ option_map live (waiting_slots (entry_at es place))
slots-told live es place =
    ap waiting_slots (at-told live es place) ∙ slots-of-told live (entry_at es place)

lend-told : {B C : Type 0} (tell : B → C) (cells : List (Cell B)) (place : ℕ)
    (held : Option ℕ) →
    map (told_cell tell) (lend place held cells) ≡ lend place held (map (told_cell tell) cells)
lend-told tell cells place None = refl
lend-told tell cells place (Some block) =
    map-set (told_cell tell) cells block (kinds.Lent place)

pub told-dispatched : {S D B T E C : Type 0} (live : S → T) (doubt : D → E) (block : B → C)
    (place : ℕ) (first second : Option ℕ) (view : TrackerView S D B) →
    told live doubt block (dispatched place first second view)
    ≡ dispatched place first second (told live doubt block view)
told-dispatched live doubt block place first second view =
    ap (λ es. record (told live doubt block view) {
      entries = es;
      cells = map (told_cell block) (lend place second (lend place first view.cells));
    }) (with-told-by live view.entries place (sent first second) (sent first second) (λ e. refl))
    ∙ ap (λ cells. record (told live doubt block view) {
      entries = with_entry place (sent first second) (map (told_entry live) view.entries);
      cells = cells;
    }) (lend-told block (lend place first view.cells) place second
    ∙ ap (λ cells. lend place second cells) (lend-told block view.cells place first))
