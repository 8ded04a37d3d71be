-- What there is to do, of a tracker whose slots and blocks are told as something else.
use Rattle.std.proofs.Common.{◌≡◌, ◌∙◌, ◌&&◌, ap, List, map, Option}
use Rattle.std.proofs.Common.{None, Some, refl, ℕ}
use Rattle.std.specs.Prelude.{find, nat_lt, option_map}
use Rattle.cfs_file.specs.declared.span.Span.{Span}
use Rattle.cfs_tracker.specs.declared.cell.Cell.TheVariants as kinds
use Rattle.cfs_tracker.specs.declared.doing.Doing.{Doing}
use Rattle.cfs_tracker.specs.declared.doing.Doing.TheVariants as doings
use Rattle.cfs_tracker.specs.declared.in_doubt.InDoubt.{InDoubt}
use Rattle.cfs_tracker.specs.declared.listing.Listed.{Listed}
use Rattle.cfs_tracker.specs.declared.pending.Pending.{Pending}
use Rattle.cfs_tracker.specs.declared.reading.Reading.{Reading}
use Rattle.cfs_tracker.specs.Listing.{is_listed, listed, listed_doubt, listing, state_in}
use Rattle.cfs_tracker.specs.Reads.{blocker_of, has_needed, is_before}
use Rattle.cfs_tracker.specs.View.{TrackerView}
use Rattle.cfs_tracker.specs.Work.{is_noop_doing, is_to_do, next_work, work_of}
use Rattle.cfs_inode.specs.View.{told, told_doing, told_doubt, told_entry}
use Rattle.cfs_inode.proofs.Cases.{find-told, first-told, live-told}
use Rattle.cfs_inode.proofs.JobTells.{of-told}

-- ---- doings

noop-told : {S T : Type 0} (tell : S → T) (d : Doing S) →
    is_noop_doing (told_doing tell d) ≡ is_noop_doing d
noop-told tell (doings.Waiting slots) = refl
noop-told tell doings.Marking = refl
noop-told tell (doings.Out first second) = refl
noop-told tell (doings.Covered slots) = refl
noop-told tell doings.Closing = refl

state-told : {S T : Type 0} (tell : S → T) (d : Doing S) → state_in (told_doing tell d) ≡ state_in d
state-told tell (doings.Waiting slots) = refl
state-told tell doings.Marking = refl
state-told tell (doings.Out first second) = refl
state-told tell (doings.Covered slots) = refl
state-told tell doings.Closing = refl

-- ---- what a read waits for

needed-told : {S T : Type 0} (tell : S → T) (span : Span) (d : Doing S) →
    has_needed span (told_doing tell d) ≡ has_needed span d
needed-told tell span (doings.Waiting slots) = refl
needed-told tell span doings.Marking = refl
needed-told tell span (doings.Out first second) = refl
needed-told tell span (doings.Covered slots) = refl
needed-told tell span doings.Closing = refl

pub blocker-told : {S T : Type 0} (tell : S → T) (es : List (Pending S)) (read : Option Reading) →
    blocker_of (map (told_entry tell) es) read ≡ blocker_of es read
blocker-told tell es None = refl
blocker-told tell es (Some read) =
    rw (first-told tell (is_before read) (is_before read)
    (λ e. rw (live-told tell e.doing) refl) es)
    (rw (first-told tell (λ e. has_needed read.span e.doing)
    (λ e. has_needed read.span e.doing) (λ e. needed-told tell read.span e.doing) es) refl)

-- ---- what there is to do

to-do-told : {S D B T E C : Type 0} (live : S → T) (doubt : D → E) (block : B → C)
    (view : TrackerView S D B) (entry : Pending S) →
    is_to_do (told live doubt block view) (told_entry live entry) ≡ is_to_do view entry
to-do-told live doubt block view entry =
    rw (noop-told live entry.doing) (rw (of-told live doubt block view (Some entry)) refl)

work-told : {S D B T E C : Type 0} (live : S → T) (doubt : D → E) (block : B → C)
    (view : TrackerView S D B) (entry : Option (Pending S)) →
    option_map (work_of (told live doubt block view)) (option_map (told_entry live) entry)
    ≡ option_map (work_of view) entry
work-told live doubt block view None = refl
work-told live doubt block view (Some entry) =
    rw (noop-told live entry.doing) (rw (live-told live entry.doing) refl)

pub next-work-told : {S D B T E C : Type 0} (live : S → T) (doubt : D → E) (block : B → C)
    (view : TrackerView S D B) (after : ℕ) →
    next_work (told live doubt block view) after ≡ next_work view after
next-work-told live doubt block view after =
    ap (option_map (work_of (told live doubt block view)))
    (find-told live (λ e. nat_lt after e.place && is_to_do view e)
    (λ e. nat_lt after e.place && is_to_do (told live doubt block view) e)
    (λ e. ap (λ b. nat_lt after e.place && b) (to-do-told live doubt block view e)) view.entries)
    ∙ work-told live doubt block view
    (find (λ e. nat_lt after e.place && is_to_do view e) view.entries)

-- ---- what is listed

doubt-listed : {D E : Type 0} (tell : D → E) (doubt : Option (InDoubt D)) (grant after : ℕ) →
    listed_doubt (option_map (told_doubt tell) doubt) grant after ≡ listed_doubt doubt grant after
doubt-listed tell None grant after = refl
doubt-listed tell (Some doubt) grant after = refl

listed-told : {S T : Type 0} (tell : S → T) (entry : Option (Pending S)) (doubt : Option Listed) →
    listed (option_map (told_entry tell) entry) doubt ≡ listed entry doubt
listed-told tell None doubt = refl
listed-told tell (Some entry) doubt =
    ap (λ s. Some (record { place = entry.place; state = s })) (state-told tell entry.doing)

pub listing-told : {S D B T E C : Type 0} (live : S → T) (doubt : D → E) (block : B → C)
    (view : TrackerView S D B) (grant after : ℕ) →
    listing (told live doubt block view) grant after ≡ listing view grant after
listing-told live doubt block view grant after =
    rw (doubt-listed doubt view.doubt grant after)
    (ap (λ e. listed e (listed_doubt view.doubt grant after))
    (find-told live (λ e. is_listed grant after e) (λ e. is_listed grant after e) (λ e. refl)
    view.entries)
    ∙ listed-told live (find (λ e. is_listed grant after e) view.entries)
    (listed_doubt view.doubt grant after))
