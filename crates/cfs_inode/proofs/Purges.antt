-- The state of a file that is no longer in the tree is emptied.
use Rattle.std.proofs.Common.{◌≡◌, ◌∙◌, ◌==◌, ◌||◌, ◌<◌, ap, arith, get_or, List, [], ◌∷◌, length}
use Rattle.std.proofs.Common.{map, Option, None, Some, refl, subst, sym, true, false, ℕ, Bool}
use Rattle.std.specs.Prelude.{is_some}
use Rattle.std.specs.List.{find, list_any, range_with_len}
use Rattle.std.specs.Option.{option_map}
use Rattle.std.proofs.lemmas.Bool.Decides.{nat_tests}
use Rattle.std.proofs.lemmas.Grind.{get_or-set_at}
use Rattle.std.proofs.lemmas.List.{length-map}
use Rattle.cfs_core.specs.declared.inode_core.Core.{Core}
use Rattle.cfs_core.specs.Medium.{is_size}
use Rattle.cfs_core.proofs.Legal.{both}
use Rattle.cfs_pmem.specs.declared.trace.Asked.{Asked}
use Rattle.cfs_pmem.specs.Images.{IsImage, Seen, WordStep, failed as stopped, words_of}
use Rattle.cfs_pmem.proofs.ImageLemmas.{image_failed, now_is_image}
use Rattle.cfs_block.specs.BlockImages.{BlockStep}
use Rattle.cfs_slot.specs.declared.doubt.Doubt.{Doubt}
use Rattle.cfs_slot.specs.declared.live.Live.{Live}
use Rattle.cfs_tracker.specs.declared.cell.Cell.{Cell}
use Rattle.cfs_tracker.specs.declared.cell.Cell.TheVariants as kinds
use Rattle.cfs_tracker.specs.declared.in_doubt.InDoubt.{InDoubt}
use Rattle.cfs_tracker.specs.declared.tracker.Tracker.{Tracker}
use Rattle.cfs_tracker.specs.Cells.{cell_at, held_in}
use Rattle.cfs_tracker.specs.Purge.{is_away, is_in_use, next_kept, zero_unsure}
use Rattle.cfs_tracker.specs.Trim.{is_held}
use Rattle.cfs_tracker.specs.View.{TrackerView, view_of}
use Rattle.cfs_tracker.proofs.Dispatching.{find-alike}
use Rattle.cfs_tracker.proofs.Entries.{found-test}
use Rattle.cfs_inode.specs.declared.size_answer.SizeAnswer.TheVariants as went
use Rattle.cfs_inode.specs.declared.state.State.{State}
use Rattle.cfs_inode.specs.Finishing.{SetsSize, is_right}
use Rattle.cfs_inode.specs.New.{stored_state}
use Rattle.cfs_inode.specs.Purges.{IsZero, PurgeEnd, PurgeFailing, PurgeFails, PurgeStands, Purges}
use Rattle.cfs_inode.specs.Purges.{StandingTellZero, StandsEmpty, TellsZero, done, failed, freed}
use Rattle.cfs_inode.specs.Purges.{in_use, keeping, untagging, writing}
use Rattle.cfs_inode.specs.View.{StateView, held_of, seens_of, state_view, told, told_cell}
use Rattle.cfs_inode.specs.View.{told_doubt, told_entry}
use Rattle.cfs_inode.proofs.News.{HasSize, empty-file, sized-stands}
use Rattle.cfs_inode.proofs.Cases.{cell-told}
use Rattle.cfs_inode.proofs.TrimTells.{is-held-told}
use Rattle.cfs_inode.proofs.Trimmings.{is-held-some}

-- ---- a tracker, told as something else

away-told : {B C : Type 0} (tell : B → C) (cell : Cell B) →
    is_away (told_cell tell cell) ≡ is_away cell
away-told tell kinds.Hole = refl
away-told tell (kinds.Home home) = refl
away-told tell (kinds.Unsure home) = refl
away-told tell (kinds.Lent place) = refl
away-told tell (kinds.Moving is_sure) = refl

any-away-told : {B C : Type 0} (tell : B → C) (cells : List (Cell B)) →
    list_any (λ cell. is_away cell) (map (told_cell tell) cells)
    ≡ list_any (λ cell. is_away cell) cells
any-away-told tell [] = refl
any-away-told tell (cell ∷ cells) = rw (away-told tell cell, any-away-told tell cells) refl

doubt-told : {D E : Type 0} (tell : D → E) (doubt : Option (InDoubt D)) →
    is_some (option_map (told_doubt tell) doubt) ≡ is_some doubt
doubt-told tell None = refl
doubt-told tell (Some doubt) = refl

in-use-told : {S D B T E C : Type 0} (live : S → T) (doubt : D → E) (tell : B → C)
    (view : TrackerView S D B) → is_in_use (told live doubt tell view) ≡ is_in_use view
in-use-told live doubt tell view =
    rw (
      length-map view.entries (told_entry live),
      doubt-told doubt view.doubt,
      any-away-told tell view.cells,
    ) refl

kept-told : {S D B T E C : Type 0} (live : S → T) (doubt : D → E) (tell : B → C)
    (view : TrackerView S D B) → next_kept (told live doubt tell view) ≡ next_kept view
kept-told live doubt tell view =
    find-alike (λ block. is_held (cell_at (map (told_cell tell) view.cells) block))
    (λ block. is_held (cell_at view.cells block))
    (range_with_len 0 (length (map (told_cell tell) view.cells)))
    (λ block. ap is_held (cell-told tell view.cells block)
    ∙ is-held-told tell (cell_at view.cells block))
    ∙ ap (λ n. find (λ block. is_held (cell_at view.cells block)) (range_with_len 0 n))
    (length-map view.cells (told_cell tell))

pub kept-held : {S D B : Type 0} (view : TrackerView S D B) (block : ℕ) →
    next_kept view ≡ Some block →
    (home : B) × (held_in (cell_at view.cells block) ≡ Some home)
kept-held view block named =
    is-held-some (cell_at view.cells block)
    (found-test (λ k. is_held (cell_at view.cells k)) (range_with_len 0 (length view.cells)) block
    named)

-- ---- and of a state

pub state-in-use : {R B : Type 0} {g : _} (words : R → Seen WordStep) (bytes : B → Seen BlockStep)
    (state : State R B (Live R g) (Doubt R g)) (used : Bool) →
    is_in_use (view_of state.tracker) ≡ used →
    is_in_use (state_view words bytes state).tracker ≡ used
state-in-use words bytes state used is =
    in-use-told (held_of words) (seens_of words) bytes (view_of state.tracker) ∙ is

pub state-kept : {R B : Type 0} {g : _} (words : R → Seen WordStep) (bytes : B → Seen BlockStep)
    (state : State R B (Live R g) (Doubt R g)) (found : Option ℕ) →
    next_kept (view_of state.tracker) ≡ found →
    next_kept (state_view words bytes state).tracker ≡ found
state-kept words bytes state found is =
    kept-told (held_of words) (seens_of words) bytes (view_of state.tracker) ∙ is

pub state-zero : {R B : Type 0} {g : _} (words : R → Seen WordStep) (bytes : B → Seen BlockStep)
    (state : State R B (Live R g) (Doubt R g)) (size : R)
    (now : Tracker (Live R g) (Doubt R g) B) → view_of now ≡ zero_unsure (view_of state.tracker) →
    state_view words bytes (record state { size = size; tracker = now })
    ≡ record (state_view words bytes state) {
      size = words size;
      tracker = zero_unsure (state_view words bytes state).tracker;
    }
state-zero words bytes state size now is =
    ap (λ v. record (state_view words bytes state) {
      size = words size;
      tracker = told (held_of words) (seens_of words) bytes v;
    }) is

-- ---- the size word

has-zero : (size : Seen WordStep) → IsZero size → HasSize size 0
has-zero size zero_ = record {
  images = zero_;
  now = zero_ (words_of size) (now_is_image size.history);
}

set-zero : (obeys right : Bool) (asked_old asked_new : List Asked) (old new : Seen WordStep) →
    0 < length (words_of old) → (right ≡ true → IsZero old) →
    SetsSize obeys right 0 went.Set asked_old old asked_new new → IsZero new
set-zero obeys true asked_old asked_new old new some was sets =
    subst (λ (s : Seen WordStep). IsZero s) (sym sets.1) (was refl)
set-zero obeys false asked_old asked_new old new some was sets = λ image is.
    ap (λ ws. get_or ws 0 0) (sets.sure image is)
    ∙ (ap (λ (s : Seen WordStep). get_or (words_of s) 0 0) sets.ok
    ∙ get_or-set_at (words_of old) 0 0 0 0 refl some)

stopped-zero : (old new : Seen WordStep) → new ≡ stopped old → IsZero old → IsZero new
stopped-zero old new is was =
    subst (λ (s : Seen WordStep). IsZero s) (sym is)
    (λ image of. was image (image_failed old.history image of))

fails-tell : (words tags keeps : Bool) (at : PurgeFailing) (asked_old : List Asked)
    (old : StateView) (asked_new : List Asked) (new : StateView) →
    PurgeFails words tags keeps at asked_old old asked_new new → TellsZero old → TellsZero new
fails-tell words tags keeps untagging asked_old old asked_new new did tells =
    subst (λ (s : StateView). TellsZero s) (sym did.3) tells
fails-tell words tags keeps writing asked_old old asked_new new did tells =
    subst (λ (s : StateView). TellsZero s) (sym did.2)
    (λ right. stopped-zero old.size did.0 did.1.sets.1 (tells right))
fails-tell words tags keeps keeping asked_old old asked_new new did tells =
    subst (λ (s : StateView). TellsZero s) (sym did.2) (λ right. cc)

pub purge-tells : (words tags keeps : Bool) (end : PurgeEnd) (asked_old : List Asked)
    (old : StateView) (asked_new : List Asked) (new : StateView) →
    0 < length (words_of old.size) →
    Purges words tags keeps end asked_old old asked_new new → TellsZero old → TellsZero new
purge-tells words tags keeps (freed now) asked_old old asked_new new some did tells =
    subst (λ (s : StateView). TellsZero s) (sym did.2) tells
purge-tells words tags keeps done asked_old old asked_new new some did tells =
    subst (λ (s : StateView). TellsZero s) (sym did.2)
    (λ right. set-zero words (is_right old.tracker.stored old.tracker.is_sure 0) asked_old asked_new
    old.size did.0 some tells did.1.sets)
purge-tells words tags keeps in_use asked_old old asked_new new some did tells =
    subst (λ (s : StateView). TellsZero s) (sym did.2) tells
purge-tells words tags keeps failed asked_old old asked_new new some did tells =
    fails-tell words tags keeps did.0 asked_old old asked_new new did.1 tells

-- ---- an empty file

pub stands-empty : (ino : ℕ) (size : Seen WordStep) → IsZero size →
    StandsEmpty (stored_state ino size 0 [])
stands-empty ino size zero_ = λ core empty.
    sized-stands ino size 0 [] (has-zero size zero_) tt core (empty-file core empty)

pub purge-stands : (words tags keeps : Bool) (end : PurgeEnd) (asked_old : List Asked)
    (old : StateView) (asked_new : List Asked) (new : StateView) →
    0 < length (words_of old.size) →
    Purges words tags keeps end asked_old old asked_new new → PurgeStands end old new
purge-stands words tags keeps (freed now) asked_old old asked_new new some did = tt
purge-stands words tags keeps done asked_old old asked_new new some did = λ tells.
    subst (λ (s : StateView). StandsEmpty s) (sym did.2)
    (stands-empty old.ino did.0
    (set-zero words (is_right old.tracker.stored old.tracker.is_sure 0) asked_old asked_new
    old.size did.0 some tells did.1.sets))
purge-stands words tags keeps in_use asked_old old asked_new new some did = tt
purge-stands words tags keeps failed asked_old old asked_new new some did = tt

-- ---- a state that stands

is-zero : (word : ℕ) → ((word == 0) || false) ≡ true → word ≡ 0
is-zero word h = grind (arith, nat_tests)

sized-zero : (core : Core) (word : ℕ) → core.sizes ≡ [] → core.size ≡ 0 →
    is_size core word ≡ true → word ≡ 0
sized-zero core word none zero_ h =
    is-zero word (subst (λ (s : ℕ). ((word == s) || false) ≡ true) zero_
    (subst (λ (ss : List ℕ). ((word == core.size) || list_any (λ s. word == s) ss) ≡ true) none h))

pub standing-tell : StandingTellZero
standing-tell = λ state core world stands right image is.
    let parts = both state.tracker.is_sure (state.tracker.stored == 0) right in
    let stored : state.tracker.stored ≡ 0 = (let test = parts.1 in grind (arith, nat_tests)) in
    sized-zero core (get_or image 0 0) (stands.follows.sure parts.0) (stands.follows.size ∙ stored)
    (stands.shows.sizes image
    (subst (λ (s : Seen WordStep). IsImage s.history image) (sym stands.size) is))
