-- The blocks of a tracker, told as something else.
use Rattle.std.proofs.Common.{◌≡◌, ◌∙◌, ◌&&◌, ap, List, [], ◌∷◌, length, map, Option, None}
use Rattle.std.proofs.Common.{Some, refl, sym, true, ℕ}
use Rattle.std.specs.List.{find, list_any, range_with_len}
use Rattle.std.proofs.lemmas.List.{length-map, map-set, set-set}
use Rattle.std.specs.Option.{option_map}
use Rattle.cfs_file.specs.declared.span.Span.{Span}
use Rattle.cfs_pmem.specs.Images.{Seen, WordStep}
use Rattle.cfs_block.specs.BlockImages.{BlockStep}
use Rattle.cfs_core.specs.Words.{block_span}
use Rattle.cfs_slot.specs.declared.doubt.Doubt.{Doubt}
use Rattle.cfs_slot.specs.declared.live.Live.{Live}
use Rattle.cfs_tracker.specs.declared.cell.Cell.{Cell}
use Rattle.cfs_tracker.specs.declared.cell.Cell.TheVariants as kinds
use Rattle.cfs_tracker.specs.declared.doing.Doing.TheVariants as doings
use Rattle.cfs_tracker.specs.declared.in_doubt.InDoubt.{InDoubt}
use Rattle.cfs_tracker.specs.declared.pending.Pending.{Pending}
use Rattle.cfs_tracker.specs.declared.tracker.Tracker.{Tracker}
use Rattle.cfs_tracker.specs.Cells.{cell_at, held_in, with_cell}
use Rattle.cfs_tracker.specs.Trim.{is_doubt_in, is_held, is_live_in, is_past, next_trim}
use Rattle.cfs_tracker.specs.View.{TrackerView, view_of}
use Rattle.cfs_inode.specs.declared.state.State.{State}
use Rattle.cfs_inode.specs.Trims.{block_at, with_block_cell}
use Rattle.cfs_inode.specs.View.{held_of, seens_of, state_view, told, told_cell}
use Rattle.cfs_inode.specs.View.{told_doubt, told_entry}
use Rattle.cfs_tracker.proofs.Dispatching.{find-alike}
use Rattle.cfs_inode.proofs.Cases.{cell-told, live-told}
use Rattle.cfs_inode.proofs.States.{state-told}

-- ---- one block

held-told : {B C : Type 0} (tell : B → C) (cell : Cell B) →
    held_in (told_cell tell cell) ≡ option_map tell (held_in cell)
held-told tell kinds.Hole = refl
held-told tell (kinds.Home home) = refl
held-told tell (kinds.Unsure home) = refl
held-told tell (kinds.Lent place) = refl
held-told tell (kinds.Moving is_sure) = refl

pub is-held-told : {B C : Type 0} (tell : B → C) (cell : Cell B) →
    is_held (told_cell tell cell) ≡ is_held cell
is-held-told tell kinds.Hole = refl
is-held-told tell (kinds.Home home) = refl
is-held-told tell (kinds.Unsure home) = refl
is-held-told tell (kinds.Lent place) = refl
is-held-told tell (kinds.Moving is_sure) = refl

pub state-block : {R B : Type 0} {g : _} (words : R → Seen WordStep) (bytes : B → Seen BlockStep)
    (state : State R B (Live R g) (Doubt R g)) (block : ℕ) (home : Option B) →
    home ≡ held_in (cell_at (view_of state.tracker).cells block) →
    block_at (state_view words bytes state) block ≡ option_map bytes home
state-block words bytes state block home is =
    ap held_in (cell-told bytes (view_of state.tracker).cells block)
    ∙ (held-told bytes (cell_at (view_of state.tracker).cells block)
    ∙ ap (λ o. option_map bytes o) (sym is))

-- ---- the next one to be given up

any-live-told : {S T : Type 0} (tell : S → T) (span : Span) (es : List (Pending S)) →
    list_any (is_live_in span) (map (told_entry tell) es) ≡ list_any (is_live_in span) es
any-live-told tell span [] = refl
any-live-told tell span (e ∷ es) = rw (live-told tell e.doing, any-live-told tell span es) refl

doubt-in-told : {D E : Type 0} (tell : D → E) (span : Span) (doubt : Option (InDoubt D)) →
    is_doubt_in span (option_map (told_doubt tell) doubt) ≡ is_doubt_in span doubt
doubt-in-told tell span None = refl
doubt-in-told tell span (Some doubt) = refl

pub past-told : {S D B T E C : Type 0} (live : S → T) (doubt : D → E) (tell : B → C)
    (view : TrackerView S D B) (block : ℕ) →
    is_past (told live doubt tell view) block ≡ is_past view block
past-told live doubt tell view block =
    rw (
      any-live-told live (block_span block) view.entries,
      doubt-in-told doubt (block_span block) view.doubt,
    ) refl

pub next-told : {S D B T E C : Type 0} (live : S → T) (doubt : D → E) (tell : B → C)
    (view : TrackerView S D B) → next_trim (told live doubt tell view) ≡ next_trim view
next-told live doubt tell view =
    find-alike
    (λ block. is_held (cell_at (map (told_cell tell) view.cells) block)
    && is_past (told live doubt tell view) block)
    (λ block. is_held (cell_at view.cells block) && is_past view block)
    (range_with_len 0 (length (map (told_cell tell) view.cells)))
    (λ block. ap (λ b. b && is_past (told live doubt tell view) block)
    (ap is_held (cell-told tell view.cells block)
    ∙ is-held-told tell (cell_at view.cells block))
    ∙ ap (λ b. is_held (cell_at view.cells block) && b) (past-told live doubt tell view block))
    ∙ ap (λ n. find (λ block. is_held (cell_at view.cells block) && is_past view block)
    (range_with_len 0 n)) (length-map view.cells (told_cell tell))

-- ---- a block that was taken out comes to be this

pub state-cell : {R B : Type 0} {g : _} (words : R → Seen WordStep) (bytes : B → Seen BlockStep)
    (state : State R B (Live R g) (Doubt R g)) (now : Tracker (Live R g) (Doubt R g) B)
    (mid : TrackerView (Live R g) (Doubt R g) B) (block : ℕ) (first cell : Cell B) →
    view_of now ≡ with_cell block cell mid →
    mid ≡ with_cell block first (view_of state.tracker) →
    state_view words bytes (record state { tracker = now })
    ≡ with_block_cell block (told_cell bytes cell) (state_view words bytes state)
state-cell words bytes state now mid block first cell is was =
    state-told words bytes state now
    (with_cell block cell (with_cell block first (view_of state.tracker)))
    (is ∙ ap (λ v. with_cell block cell v) was)
    ∙ ap (λ cells. record (state_view words bytes state) {
      tracker = record (state_view words bytes state).tracker { cells = cells };
    })
    (ap (λ cells. map (told_cell bytes) cells)
    (set-set (view_of state.tracker).cells block first cell)
    ∙ map-set (told_cell bytes) (view_of state.tracker).cells block cell)

-- ---- of a state

pub state-trim : {R B : Type 0} {g : _} (words : R → Seen WordStep) (bytes : B → Seen BlockStep)
    (state : State R B (Live R g) (Doubt R g)) (found : Option ℕ) →
    found ≡ next_trim (view_of state.tracker) →
    next_trim (state_view words bytes state).tracker ≡ found
state-trim words bytes state found is =
    next-told (held_of words) (seens_of words) bytes (view_of state.tracker) ∙ sym is

pub state-past : {R B : Type 0} {g : _} (words : R → Seen WordStep) (bytes : B → Seen BlockStep)
    (state : State R B (Live R g) (Doubt R g)) (block : ℕ) →
    is_past (view_of state.tracker) block ≡ true →
    is_past (state_view words bytes state).tracker block ≡ true
state-past words bytes state block past =
    past-told (held_of words) (seens_of words) bytes (view_of state.tracker) block ∙ past
