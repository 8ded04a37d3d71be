-- Blocks that are tagged, told of a state.
use Rattle.std.proofs.Common.{◌≡◌, ◌∙◌, ◌<◌, ◌++◌, ap, List, [], ◌∷◌, length, map, None, Some, refl}
use Rattle.std.proofs.Common.{set, sym, true, false, ℕ, Bool}
use Rattle.std.proofs.lemmas.List.{map-append, set-set}
use Rattle.cfs_pmem.specs.Images.{Seen, WordStep}
use Rattle.cfs_block.specs.BlockImages.{BlockStep}
use Rattle.cfs_block.specs.declared.free_block.ZeroBlock.{ZeroBlock}
use Rattle.cfs_slot.specs.declared.doubt.Doubt.{Doubt}
use Rattle.cfs_slot.specs.declared.live.Live.{Live}
use Rattle.cfs_tracker.specs.declared.cell.Cell.{Cell}
use Rattle.cfs_tracker.specs.declared.cell.Cell.TheVariants as kinds
use Rattle.cfs_tracker.specs.Admit.{is_mapped}
use Rattle.cfs_tracker.specs.Cells.{cell_at, held_in, is_bare, moving, tagged_cell, with_cell}
use Rattle.cfs_tracker.specs.View.{TrackerView, view_of}
use Rattle.cfs_tracker.proofs.Celling.{cell-here}
use Rattle.cfs_inode.specs.declared.state.State.{State}
use Rattle.cfs_inode.specs.Trims.{with_block_cell}
use Rattle.cfs_inode.specs.View.{held_of, seens_of, state_view, told, told_cell}
use Rattle.cfs_inode.proofs.Cases.{mapped-at}
use Rattle.std.proofs.lemmas.List.{map-set}

-- ---- a block that is taken to be tagged

unsure-bare : {B : Type 0} (cell : Cell B) (home : B) → is_mapped cell ≡ false →
    held_in cell ≡ Some home → is_bare (moving cell) ≡ true
unsure-bare kinds.Hole home unmapped has = cc
unsure-bare (kinds.Home x) home unmapped has = cc
unsure-bare (kinds.Unsure x) home unmapped has = refl
unsure-bare (kinds.Lent place) home unmapped has = cc
unsure-bare (kinds.Moving is_sure) home unmapped has = cc

pub none-bare : {B : Type 0} (cell : Cell B) → is_mapped cell ≡ false → held_in cell ≡ None →
    is_bare cell ≡ true
none-bare kinds.Hole unmapped has = refl
none-bare (kinds.Home x) unmapped has = cc
none-bare (kinds.Unsure x) unmapped has = cc
none-bare (kinds.Lent place) unmapped has = cc
none-bare (kinds.Moving true) unmapped has = cc
none-bare (kinds.Moving false) unmapped has = refl

none-moving : {B : Type 0} (cell : Cell B) → held_in cell ≡ None → moving cell ≡ cell
none-moving kinds.Hole has = refl
none-moving (kinds.Home x) has = cc
none-moving (kinds.Unsure x) has = cc
none-moving (kinds.Lent place) has = refl
none-moving (kinds.Moving is_sure) has = refl

pub again-bare : {B : Type 0} (cells : List (Cell B)) (block : ℕ) (home : B) →
    block < length cells → is_mapped (cell_at cells block) ≡ false →
    held_in (cell_at cells block) ≡ Some home →
    is_bare (cell_at (set cells block (moving (cell_at cells block))) block) ≡ true
again-bare cells block home less unmapped has =
    ap is_bare (cell-here cells block (moving (cell_at cells block)) less)
    ∙ unsure-bare (cell_at cells block) home unmapped has

pub fresh-bare : {B : Type 0} (cells : List (Cell B)) (block : ℕ) → block < length cells →
    is_mapped (cell_at cells block) ≡ false → held_in (cell_at cells block) ≡ None →
    is_bare (cell_at (set cells block (moving (cell_at cells block))) block) ≡ true
fresh-bare cells block less unmapped has =
    ap is_bare (cell-here cells block (moving (cell_at cells block)) less)
    ∙ (ap is_bare (none-moving (cell_at cells block) has)
    ∙ none-bare (cell_at cells block) unmapped has)

-- ---- of a state

pub state-mapped : {R B : Type 0} {g : _} (words : R → Seen WordStep) (bytes : B → Seen BlockStep)
    (state : State R B (Live R g) (Doubt R g)) (block : ℕ) (mapped : Bool) →
    is_mapped (cell_at (view_of state.tracker).cells block) ≡ mapped →
    is_mapped (cell_at (state_view words bytes state).tracker.cells block) ≡ mapped
state-mapped words bytes state block mapped is =
    mapped-at bytes (view_of state.tracker).cells block ∙ is

tagged-told : {B C : Type 0} (tell : B → C) (home : B) (kept : Bool) →
    told_cell tell (tagged_cell home kept) ≡ tagged_cell (tell home) kept
tagged-told tell home true = refl
tagged-told tell home false = refl

-- a state of the same inode and size word
pub state-parts : {R B : Type 0} {g : _} (words : R → Seen WordStep) (bytes : B → Seen BlockStep)
    (state new : State R B (Live R g) (Doubt R g))
    (view : TrackerView (Live R g) (Doubt R g) B) → new.ino ≡ state.ino →
    new.size ≡ state.size → view_of new.tracker ≡ view →
    state_view words bytes new ≡ record (state_view words bytes state) {
      tracker = told (held_of words) (seens_of words) bytes view;
    }
state-parts {R} {B} {g} words bytes state new view ino size tracker =
    ap (λ (n : ℕ). record (state_view words bytes new) { ino = n }) ino
    ∙ (ap (λ (r : R). record (state_view words bytes new) { ino = state.ino; size = words r }) size
    ∙ ap (λ (v : TrackerView (Live R g) (Doubt R g) B). record (state_view words bytes state) {
      tracker = told (held_of words) (seens_of words) bytes v;
    }) tracker)

pub state-tagged : {R B : Type 0} {g : _} (words : R → Seen WordStep) (bytes : B → Seen BlockStep)
    (state new : State R B (Live R g) (Doubt R g)) (mid : TrackerView (Live R g) (Doubt R g) B)
    (block : ℕ) (first : Cell B) (now : B) (kept : Bool) → new.ino ≡ state.ino →
    new.size ≡ state.size → view_of new.tracker ≡ with_cell block (tagged_cell now kept) mid →
    mid ≡ with_cell block first (view_of state.tracker) →
    state_view words bytes new
    ≡ with_block_cell block (tagged_cell (bytes now) kept) (state_view words bytes state)
state-tagged words bytes state new mid block first now kept ino size is was =
    let cell = tagged_cell now kept in
    state-parts words bytes state new
    (with_cell block cell (with_cell block first (view_of state.tracker))) ino size
    (is ∙ ap (λ v. with_cell block cell v) was)
    ∙ ap (λ cells. record (state_view words bytes state) {
      tracker = record (state_view words bytes state).tracker { cells = cells };
    })
    (ap (λ cells. map (told_cell bytes) cells)
    (set-set (view_of state.tracker).cells block first cell)
    ∙ (map-set (told_cell bytes) (view_of state.tracker).cells block cell
    ∙ ap (λ c. set (map (told_cell bytes) (view_of state.tracker).cells) block c)
    (tagged-told bytes now kept)))

pub stock-popped : {B : Type 0} {g : _} (seen : B → Seen BlockStep)
    (before after : List (ZeroBlock B g)) (zero : ZeroBlock B g) (home : B) →
    before ≡ after ++ zero ∷ [] → home ≡ zero.block →
    map (λ (z : ZeroBlock B g). seen z.block) before
    ≡ map (λ (z : ZeroBlock B g). seen z.block) after ++ seen home ∷ []
stock-popped {B} {g} seen before after zero home is same =
    ap (λ zs. map (λ (z : ZeroBlock B g). seen z.block) zs) is
    ∙ (map-append (λ (z : ZeroBlock B g). seen z.block) after (zero ∷ [])
    ∙ ap (λ (b : B). map (λ (z : ZeroBlock B g). seen z.block) after ++ seen b ∷ []) (sym same))
