-- Which blocks are mapped, told of a state.
use Rattle.std.proofs.Common.{◌≡◌, ◌∙◌, ◌≤◌, ap, arith, cond, filter, List, [], ◌∷◌, length, map}
use Rattle.std.proofs.Common.{Option, refl, sym, ℕ, Bool}
use Rattle.cfs_file.specs.declared.span.Span.{Span}
use Rattle.cfs_pmem.specs.Images.{Seen, WordStep}
use Rattle.cfs_block.specs.BlockImages.{BlockStep}
use Rattle.cfs_core.specs.Words.{blocks_needed}
use Rattle.cfs_slot.specs.declared.doubt.Doubt.{Doubt}
use Rattle.cfs_slot.specs.declared.live.Live.{Live}
use Rattle.cfs_block.specs.declared.free_block.ZeroBlock.{ZeroBlock}
use Rattle.cfs_vec.specs.declared.fixed_vec.FixedVec.{FixedVec}
use Rattle.cfs_vec.specs.Items.{items_of}
use Rattle.cfs_inode.specs.Tagging.{stock_of}
use Rattle.std.proofs.lemmas.List.{length-map}
use Rattle.cfs_tracker.specs.declared.cell.Cell.{Cell}
use Rattle.cfs_tracker.specs.declared.cell.Cell.TheVariants as kinds
use Rattle.cfs_tracker.specs.Admit.{bare_needed, first_unmapped}
use Rattle.cfs_tracker.specs.Cells.{cell_at, is_bare}
use Rattle.cfs_tracker.specs.View.{view_of}
use Rattle.cfs_inode.specs.declared.state.State.{State}
use Rattle.cfs_inode.specs.View.{state_view, told_cell}
use Rattle.cfs_inode.proofs.Readies.{unmapped-told}
use Rattle.cfs_inode.proofs.Cases.{cell-told}

bare-same : {B C : Type 0} (tell : B → C) (cell : Cell B) →
    is_bare (told_cell tell cell) ≡ is_bare cell
bare-same tell kinds.Hole = refl
bare-same tell (kinds.Home block) = refl
bare-same tell (kinds.Unsure block) = refl
bare-same tell (kinds.Lent place) = refl
bare-same tell (kinds.Moving is_sure) = refl

filter-alike : (f g : ℕ → Bool) → ((k : ℕ) → f k ≡ g k) → (ks : List ℕ) →
    filter f ks ≡ filter g ks
filter-alike f g alike [] = refl
filter-alike f g alike (k ∷ ks) =
    rw (alike k) (ap (λ xs. cond (g k) (k ∷ xs) xs) (filter-alike f g alike ks))

bare-told : {B C : Type 0} (tell : B → C) (cells : List (Cell B)) (span : Span) →
    bare_needed (map (told_cell tell) cells) span ≡ bare_needed cells span
bare-told tell cells span =
    ap length (filter-alike (λ k. is_bare (cell_at (map (told_cell tell) cells) k))
    (λ k. is_bare (cell_at cells k))
    (λ k. ap is_bare (cell-told tell cells k) ∙ bare-same tell (cell_at cells k))
    (blocks_needed span))

pub state-bare : {R B : Type 0} {g : _} (words : R → Seen WordStep) (bytes : B → Seen BlockStep)
    (state : State R B (Live R g) (Doubt R g)) (span : Span) →
    bare_needed (state_view words bytes state).tracker.cells span
    ≡ bare_needed (view_of state.tracker).cells span
state-bare words bytes state span = bare-told bytes (view_of state.tracker).cells span

pub state-first : {R B : Type 0} {g : _} (words : R → Seen WordStep) (bytes : B → Seen BlockStep)
    (state : State R B (Live R g) (Doubt R g)) (span : Span) (found : Option ℕ) →
    found ≡ first_unmapped (view_of state.tracker).cells span →
    first_unmapped (state_view words bytes state).tracker.cells span ≡ found
state-first words bytes state span found is =
    unmapped-told bytes (view_of state.tracker).cells (blocks_needed span) ∙ sym is

-- the stock has enough, told of a state, and back

pub stocked-told : {R B : Type 0} {g h : _} {N : ℕ} (words : R → Seen WordStep)
    (bytes : B → Seen BlockStep) (state : State R B (Live R g) (Doubt R g))
    (stock : FixedVec (ZeroBlock B h) N) (span : Span) →
    bare_needed (view_of state.tracker).cells span ≤ length (items_of stock) →
    bare_needed (state_view words bytes state).tracker.cells span ≤ length (stock_of bytes stock)
stocked-told {R} {B} {g} {h} words bytes state stock span less =
    omega (
      arith,
      less,
      state-bare words bytes state span,
      length-map (items_of stock) (λ (z : ZeroBlock B h). bytes z.block),
    )

pub stocked-back : {R B : Type 0} {g h : _} {N : ℕ} (words : R → Seen WordStep)
    (bytes : B → Seen BlockStep) (state : State R B (Live R g) (Doubt R g))
    (stock : FixedVec (ZeroBlock B h) N) (span : Span) →
    bare_needed (state_view words bytes state).tracker.cells span ≤ length (stock_of bytes stock) →
    bare_needed (view_of state.tracker).cells span ≤ length (items_of stock)
stocked-back {R} {B} {g} {h} words bytes state stock span less =
    omega (
      arith,
      less,
      state-bare words bytes state span,
      length-map (items_of stock) (λ (z : ZeroBlock B h). bytes z.block),
    )
