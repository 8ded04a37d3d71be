-- What is known of the job that a state gives out.
use Rattle.std.proofs.Common.{◌≡◌, ◌∙◌, ◌&&◌, ap, inl, inr, length, List, map, nat_lt, Option, None}
use Rattle.std.proofs.Common.{Some, refl, subst, sym, true, false, ℕ}
use Rattle.std.specs.Prelude.{is_some}
use Rattle.std.specs.List.{range_with_len}
use Rattle.std.proofs.lemmas.Bool.{cases_Bool}
use Rattle.std.specs.Option.{option_map}
use Rattle.cfs_file.specs.declared.sizes.TheConstants.{FILE_BLOCKS}
use Rattle.cfs_file.specs.declared.span.Span.{Span}
use Rattle.cfs_file.specs.Span.{meets}
use Rattle.cfs_core.specs.Jobs.{is_above}
use Rattle.cfs_core.specs.Words.{block_span}
use Rattle.cfs_core.proofs.Legal.{both}
use Rattle.cfs_pmem.specs.Images.{Seen, WordStep}
use Rattle.cfs_block.specs.BlockImages.{BlockStep}
use Rattle.cfs_slot.specs.declared.doubt.Doubt.{Doubt}
use Rattle.cfs_slot.specs.declared.live.Live.{Live}
use Rattle.cfs_slot.specs.Reads.{regions_of}
use Rattle.cfs_slot.specs.Regions.{place_of}
use Rattle.cfs_job.specs.declared.lent.Lent.{Lent}
use Rattle.cfs_job.specs.Stands.{IsOpen, IsOpenFor, IsSpanFor, IsSpanOf, are_touched, is_touched}
use Rattle.cfs_job.specs.Jobs.{view_of_parts}
use Rattle.cfs_job.specs.Tiles.{tile_of}
use Rattle.cfs_job.specs.Views.{TileView}
use Rattle.cfs_tracker.specs.declared.cell.Cell.{Cell}
use Rattle.cfs_tracker.specs.declared.cell.Cell.TheVariants as kinds
use Rattle.cfs_tracker.specs.declared.pending.Pending.{Pending}
use Rattle.cfs_tracker.specs.declared.tracker.Tracker.{Tracker}
use Rattle.cfs_tracker.specs.Admit.{is_mapped}
use Rattle.cfs_tracker.specs.Cells.{cell_at}
use Rattle.cfs_tracker.specs.declared.step.Step.TheVariants.{Takes}
use Rattle.cfs_tracker.specs.Dispatch.{dispatched, first_cell, is_home, is_wanted_cell, next_cell}
use Rattle.cfs_tracker.specs.Dispatch.{second_cell, step_at, tile_at, tile_in, waiting_in}
use Rattle.cfs_tracker.specs.Dispatch.{waiting_slots}
use Rattle.cfs_tracker.specs.Finish.{span_in}
use Rattle.cfs_tracker.specs.View.{entry_at, view_of}
use Rattle.cfs_tracker.proofs.Dispatching.{AreBlocks, IsTaking, ready-blocks, taking}
use Rattle.cfs_tracker.proofs.Entries.{found-test}
use Rattle.cfs_inode.specs.declared.state.State.{State}
use Rattle.cfs_inode.specs.Dispatching.{IsReadyAt, lent_of}
use Rattle.cfs_inode.specs.Jobs.{AreTile, IsGiven, with_dispatched}
use Rattle.cfs_inode.specs.View.{Held, StateView, held_of, seens_of, state_view, told_cell}
use Rattle.cfs_inode.proofs.EndTells.{span-told}
use Rattle.cfs_inode.proofs.Cases.{cell-told}
use Rattle.cfs_inode.proofs.JobTells.{all-are-still, slots-told, step-told}
use Rattle.cfs_inode.proofs.JobTells.{told-dispatched}
use Rattle.cfs_inode.proofs.States.{state-told}
use Rattle.cfs_inode.proofs.Tells.{at-told}

-- ---- its blocks

tile-here : {B : Type 0} (bytes : B → Seen BlockStep) (number : B → ℕ) (cells : List (Cell B))
    (block : ℕ) (cell : Cell B) → cell_at cells block ≡ cell →
    is_home (told_cell bytes cell) ≡ true →
    AreTile (map (told_cell bytes) cells) (Some block)
    (tile_of bytes number (lent_of (tile_in block cell)))
tile-here bytes number cells block kinds.Hole is home = cc
tile-here bytes number cells block (kinds.Home own) is home = record {
  at = refl;
  home = cell-told bytes cells block ∙ ap (λ c. told_cell bytes c) is;
  taken = refl;
  written = refl;
  flushed = refl;
}
tile-here bytes number cells block (kinds.Unsure own) is home = cc
tile-here bytes number cells block (kinds.Lent place) is home = cc
tile-here bytes number cells block (kinds.Moving is_sure) is home = cc

pub tile-given : {B : Type 0} (bytes : B → Seen BlockStep) (number : B → ℕ)
    (cells : List (Cell B)) (held : Option ℕ) →
    ((block : ℕ) → held ≡ Some block →
    is_home (cell_at (map (told_cell bytes) cells) block) ≡ true) →
    AreTile (map (told_cell bytes) cells) held (tile_of bytes number (lent_of (tile_at cells held)))
tile-given bytes number cells None kept = tt
tile-given bytes number cells (Some block) kept =
    tile-here bytes number cells block (cell_at cells block) refl
    (ap (λ c. is_home c) (sym (cell-told bytes cells block)) ∙ kept block refl)

-- ---- they are touched

wanted-touched : {B : Type 0} (cells : List (Cell B)) (span : Span) (done : Option ℕ)
    (block : ℕ) → next_cell cells span done ≡ Some block →
    (is_touched span block ≡ true) × (is_above done block ≡ true)
wanted-touched cells span done block is =
    let it = found-test (is_wanted_cell cells span done) (range_with_len 0 (length cells)) block
    is in
    let one = both (nat_lt block FILE_BLOCKS) (is_above done block
    && (is_mapped (cell_at cells block) && meets span (block_span block))) it in
    let two = both (is_above done block)
    (is_mapped (cell_at cells block) && meets span (block_span block)) one.1 in
    let three = both (is_mapped (cell_at cells block)) (meets span (block_span block)) two.1 in
    (rw (one.0, three.1) refl, two.0)

pub unapplied : {S B : Type 0} (cells : List (Cell B)) (entry : Pending S) (block : ℕ) →
    first_cell cells entry ≡ Some block → entry.applied ≡ false
unapplied cells entry block is = elim (cases_Bool entry.applied) [
  | inl applied ↦ (let none : first_cell cells entry ≡ None = rw applied refl in cc)
  | inr open_ ↦ open_
]

first-touched : {S B : Type 0} (cells : List (Cell B)) (entry : Pending S) (block : ℕ) →
    first_cell cells entry ≡ Some block → is_touched entry.span block ≡ true
first-touched cells entry block is =
    let open_ = unapplied cells entry block is in
    let it : first_cell cells entry ≡ next_cell cells entry.span entry.done = rw open_ refl in
    (wanted-touched cells entry.span entry.done block (sym it ∙ is)).0

pub touched : {S : Type 0} (cells : List (Cell (Seen BlockStep))) (entry : Pending S)
    (first second : Option ℕ) (one two : Option TileView) → first_cell cells entry ≡ first →
    second_cell cells entry.span first ≡ second → AreTile cells first one →
    AreTile cells second two → are_touched entry.span one two ≡ true
touched cells entry None None None None first_is second_is own other = refl
touched cells entry None None None (Some two) first_is second_is own other = absurd other
touched cells entry None None (Some one) two first_is second_is own other = absurd own
touched cells entry None (Some second) one two first_is second_is own other = cc
touched cells entry (Some first) None None two first_is second_is own other = absurd own
touched cells entry (Some first) None (Some one) None first_is second_is own other =
    rw own.at (first-touched cells entry first first_is)
touched cells entry (Some first) None (Some one) (Some two) first_is second_is own other =
    absurd other
touched cells entry (Some first) (Some second) None two first_is second_is own other = absurd own
touched cells entry (Some first) (Some second) (Some one) None first_is second_is own other =
    absurd other
touched cells entry (Some first) (Some second) (Some one) (Some two) first_is second_is own other =
    let low : is_touched entry.span first ≡ true = first-touched cells entry first first_is in
    let high = wanted-touched cells entry.span (Some first) second second_is in
    let above : nat_lt first second ≡ true = high.1 in
    let a : is_touched entry.span one.at ≡ true = rw own.at low in
    let b : is_touched entry.span two.at ≡ true = rw other.at high.0 in
    let c : nat_lt one.at two.at ≡ true = rw (own.at, other.at) above in
    rw (a, b, c) refl

-- ---- where there is one, its change is not applied

some-first : {B : Type 0} (cells : List (Cell B)) (first : Option ℕ) →
    is_some (lent_of (tile_at cells first)) ≡ true → (block : ℕ) × (first ≡ Some block)
some-first cells None h = cc
some-first cells (Some block) h = (block, refl)

pub needs-open : {S B C : Type 0} (cells : List (Cell B)) (others : List (Cell C))
    (entry : Pending S) (first : Option ℕ) → first_cell others entry ≡ first →
    is_some (lent_of (tile_at cells first)) ≡ true → entry.applied ≡ false
needs-open cells others entry first is some =
    let there = some-first cells first some in
    unapplied others entry there.0 (is ∙ there.1)

pub open-for : {A : Type 0} (block : Option A) (slots : List (Seen WordStep)) (place : ℕ) →
    (is_some block ≡ true → IsOpen slots place) → IsOpenFor block slots place
open-for None slots place open_ = tt
open-for (Some block) slots place open_ = open_ refl

-- ---- the state

pub state-dispatched : {R B : Type 0} {g : _} (words : R → Seen WordStep)
    (bytes : B → Seen BlockStep) (state : State R B (Live R g) (Doubt R g))
    (now : Tracker (Live R g) (Doubt R g) B) (place : ℕ) (first second : Option ℕ) →
    view_of now ≡ dispatched place first second (view_of state.tracker) →
    state_view words bytes (record state { tracker = now })
    ≡ with_dispatched place first second (state_view words bytes state)
state-dispatched words bytes state now place first second is =
    state-told words bytes state now
    (dispatched place first second (view_of state.tracker)) is
    ∙ ap (λ t. record (state_view words bytes state) { tracker = t })
    (told-dispatched (held_of words) (seens_of words) bytes place first second
    (view_of state.tracker))

-- ---- the job

-- what is known of the parts of a job that is given out
pub record IsHandedOut {R B : Type 0} {g : _} (words : R → Seen WordStep)
    (bytes : B → Seen BlockStep) (number : B → ℕ) (old : StateView) (place : ℕ)
    (first second : Option ℕ) (slots : Live R g) (span : Span) (one two : Option (Lent B))
    : Type 0 where
  pub taking_is : IsTaking old.tracker place first second
  pub blocks : AreBlocks old.tracker first second
  pub touches : are_touched span (tile_of bytes number one) (tile_of bytes number two) ≡ true
  pub spans : IsSpanFor one span (map words (regions_of slots))
  pub opened : IsOpenFor one (map words (regions_of slots)) (place_of slots)
  pub given : IsGiven old place first second taking_is.entry
      (view_of_parts words bytes number old.ino slots span one two)

pub handed : {R B : Type 0} {g : _} (words : R → Seen WordStep) (bytes : B → Seen BlockStep)
    (number : B → ℕ) (state : State R B (Live R g) (Doubt R g)) (place : ℕ)
    (first second : Option ℕ) (slots : Live R g) (span : Span) (one two : Option (Lent B)) →
    IsReadyAt (state_view words bytes state) place →
    step_at (view_of state.tracker) place ≡ Takes first second →
    waiting_slots (entry_at (view_of state.tracker).entries place) ≡ Some slots →
    span ≡ span_in (entry_at (view_of state.tracker).entries place) →
    one ≡ lent_of (tile_at (view_of state.tracker).cells first) →
    two ≡ lent_of (tile_at (view_of state.tracker).cells second) →
    IsHandedOut words bytes number (state_view words bytes state) place first second slots span one
    two
handed {R} {B} {g} words bytes number state place first second slots span one two ready step waiting
    span_from one_is two_is =
    let old = state_view words bytes state in
    let view = view_of state.tracker in
    let live : Live R g → Held = held_of words in
    let held : Held = held_of words slots in
    let told_step : step_at old.tracker place ≡ Takes first second =
    step-told live (seens_of words) bytes view place ∙ step in
    let is = taking old.tracker place first second told_step in
    let are = ready-blocks old.tracker place first second told_step
    (all-are-still old.tracker.cells first second ready.still) in
    let here : waiting_slots (entry_at old.tracker.entries place) ≡ Some held =
    slots-told live view.entries place ∙ ap (λ o. option_map live o) waiting in
    let waits : waiting_in is.entry.doing ≡ Some held = ap waiting_slots (sym is.there) ∙ here in
    let open_ = ready.opened is.entry held is.there waits in
    let span_is : span ≡ is.entry.span =
    span_from
    ∙ (sym (span-told live (entry_at view.entries place))
    ∙ (ap (λ o. span_in o) (sym (at-told live view.entries place))
    ∙ ap (λ (o : Option (Pending Held)). span_in o) is.there)) in
    let first_is : AreTile old.tracker.cells first (tile_of bytes number one) =
    subst (λ (l : Option (Lent B)). AreTile old.tracker.cells first (tile_of bytes number l))
    (sym one_is) (tile-given bytes number view.cells first are.first_kept) in
    let second_is : AreTile old.tracker.cells second (tile_of bytes number two) =
    subst (λ (l : Option (Lent B)). AreTile old.tracker.cells second (tile_of bytes number l))
    (sym two_is) (tile-given bytes number view.cells second are.second_kept) in
    let unapplied_if : is_some one ≡ true → is.entry.applied ≡ false =
    λ some. needs-open view.cells old.tracker.cells is.entry first is.first_is
    (ap (λ (l : Option (Lent B)). is_some l) (sym one_is) ∙ some) in
    record {
      taking_is = is;
      blocks = are;
      touches = subst (λ s. are_touched s (tile_of bytes number one) (tile_of bytes number two)
          ≡ true) (sym span_is)
          (touched old.tracker.cells is.entry first second (tile_of bytes number one)
          (tile_of bytes number two) is.first_is is.second_is first_is second_is);
      spans = λ some.
          subst (λ s. IsSpanOf s held.slots) (sym span_is) (open_.spans (unapplied_if some));
      opened = open-for one held.slots (place_of slots) (λ some.
          subst (λ p. IsOpen held.slots p) (sym open_.placed) (open_.opened (unapplied_if some)));
      given = record {
        there = is.there;
        held = held;
        slots = here;
        ino_is = refl;
        place_is = open_.placed;
        span_is = span_is;
        slots_are = refl;
        first_is = first_is;
        second_is = second_is;
      };
    }
