-- A job takes a change and its next blocks.
use Rattle.std.proofs.Common.{◌≡◌, ◌∙◌, ap, arith, ◌<◌, ◌==◌, ◌&&◌, ◌⊎◌, cond, get_or, inl, inr, length, List, [], ◌∷◌, Option, None, Some, refl, sym, true, false, zero, suc, ℕ, Bool, subst, length-set}
use Rattle.std.specs.Prelude.{nat_lt, option_map}
use Rattle.std.specs.List.{find, list_all, range_with_len}
use Rattle.std.proofs.lemmas.Bool.{cases_Bool}
use Rattle.std.proofs.lemmas.Bool.Decides.{nat_tests}
use Rattle.cfs_file.specs.declared.sizes.TheConstants.{FILE_BLOCKS}
use Rattle.cfs_file.specs.declared.span.Span.{Span}
use Rattle.cfs_file.specs.Span.{meets}
use Rattle.cfs_core.specs.declared.event.Event.TheVariants as events
use Rattle.cfs_core.specs.declared.flag.Flag.{Flag}
use Rattle.cfs_core.specs.declared.flag.Flag.TheVariants as flags
use Rattle.cfs_core.specs.declared.inode_core.Core.{Core}
use Rattle.cfs_core.specs.declared.state.Job.{Job}
use Rattle.cfs_core.specs.declared.state.State.{State}
use Rattle.cfs_core.specs.declared.state.State.TheVariants as states
use Rattle.cfs_core.specs.declared.track.Track.{Track}
use Rattle.cfs_core.specs.Words.{block_span, has_block, is_lease, is_live, is_on, is_unserved, is_waiting, track}
use Rattle.cfs_core.specs.Jobs.{is_above, is_taken, is_wanted, job_from, lease_of, next_block, next_job}
use Rattle.cfs_core.specs.May.{may, meets_live, meets_read}
use Rattle.cfs_core.specs.After.{after}
use Rattle.cfs_core.proofs.Legal.{both}
use Rattle.cfs_core.proofs.Order.{same_or_not}
use Rattle.cfs_core_laws.specs.Reached.IsReached.{comes}
use Rattle.cfs_tracker.specs.declared.cell.Cell.{Cell}
use Rattle.cfs_tracker.specs.declared.cell.Cell.TheVariants as kinds
use Rattle.cfs_tracker.specs.declared.doing.Doing.{Doing}
use Rattle.cfs_tracker.specs.declared.doing.Doing.TheVariants as doings
use Rattle.cfs_tracker.specs.declared.pending.Pending.{Pending}
use Rattle.cfs_tracker.specs.declared.reading.Reading.{Reading}
use Rattle.cfs_tracker.specs.declared.step.Step.TheVariants.{NotWaiting, Takes}
use Rattle.cfs_tracker.specs.View.{TrackerView, entry_at, is_read_at, read_at, with_entry}
use Rattle.cfs_tracker.specs.Admit.{is_mapped}
use Rattle.cfs_tracker.specs.Cells.{cell_at}
use Rattle.cfs_tracker.specs.Dispatch.{ahead, are_still, dispatched, first_cell, holder, is_ahead}
use Rattle.cfs_tracker.specs.Dispatch.{is_home, is_kept, is_read_ahead, is_still, is_still_at}
use Rattle.cfs_tracker.specs.Dispatch.{is_waiting_doing, is_wanted_cell, lend, lent_to, lesser}
use Rattle.cfs_tracker.specs.Dispatch.{next_cell, read_place, second_cell, sent, step_at}
use Rattle.cfs_tracker.specs.Dispatch.{step_behind, step_of, step_of_blocks, step_with}
use Rattle.cfs_tracker.specs.Dispatch.{tile_at, tile_in}
use Rattle.cfs_tracker.specs.Follows.{CellStands, Follows, IsDoing, IsTrack, block_of, gate_for, is_dead}
use Rattle.cfs_tracker.specs.Reads.{is_live_doing, place_of}
use Rattle.cfs_tracker.proofs.Admissions.{mapped-less, mapped-tag}
use Rattle.cfs_tracker.proofs.Celling.{cell-beside, cell-here}
use Rattle.cfs_tracker.proofs.Earlier.{before-none, live-entry, not-lent, or-cases, read-entry}
use Rattle.cfs_tracker.proofs.Entries.{at-with, found-not, found-place, found-test, here-with, rise-with}
use Rattle.cfs_tracker.proofs.Putting.{follows-put, read-of, stands-by, track-of}
use Rattle.cfs_tracker.proofs.Readings.{place-none, read-place}
use Rattle.cfs_tracker.proofs.Tagging.{tags-count}
use Rattle.cfs_tracker.proofs.Tracks.{in-log}

-- ---- what the step says

pub record IsTaking {S D B : Type 0} (view : TrackerView S D B) (place : ℕ)
    (first second : Option ℕ) : Type 0 where
  pub entry : Pending S
  pub there : entry_at view.entries place ≡ Some entry
  pub waits : is_waiting_doing entry.doing ≡ true
  pub clear : ahead view entry ≡ None
  pub first_is : first_cell view.cells entry ≡ first
  pub second_is : second_cell view.cells entry.span first ≡ second
  pub first_free : holder view.cells first ≡ None
  pub second_free : holder view.cells second ≡ None

lesser-none : (one other : Option ℕ) → lesser one other ≡ None → (one ≡ None) × (other ≡ None)
lesser-none None other h = (refl, h)
lesser-none (Some one) None h = cc
lesser-none (Some one) (Some other) h = cc

with-takes : (held one two first second : Option ℕ) → step_with held one two ≡ Takes first second →
    (held ≡ None) × (one ≡ first) × (two ≡ second)
with-takes (Some place) one two first second h = cc
with-takes None one two first second h = (refl, cc, cc)

behind-takes : {S D B : Type 0} (view : TrackerView S D B) (entry : Pending S)
    (blocked : Option ℕ) (first second : Option ℕ) →
    step_behind view entry blocked ≡ Takes first second →
    (blocked ≡ None)
    × (step_of_blocks view.cells (first_cell view.cells entry)
    (second_cell view.cells entry.span (first_cell view.cells entry)) ≡ Takes first second)
behind-takes view entry (Some place) first second h = cc
behind-takes view entry None first second h = (refl, h)

of-takes : {S D B : Type 0} (view : TrackerView S D B) (entry : Option (Pending S))
    (first second : Option ℕ) → step_of view entry ≡ Takes first second →
    (e : Pending S) × (entry ≡ Some e) × (is_waiting_doing e.doing ≡ true)
    × (step_behind view e (ahead view e) ≡ Takes first second)
of-takes view None first second h = cc
of-takes view (Some e) first second h = elim (cases_Bool (is_waiting_doing e.doing)) [
  | inl waits ↦
      let it : step_of view (Some e) ≡ step_behind view e (ahead view e) = rw waits refl in
      (e, refl, waits, sym it ∙ h)
  | inr other ↦
      let it : step_of view (Some e) ≡ NotWaiting = rw other refl in
      let clash : NotWaiting ≡ Takes first second = sym it ∙ h in
      cc
]

pub taking : {S D B : Type 0} (view : TrackerView S D B) (place : ℕ) (first second : Option ℕ) →
    step_at view place ≡ Takes first second → IsTaking view place first second
taking view place first second h =
    let of = of-takes view (entry_at view.entries place) first second h in
    let behind = behind-takes view of.0 (ahead view of.0) first second of.3 in
    let one = first_cell view.cells of.0 in
    let two = second_cell view.cells of.0.span one in
    let parts = with-takes (lesser (holder view.cells one) (holder view.cells two)) one two first
    second behind.1 in
    let free = lesser-none (holder view.cells one) (holder view.cells two) parts.0 in
    record {
      entry = of.0;
      there = of.1;
      waits = of.2;
      clear = behind.0;
      first_is = parts.1;
      second_is = ap (second_cell view.cells of.0.span) (sym parts.1) ∙ parts.2;
      first_free = ap (holder view.cells) (sym parts.1) ∙ free.0;
      second_free = ap (holder view.cells) (sym parts.2) ∙ free.1;
    }

-- ---- the blocks are kept here

still-at : {B : Type 0} (cells : List (Cell B)) (block : ℕ) →
    list_all (λ cell. is_still cell) cells ≡ true → is_still (cell_at cells block) ≡ true
still-at [] block h = refl
still-at (cell ∷ cells) zero h = (both (is_still cell) (list_all (λ c. is_still c) cells) h).0
still-at (cell ∷ cells) (suc block) h =
    still-at cells block (both (is_still cell) (list_all (λ c. is_still c) cells) h).1

pub still-held : {B : Type 0} (cells : List (Cell B)) (held : Option ℕ) →
    list_all (λ cell. is_still cell) cells ≡ true → is_still_at cells held ≡ true
still-held cells None h = refl
still-held cells (Some block) h = still-at cells block h

still-of : {B : Type 0} (cells : List (Cell B)) (held : Option ℕ) (block : ℕ) →
    is_still_at cells held ≡ true → held ≡ Some block → is_still (cell_at cells block) ≡ true
still-of cells held block still is = sym (ap (is_still_at cells) is) ∙ still

home-of : {B : Type 0} (cell : Cell B) → is_mapped cell ≡ true → lent_to cell ≡ None →
    is_still cell ≡ true → is_home cell ≡ true
home-of kinds.Hole mapped free still = cc
home-of (kinds.Home home) mapped free still = refl
home-of (kinds.Unsure home) mapped free still = cc
home-of (kinds.Lent place) mapped free still = cc
home-of (kinds.Moving true) mapped free still = cc
home-of (kinds.Moving false) mapped free still = cc

wanted-mapped : {B : Type 0} (cells : List (Cell B)) (span : Span) (done : Option ℕ) (block : ℕ) →
    is_wanted_cell cells span done block ≡ true →
    (is_above done block ≡ true) × (is_mapped (cell_at cells block) ≡ true)
wanted-mapped cells span done block h =
    let one = both (nat_lt block FILE_BLOCKS) (is_above done block
    && (is_mapped (cell_at cells block) && meets span (block_span block))) h in
    let two = both (is_above done block)
    (is_mapped (cell_at cells block) && meets span (block_span block)) one.1 in
    (two.0, (both (is_mapped (cell_at cells block)) (meets span (block_span block)) two.1).0)

next-mapped : {B : Type 0} (cells : List (Cell B)) (span : Span) (done : Option ℕ) (block : ℕ) →
    next_cell cells span done ≡ Some block →
    (is_above done block ≡ true) × (is_mapped (cell_at cells block) ≡ true)
next-mapped cells span done block is =
    wanted-mapped cells span done block
    (found-test (is_wanted_cell cells span done) (range_with_len 0 (length cells)) block is)

first-mapped : {S B : Type 0} (cells : List (Cell B)) (entry : Pending S) (block : ℕ) →
    first_cell cells entry ≡ Some block → is_mapped (cell_at cells block) ≡ true
first-mapped cells entry block is = elim (cases_Bool entry.applied) [
  | inl applied ↦ (let none : first_cell cells entry ≡ None = rw applied refl in cc)
  | inr open_ ↦
      let it : first_cell cells entry ≡ next_cell cells entry.span entry.done = rw open_ refl in
      (next-mapped cells entry.span entry.done block (sym it ∙ is)).1
]

-- it stands behind the first, and is mapped
second-mapped : {B : Type 0} (cells : List (Cell B)) (span : Span) (first : Option ℕ)
    (block : ℕ) → second_cell cells span first ≡ Some block →
    (one : ℕ) × (first ≡ Some one) × (one < block) × (is_mapped (cell_at cells block) ≡ true)
second-mapped cells span None block is = cc
second-mapped cells span (Some one) block is =
    let next = next-mapped cells span (Some one) block is in
    let test : nat_lt one block ≡ true = next.0 in
    (one, refl, grind (arith, nat_tests), next.1)

-- what holds of the two blocks of a job
pub record AreBlocks {S D B : Type 0} (view : TrackerView S D B) (first second : Option ℕ)
    : Type 0 where
  pub first_mapped : (block : ℕ) → first ≡ Some block →
      is_mapped (cell_at view.cells block) ≡ true
  pub second_mapped : (block : ℕ) → second ≡ Some block →
      is_mapped (cell_at view.cells block) ≡ true
  pub apart : (one two : ℕ) → first ≡ Some one → second ≡ Some two → one < two
  pub first_kept : (block : ℕ) → first ≡ Some block → is_home (cell_at view.cells block) ≡ true
  pub second_kept : (block : ℕ) → second ≡ Some block → is_home (cell_at view.cells block) ≡ true

free-at : {B : Type 0} (cells : List (Cell B)) (held : Option ℕ) (block : ℕ) →
    holder cells held ≡ None → held ≡ Some block → lent_to (cell_at cells block) ≡ None
free-at cells held block free is = sym (ap (holder cells) is) ∙ free

pub blocks-of : {S D B : Type 0} (view : TrackerView S D B) (place : ℕ)
    (first second : Option ℕ) → IsTaking view place first second →
    are_still view.cells first second ≡ true → AreBlocks view first second
blocks-of view place first second is still = record {
  first_mapped = one;
  second_mapped = two;
  apart = λ a b first_is second_is.
      let more = second-mapped view.cells is.entry.span first b (is.second_is ∙ second_is) in
      let same : Some a ≡ Some more.0 = sym first_is ∙ more.1 in
      let it : a ≡ more.0 = cc in
      omega (arith, more.2);
  first_kept = λ block own.
      home-of (cell_at view.cells block) (one block own)
      (free-at view.cells first block is.first_free own)
      (still-of view.cells first block parts.0 own);
  second_kept = λ block own.
      home-of (cell_at view.cells block) (two block own)
      (free-at view.cells second block is.second_free own)
      (still-of view.cells second block parts.1 own);
}
  where
    parts : (is_still_at view.cells first ≡ true) × (is_still_at view.cells second ≡ true)
    parts = both (is_still_at view.cells first) (is_still_at view.cells second) still

    one : (block : ℕ) → first ≡ Some block → is_mapped (cell_at view.cells block) ≡ true
    one block own = first-mapped view.cells is.entry block (is.first_is ∙ own)

    two : (block : ℕ) → second ≡ Some block → is_mapped (cell_at view.cells block) ≡ true
    two block own =
        (second-mapped view.cells is.entry.span first block (is.second_is ∙ own)).3

pub kept-by : {B : Type 0} (cells : List (Cell B)) (held : Option ℕ) →
    ((block : ℕ) → held ≡ Some block → is_home (cell_at cells block) ≡ true) →
    is_kept cells held ≡ true
kept-by cells None kept = refl
kept-by cells (Some block) kept = kept block refl

pub first-kept : {S D B : Type 0} (view : TrackerView S D B) (first second : Option ℕ) →
    AreBlocks view first second → is_kept view.cells first ≡ true
first-kept view first second are = kept-by view.cells first are.first_kept

-- ---- a block is lent

pub lend-here : {B : Type 0} (cells : List (Cell B)) (place : ℕ) (held : Option ℕ) (block : ℕ) →
    held ≡ Some block → block < length cells →
    cell_at (lend place held cells) block ≡ kinds.Lent place
lend-here cells place held block is less =
    ap (λ (h : Option ℕ). cell_at (lend place h cells) block) is
    ∙ cell-here cells block (kinds.Lent place) less

pub lend-beside : {B : Type 0} (cells : List (Cell B)) (place : ℕ) (held : Option ℕ)
    (block : ℕ) → (held ≡ Some block → ⊥) →
    cell_at (lend place held cells) block ≡ cell_at cells block
lend-beside cells place None block apart = refl
lend-beside cells place (Some own) block apart =
    cell-beside cells own block (kinds.Lent place) (λ same. apart (ap Some (sym same)))

pub lend-length : {B : Type 0} (cells : List (Cell B)) (place : ℕ) (held : Option ℕ) →
    length (lend place held cells) ≡ length cells
lend-length cells place None = refl
lend-length cells place (Some own) = length-set cells own (kinds.Lent place)

held-or-not : (held : Option ℕ) (block : ℕ) → (held ≡ Some block) ⊎ (held ≡ Some block → ⊥)
held-or-not None block = inr (λ h. cc)
held-or-not (Some own) block = elim (same_or_not own block) [
  | inl same ↦ inl (ap Some same)
  | inr apart ↦ inr (λ h. (let same : own ≡ block = cc in apart same))
]

on-is : (flag : Flag) → is_on flag ≡ true → flag ≡ flags.On
on-is flags.Off h = cc
on-is flags.On h = refl
on-is flags.Unsure h = cc

lend-stands : {B : Type 0} (cells : List (Cell B)) (tags : List Flag) (place : ℕ)
    (held : Option ℕ) → length cells ≡ FILE_BLOCKS →
    ((block : ℕ) → block < FILE_BLOCKS → CellStands (cell_at cells block)
    (get_or tags block flags.Off)) →
    ((block : ℕ) → held ≡ Some block → is_on (get_or tags block flags.Off) ≡ true) →
    (block : ℕ) → block < FILE_BLOCKS →
    CellStands (cell_at (lend place held cells) block) (get_or tags block flags.Off)
lend-stands {B} cells tags place held many stands on block less = elim (held-or-not held block) [
  | inl own ↦
      subst (λ (c : Cell B). CellStands c (get_or tags block flags.Off))
      (sym (lend-here cells place held block own (omega arith)))
      (on-is (get_or tags block flags.Off) (on block own))
  | inr apart ↦
      subst (λ (c : Cell B). CellStands c (get_or tags block flags.Off))
      (sym (lend-beside cells place held block apart)) (stands block less)
]

-- once the first is lent, the second is still kept
pub second-kept : {S D B : Type 0} (view : TrackerView S D B) (place : ℕ)
    (first second : Option ℕ) → AreBlocks view first second →
    is_kept (lend place first view.cells) second ≡ true
second-kept view place first second are =
    kept-by (lend place first view.cells) second (λ block own.
    ap (λ c. is_home c) (lend-beside view.cells place first block
    (λ same. omega (arith, are.apart block block same own)))
    ∙ are.second_kept block own)

pub second-tile : {S D B : Type 0} (view : TrackerView S D B) (place : ℕ)
    (first second : Option ℕ) → AreBlocks view first second →
    tile_at (lend place first view.cells) second ≡ tile_at view.cells second
second-tile view place first None are = refl
second-tile view place first (Some block) are =
    ap (λ c. tile_in block c) (lend-beside view.cells place first block
    (λ same. omega (arith, are.apart block block same refl)))

-- ---- the core takes the same blocks

pub find-alike : (one other : ℕ → Bool) (xs : List ℕ) → ((x : ℕ) → one x ≡ other x) →
    find one xs ≡ find other xs
find-alike one other [] same = refl
find-alike one other (x ∷ xs) same =
    rw (same x) (ap (λ o. cond (other x) (Some x) o) (find-alike one other xs same))

mapped-is : {B : Type 0} (cell : Cell B) (flag : Flag) → CellStands cell flag →
    is_mapped cell ≡ is_on flag
mapped-is kinds.Hole flag is = rw is refl
mapped-is (kinds.Home home) flag is = rw is refl
mapped-is (kinds.Unsure home) flag is = rw is refl
mapped-is (kinds.Lent place) flag is = rw is refl
mapped-is (kinds.Moving true) flag is = rw is refl
mapped-is (kinds.Moving false) flag is = rw is refl

wanted-same : {S D B : Type 0} (view : TrackerView S D B) (core : Core) (t : Track)
    (span : Span) (done : Option ℕ) (block : ℕ) → Follows view core → t.span ≡ span →
    is_wanted core.tags t done block ≡ is_wanted_cell view.cells span done block
wanted-same view core t span done block follows same = elim (cases_Bool (nat_lt block FILE_BLOCKS)) [
  | inl low ↦
      let less : block < FILE_BLOCKS = grind (arith, nat_tests) in
      let tag : is_mapped (cell_at view.cells block) ≡ is_on (get_or core.tags block flags.Off) =
      mapped-is (cell_at view.cells block) (get_or core.tags block flags.Off)
      (follows.cells block less) in
      rw (same, tag) refl
  | inr past ↦ rw past refl
]

pub next-same : {S D B : Type 0} (view : TrackerView S D B) (core : Core) (t : Track)
    (span : Span) (done : Option ℕ) → Follows view core → t.span ≡ span →
    next_block core.tags t done ≡ next_cell view.cells span done
next-same view core t span done follows same =
    let long : length core.tags ≡ length view.cells =
    tags-count view core follows ∙ sym follows.many in
    ap (λ (n : ℕ). find (is_wanted core.tags t done) (range_with_len 0 n)) long
    ∙ find-alike (is_wanted core.tags t done) (is_wanted_cell view.cells span done)
    (range_with_len 0 (length view.cells))
    (λ block. wanted-same view core t span done block follows same)

abbrev pub job_with : Option ℕ → Option ℕ → Job
job_with first second = record { first = lease_of first; second = lease_of second }

from-is : {S D B : Type 0} (view : TrackerView S D B) (core : Core) (t : Track) (span : Span)
    (first : Option ℕ) → Follows view core → t.span ≡ span →
    job_from core.tags t first ≡ job_with first (second_cell view.cells span first)
from-is view core t span None follows same = refl
from-is view core t span (Some block) follows same =
    ap (λ (o : Option ℕ). job_with (Some block) o)
    (next-same view core t span (Some block) follows same)

pub job-is : {S D B : Type 0} (view : TrackerView S D B) (core : Core) (entry : Pending S)
    (t : Track) → Follows view core → IsTrack entry t →
    next_job core.tags t
    ≡ job_with (first_cell view.cells entry)
    (second_cell view.cells entry.span (first_cell view.cells entry))
job-is view core entry t follows is = elim (cases_Bool entry.applied) [
  | inl applied ↦
      let own : t.applied ≡ true = is.applied ∙ applied in
      let none : first_cell view.cells entry ≡ None = rw applied refl in
      rw (own, none) refl
  | inr other ↦
      let own : t.applied ≡ false = is.applied ∙ other in
      let it : next_job core.tags t ≡ job_from core.tags t (next_block core.tags t t.done) =
      rw own refl in
      let first : next_block core.tags t t.done ≡ first_cell view.cells entry =
      ap (λ (d : Option ℕ). next_block core.tags t d) is.done
      ∙ (next-same view core t entry.span entry.done follows is.span
      ∙ (let one : first_cell view.cells entry ≡ next_cell view.cells entry.span entry.done =
      rw other refl in sym one)) in
      it ∙ (ap (λ (o : Option ℕ). job_from core.tags t o) first
      ∙ from-is view core t entry.span (first_cell view.cells entry) follows is.span)
]

block-back : (held : Option ℕ) → block_of (lease_of held) ≡ held
block-back None = refl
block-back (Some block) = refl

lease-held : (held : Option ℕ) (block : ℕ) → is_lease (lease_of held) block ≡ true →
    held ≡ Some block
lease-held None block h = cc
lease-held (Some own) block h = (let same : own ≡ block = grind (arith, nat_tests) in ap Some same)

-- ---- nothing stands in its way

home-apart : {B : Type 0} (cell : Cell B) (place : ℕ) → is_home cell ≡ true →
    cell ≡ kinds.Lent place → ⊥
home-apart cell place home is = (let none : is_home cell ≡ false = rw is refl in cc)

untaken : {S D B : Type 0} (view : TrackerView S D B) (core : Core) (held : Option ℕ) →
    Follows view core →
    ((block : ℕ) → held ≡ Some block → is_home (cell_at view.cells block) ≡ true) →
    is_taken core.tracks (lease_of held) ≡ false
untaken view core None follows kept = refl
untaken view core (Some block) follows kept =
    not-lent core.tracks block (λ q has.
    home-apart (cell_at view.cells block) q (kept block refl) (follows.lent q block has))

no-live : {S D B : Type 0} (view : TrackerView S D B) (core : Core) (place : ℕ) (span : Span) →
    Follows view core → find (is_ahead place span) view.entries ≡ None →
    meets_live core.tracks place span ≡ false
no-live {S} view core place span follows none =
    before-none (λ t. is_live t.state && meets t.span span) core.tracks place (λ q less.
    elim (cases_Bool (is_live (track core.tracks q).state)) [
      | inl live ↦
          let e = live-entry (entry_at view.entries q) (read_at view.reads q)
          (track core.tracks q) (follows.entries q) live in
          let low : e.own.place ≡ q = found-place view.entries q e.own e.there in
          let before : nat_lt e.own.place place ≡ true = grind (arith, nat_tests) in
          let passed = found-not (is_ahead place span) (λ (x : Pending S). x.place == q)
          view.entries e.own none e.there in
          let last = third (nat_lt e.own.place place) (is_live_doing e.own.doing)
          (meets e.own.span span) before e.live passed in
          rw (live, e.is.span) last
      | inr dead ↦ rw dead refl
    ])
  where
    third : (a b c : Bool) → a ≡ true → b ≡ true → (a && (b && c)) ≡ false → c ≡ false
    third true true c one two h = h
    third true false c one two h = cc
    third false b c one two h = cc

no-read-ahead : {S D B : Type 0} (view : TrackerView S D B) (core : Core) (place : ℕ)
    (span : Span) → Follows view core → find (is_read_ahead place span) view.reads ≡ None →
    meets_read core.tracks place span ≡ false
no-read-ahead view core place span follows none =
    before-none (λ t. is_unserved t.state && meets t.span span) core.tracks place (λ q less.
    elim (cases_Bool (is_unserved (track core.tracks q).state)) [
      | inl unserved ↦
          let r = read-entry (entry_at view.entries q) (read_at view.reads q)
          (track core.tracks q) (follows.entries q) unserved in
          let low : r.own.place ≡ q = read-place view.reads q r.own r.there in
          let before : nat_lt r.own.place place ≡ true = grind (arith, nat_tests) in
          let passed = found-not (is_read_ahead place span) (is_read_at q) view.reads r.own none
          r.there in
          let last = second (nat_lt r.own.place place) (meets r.own.span span) before passed in
          rw (unserved, r.span) last
      | inr served ↦ rw served refl
    ])
  where
    second : (a b : Bool) → a ≡ true → (a && b) ≡ false → b ≡ false
    second true b one h = h
    second false b one h = cc

read-none : (read : Option Reading) → read_place read ≡ None → read ≡ None
read-none None h = refl
read-none (Some r) h = cc

waits-in : {S : Type 0} (now : Doing S) (s : State) → is_waiting_doing now ≡ true →
    IsDoing now s → s ≡ states.Waiting
waits-in (doings.Waiting slots) s h is = is
waits-in doings.Marking s h is = cc
waits-in (doings.Out first second) s h is = cc
waits-in (doings.Covered slots) s h is = cc
waits-in doings.Closing s h is = cc

waits-alive : {S : Type 0} (now : Doing S) → is_waiting_doing now ≡ true → is_dead now ≡ false
waits-alive (doings.Waiting slots) h = refl
waits-alive doings.Marking h = cc
waits-alive (doings.Out first second) h = cc
waits-alive (doings.Covered slots) h = cc
waits-alive doings.Closing h = cc

-- ---- it is dispatched

-- an applied entry takes no block
idle-job : {S B : Type 0} (cells : List (Cell B)) (entry : Pending S) (block : ℕ) →
    entry.applied ≡ true →
    has_block (states.Out (job_with (first_cell cells entry)
    (second_cell cells entry.span (first_cell cells entry)))) block ≡ false
idle-job cells entry block applied =
    (let none : first_cell cells entry ≡ None = rw applied refl in rw none refl)

held-by : (first second : Option ℕ) (block : ℕ) →
    has_block (states.Out (job_with first second)) block ≡ true →
    (first ≡ Some block) ⊎ (second ≡ Some block)
held-by first second block has =
    elim (or-cases (is_lease (lease_of first) block) (is_lease (lease_of second) block) has) [
      | inl one ↦ inl (lease-held first block one)
      | inr two ↦ inr (lease-held second block two)
    ]

lent-now : {S D B : Type 0} (view : TrackerView S D B) (place : ℕ) (first second : Option ℕ)
    (block : ℕ) → AreBlocks view first second →
    (first ≡ Some block) ⊎ (second ≡ Some block) →
    cell_at (lend place second (lend place first view.cells)) block ≡ kinds.Lent place
lent-now view place first second block are (inl one) =
    lend-beside (lend place first view.cells) place second block
    (λ two. omega (arith, are.apart block block one two))
    ∙ lend-here view.cells place first block one
    (mapped-less view.cells block (are.first_mapped block one))
lent-now view place first second block are (inr two) =
    lend-here (lend place first view.cells) place second block two
    (omega (
      arith,
      lend-length view.cells place first,
      mapped-less view.cells block (are.second_mapped block two),
    ))

lent-else : {S D B : Type 0} (view : TrackerView S D B) (place q : ℕ) (first second : Option ℕ)
    (block : ℕ) → AreBlocks view first second → cell_at view.cells block ≡ kinds.Lent q →
    cell_at (lend place second (lend place first view.cells)) block ≡ kinds.Lent q
lent-else view place q first second block are is =
    lend-beside (lend place first view.cells) place second block
    (λ two. home-apart (cell_at view.cells block) q (are.second_kept block two) is)
    ∙ (lend-beside view.cells place first block
    (λ one. home-apart (cell_at view.cells block) q (are.first_kept block one) is) ∙ is)

pub follows-dispatched : {S D B : Type 0} (view : TrackerView S D B) (core : Core) (place : ℕ)
    (first second : Option ℕ) → IsTaking view place first second → AreBlocks view first second →
    Follows view core →
    (may core (events.Dispatch place) ≡ true)
    × Follows (dispatched place first second view) (after core (events.Dispatch place))
follows-dispatched {S} {D} {B} view core place first second is are follows =
    let t = track core.tracks place in
    let entry = is.entry in
    let own = track-of view core place entry follows is.there in
    let waits : is_waiting t.state ≡ true =
    ap (λ (s : State). is_waiting s) (waits-in entry.doing t.state is.waits own.doing) in
    let at : entry.place ≡ place = found-place view.entries place entry is.there in
    let clear = lesser-none (place_of (find (is_ahead entry.place entry.span) view.entries))
    (read_place (find (is_read_ahead entry.place entry.span) view.reads)) is.clear in
    let no_entry : find (is_ahead place t.span) view.entries ≡ None =
    rw (own.span, sym at)
    (place-none (find (is_ahead entry.place entry.span) view.entries) clear.0) in
    let no_read : find (is_read_ahead place t.span) view.reads ≡ None =
    rw (own.span, sym at)
    (read-none (find (is_read_ahead entry.place entry.span) view.reads) clear.1) in
    let second_from : second_cell view.cells entry.span (first_cell view.cells entry) ≡ second =
    ap (second_cell view.cells entry.span) is.first_is ∙ is.second_is in
    let job : next_job core.tags t ≡ job_with first second =
    job-is view core entry t follows own
    ∙ (ap (λ (o : Option ℕ). job_with o
    (second_cell view.cells entry.span (first_cell view.cells entry))) is.first_is
    ∙ ap (λ (o : Option ℕ). job_with first o) second_from) in
    let may_be : may core (events.Dispatch place) ≡ true =
    rw (
      follows.up,
      waits,
      no-live view core place t.span follows no_entry,
      no-read-ahead view core place t.span follows no_read,
      job,
      untaken view core first follows are.first_kept,
      untaken view core second follows are.second_kept,
    ) refl in
    let inside = in-log is_waiting refl core.tracks place waits in
    let now : Pending S → Pending S = sent first second in
    let unread : read_at view.reads place ≡ None = read-of view core place entry follows is.there in
    let there : entry_at (with_entry place now view.entries) place ≡ Some (now entry) =
    here-with view.entries place now (λ e. refl) ∙ ap (option_map now) is.there in
    let reached = comes core (events.Dispatch place) follows.reached may_be in (
      may_be,
      follows-put view core place (record t { state = states.Out (next_job core.tags t) })
          (with_entry place now view.entries) view.reads
          (lend place second (lend place first view.cells)) core.size core.sizes view.stored
          view.is_sure
          follows reached follows.size follows.sure
          (record {
            some = inside.0;
            within = inside.1;
            entries_beside = λ q apart. at-with view.entries place q now (λ e. refl) apart;
            reads_beside = λ q apart. refl;
            here = stands-by there unread refl (record {
              grant = own.grant;
              span = own.span;
              applied = own.applied;
              done = own.done;
              doing = record {
                job = next_job core.tags t;
                out = refl;
                first_is = ap (λ (j : Job). block_of j.first) job ∙ block-back first;
                second_is = ap (λ (j : Job). block_of j.second) job ∙ block-back second;
              };
              gate = own.gate
                  ∙ ap (λ (dead : Bool). gate_for dead entry.applied)
                  (waits-alive entry.doing is.waits);
              idle = λ applied block.
                  ap (λ (j : Job). has_block (states.Out j) block) (job-is view core entry t
                  follows own)
                  ∙ idle-job view.cells entry block applied;
            });
            unread = unread;
            rise = rise-with 0 view.entries place now (λ e. refl) follows.rise;
            reads_rise = follows.reads_rise;
            many = lend-length (lend place first view.cells) place second
                ∙ (lend-length view.cells place first ∙ follows.many);
            cells_stand = lend-stands (lend place first view.cells) core.tags place second
                (lend-length view.cells place first ∙ follows.many)
                (lend-stands view.cells core.tags place first follows.many follows.cells
                (λ block own_. mapped-tag view core block follows (are.first_mapped block own_)))
                (λ block own_. mapped-tag view core block follows (are.second_mapped block own_));
            lent = λ block has.
                lent-now view place first second block are
                (held-by first second block
                (subst (λ (j : Job). has_block (states.Out j) block ≡ true) job has));
            lent_beside = λ q block apart has.
                lent-else view place q first second block are (follows.lent q block has);
          }),
    )

-- what `step` said of the two blocks, where neither is in the caller's hands
pub ready-blocks : {S D B : Type 0} (view : TrackerView S D B) (place : ℕ)
    (first second : Option ℕ) → step_at view place ≡ Takes first second →
    are_still view.cells first second ≡ true → AreBlocks view first second
ready-blocks view place first second ready still =
    blocks-of view place first second (taking view place first second ready) still
