-- A block past the stored size is given up.
use Rattle.std.proofs.Common.{◌≡◌, ◌∙◌, ap, arith, ◌*◌, ◌+◌, ◌-◌, ◌<◌, ◌≤◌, ◌&&◌, ◌==◌, get_or}
use Rattle.std.proofs.Common.{length, not, Option, None, Some, refl, set, true, false, ℕ, Bool}
use Rattle.std.proofs.Common.{cond, inl, inr, get_or-set_other}
use Rattle.std.specs.Prelude.{is_none, nat_le, nat_lt}
use Rattle.std.specs.List.{find, list_any, range_with_len}
use Rattle.std.proofs.lemmas.Bool.{cases_Bool}
use Rattle.std.proofs.lemmas.Bool.Decides.{nat_tests}
use Rattle.std.proofs.lemmas.Grind.{get_or-set_at}
use Rattle.cfs_file.specs.declared.sizes.TheConstants.{BLOCK_LEN, FILE_BLOCKS}
use Rattle.cfs_file.specs.declared.span.Span.{Span}
use Rattle.cfs_file.specs.Span.{meets}
use Rattle.cfs_core.specs.declared.doubt.Doubt.{Doubt}
use Rattle.cfs_core.specs.declared.event.Event.TheVariants as events
use Rattle.cfs_core.specs.declared.flag.Flag.{Flag}
use Rattle.cfs_core.specs.declared.flag.Flag.TheVariants as flags
use Rattle.cfs_core.specs.declared.inode_core.Core.{Core}
use Rattle.cfs_core.specs.Words.{block_span, is_lent, is_live, is_off, track}
use Rattle.cfs_core.specs.May.{doubt_meets, has_live_in, may}
use Rattle.cfs_core.specs.After.{after}
use Rattle.cfs_core.proofs.Apart.{not_true}
use Rattle.cfs_core.proofs.Legal.{both}
use Rattle.cfs_core_laws.specs.Reached.IsReached.{comes}
use Rattle.cfs_tracker.specs.declared.cell.Cell.{Cell}
use Rattle.cfs_tracker.specs.declared.cell.Cell.TheVariants as kinds
use Rattle.cfs_tracker.specs.declared.in_doubt.InDoubt.{InDoubt}
use Rattle.cfs_tracker.specs.declared.pending.Pending.{Pending}
use Rattle.cfs_tracker.specs.View.{TrackerView, entry_at, read_at}
use Rattle.cfs_tracker.specs.Cells.{cell_at, with_cell}
use Rattle.cfs_tracker.specs.Follows.{CellStands, DoubtStands, Follows}
use Rattle.cfs_tracker.specs.Reads.{is_live_doing}
use Rattle.cfs_tracker.specs.Trim.{is_doubt_in, is_held, is_live_in, is_moving, is_past, left_cell}
use Rattle.cfs_tracker.specs.Trim.{next_trim}
use Rattle.cfs_tracker.proofs.Celling.{follows-cell, is_lent_cell}
use Rattle.cfs_tracker.proofs.Earlier.{all-none, live-entry, not-lent}
use Rattle.cfs_tracker.proofs.Entries.{found-not, none-any}
use Rattle.cfs_tracker.proofs.Tagging.{tags-count}
use Rattle.cfs_tracker.proofs.Windows.{and-right, find-skip}

moving-tag : {B : Type 0} (cell : Cell B) (flag : Flag) → is_moving cell ≡ true →
    CellStands cell flag → is_off flag ≡ false
moving-tag kinds.Hole flag h is = cc
moving-tag (kinds.Home home) flag h is = cc
moving-tag (kinds.Unsure home) flag h is = cc
moving-tag (kinds.Lent place) flag h is = cc
moving-tag (kinds.Moving true) flag h is = rw is refl
moving-tag (kinds.Moving false) flag h is = rw is refl

moving-free : {B : Type 0} (cell : Cell B) → is_moving cell ≡ true → is_lent_cell cell ≡ false
moving-free kinds.Hole h = cc
moving-free (kinds.Home home) h = cc
moving-free (kinds.Unsure home) h = cc
moving-free (kinds.Lent place) h = cc
moving-free (kinds.Moving is_sure) h = refl

left-stands : {B : Type 0} (left : Option B) →
    CellStands (left_cell left) (cond (is_none left) flags.Off flags.Unsure)
left-stands None = refl
left-stands (Some home) = refl

no-live-in : {S D B : Type 0} (view : TrackerView S D B) (core : Core) (span : Span) →
    Follows view core → list_any (is_live_in span) view.entries ≡ false →
    has_live_in core.tracks span ≡ false
no-live-in {S} view core span follows none =
    all-none (λ t. is_live t.state && meets t.span span) core.tracks (λ q.
    elim (cases_Bool (is_live (track core.tracks q).state)) [
      | inl live ↦
          let e = live-entry (entry_at view.entries q) (read_at view.reads q)
          (track core.tracks q) (follows.entries q) live in
          let passed = found-not (is_live_in span) (λ (x : Pending S). x.place == q) view.entries
          e.own (none-any (is_live_in span) view.entries none) e.there in
          let last = second (is_live_doing e.own.doing) (meets e.own.span span) e.live passed in
          rw (live, e.is.span) last
      | inr dead ↦ rw dead refl
    ])
  where
    second : (a b : Bool) → a ≡ true → (a && b) ≡ false → b ≡ false
    second true b one h = h
    second false b one h = cc

no-doubt-in : {D : Type 0} (span : Span) (mine : Option (InDoubt D)) (doubt : Option Doubt) →
    DoubtStands mine doubt → is_doubt_in span mine ≡ false → doubt_meets doubt span ≡ false
no-doubt-in span None None stands h = refl
no-doubt-in span None (Some doubt) stands h = absurd stands
no-doubt-in span (Some mine) None stands h = absurd stands
no-doubt-in span (Some mine) (Some doubt) stands h = rw stands.span h

pub record IsPast {S D B : Type 0} (view : TrackerView S D B) (block : ℕ) : Type 0 where
  pub low : nat_lt block FILE_BLOCKS ≡ true
  pub size : nat_le view.stored (BLOCK_LEN * block) ≡ true
  pub live : list_any (is_live_in (block_span block)) view.entries ≡ false
  pub doubt : is_doubt_in (block_span block) view.doubt ≡ false

past-parts : {S D B : Type 0} (view : TrackerView S D B) (block : ℕ) →
    is_past view block ≡ true → IsPast view block
past-parts view block h =
    let live = list_any (is_live_in (block_span block)) view.entries in
    let doubt = is_doubt_in (block_span block) view.doubt in
    let one = both (nat_lt block FILE_BLOCKS)
    (nat_le view.stored (BLOCK_LEN * block) && (not live && not doubt)) h in
    let two = both (nat_le view.stored (BLOCK_LEN * block)) (not live && not doubt) one.1 in
    let three = both (not live) (not doubt) two.1 in
    record {
      low = one.0;
      size = two.0;
      live = not_true live three.0;
      doubt = not_true doubt three.1;
    }

-- ---- where the search for one begins

-- a block that begins before the stored size is kept
low-kept : {S D B : Type 0} (view : TrackerView S D B) (block : ℕ) →
    BLOCK_LEN * block < view.stored → is_past view block ≡ false
low-kept view block less =
    let size : nat_le view.stored (BLOCK_LEN * block) ≡ false = grind (arith, nat_tests) in
    two (nat_lt block FILE_BLOCKS) (nat_le view.stored (BLOCK_LEN * block))
    (not (list_any (is_live_in (block_span block)) view.entries)
    && not (is_doubt_in (block_span block) view.doubt)) size
  where
    two : (a b c : Bool) → b ≡ false → (a && (b && c)) ≡ false
    two false b c h = refl
    two true false c h = refl
    two true true c h = cc

-- it is enough to search from a block before which all begin before the stored size
pub trim-from : {S D B : Type 0} (view : TrackerView S D B) (low count : ℕ) →
    count ≡ length view.cells → low ≤ count →
    ((block : ℕ) → block < low → BLOCK_LEN * block < view.stored) →
    next_trim view
    ≡ find (λ block. is_held (cell_at view.cells block) && is_past view block)
    (range_with_len low (count - low))
trim-from view low count many le before =
    let test : ℕ → Bool = λ block. is_held (cell_at view.cells block) && is_past view block in
    let from : 0 + low ≡ low = omega arith in
    rw many
    (find-skip test 0 (length view.cells) low (omega (arith, le, many)) (λ block less.
    and-right (is_held (cell_at view.cells block)) (is_past view block)
    (low-kept view block (before block (omega (arith, less)))))
    ∙ ap (λ (x : ℕ). find test (range_with_len x (length view.cells - low))) from)

-- ---- it is given up

pub follows-trimmed : {S D B : Type 0} (view : TrackerView S D B) (core : Core) (block : ℕ)
    (left : Option B) → is_past view block ≡ true → is_moving (cell_at view.cells block) ≡ true →
    Follows view core →
    (may core (events.Trim block (is_none left)) ≡ true)
    × Follows (with_cell block (left_cell left) view)
    (after core (events.Trim block (is_none left)))
follows-trimmed view core block left past moves follows =
    let is = past-parts view block past in
    let less : block < FILE_BLOCKS = (let low = is.low in grind (arith, nat_tests)) in
    let tag = moving-tag (cell_at view.cells block) (get_or core.tags block flags.Off) moves
    (follows.cells block less) in
    let size : nat_le core.size (BLOCK_LEN * block) ≡ true = rw follows.size is.size in
    let free : is_lent core.tracks block ≡ false =
    not-lent core.tracks block (λ q has.
    (let lent = follows.lent q block has in
    let none : is_moving (cell_at view.cells block) ≡ false = rw lent refl in cc)) in
    let live = no-live-in view core (block_span block) follows is.live in
    let doubt = no-doubt-in (block_span block) view.doubt core.doubt follows.doubt is.doubt in
    let may_be : may core (events.Trim block (is_none left)) ≡ true =
    rw (follows.up, is.low, tag, size, free, live, doubt) refl in
    let flag : Flag = cond (is_none left) flags.Off flags.Unsure in
    let now : get_or (set core.tags block flag) block flags.Off ≡ flag =
    get_or-set_at core.tags block block flag flags.Off refl
    (omega (arith, tags-count view core follows)) in (
      may_be,
      follows-cell view core block (left_cell left) (set core.tags block flag) follows
          (comes core (events.Trim block (is_none left)) follows.reached may_be) less
          (moving-free (cell_at view.cells block) moves)
          (λ other apart. get_or-set_other core.tags block other flag flags.Off apart)
          (rw now (left-stands left)),
    )
