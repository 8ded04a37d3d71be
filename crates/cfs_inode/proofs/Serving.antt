-- A read is answered with the stored bytes.
use Rattle.std.proofs.Common.{◌≡◌, ◌∙◌, ◌+◌, ◌-◌, ◌*◌, ◌/◌, ◌%◌, ◌<◌, ◌≤◌, ◌==◌, ◌++◌, ap}
use Rattle.std.proofs.Common.{append-nil, arith, inl, inr, List, [], ◌∷◌, length, get_or, Option}
use Rattle.std.proofs.Common.{None, Some, refl, subst, sym, true, false, Bool, ℕ, zero, suc}
use Rattle.std.proofs.Common.{if◌then◌else◌}
use Rattle.std.specs.Prelude.{is_some, nat_lt}
use Rattle.std.specs.List.{range_with_len}
use Rattle.std.specs.Option.{option_or}
use Rattle.std.proofs.lemmas.Bool.{cases_Bool, cases_lt}
use Rattle.std.proofs.lemmas.Bool.Decides.{nat_tests}
use Rattle.std.proofs.lemmas.List.{get_or_past, length-map}
use Rattle.std.proofs.lemmas.List.FromFn.{get_or-map-range_with_len, length-range_with_len}
use Rattle.cfs_file.specs.declared.sizes.TheConstants.{BLOCK_LEN, FILE_BLOCKS}
use Rattle.cfs_file.specs.declared.span.Span.{Span}
use Rattle.cfs_pmem.specs.declared.trace.Asked.{Asked}
use Rattle.cfs_pmem.specs.Asks.{AsksSome}
use Rattle.cfs_pmem.specs.Images.{Seen, devices_of}
use Rattle.cfs_block.specs.BlockImages.{BlockStep, content_of}
use Rattle.cfs_block.proofs.BlockLemmas.{now_is_image}
use Rattle.cfs_core.specs.declared.event.Event.TheVariants as events
use Rattle.cfs_core.specs.declared.flag.Flag.{Flag}
use Rattle.cfs_core.specs.declared.flag.Flag.TheVariants.{Off, On}
use Rattle.cfs_core.specs.declared.inode_core.Core.{Core}
use Rattle.cfs_core.specs.Medium.{reads}
use Rattle.cfs_core.specs.May.{are_stored, read_alike}
use Rattle.cfs_core.specs.declared.state.State.{State}
use Rattle.cfs_core.specs.declared.state.State.TheVariants as states
use Rattle.cfs_core.specs.Words.{can_be, end_of, is_on, is_out, is_unserved, positions, start_of}
use Rattle.cfs_core.specs.Words.{track}
use Rattle.cfs_core.proofs.Images.{all_in_range}
use Rattle.cfs_core.proofs.Legal.{and_all}
use Rattle.cfs_core.proofs.Marks.{track_beside}
use Rattle.cfs_core.proofs.Order.{same_or_not}
use Rattle.cfs_medium.specs.Shows.{BlockShown, ReadsAs, Recovers, is_for}
use Rattle.cfs_medium.specs.World.{AllRemains, IsImageAt, Remains, World}
use Rattle.cfs_medium.specs.WorldCalls.{WorldMoments}
use Rattle.cfs_medium.specs.WorldCalls.IsWorldCall.{of_block}
use Rattle.cfs_medium.proofs.LiveLeft.{shown-recovers}
use Rattle.cfs_medium.proofs.QuietEvents.{quiet-events-show}
use Rattle.cfs_tracker.specs.declared.cell.Cell.{Cell}
use Rattle.cfs_tracker.specs.declared.cell.Cell.TheVariants as kinds
use Rattle.cfs_tracker.specs.declared.reading.Reading.{Reading}
use Rattle.cfs_tracker.specs.Cells.{cell_at, held_in}
use Rattle.cfs_tracker.specs.Dispatch.{holder, is_still, lent_to}
use Rattle.cfs_tracker.specs.Follows.{CellStands}
use Rattle.cfs_tracker.specs.Reads.{blocker_of, read_ended}
use Rattle.cfs_tracker.specs.View.{read_at}
use Rattle.cfs_tracker.proofs.Readings.{follows-served, read-is}
use Rattle.cfs_tracker.proofs.Tracks.{in-log}
use Rattle.cfs_inode.specs.Makes.{CallMakes}
use Rattle.cfs_inode.specs.Reads.{QuietlyMakes, without_read}
use Rattle.cfs_inode.specs.Serves.{CellsSeen, byte_in, count_of, end_block, first_lender, home_byte}
use Rattle.cfs_inode.specs.Serves.{lender_in, stored_byte, stored_bytes}
use Rattle.cfs_inode.specs.Stands.{IsAtRest, Stands, Together}
use Rattle.cfs_inode.specs.View.{StateView}
use Rattle.cfs_inode.proofs.Composing.{makes-then}
use Rattle.cfs_inode.proofs.Goods.{good}
use Rattle.cfs_inode.proofs.Quiet.{stayed}

-- each block at home has its bytes
abbrev pub AreFull : CellsSeen → Type 0
AreFull cells = (k : ℕ) (seen : Seen BlockStep) → cell_at cells k ≡ kinds.Home seen →
    length (content_of seen).bytes ≡ BLOCK_LEN

-- ---- a block at home has the core's bytes

on-is : (bit : Bool) → can_be On bit ≡ true → bit ≡ true
on-is true h = refl
on-is false h = cc

read-of-shown : (ino k : ℕ) (seen : Seen BlockStep) (core : Core) (here : Option (Seen BlockStep)) →
    here ≡ Some seen → get_or core.tags k Off ≡ On → 0 < length (content_of seen).bytes →
    BlockShown ino k (get_or core.tags k Off) core.loose core.bytes here → (j : ℕ) → j < BLOCK_LEN →
    get_or (content_of seen).bytes j 0 ≡ get_or core.bytes (BLOCK_LEN * k + j) 0
read-of-shown ino k seen core here is on full shown j less =
    let image : IsImageAt here (content_of seen) =
    subst (λ h. IsImageAt h (content_of seen)) (sym is) (now_is_image seen.history full) in
    let own : is_for ino k (content_of seen) ≡ true =
    on-is (is_for ino k (content_of seen))
    (subst (λ tag. can_be tag (is_for ino k (content_of seen)) ≡ true) on
    (shown.images (content_of seen) image).tag_is) in
    let reading : ReadsAs ino k core.bytes (Some seen) =
    subst (λ h. ReadsAs ino k core.bytes h) is shown.reads in
    reading own j less

-- ---- the blocks of the positions

pub or-none : (one other : Option ℕ) → option_or one other ≡ None → (one ≡ None) × (other ≡ None)
or-none None other none = (refl, none)
or-none (Some place) other none = cc

-- none of the blocks is lent
no-lender : (cells : CellsSeen) (a n k : ℕ) → first_lender cells (range_with_len a n) ≡ None →
    a ≤ k → k < a + n → holder cells (Some k) ≡ None
no-lender cells a zero k none low high = absurd (omega arith)
no-lender cells a (suc n) k none low high =
    let both_ = or-none (holder cells (Some a)) (first_lender cells (range_with_len (a + 1) n))
    none in
    elim (same_or_not k a) [
      | inl same ↦ rw same both_.0
      | inr apart ↦ no-lender cells (a + 1) n k both_.1 (omega (arith, apart)) (omega arith)
    ]

none-lent : (cells : CellsSeen) (from to p : ℕ) → lender_in cells from to ≡ None →
    from ≤ p → p < to → is_some (lent_to (cell_at cells (p / BLOCK_LEN))) ≡ false
none-lent cells from to p none low high =
    let some : nat_lt from to ≡ true = grind (arith, nat_tests) in
    let end_is : end_block from to ≡ (to - 1) / BLOCK_LEN + 1 = rw some refl in
    ap (λ (o : Option ℕ). is_some o)
    (no-lender cells (from / BLOCK_LEN) (end_block from to - from / BLOCK_LEN) (p / BLOCK_LEN) none
    (omega (arith, low)) (omega (arith, low, high, end_is)))

-- ---- each byte is the stored one

byte-of : (cells : CellsSeen) (k : ℕ) (cell : Cell (Seen BlockStep)) (core : Core)
    (tag : Flag) (j : ℕ) → CellStands cell tag →
    is_some (lent_to cell) ≡ false → is_still cell ≡ true →
    ((seen : Seen BlockStep) → cell ≡ kinds.Home seen → tag ≡ On →
    get_or (content_of seen).bytes j 0 ≡ get_or core.bytes (BLOCK_LEN * k + j) 0) →
    home_byte cell j ≡ (if is_on tag then get_or core.bytes (BLOCK_LEN * k + j) 0 else 0)
byte-of cells k kinds.Hole core tag j stands free still home = rw stands refl
byte-of cells k (kinds.Home seen) core tag j stands free still home =
    rw stands (home seen refl stands)
byte-of cells k (kinds.Unsure seen) core tag j stands free still home = rw stands refl
byte-of cells k (kinds.Lent place) core tag j stands free still home = cc
byte-of cells k (kinds.Moving true) core tag j stands free still home = cc
byte-of cells k (kinds.Moving false) core tag j stands free still home = rw stands refl

still-is : (ino k : ℕ) (cell : Cell (Seen BlockStep)) → IsAtRest ino k cell → is_still cell ≡ true
still-is ino k kinds.Hole rest = refl
still-is ino k (kinds.Home seen) rest = refl
still-is ino k (kinds.Unsure seen) rest = refl
still-is ino k (kinds.Lent place) rest = refl
still-is ino k (kinds.Moving is_sure) rest = absurd rest

-- no block is in a caller's hands
still-at : (state : StateView) (core : Core) (world : World) (k : ℕ) → Stands state core world →
    is_still (cell_at state.tracker.cells k) ≡ true
still-at state core world k stands = elim (cases_lt k FILE_BLOCKS) [
  | inl less ↦ still-is state.ino k (cell_at state.tracker.cells k) (stands.rest k less)
  | inr past ↦
      let hole : cell_at state.tracker.cells k ≡ kinds.Hole =
      get_or_past state.tracker.cells k kinds.Hole
      (subst (λ n. n ≤ k) (sym stands.follows.many) past) in
      rw hole refl
]

-- the cell of any block stands, past the file too
cell-stands : (state : StateView) (core : Core) (world : World) (k : ℕ) → Stands state core world →
    CellStands (cell_at state.tracker.cells k) (get_or core.tags k Off)
cell-stands state core world k stands = elim (cases_lt k FILE_BLOCKS) [
  | inl less ↦ stands.follows.cells k less
  | inr past ↦
      let hole : cell_at state.tracker.cells k ≡ kinds.Hole =
      get_or_past state.tracker.cells k kinds.Hole
      (subst (λ n. n ≤ k) (sym stands.follows.many) past) in
      let off : get_or core.tags k Off ≡ Off =
      get_or_past core.tags k Off (subst (λ n. n ≤ k) (sym stands.shows.shape.tags) past) in
      rw (hole, off) refl
]

home-byte : (state : StateView) (core : Core) (world : World) (k j : ℕ) →
    Stands state core world → AreFull state.tracker.cells → j < BLOCK_LEN →
    (seen : Seen BlockStep) → cell_at state.tracker.cells k ≡ kinds.Home seen →
    get_or core.tags k Off ≡ On →
    get_or (content_of seen).bytes j 0 ≡ get_or core.bytes (BLOCK_LEN * k + j) 0
home-byte state core world k j stands full less seen is on = elim (cases_lt k FILE_BLOCKS) [
  | inl low ↦
      let held : held_in (cell_at state.tracker.cells k) ≡ Some seen = rw is refl in
      let some : 0 < length (content_of seen).bytes = omega (arith, full k seen is) in
      read-of-shown state.ino k seen core (world.blocks k) (stands.blocks k seen low held) on some
      (stands.shows.blocks k low) j less
  | inr past ↦
      let off : get_or core.tags k Off ≡ Off =
      get_or_past core.tags k Off (subst (λ n. n ≤ k) (sym stands.shows.shape.tags) past) in
      cc
]

byte-at : (state : StateView) (core : Core) (world : World) (p : ℕ) →
    Stands state core world → AreFull state.tracker.cells →
    is_some (lent_to (cell_at state.tracker.cells (p / BLOCK_LEN))) ≡ false →
    stored_byte state p ≡ reads core p
byte-at state core world p stands full free =
    let k = p / BLOCK_LEN in
    let j = p % BLOCK_LEN in
    let here : BLOCK_LEN * k + j ≡ p = omega arith in
    let stored : byte_in state.tracker.cells p
    ≡ (if is_on (get_or core.tags k Off) then get_or core.bytes p 0 else 0) =
    subst (λ q. byte_in state.tracker.cells p
    ≡ (if is_on (get_or core.tags k Off) then get_or core.bytes q 0 else 0)) here
    (byte-of state.tracker.cells k (cell_at state.tracker.cells k) core (get_or core.tags k Off) j
    (cell-stands state core world k stands) free (still-at state core world k stands)
    (home-byte state core world k j stands full (omega arith))) in
    elim (cases_Bool (nat_lt p state.tracker.stored)) [
      | inl low ↦ rw (stands.follows.size, low) stored
      | inr past ↦ rw (stands.follows.size, past) refl
    ]

-- ---- all of them are

pub are-stored : (state : StateView) (core : Core) (world : World) (span : Span) →
    Stands state core world → AreFull state.tracker.cells →
    lender_in state.tracker.cells (start_of span) (end_of span) ≡ None →
    are_stored core span (stored_bytes state span) ≡ true
are-stored state core world span stands full free =
    let from = start_of span in
    let count = count_of span in
    let long : length (stored_bytes state span) ≡ count =
    length-map (positions span) (λ p. stored_byte state p) ∙ length-range_with_len from count in
    let same_long : (length (stored_bytes state span) == end_of span - start_of span) ≡ true =
    grind (arith, nat_tests) in
    let alike : read_alike core span (stored_bytes state span) ≡ true =
    all_in_range (λ p. get_or (stored_bytes state span) (p - from) 0 == reads core p) from count
    (λ p low high.
    let read : get_or (stored_bytes state span) (p - from) 0 ≡ stored_byte state p =
    get_or-map-range_with_len (λ q. stored_byte state q) from count (p - from) p 0 (omega arith)
    (omega arith) in
    let is : stored_byte state p ≡ reads core p =
    byte-at state core world p stands full
    (none-lent state.tracker.cells from (end_of span) p free low (omega (arith, low, high))) in
    let both_ : get_or (stored_bytes state span) (p - from) 0 ≡ reads core p = read ∙ is in
    grind (arith, nat_tests)) in
    and_all (length (stored_bytes state span) == end_of span - start_of span)
    (read_alike core span (stored_bytes state span)) same_long alike

-- ---- a block is read

reads-moment : (k : ℕ) (seen : Seen BlockStep) (asked_old asked_new : List Asked) (world : World)
    (P : Remains → Type 0) → AsksSome (devices_of seen) asked_old asked_new →
    world.blocks k ≡ Some seen → AllRemains world P →
    WorldMoments P asked_old world asked_new world
reads-moment k seen asked_old asked_new world P asks here all = record {
  distinct = tt;
  passed = record { asked = asks.made; world = world } ∷ [];
  ends = refl;
  asked = asks.is ∙ ap (λ made. made ++ asked_old) (sym (append-nil asks.made));
  each = (
    all,
    of_block k seen seen here (inl refl) (record { some = asks.some; own = asks.own })
        (record {
          size = refl;
          slots = λ place. refl;
          here_is = here;
          others = λ other apart. refl;
        }),
    all,
  );
}

pub read-makes : (state : StateView) (k : ℕ) (seen : Seen BlockStep)
    (asked_old asked_new : List Asked) → k < FILE_BLOCKS →
    cell_at state.tracker.cells k ≡ kinds.Home seen →
    AsksSome (devices_of seen) asked_old asked_new → CallMakes [] asked_old state asked_new state
read-makes state k seen asked_old asked_new less is asks = λ jobs core world together.
    let stands = together.stands in
    let held : held_in (cell_at state.tracker.cells k) ≡ Some seen = rw is refl in
    record {
      run = tt;
      world = world;
      moments = λ n bound.
          reads-moment k seen asked_old asked_new world
          (λ remains. Recovers state.ino n core remains) asks
          (stands.blocks k seen less held)
          (shown-recovers state.ino n core world (good core stands.follows.reached) stands.shows
          bound);
      stands = together;
    }

-- calls that make no event, one behind another
pub still-makes : (state : StateView) (asked_old asked_mid asked_new : List Asked) →
    CallMakes [] asked_old state asked_mid state → CallMakes [] asked_mid state asked_new state →
    CallMakes [] asked_old state asked_new state
still-makes state asked_old asked_mid asked_new one two = λ jobs.
    makes-then state.ino (Together state jobs) (Together state jobs) (Together state jobs) [] []
    asked_old asked_mid asked_new (one jobs) (two jobs)

-- ---- and the read is answered

unserved-out : (s : State) → s ≡ states.Unserved → is_out s ≡ true → ⊥
unserved-out s unserved out = (let none : is_out s ≡ false = rw unserved refl in cc)

pub serve-made : (old : StateView) (place : ℕ) (read : Reading) →
    read_at old.tracker.reads place ≡ Some read →
    blocker_of old.tracker.entries (read_at old.tracker.reads place) ≡ None →
    lender_in old.tracker.cells (start_of read.span) (end_of read.span) ≡ None →
    AreFull old.tracker.cells →
    QuietlyMakes (events.Serve place (Some (stored_bytes old read.span)) ∷ []) old
    (without_read place old)
serve-made old place read there ready free full = λ asked jobs core world together.
    let stands = together.stands in
    let bytes = stored_bytes old read.span in
    let is = read-is old.tracker core place read stands.follows there in
    let stored : are_stored core (track core.tracks place).span bytes ≡ true =
    subst (λ s. are_stored core s bytes ≡ true) (sym is.unserved.span)
    (are-stored old core world read.span stands full free) in
    let pending : is_some (read_at old.tracker.reads place) ≡ true = rw there refl in
    let serves = follows-served old.tracker core place bytes pending ready stands.follows stored in
    let unserved : is_unserved (track core.tracks place).state ≡ true = rw is.unserved.state refl in
    let some = (in-log is_unserved refl core.tracks place unserved).0 in
    stayed old (read_ended place old.tracker) (events.Serve place (Some bytes)) asked jobs core
    world
    (record {
      come = serves.0;
      follows = serves.1;
      shows = quiet-events-show old.ino core (events.Serve place (Some bytes)) world stands.shows
          refl serves.0;
      entries = refl;
      cells = refl;
      doubt = refl;
      tracks = λ q out.
          track_beside core.tracks place q
          (record (track core.tracks place) { state = states.Closed }) some
          (λ same. unserved-out (track core.tracks q).state
          (ap (λ p. (track core.tracks p).state) same ∙ is.unserved.state) out);
    }) together

-- the reading steps come first
pub serve-makes : (old : StateView) (place : ℕ) (bytes : List ℕ)
    (asked_old asked_new : List Asked) → CallMakes [] asked_old old asked_new old →
    QuietlyMakes (events.Serve place (Some bytes) ∷ []) old (without_read place old) →
    CallMakes (events.Serve place (Some bytes) ∷ []) asked_old old asked_new
    (without_read place old)
serve-makes old place bytes asked_old asked_new reads served = λ jobs.
    makes-then old.ino (Together old jobs) (Together old jobs)
    (Together (without_read place old) jobs) [] (events.Serve place (Some bytes) ∷ [])
    asked_old asked_new asked_new (reads jobs) (served asked_new jobs)
