-- A write of a job into a block.
use Rattle.std.proofs.Common.{◌≡◌, ◌≢◌, ◌⊎◌, inl, inr, ℕ, ◌+◌, ◌-◌, ◌*◌, ◌/◌, ◌<◌, ◌≤◌, ◌==◌, ◌||◌, ◌&&◌, Bool, true, false, Option, Some, None, List, [], ◌∷◌, ◌++◌, length, get_or, max, nat_le, nat_lt, arith, refl, sym, ap, subst, ◌∙◌}
use Rattle.std.specs.List.{list_any}
use Rattle.std.proofs.lemmas.Bool.{cases_Bool, cases_lt}
use Rattle.std.proofs.lemmas.Bool.Decides.{nat_tests}
use Rattle.std.proofs.lemmas.List.{length-set}
use Rattle.cfs_file.specs.declared.sizes.TheConstants.{BLOCK_LEN, FILE_BLOCKS}
use Rattle.cfs_file.specs.File.{put}
use Rattle.cfs_core.specs.declared.event.Event.TheVariants as events
use Rattle.cfs_core.specs.declared.flag.Flag.TheVariants.{Off}
use Rattle.cfs_core.specs.declared.inode_core.Core.{Core}
use Rattle.cfs_core.specs.declared.stretch.Stretch.{Stretch}
use Rattle.cfs_core.specs.declared.track.Track.{Track}
use Rattle.cfs_core.specs.After.{after, written}
use Rattle.cfs_core.specs.Good.{IsGood}
use Rattle.cfs_core.specs.Jobs.{state_written}
use Rattle.cfs_core.specs.May.{is_in_phase, may_flush, may_write}
use Rattle.cfs_core.specs.Medium.{is_loose}
use Rattle.cfs_core.specs.Words.{end_in, has_block, start_in, track}
use Rattle.cfs_core.proofs.Legal.{both}
use Rattle.cfs_core.proofs.Order.{some_place}
use Rattle.cfs_core.proofs.Registers.{byte_beside, byte_written}
use Rattle.cfs_core.proofs.Sizes.{length-put}
use Rattle.cfs_pmem.proofs.Patches.{patched_above, patched_below, patched_inside}
use Rattle.cfs_pmem.specs.declared.trace.Asked.{Asked}
use Rattle.cfs_pmem.specs.Images.{Seen, patched}
use Rattle.cfs_pmem.specs.Moments.{Moments}
use Rattle.cfs_block.specs.BlockImages.{BlockStep, Content, IsBlockImage, IsRangedFrom, content_of, with_bytes}
use Rattle.cfs_medium.specs.BlockCalls.{DiffersIn, writing}
use Rattle.cfs_medium.specs.BlockEvents.{IsPiece, WritesShow}
use Rattle.cfs_medium.specs.Shows.{BlockFits, BlockShown, HasShape, ReadsAs, Recovers, Shows, is_for}
use Rattle.cfs_medium.specs.Store.{tag_of}
use Rattle.cfs_medium.specs.World.{World}
use Rattle.cfs_medium.specs.WorldCalls.{WorldMoments, with_block}
use Rattle.cfs_medium.proofs.BlockSteps.{blocks-change}
use Rattle.cfs_medium.proofs.QuietEvents.{track-gate, track-known}
use Rattle.cfs_medium.proofs.SlotEvents.{holding-same, within_place}

-- ---- one stretch more

covered : Stretch → ℕ → Bool
covered s position = nat_le s.from position && nat_lt position s.to

loose_more : (loose : List Stretch) (s : Stretch) (position : ℕ) →
    is_loose (loose ++ s ∷ []) position ≡ (is_loose loose position || (nat_le s.from position && nat_lt position s.to))
loose_more [] s position = refl_or (nat_le s.from position && nat_lt position s.to)
  where
    refl_or : (b : Bool) → (b || false) ≡ (false || b)
    refl_or true = refl
    refl_or false = refl
loose_more (first ∷ rest) s position =
    ap (λ (b : Bool). (nat_le first.from position && nat_lt position first.to) || b) (loose_more rest s position)
    ∙ either (nat_le first.from position && nat_lt position first.to) (is_loose rest position) (nat_le s.from position && nat_lt position s.to)
  where
    either : (a b c : Bool) → (a || (b || c)) ≡ ((a || b) || c)
    either true b c = refl
    either false b c = refl

firm_parts : (a b : Bool) → (a || b) ≡ false → (a ≡ false) × (b ≡ false)
firm_parts true b h = absurd (cc)
firm_parts false b h = (refl, h)

loose_parts : (a b : Bool) → (a || b) ≡ true → (a ≡ true) ⊎ (b ≡ true)
loose_parts true b h = inl refl
loose_parts false b h = inr h

-- a position of a stretch, and one that it does not cover
covers_in : (s : Stretch) (position : ℕ) → (nat_le s.from position && nat_lt position s.to) ≡ true → (s.from ≤ position) × (position < s.to)
covers_in s position is =
    let parts = both (nat_le s.from position) (nat_lt position s.to) is in
    (let test = parts.0 in grind (arith, nat_tests), let test = parts.1 in grind (arith, nat_tests))

covers_not : (s : Stretch) (position : ℕ) → (position < s.from) ⊎ (s.to ≤ position) → (nat_le s.from position && nat_lt position s.to) ≡ false
covers_not s position out = elim (cases_Bool (nat_le s.from position && nat_lt position s.to)) [
  | inl inside ↦ let at = covers_in s position inside in absurd (elim out [
    | inl low ↦ omega (arith, low, at.0)
    | inr high ↦ omega (arith, high, at.1)
  ])
  | inr outside ↦ outside
]

not_covered_out : (s : Stretch) (position : ℕ) → (nat_le s.from position && nat_lt position s.to) ≡ false → (position < s.from) ⊎ (s.to ≤ position)
not_covered_out s position is = elim (cases_lt position s.from) [
  | inl low ↦ inl low
  | inr from ↦ elim (cases_lt position s.to) [
    | inl high ↦
        let one : nat_le s.from position ≡ true = grind (arith, nat_tests) in
        let two : nat_lt position s.to ≡ true = grind (arith, nat_tests) in
        absurd (let covers : (nat_le s.from position && nat_lt position s.to) ≡ true = rw (one, two) refl in cc)
    | inr past ↦ inr (omega (arith, past))
  ]
]

-- ---- bytes, in the core and in the block

-- inside the range both have the piece, and beside it both are as before
piece_inside : (bytes piece : List ℕ) (content : List ℕ) (block from k : ℕ) → from + length piece ≤ length content →
    from ≤ k → k < from + length piece →
    get_or (patched content from piece) k 0 ≡ get_or (put bytes (BLOCK_LEN * block + from) piece) (BLOCK_LEN * block + k) 0
piece_inside bytes piece content block from k fits low high =
    let here : from + (k - from) ≡ k = omega arith in
    let shift : BLOCK_LEN * block + k - (BLOCK_LEN * block + from) ≡ k - from = omega arith in
    ap (λ (i : ℕ). get_or (patched content from piece) i 0) (sym here)
    ∙ patched_inside content from piece (k - from) fits (omega arith)
    ∙ ap (λ (i : ℕ). get_or piece i 0) (sym shift)
    ∙ sym (byte_written bytes piece (BLOCK_LEN * block + from) (BLOCK_LEN * block + k) (omega arith) (omega arith))

patched_beside : (content piece : List ℕ) (from k : ℕ) → from + length piece ≤ length content → (k < from) ⊎ (from + length piece ≤ k) →
    get_or (patched content from piece) k 0 ≡ get_or content k 0
patched_beside content piece from k fits (inl low) = patched_below content from piece k fits low
patched_beside content piece from k fits (inr high) = patched_above content from piece k fits high

put_beside : (bytes piece : List ℕ) (block from k : ℕ) → (k < from) ⊎ (from + length piece ≤ k) →
    get_or (put bytes (BLOCK_LEN * block + from) piece) (BLOCK_LEN * block + k) 0 ≡ get_or bytes (BLOCK_LEN * block + k) 0
put_beside bytes piece block from k (inl low) = byte_beside bytes piece (BLOCK_LEN * block + from) (BLOCK_LEN * block + k) (inl (omega arith))
put_beside bytes piece block from k (inr high) = byte_beside bytes piece (BLOCK_LEN * block + from) (BLOCK_LEN * block + k) (inr (omega arith))

side : (from len k : ℕ) → ((k < from) ⊎ (from + len ≤ k)) ⊎ ((from ≤ k) × (k < from + len))
side from len k = elim (cases_lt k from) [
  | inl low ↦ inl (inl low)
  | inr above ↦ elim (cases_lt k (from + len)) [
    | inl high ↦ inr (omega (arith, above), high)
    | inr past ↦ inl (inr (omega (arith, past)))
  ]
]

-- ---- the core behind the write

abbrev written_track : Core → ℕ → ℕ → Bool → Track
written_track core place block ok =
    record (track core.tracks place) { state = state_written block ok (track core.tracks place).state }

abbrev new_stretch : Core → ℕ → ℕ → Stretch
new_stretch core place block = record {
  from = start_in (track core.tracks place).span block;
  to = end_in (track core.tracks place).span block;
}

writes-to : (ino n place block from : ℕ) (ok : Bool) (bytes : List ℕ) (core : Core) (world : World) (seen new : Seen BlockStep)
    (asked_old asked_new : List Asked) →
    IsGood (written core place block bytes ok) → Shows ino core world → may_flush core place block ≡ true →
    length core.log + 2 ≤ n → world.blocks block ≡ Some seen →
    start_in (track core.tracks place).span block ≡ BLOCK_LEN * block + from →
    end_in (track core.tracks place).span block ≡ BLOCK_LEN * block + from + length bytes →
    from + length bytes ≤ BLOCK_LEN → length (content_of seen).bytes ≡ BLOCK_LEN →
    content_of new ≡ with_bytes from bytes (content_of seen) →
    Moments IsBlockImage (IsRangedFrom seen from (length bytes)) asked_old seen asked_new new →
    WorldMoments (Recovers ino n (written core place block bytes ok)) asked_old world asked_new (with_block block (Some new) world)
    × Shows ino (written core place block bytes ok) (with_block block (Some new) world)
writes-to ino n place block from ok bytes core world seen new asked_old asked_new good shows flushes room here starts ends within full is moments =
    blocks-change ino n block (writing from (length bytes)) core now world seen new asked_old asked_new shows here differs good shape room fits reads moments
  where
    now : Core
    now = written core place block bytes ok

    stretch : Stretch
    stretch = new_stretch core place block

    below : block < FILE_BLOCKS
    below = let test : nat_lt block FILE_BLOCKS ≡ true = (both (nat_lt block FILE_BLOCKS) _ flushes).0 in
        grind (arith, nat_tests)

    place_is : (place ≡ 0 → ⊥) × (place ≤ length core.tracks)
    place_is =
        let has : has_block (track core.tracks place).state block ≡ true = (both (nat_lt block FILE_BLOCKS) _ flushes).1 in
        let some : place ≡ 0 → ⊥ = some_place (λ s. has_block s block) refl core.tracks place has in
        (some, within_place (λ s. has_block s block) refl core.tracks place some has)

    old : BlockShown ino block (get_or core.tags block Off) core.loose core.bytes (Some seen)
    old = subst (λ o. BlockShown ino block (get_or core.tags block Off) core.loose core.bytes o) here
        (shows.blocks block below)

    room_in : from + length bytes ≤ length (content_of seen).bytes
    room_in = omega (arith, within, full)

    put_at : (p : ℕ) → get_or now.bytes p 0 ≡ get_or (put core.bytes (BLOCK_LEN * block + from) bytes) p 0
    put_at p = ap (λ (s : ℕ). get_or (put core.bytes s bytes) p 0) starts

    beside_stretch : (position : ℕ) → position / BLOCK_LEN ≢ block → (position < stretch.from) ⊎ (stretch.to ≤ position)
    beside_stretch position other = elim (cases_lt position stretch.from) [
      | inl low ↦ inl low
      | inr above ↦ elim (cases_lt position stretch.to) [
        | inl high ↦ absurd (other (omega (arith, above, high, starts, ends, within)))
        | inr past ↦ inr (omega (arith, past))
      ]
    ]

    beside_piece : (position : ℕ) → (position < stretch.from) ⊎ (stretch.to ≤ position) → (position < BLOCK_LEN * block + from) ⊎ (BLOCK_LEN * block + from + length bytes ≤ position)
    beside_piece position (inl low) = inl (omega (arith, low, starts))
    beside_piece position (inr high) = inr (omega (arith, high, ends))

    differs : DiffersIn block core now
    differs = record {
      size = refl;
      sizes = refl;
      held = λ at. holding-same core now core.doubt at
          (track-known core place at (written_track core place block ok) place_is.0 place_is.1 refl refl refl);
      tags = λ at other. refl;
      loose = λ position other.
          loose_more core.loose stretch position
          ∙ ap (λ (b : Bool). is_loose core.loose position || b) (covers_not stretch position (beside_stretch position other))
          ∙ or_false (is_loose core.loose position);
      bytes = λ position other.
          put_at position ∙ byte_beside core.bytes bytes (BLOCK_LEN * block + from) position (beside_piece position (beside_stretch position other));
    }
      where
        or_false : (b : Bool) → (b || false) ≡ b
        or_false true = refl
        or_false false = refl

    longer : length now.bytes ≡ max (length core.bytes) (BLOCK_LEN * block + from + length bytes)
    longer = ap (λ (s : ℕ). length (put core.bytes s bytes)) starts ∙ length-put core.bytes (BLOCK_LEN * block + from) bytes

    shape : HasShape now
    shape = record {
      tags = shows.shape.tags;
      tracks = length-set core.tracks (place - 1) (written_track core place block ok) ∙ shows.shape.tracks;
      doubt = λ d given.
          let fits = shows.shape.doubt d given in
          record {
            from = fits.from;
            to = fits.to;
            apart = track-gate core place d.entry.place (written_track core place block ok) place_is.0 place_is.1 refl refl refl ∙ fits.apart;
          };
      loose = λ position given.
          elim (loose_parts (is_loose core.loose position) _ (sym (loose_more core.loose stretch position) ∙ given)) [
            | inl before ↦ let low = shows.shape.loose position before in omega (arith, low, longer)
            | inr covers ↦ let at = covers_in stretch position covers in omega (arith, at.1, ends, longer)
          ];
    }

    fits : (content : Content) → IsRangedFrom seen from (length bytes) content →
        BlockFits ino block (get_or core.tags block Off) now.loose now.bytes content
    fits content ranged =
        let first = old.images ranged.first ranged.possible in
        let same : is_for ino block content ≡ is_for ino block ranged.first = ap (λ (t : ℕ). t == tag_of ino block) ranged.within.tag in
        record {
          tag_is = rw same first.tag_is;
          free = λ other. ranged.within.tag ∙ first.free (sym same ∙ other);
          bytes_are = λ set k inside firm.
              let parts = firm_parts (is_loose core.loose (BLOCK_LEN * block + k)) _ (sym (loose_more core.loose stretch (BLOCK_LEN * block + k)) ∙ firm) in
              let out : (k < from) ⊎ (from + length bytes ≤ k) = beside_k k (not_covered_out stretch (BLOCK_LEN * block + k) parts.1) in
              ranged.within.outside k out
              ∙ first.bytes_are (sym same ∙ set) k inside parts.0
              ∙ sym (put_at (BLOCK_LEN * block + k) ∙ put_beside core.bytes bytes block from k out);
        }
      where
        beside_k : (k : ℕ) → (BLOCK_LEN * block + k < stretch.from) ⊎ (stretch.to ≤ BLOCK_LEN * block + k) → (k < from) ⊎ (from + length bytes ≤ k)
        beside_k k (inl low) = inl (omega (arith, low, starts))
        beside_k k (inr high) = inr (omega (arith, high, ends))

    reads : ReadsAs ino block now.bytes (Some new)
    reads set k inside =
        let same : content_of new ≡ with_bytes from bytes (content_of seen) = is in
        let was : is_for ino block (content_of seen) ≡ true = sym (ap (λ (c : Content). is_for ino block c) same) ∙ set in
        ap (λ (c : Content). get_or c.bytes k 0) same
        ∙ elim (side from (length bytes) k) [
          | inl out ↦
              patched_beside (content_of seen).bytes bytes from k room_in out ∙ old.reads was k inside
              ∙ sym (put_beside core.bytes bytes block from k out)
          | inr at ↦ piece_inside core.bytes bytes (content_of seen).bytes block from k room_in at.0 at.1
        ]
        ∙ sym (put_at (BLOCK_LEN * block + k))

-- which core that is
pub writes-show : WritesShow
writes-show ino n place block from None bytes core world seen new asked_old asked_new good shows allowed room here piece full is moments =
    let flushes = (both (is_in_phase core.crashed (events.BlockWrite place block None)) (may_write core place block None) allowed).1 in
    let same : written core place block bytes true ≡ after core (events.BlockWrite place block None) = ap (λ bs. written core place block bs true) piece.is in
    subst (λ now. WorldMoments (Recovers ino n now) asked_old world asked_new (with_block block (Some new) world) × Shows ino now (with_block block (Some new) world)) same
    (writes-to ino n place block from true bytes core world seen new asked_old asked_new
    (subst (λ now. IsGood now) (sym same) good) shows flushes room here piece.starts piece.ends piece.within full is moments)
writes-show ino n place block from (Some left) bytes core world seen new asked_old asked_new good shows allowed room here piece full is moments =
    let case = (both (is_in_phase core.crashed (events.BlockWrite place block (Some left))) (may_write core place block (Some left)) allowed).1 in
    let flushes = (both (may_flush core place block) _ case).0 in
    let same : written core place block bytes false ≡ after core (events.BlockWrite place block (Some left)) = ap (λ bs. written core place block bs false) piece.is in
    subst (λ now. WorldMoments (Recovers ino n now) asked_old world asked_new (with_block block (Some new) world) × Shows ino now (with_block block (Some new) world)) same
    (writes-to ino n place block from false bytes core world seen new asked_old asked_new
    (subst (λ now. IsGood now) (sym same) good) shows flushes room here piece.starts piece.ends piece.within full is moments)
