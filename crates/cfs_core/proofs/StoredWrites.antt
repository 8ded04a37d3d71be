-- The writes and flushes of a block keep what is stored.
use Rattle.std.proofs.Common.{◌≡◌, ◌⊎◌, inl, inr, ℕ, ◌+◌, ◌-◌, ◌*◌, ◌/◌, ◌<◌, ◌≤◌, ◌==◌, Bool, true, false, ◌&&◌, ◌||◌, not, cond, Option, Some, None, List, [], ◌∷◌, ◌++◌, length, drop, filter, get_or, max, min, arith, refl, length-take, nat_lt, nat_le}
use Rattle.std.specs.List.{list_all}
use Rattle.std.proofs.lemmas.Bool.{cases_lt}
use Rattle.std.proofs.lemmas.Bool.Decides.{nat_tests}
use Rattle.std.proofs.lemmas.List.{length-replicate}
use Rattle.cfs_file.specs.declared.span.Span.{Span}
use Rattle.cfs_file.specs.declared.span.Span.TheVariants.{Nothing, Range, From}
use Rattle.cfs_file.specs.File.{put}
use Rattle.cfs_file.specs.Span.{Holds, meets}
use Rattle.cfs_file.proofs.Spans.{meets-overlap}
use Rattle.cfs_file.specs.declared.sizes.TheConstants.{BLOCK_LEN, FILE_BLOCKS}
use Rattle.cfs_core.specs.declared.flag.Flag.{Flag}
use Rattle.cfs_core.specs.declared.flag.Flag.TheVariants.{Off, On, Unsure}
use Rattle.cfs_core.specs.declared.track.Track.{Track}
use Rattle.cfs_core.specs.declared.stretch.Stretch.{Stretch}
use Rattle.cfs_core.specs.declared.inode_core.Core.{Core}
use Rattle.cfs_core.specs.Words.{end_in, has_block, is_live, is_out, payload_at, piece_in, start_in, track}
use Rattle.cfs_core.specs.Jobs.{state_flushed, state_written}
use Rattle.cfs_core.specs.Medium.{is_loose, rests, rests_as}
use Rattle.cfs_core.specs.May.{in_block, may_flush, may_write}
use Rattle.cfs_core.specs.After.{block_written, flushed, written}
use Rattle.cfs_core.proofs.Alive.{block_lives, flushed_lives, unserved_dead, written_lives}
use Rattle.cfs_core.proofs.Apart.{block_out, is_busy, out_busy}
use Rattle.cfs_core.proofs.Kept.{IsFree, IsKept, IsLive, IsStored, IsView, at, byte_of, file_at, is_short}
use Rattle.cfs_core.proofs.Legal.{both, or_right}
use Rattle.cfs_core.proofs.Order.{some_place, track_is, writes}
use Rattle.cfs_core.proofs.Registers.{byte_beside}
use Rattle.cfs_core.proofs.StoredFrames.{AreQuiet, IsQuiet, at_put, in_tracks, no_clash, quiet_follows, quiet_same, stored-follows}
use Rattle.cfs_core.proofs.StoredQuiet.{quiet_live}

-- ---- stretches

-- with fewer loose positions all that rested rests
pub rests_fewer : (tag : Flag) (loose now : Bool) (stands byte : ℕ) → (now ≡ true → loose ≡ true) →
    rests_as tag loose stands byte ≡ true → rests_as tag now stands byte ≡ true
rests_fewer Off loose now stands byte fewer h = h
rests_fewer On true now stands byte fewer h = cc
rests_fewer On false true stands byte fewer h = let own : false ≡ true = fewer refl in cc
rests_fewer On false false stands byte fewer h = h
rests_fewer Unsure true now stands byte fewer h = cc
rests_fewer Unsure false true stands byte fewer h = let own : false ≡ true = fewer refl in cc
rests_fewer Unsure false false stands byte fewer h = h

or_map : (a b c : Bool) → (b ≡ true → c ≡ true) → (a || b) ≡ true → (a || c) ≡ true
or_map true b c f h = refl
or_map false b c f h = f h

pub loose_filtered : (loose : List Stretch) (test : Stretch → Bool) (p : ℕ) →
    is_loose (filter test loose) p ≡ true → is_loose loose p ≡ true
loose_filtered [] test p h = h
loose_filtered (s ∷ ss) test p h = pick (test s) (loose_filtered ss test p) h
  where
    pick : (b : Bool) → (is_loose (filter test ss) p ≡ true → is_loose ss p ≡ true) →
        is_loose (cond b (s ∷ filter test ss) (filter test ss)) p ≡ true →
        is_loose (s ∷ ss) p ≡ true
    pick true rest is =
        or_map (nat_le s.from p && nat_lt p s.to) (is_loose (filter test ss) p)
        (is_loose ss p) rest is
    pick false rest is = or_right (nat_le s.from p && nat_lt p s.to) (is_loose ss p) (rest is)

short_filtered : (loose : List Stretch) (test : Stretch → Bool) → list_all is_short loose ≡ true →
    list_all is_short (filter test loose) ≡ true
short_filtered [] test h = h
short_filtered (s ∷ ss) test h =
    let parts = both (is_short s) (list_all is_short ss) h in
    pick (test s) parts.0 (short_filtered ss test parts.1)
  where
    pick : (b : Bool) → is_short s ≡ true → list_all is_short (filter test ss) ≡ true →
        list_all is_short (cond b (s ∷ filter test ss) (filter test ss)) ≡ true
    pick true one rest = rw one rest
    pick false one rest = rest

short_more : (loose : List Stretch) (s : Stretch) → list_all is_short loose ≡ true →
    is_short s ≡ true → list_all is_short (loose ++ s ∷ []) ≡ true
short_more [] s h one = rw one refl
short_more (x ∷ xs) s h one =
    let parts = both (is_short x) (list_all is_short xs) h in
    rw parts.0 (short_more xs s parts.1 one)

loose_more : (loose : List Stretch) (s : Stretch) (p : ℕ) →
    ((nat_le s.from p && nat_lt p s.to) ≡ true → ⊥) → is_loose (loose ++ s ∷ []) p ≡ true →
    is_loose loose p ≡ true
loose_more [] s p out h = absurd (out (one (nat_le s.from p && nat_lt p s.to) h))
  where
    one : (b : Bool) → (b || false) ≡ true → b ≡ true
    one true is = refl
    one false is = is
loose_more (x ∷ xs) s p out h =
    or_map (nat_le x.from p && nat_lt p x.to) (is_loose (xs ++ s ∷ []) p) (is_loose xs p)
    (loose_more xs s p out) h

-- ---- the part of a span in a block

ends_short : (from to : ℕ) → to ≤ BLOCK_LEN * (from / BLOCK_LEN) + BLOCK_LEN →
    nat_le to (BLOCK_LEN * (from / BLOCK_LEN) + BLOCK_LEN) ≡ true
ends_short from to h = grind (arith, nat_tests)

short_part : (s : Span) (block : ℕ) →
    is_short (record { from = start_in s block; to = end_in s block }) ≡ true
short_part Nothing block = ends_short (BLOCK_LEN * block) (BLOCK_LEN * block) (omega arith)
short_part (Range from to) block =
    ends_short (max from (BLOCK_LEN * block)) (min to (BLOCK_LEN * block + BLOCK_LEN)) (omega arith)
short_part (From from) block =
    ends_short (max from (BLOCK_LEN * block)) (BLOCK_LEN * block + BLOCK_LEN) (omega arith)

part_holds : (s : Span) (block p : ℕ) → start_in s block ≤ p → p < end_in s block → Holds s p
part_holds Nothing block p low high = absurd (omega arith)
part_holds (Range from to) block p low high = (omega arith, omega arith)
part_holds (From from) block p low high = omega arith

pub piece_fits : (bytes : List ℕ) (s : Span) (block : ℕ) →
    length (piece_in bytes s block) ≤ end_in s block - start_in s block
piece_fits bytes Nothing block = omega arith
piece_fits bytes (Range from to) block =
    omega (
      arith,
      length-take (min to (BLOCK_LEN * block + BLOCK_LEN) - max from
          (BLOCK_LEN * block)) (drop (max from (BLOCK_LEN * block) - from) bytes),
    )
piece_fits bytes (From from) block =
    omega (
      arith,
      length-replicate {A = ℕ}
          (BLOCK_LEN * block + BLOCK_LEN - max from (BLOCK_LEN * block)) 0,
    )

-- ---- what is out

pub meet_at : (a b : Span) (p : ℕ) → Holds a p → Holds b p → meets a b ≡ false → ⊥
meet_at a b p first second none =
    no_clash (meets a b) ((meets-overlap a b).1 (p, (first, second))) none

-- an entry before the view that is live and has a position
pub not_free : (core : Core) → IsKept core → (v p k : ℕ) → IsView core v p → IsFree core v p →
    is_busy (at core k) ≡ true → IsLive core k → Holds (at core k).span p → ⊥
not_free core kept v p k view free busy live holds = elim (cases_lt k v) [
  | inl before ↦ free k before live (kept.logged.live_changes k live, holds)
  | inr from ↦ behind view from
]
  where
    behind : IsView core v p → v ≤ k → ⊥
    behind (inl end) up =
        let less = in_tracks is_live core.tracks k refl live in let same = kept.ordered.same in
        omega arith
    behind (inr read) up = elim (cases_lt v k) [
      | inl less ↦
          meet_at (at core v).span (at core k).span p read.1 holds
          (kept.logged.clear v k less read.0 busy)
      | inr down ↦
          let same : v ≡ k = omega arith in
          let live_v : IsLive core v = rw same live in
          no_clash (is_live (at core v).state) live_v (unserved_dead (at core v).state read.0)
    ]

-- two live entries, one of them out and the other applied, have no position in common
pub not_shared : (core : Core) → IsKept core → (k j p : ℕ) → (k ≡ j → ⊥) →
    is_busy (at core k) ≡ true → IsLive core k → Holds (at core k).span p →
    is_busy (at core j) ≡ true → IsLive core j → Holds (at core j).span p → ⊥
not_shared core kept k j p other busy live holds busy_j live_j holds_j = elim (cases_lt k j) [
  | inl less ↦
      meet_at (at core k).span (at core j).span p holds holds_j (kept.apart k j less live busy_j)
  | inr up ↦ elim (cases_lt j k) [
    | inl more ↦
        meet_at (at core j).span (at core k).span p holds_j holds (kept.apart j k more live_j busy)
    | inr down ↦ other (omega arith)
  ]
]

pub applied_busy : (t : Track) → t.applied ≡ true → is_busy t ≡ true
applied_busy t h = or_right (is_out t.state) t.applied h

-- ---- a write, whole or torn

written_quiet : (core : Core) (place block : ℕ) (bytes : List ℕ) (ok : Bool) →
    has_block (track core.tracks place).state block ≡ true →
    AreQuiet core (written core place block bytes ok)
written_quiet core place block bytes ok h =
    let live = block_lives (track core.tracks place).state block h in
    let t : Track =
    record (track core.tracks place) {
      state = state_written block ok
          (track core.tracks place).state;
    } in
    at_put IsQuiet core.tracks place t
    (some_place (λ s. has_block s block) refl core.tracks place h) quiet_same
    (quiet_live t (track core.tracks place) refl refl
    (written_lives (track core.tracks place).state block ok live) live)

-- what rests at a position that is not written
written_rests : (core : Core) (place block : ℕ) (bytes : List ℕ) (ok : Bool) (p byte : ℕ) →
    length bytes ≤ end_in (track core.tracks place).span block - start_in
    (track core.tracks place).span block →
    (Holds (track core.tracks place).span p → ⊥) → rests core p byte ≡ true →
    rests (written core place block bytes ok) p byte ≡ true
written_rests core place block bytes ok p byte fits out is = elim (cases_lt p from) [
  | inl before ↦ outside (inl before) (λ inside. absurd (omega (arith, (bounds inside).0)))
  | inr up ↦ elim (cases_lt p to) [
    | inl within ↦ absurd (out (part_holds span block p up within))
    | inr past ↦ outside (inr (omega arith)) (λ inside. absurd (omega (arith, (bounds inside).1)))
  ]
]
  where
    span : Span
    span = (track core.tracks place).span

    from : ℕ
    from = start_in (track core.tracks place).span block

    to : ℕ
    to = end_in (track core.tracks place).span block

    bounds : (nat_le from p && nat_lt p to) ≡ true → (from ≤ p) × (p < to)
    bounds inside =
        let parts = both (nat_le from p) (nat_lt p to) inside in
        (grind (arith, nat_tests), grind (arith, nat_tests))

    outside : (p < from) ⊎ (from + length bytes ≤ p) → ((nat_le from p && nat_lt p to) ≡ true → ⊥) →
        rests (written core place block bytes ok) p byte ≡ true
    outside side none =
        let same : get_or (put core.bytes from bytes) p 0 ≡ get_or core.bytes p 0 =
        byte_beside core.bytes bytes from p side in
        rw same (rests_fewer (get_or core.tags (p / BLOCK_LEN) Off) (is_loose core.loose p)
        (is_loose (core.loose ++ record { from = from; to = to } ∷ []) p)
        (get_or core.bytes p 0) byte (loose_more core.loose
        (record { from = from; to = to }) p none) is)

written_stored : (core : Core) (place block : ℕ) (bytes : List ℕ) (ok : Bool) → IsKept core →
    has_block (track core.tracks place).state block ≡ true →
    length bytes ≤ end_in (track core.tracks place).span block - start_in
    (track core.tracks place).span block → IsStored (written core place block bytes ok)
written_stored core place block bytes ok kept h fits =
    stored-follows core new (quiet_follows core new refl refl
    (written_quiet core place block bytes ok h) (record {
      free = λ w p view free is.
          written_rests core place block bytes ok p (get_or (file_at core w) p 0) fits
          (λ holds. not_free core kept w p k view free busy live (rw was at holds)) is;
      sizes = λ s is. is;
      applied = λ j p live_j applied alters is.
          written_rests core place block bytes ok p (byte_of core j p) fits
          (λ holds.
          not_shared core kept k j p (other j applied) busy live (rw was at holds)
          (applied_busy (at core j) applied) live_j alters.1) is;
    }))
    (short_more core.loose (record {
      from = start_in (track core.tracks place).span block;
      to = end_in (track core.tracks place).span block;
    }) kept.stored_.short
    (short_part (track core.tracks place).span block)) kept.stored_
  where
    new : Core
    new = written core place block bytes ok

    k : ℕ
    k = place - 1

    was : track core.tracks place ≡ at core k
    was = track_is core.tracks place (place - 1)
        (some_place (λ s. has_block s block) refl core.tracks place h) refl

    has : has_block (at core k).state block ≡ true
    has = rw was at h

    live : IsLive core k
    live = block_lives (at core k).state block has

    busy : is_busy (at core k) ≡ true
    busy = out_busy (at core k) (block_out (at core k).state block has)

    other : (j : ℕ) → (at core j).applied ≡ true → k ≡ j → ⊥
    other j applied same =
        let own : (at core k).applied ≡ true = rw same applied in
        no_clash (has_block (at core k).state block) has (kept.logged.idle k block own)

pub stored_write : (core : Core) (place block : ℕ) (left : Option (List ℕ)) → IsKept core →
    may_write core place block left ≡ true → IsStored (block_written core place block left)
stored_write core place block None kept h =
    written_stored core place block
    (piece_in (payload_at core.log place) (track core.tracks place).span block) true kept
    (writes core place block None h)
    (piece_fits (payload_at core.log place) (track core.tracks place).span block)
stored_write core place block (Some left) kept h =
    let parts =
    both (may_flush core place block)
    (length left == end_in (track core.tracks place).span block - start_in
    (track core.tracks place).span block) h in
    written_stored core place block left false kept (writes core place block (Some left) h)
    (same_length (length left) (end_in (track core.tracks place).span block - start_in
    (track core.tracks place).span block) parts.1)
  where
    same_length : (a b : ℕ) → (a == b) ≡ true → a ≤ b
    same_length a b is = grind (arith, nat_tests)

-- ---- a flush

pub stored_flush : (core : Core) (place block : ℕ) (ok : Bool) → IsKept core →
    may_flush core place block ≡ true → IsStored (flushed core place block ok)
stored_flush core place block false kept h = kept.stored_
stored_flush core place block true kept h =
    stored-follows core new (quiet_follows core new refl refl
    (at_put IsQuiet core.tracks place t
    (some_place (λ s. has_block s block) refl core.tracks place has) quiet_same
    (quiet_live t (track core.tracks place) refl refl
    (flushed_lives (track core.tracks place).state block live) live))
    (record {
      free = λ w p view free is. still p (get_or (file_at core w) p 0) is;
      sizes = λ s is. is;
      applied = λ j p live_j applied alters is. still p (byte_of core j p) is;
    }))
    (short_filtered core.loose (λ s. not (in_block block s)) kept.stored_.short) kept.stored_
  where
    new : Core
    new = flushed core place block true

    has : has_block (track core.tracks place).state block ≡ true
    has = (both (nat_lt block FILE_BLOCKS) (has_block (track core.tracks place).state block) h).1

    live : is_live (track core.tracks place).state ≡ true
    live = block_lives (track core.tracks place).state block has

    t : Track
    t = record (track core.tracks place) {
      state = state_flushed block
          (track core.tracks place).state;
    }

    still : (p byte : ℕ) → rests core p byte ≡ true →
        rests (flushed core place block true) p byte ≡ true
    still p byte is =
        rests_fewer (get_or core.tags (p / BLOCK_LEN) Off) (is_loose core.loose p)
        (is_loose (filter (λ s. not (in_block block s)) core.loose) p)
        (get_or core.bytes p 0) byte (loose_filtered core.loose (λ s. not (in_block block s)) p) is
