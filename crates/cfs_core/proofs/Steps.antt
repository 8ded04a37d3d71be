-- The steps of jobs stay inside their blocks, so that those of different blocks commute.
use Rattle.std.proofs.Common.{◌≡◌, inl, inr, ℕ, suc, zero, ◌+◌, ◌-◌, ◌*◌, ◌/◌, ◌<◌, ◌≤◌, ◌==◌, Bool, true, false, ◌&&◌, ◌||◌, not, cond, Option, Some, None, List, [], ◌∷◌, ◌++◌, length, filter, get_or, set, nat_le, nat_lt, arith, refl, sym, ap, ◌∙◌}
use Rattle.std.specs.List.{list_all}
use Rattle.std.proofs.lemmas.Bool.{cases_lt, ltb-true}
use Rattle.std.proofs.lemmas.Bool.Decides.{nat_tests}
use Rattle.std.proofs.lemmas.List.{set-get_or, set_comm}
use Rattle.std.proofs.lemmas.List.Folds.{list_any-append}
use Rattle.cfs_file.specs.declared.span.Span.{Span}
use Rattle.cfs_file.specs.declared.span.Span.TheVariants.{Nothing, Range, From}
use Rattle.cfs_file.specs.File.{put}
use Rattle.cfs_file.specs.declared.sizes.TheConstants.{BLOCK_LEN}
use Rattle.cfs_core.specs.declared.state.State.{State}
use Rattle.cfs_core.specs.declared.track.Track.{Track}
use Rattle.cfs_core.specs.declared.stretch.Stretch.{Stretch}
use Rattle.cfs_core.specs.declared.inode_core.Core.{Core}
use Rattle.cfs_core.specs.Words.{blank, end_in, has_block, payload_at, piece_in, start_in, track}
use Rattle.cfs_core.specs.Jobs.{state_flushed, state_written}
use Rattle.cfs_core.specs.Medium.{is_loose}
use Rattle.cfs_core.specs.May.{case, in_block, is_in_phase, may, may_flush}
use Rattle.cfs_core.specs.After.{after}
use Rattle.cfs_core.specs.Steps.{AreAlike, Commute, JobStep, StaysInside, flushes, step_of, writes}
use Rattle.cfs_core.proofs.Kept.{IsKept, is_short}
use Rattle.cfs_core.proofs.KeptRuns.{kept-after}
use Rattle.cfs_core.proofs.Legal.{at_most, both}
use Rattle.cfs_core.proofs.Listing.{other_number}
use Rattle.cfs_core.proofs.Marks.{track_beside}
use Rattle.cfs_core.proofs.Order.{same_or_not, some_place, track_is, writes as write_has}
use Rattle.cfs_core.proofs.Registers.{byte_beside, byte_written, same-bits}
use Rattle.cfs_core.proofs.Sizes.{length-put}
use Rattle.cfs_core.proofs.StoredWrites.{piece_fits}

-- ---- a step, part by part

abbrev state_by : JobStep → ℕ → State → State
state_by (writes None) block s = state_written block true s
state_by (writes (Some left)) block s = state_written block false s
state_by (flushes true) block s = state_flushed block s
state_by (flushes false) block s = s

abbrev tracks_by : JobStep → ℕ → ℕ → List Track → List Track
tracks_by step place block tracks =
    set tracks (place - 1) (record
    (track tracks place) { state = state_by step block (track tracks place).state })

-- the bytes that a write puts
abbrev put_by : JobStep → ℕ → List ℕ → Span → Option (List ℕ)
put_by (writes None) block payload of = Some (piece_in payload of block)
put_by (writes (Some left)) block payload of = Some left
put_by (flushes ok) block payload of = None

abbrev patched : List ℕ → ℕ → Option (List ℕ) → List ℕ
patched bytes from None = bytes
patched bytes from (Some piece) = put bytes from piece

abbrev loose_by : JobStep → ℕ → Span → List Stretch → List Stretch
loose_by (writes left) block of loose =
    loose ++ record { from = start_in of block; to = end_in of block } ∷ []
loose_by (flushes true) block of loose = filter (λ s. not (in_block block s)) loose
loose_by (flushes false) block of loose = loose

abbrev made_by : JobStep → ℕ → ℕ → Core → Core
made_by step place block core = record core {
  tracks = tracks_by step place block core.tracks;
  bytes = patched core.bytes (start_in (track core.tracks place).span block)
      (put_by step block (payload_at core.log place) (track core.tracks place).span);
  loose = loose_by step block (track core.tracks place).span core.loose;
}

abbrev Steps : JobStep → ℕ → ℕ → Core → Type 0
Steps step place block core = case core (step_of place block step) ≡ true

step-has : (step : JobStep) (place block : ℕ) (core : Core) → Steps step place block core →
    has_block (track core.tracks place).state block ≡ true
step-has (writes left) place block core h = write_has core place block left h
step-has (flushes ok) place block core h =
    (both _ (has_block (track core.tracks place).state block) h).1

step-place : (step : JobStep) (place block : ℕ) (core : Core) → Steps step place block core →
    place ≡ 0 → ⊥
step-place step place block core h =
    some_place (λ s. has_block s block) refl core.tracks place (step-has step place block core h)

put_back_same : (tracks : List Track) (place : ℕ) → (place ≡ 0 → ⊥) →
    set tracks (place - 1) (track tracks place) ≡ tracks
put_back_same tracks place some =
    let at = track_is tracks place (place - 1) some refl in
    rw at (set-get_or tracks (place - 1) blank)

step-is : (step : JobStep) (place block : ℕ) (core : Core) → Steps step place block core →
    after core (step_of place block step) ≡ made_by step place block core
step-is (writes None) place block core h = refl
step-is (writes (Some left)) place block core h = refl
step-is (flushes true) place block core h = refl
step-is (flushes false) place block core h =
    let same : set core.tracks (place - 1) (track core.tracks place) ≡ core.tracks =
    put_back_same core.tracks place (step-place (flushes false) place block core h) in
    ap (λ (tracks : List Track). record core { tracks = tracks }) (sym same)

-- ---- positions of a block

-- the part of a span in a block lies in it
in_part : (of : Span) (block p : ℕ) → start_in of block ≤ p → p < end_in of block →
    p / BLOCK_LEN ≡ block
in_part Nothing block p low high = absurd (omega arith)
in_part (Range from to) block p low high = omega arith
in_part (From from) block p low high = omega arith

put_fits : (step : JobStep) (place block : ℕ) (core : Core) → Steps step place block core →
    (piece : List ℕ) →
    put_by step block (payload_at core.log place) (track core.tracks place).span ≡ Some piece →
    length piece ≤ end_in (track core.tracks place).span block - start_in
    (track core.tracks place).span block
put_fits (writes None) place block core h piece is =
    let same : piece_in (payload_at core.log place) (track core.tracks place).span block ≡ piece =
    cc in
    rw (sym same) (piece_fits (payload_at core.log place) (track core.tracks place).span block)
put_fits (writes (Some left)) place block core h piece is =
    let same : left ≡ piece = cc in
    let long =
    (both (may_flush core place block)
    (length left == end_in (track core.tracks place).span block - start_in
    (track core.tracks place).span block) h).1 in
    rw (sym same) (equal (length left)
    (end_in (track core.tracks place).span block - start_in
    (track core.tracks place).span block) long)
  where
    equal : (a b : ℕ) → (a == b) ≡ true → a ≤ b
    equal a b test = grind (arith, nat_tests)
put_fits (flushes ok) place block core h piece is = cc

-- the bytes that are put lie in the block
abbrev IsWithin : ℕ → ℕ → Option (List ℕ) → Type 0
IsWithin block from put_there = (piece : List ℕ) (p : ℕ) → put_there ≡ Some piece → from ≤ p →
    p < from + length piece → p / BLOCK_LEN ≡ block

step-within : (step : JobStep) (place block : ℕ) (core : Core) → Steps step place block core →
    IsWithin block (start_in (track core.tracks place).span block)
    (put_by step block (payload_at core.log place) (track core.tracks place).span)
step-within step place block core h piece p is low high =
    in_part (track core.tracks place).span block p low
    (omega (arith, put_fits step place block core h piece is))

-- ---- bytes

byte_outside : (bytes : List ℕ) (block from : ℕ) (put_there : Option (List ℕ)) (p : ℕ) →
    IsWithin block from put_there → (p / BLOCK_LEN ≡ block → ⊥) →
    get_or (patched bytes from put_there) p 0 ≡ get_or bytes p 0
byte_outside bytes block from None p within out = refl
byte_outside bytes block from (Some piece) p within out = elim (cases_lt p from) [
  | inl before ↦ byte_beside bytes piece from p (inl before)
  | inr up ↦ elim (cases_lt p (from + length piece)) [
    | inl inside ↦ absurd (out (within piece p refl up inside))
    | inr past ↦ byte_beside bytes piece from p (inr past)
  ]
]

-- a byte of the block depends on the byte there alone
byte_inside : (bytes other : List ℕ) (from : ℕ) (put_there : Option (List ℕ)) (p : ℕ) →
    get_or bytes p 0 ≡ get_or other p 0 →
    get_or (patched bytes from put_there) p 0 ≡ get_or (patched other from put_there) p 0
byte_inside bytes other from None p same = same
byte_inside bytes other from (Some piece) p same = elim (cases_lt p from) [
  | inl before ↦
      byte_beside bytes piece from p (inl before)
      ∙ (same ∙ sym (byte_beside other piece from p (inl before)))
  | inr up ↦ elim (cases_lt p (from + length piece)) [
    | inl inside ↦
        byte_written bytes piece from p up inside ∙ sym (byte_written other piece from p up inside)
    | inr past ↦
        byte_beside bytes piece from p (inr past)
        ∙ (same ∙ sym (byte_beside other piece from p (inr past)))
  ]
]

patched_long : (bytes : List ℕ) (from : ℕ) (one : Option (List ℕ)) (to : ℕ)
    (two : Option (List ℕ)) →
    length (patched (patched bytes from one) to two)
    ≡ length (patched (patched bytes to two) from one)
patched_long bytes from None to None = refl
patched_long bytes from None to (Some b) = refl
patched_long bytes from (Some a) to None = refl
patched_long bytes from (Some a) to (Some b) =
    omega (
      arith,
      length-put (put bytes from a) to b,
      length-put bytes from a,
      length-put
          (put bytes to b) from a,
      length-put bytes to b,
    )

patches-commute : (bytes : List ℕ) (first second from to : ℕ) (one two : Option (List ℕ)) →
    (first ≡ second → ⊥) → IsWithin first from one → IsWithin second to two →
    patched (patched bytes from one) to two ≡ patched (patched bytes to two) from one
patches-commute bytes first second from to one two apart within_one within_two =
    same-bits (patched (patched bytes from one) to two)
    (patched (patched bytes to two) from one) byte
    (λ p. ap (λ (n : ℕ). nat_lt p n) (patched_long bytes from one to two))
  where
    byte : (p : ℕ) →
        get_or (patched (patched bytes from one) to two) p 0
        ≡ get_or (patched (patched bytes to two) from one) p 0
    byte p = elim (same_or_not (p / BLOCK_LEN) first) [
      | inl here ↦
          let out : p / BLOCK_LEN ≡ second → ⊥ = λ there. apart (sym here ∙ there) in
          byte_outside (patched bytes from one) second to two p within_two out
          ∙ byte_inside bytes (patched bytes to two) from one p
          (sym (byte_outside bytes second to two p within_two out))
      | inr out ↦
          byte_inside (patched bytes from one) bytes to two p
          (byte_outside bytes first from one p within_one out)
          ∙ sym (byte_outside (patched bytes to two) first from one p within_one out)
    ]

-- ---- loose positions

-- whether a position is loose after a step
abbrev looser : JobStep → ℕ → Span → ℕ → Bool → Bool
looser (writes left) block of p loose =
    loose || (nat_le (start_in of block) p && nat_lt p (end_in of block))
looser (flushes true) block of p loose = loose && not (p / BLOCK_LEN == block)
looser (flushes false) block of p loose = loose

or_nothing : (a b : Bool) → (a || (b || false)) ≡ (a || b)
or_nothing true b = refl
or_nothing false true = refl
or_nothing false false = refl

and_false : (b : Bool) → (b && false) ≡ false
and_false true = refl
and_false false = refl

-- a short stretch has the positions of the block that it begins in
short_in : (s : Stretch) (block p : ℕ) → is_short s ≡ true →
    (nat_le s.from p && nat_lt p s.to) ≡ true →
    (s.from / BLOCK_LEN == block) ≡ (p / BLOCK_LEN == block)
short_in s block p short has =
    let parts = both (nat_le s.from p) (nat_lt p s.to) has in
    let low : s.from ≤ p = at_most s.from p parts.0 in
    let high : p < s.to = ltb-true p s.to parts.1 in
    let ends : s.to ≤ BLOCK_LEN * (s.from / BLOCK_LEN) + BLOCK_LEN =
    at_most s.to (BLOCK_LEN * (s.from / BLOCK_LEN) + BLOCK_LEN) short in
    let same : s.from / BLOCK_LEN ≡ p / BLOCK_LEN = omega arith in
    ap (λ (n : ℕ). n == block) same

loose_flushed : (loose : List Stretch) (block p : ℕ) → list_all is_short loose ≡ true →
    is_loose (filter (λ s. not (in_block block s)) loose) p
    ≡ (is_loose loose p && not (p / BLOCK_LEN == block))
loose_flushed [] block p short = refl
loose_flushed (s ∷ ss) block p short =
    let parts = both (is_short s) (list_all is_short ss) short in
    pick (in_block block s) (nat_le s.from p && nat_lt p s.to) (p / BLOCK_LEN == block)
    (is_loose ss p) (filter (λ x. not (in_block block x)) ss) refl
    (λ has. short_in s block p parts.0 has) (loose_flushed ss block p parts.1)
  where
    pick : (starts has here old : Bool) (rest : List Stretch) →
        (nat_le s.from p && nat_lt p s.to) ≡ has → (has ≡ true → starts ≡ here) →
        is_loose rest p ≡ (old && not here) →
        is_loose (cond (not starts) (s ∷ rest) rest) p ≡ ((has || old) && not here)
    pick starts true here old rest is same now = by starts here (same refl) now
      where
        by : (b h : Bool) → b ≡ h → is_loose rest p ≡ (old && not h) →
            is_loose (cond (not b) (s ∷ rest) rest) p ≡ ((true || old) && not h)
        by true true eq n = n ∙ and_false old
        by true false eq n = cc
        by false true eq n = cc
        by false false eq n = rw is refl
    pick true false here old rest is same now = now
    pick false false here old rest is same now = rw is now

loose-is : (step : JobStep) (block : ℕ) (of : Span) (loose : List Stretch) (p : ℕ) →
    list_all is_short loose ≡ true →
    is_loose (loose_by step block of loose) p ≡ looser step block of p (is_loose loose p)
loose-is (writes left) block of loose p short =
    list_any-append (λ (s : Stretch). nat_le s.from p && nat_lt p s.to) loose
    (record { from = start_in of block; to = end_in of block } ∷ [])
    ∙ or_nothing (is_loose loose p) (nat_le (start_in of block) p && nat_lt p (end_in of block))
loose-is (flushes true) block of loose p short = loose_flushed loose block p short
loose-is (flushes false) block of loose p short = refl

looser_outside : (step : JobStep) (block : ℕ) (of : Span) (p : ℕ) (b : Bool) →
    (p / BLOCK_LEN ≡ block → ⊥) → looser step block of p b ≡ b
looser_outside (writes left) block of p b out =
    by b (nat_le (start_in of block) p) (nat_lt p (end_in of block)) refl refl
  where
    by : (was low high : Bool) → nat_le (start_in of block) p ≡ low →
        nat_lt p (end_in of block) ≡ high → (was || (low && high)) ≡ was
    by true low high first second = refl
    by false true true first second =
        absurd (out (in_part of block p (at_most (start_in of block) p first)
        (ltb-true p (end_in of block) second)))
    by false true false first second = refl
    by false false high first second = refl
looser_outside (flushes true) block of p b out =
    let test : (p / BLOCK_LEN == block) ≡ false = other_number (p / BLOCK_LEN) block out in
    rw test (by b)
  where
    by : (was : Bool) → (was && true) ≡ was
    by true = refl
    by false = refl
looser_outside (flushes false) block of p b out = refl

-- ---- a step stays inside

pub stays-inside : (core : Core) → IsKept core → (place block : ℕ) (step : JobStep) →
    Steps step place block core →
    StaysInside place block core (after core (step_of place block step))
stays-inside core kept place block step h = rw (step-is step place block core h) (record {
  tracks = λ other apart.
      track_beside core.tracks place other _ (step-place step place block core h) apart;
  bytes = λ p out.
      byte_outside core.bytes block (start_in (track core.tracks place).span block)
      (put_by step block (payload_at core.log place) (track core.tracks place).span) p
      (step-within step place block core h) out;
  loose = λ p out.
      loose-is step block (track core.tracks place).span core.loose p kept.stored_.short
      ∙ looser_outside step block (track core.tracks place).span p (is_loose core.loose p) out;
  rest = refl;
})

-- ---- two steps

may_alike : (core other : Core) (place block : ℕ) (step : JobStep) → other.crashed ≡ core.crashed →
    track other.tracks place ≡ track core.tracks place →
    may core (step_of place block step) ≡ true → may other (step_of place block step) ≡ true
may_alike core other place block (writes None) up same h = rw (up, same) h
may_alike core other place block (writes (Some left)) up same h = rw (up, same) h
may_alike core other place block (flushes ok) up same h = rw (up, same) h

-- what may come may come, and its case holds
case_of : (core : Core) (place block : ℕ) (step : JobStep) →
    may core (step_of place block step) ≡ true → Steps step place block core
case_of core place block step h =
    (both (is_in_phase core.crashed (step_of place block step))
    (case core (step_of place block step)) h).1

record Pair (core : Core) (place other block beside : ℕ) (one two : JobStep) : Type 0 where
  kept : IsKept core
  places : place ≡ other → ⊥
  blocks : block ≡ beside → ⊥
  first : may core (step_of place block one) ≡ true
  second : may core (step_of other beside two) ≡ true

turned : (core : Core) (place other block beside : ℕ) (one two : JobStep) →
    Pair core place other block beside one two → Pair core other place beside block two one
turned core place other block beside one two pair = record {
  kept = pair.kept;
  places = λ same. pair.places (sym same);
  blocks = λ same. pair.blocks (sym same);
  first = pair.second;
  second = pair.first;
}

-- the other step finds its track as it was
still_there : (core : Core) (place other block beside : ℕ) (one two : JobStep) →
    Pair core place other block beside one two →
    track (tracks_by one place block core.tracks) other ≡ track core.tracks other
still_there core place other block beside one two pair =
    track_beside core.tracks place other _
    (step-place one place block core (case_of core place block one pair.first))
    (λ same. pair.places (sym same))

then_may : (core : Core) (place other block beside : ℕ) (one two : JobStep) →
    Pair core place other block beside one two →
    may (after core (step_of place block one)) (step_of other beside two) ≡ true
then_may core place other block beside one two pair =
    rw (step-is one place block core (case_of core place block one pair.first))
    (may_alike core (made_by one place block core) other beside two refl
    (still_there core place other block beside one two pair) pair.second)

-- both steps, part by part
abbrev both_by : JobStep → JobStep → ℕ → ℕ → ℕ → ℕ → Core → Core
both_by one two place other block beside core = record core {
  tracks = set (set core.tracks (place - 1)
      (record (track core.tracks place) {
        state = state_by one block
            (track core.tracks place).state;
      }))
      (other - 1) (record (track core.tracks other) {
        state = state_by two beside
            (track core.tracks other).state;
      });
  bytes = patched (patched core.bytes (start_in (track core.tracks place).span block)
      (put_by one block (payload_at core.log place) (track core.tracks place).span))
      (start_in (track core.tracks other).span beside)
      (put_by two beside (payload_at core.log other) (track core.tracks other).span);
  loose = loose_by two beside (track core.tracks other).span
      (loose_by one block (track core.tracks place).span core.loose);
}

both-is : (core : Core) (place other block beside : ℕ) (one two : JobStep) →
    Pair core place other block beside one two →
    after (after core (step_of place block one)) (step_of other beside two)
    ≡ both_by one two place other block beside core
both-is core place other block beside one two pair =
    let first = step-is one place block core (case_of core place block one pair.first) in
    let may_then = then_may core place other block beside one two pair in
    let second =
    step-is two other beside (after core (step_of place block one))
    (case_of (after core (step_of place block one)) other beside two may_then) in
    second ∙ (ap (made_by two other beside) first ∙ ap (λ (t : Track). record core {
      tracks = set (tracks_by one place block core.tracks) (other - 1)
          (record t { state = state_by two beside t.state });
      bytes = patched (patched core.bytes (start_in (track core.tracks place).span block)
          (put_by one block (payload_at core.log place) (track core.tracks place).span))
          (start_in t.span beside) (put_by two beside (payload_at core.log other) t.span);
      loose = loose_by two beside t.span
          (loose_by one block (track core.tracks place).span core.loose);
    }) (still_there core place other block beside one two pair))

-- the stretches after the first step are short
short-then : (core : Core) (place block : ℕ) (one : JobStep) → IsKept core →
    Steps one place block core →
    list_all is_short (loose_by one block (track core.tracks place).span core.loose) ≡ true
short-then core place block one kept h =
    let short : list_all is_short (after core (step_of place block one)).loose ≡ true =
    (kept-after core (step_of place block one) kept h).stored_.short in
    rw (step-is one place block core h) at short

loose-both : (core : Core) (place other block beside : ℕ) (one two : JobStep) →
    Pair core place other block beside one two → (p : ℕ) →
    is_loose (loose_by two beside (track core.tracks other).span
    (loose_by one block (track core.tracks place).span core.loose)) p
    ≡ looser two beside (track core.tracks other).span p
    (looser one block (track core.tracks place).span p (is_loose core.loose p))
loose-both core place other block beside one two pair p =
    loose-is two beside (track core.tracks other).span
    (loose_by one block (track core.tracks place).span core.loose) p
    (short-then core place block one pair.kept (case_of core place block one pair.first))
    ∙ ap (looser two beside (track core.tracks other).span p)
    (loose-is one block (track core.tracks place).span core.loose p pair.kept.stored_.short)

looser-commute : (one two : JobStep) (block beside : ℕ) (of at : Span) (p : ℕ) (b : Bool) →
    (block ≡ beside → ⊥) →
    looser two beside at p (looser one block of p b)
    ≡ looser one block of p (looser two beside at p b)
looser-commute one two block beside of at p b apart = elim (same_or_not (p / BLOCK_LEN) block) [
  | inl here ↦
      let out : p / BLOCK_LEN ≡ beside → ⊥ = λ there. apart (sym here ∙ there) in
      looser_outside two beside at p (looser one block of p b) out
      ∙ ap (looser one block of p) (sym (looser_outside two beside at p b out))
  | inr out ↦
      ap (looser two beside at p) (looser_outside one block of p b out)
      ∙ sym (looser_outside one block of p (looser two beside at p b) out)
]

alike : (core : Core) (place other block beside : ℕ) (one two : JobStep) →
    Pair core place other block beside one two →
    AreAlike (both_by one two place other block beside core)
    (both_by two one other place beside block core)
alike core place other block beside one two pair =
    let tracks =
    set_comm core.tracks (place - 1) (other - 1)
    (record (track core.tracks place) {
      state = state_by one block
          (track core.tracks place).state;
    })
    (record (track core.tracks other) {
      state = state_by two beside
          (track core.tracks other).state;
    }) numbers in
    let bytes =
    patches-commute core.bytes block beside (start_in (track core.tracks place).span block)
    (start_in (track core.tracks other).span beside)
    (put_by one block (payload_at core.log place) (track core.tracks place).span)
    (put_by two beside (payload_at core.log other) (track core.tracks other).span) pair.blocks
    (step-within one place block core first) (step-within two other beside core second) in
    record {
      same = ap (λ (l : List Track).
          record (both_by one two place other block beside core) { tracks = l }) tracks
          ∙ ap (λ (l : List ℕ).
          record (both_by two one other place beside block core) {
            bytes = l;
            loose = (both_by one two place other block beside core).loose;
          }) bytes;
      loose = λ p. loose-both core place other block beside one two pair p
          ∙ (looser-commute one two block beside (track core.tracks place).span
          (track core.tracks other).span p (is_loose core.loose p) pair.blocks
          ∙ sym (loose-both core other place beside block two one
          (turned core place other block beside one two pair) p));
    }
  where
    first : Steps one place block core
    first = case_of core place block one pair.first

    second : Steps two other beside core
    second = case_of core other beside two pair.second

    numbers : place - 1 ≡ other - 1 → ⊥
    numbers same =
        let some : place ≡ 0 → ⊥ = step-place one place block core first in
        let there : other ≡ 0 → ⊥ = step-place two other beside core second in
        pair.places (up place other some there same)
      where
        up : (a b : ℕ) → (a ≡ 0 → ⊥) → (b ≡ 0 → ⊥) → a - 1 ≡ b - 1 → a ≡ b
        up zero b some there same_less = absurd (some refl)
        up (suc a) zero some there same_less = absurd (there refl)
        up (suc a) (suc b) some there same_less = omega arith

pub steps-commute : (core : Core) → IsKept core →
    (place other block beside : ℕ) (one two : JobStep) → (place ≡ other → ⊥) →
    (block ≡ beside → ⊥) →
    may core (step_of place block one) ≡ true → may core (step_of other beside two) ≡ true →
    Commute core (step_of place block one) (step_of other beside two)
steps-commute core kept place other block beside one two places blocks first second =
    let pair : Pair core place other block beside one two =
    record { kept = kept; places = places; blocks = blocks; first = first; second = second } in
    let back : Pair core other place beside block two one =
    turned core place other block beside one two pair in
    record {
      then_second = then_may core place other block beside one two pair;
      then_first = then_may core other place beside block two one back;
      alike = rw (
        both-is core place other block beside one two pair,
        both-is core other place
            beside block two one back,
      ) (alike core place other block beside one two pair);
    }
