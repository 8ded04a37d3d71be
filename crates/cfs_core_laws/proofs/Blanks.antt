-- A block that is not tagged in every image is zero.
use Rattle.std.proofs.Common.{◌≡◌, ◌⊎◌, inl, inr, ℕ, suc, zero, ◌+◌, ◌-◌, ◌*◌, ◌/◌, ◌<◌, ◌≤◌, ◌==◌, Bool, true, false, ◌&&◌, not, cond, if◌then◌else◌, Some, None, List, [], ◌∷◌, ◌++◌, filter, length, map, take, drop, get_or, set, max, arith, refl, sym, ap, ◌∙◌, get_or-set_other, nat_lt, nat_le, length-take, length-drop}
use Rattle.std.specs.List.{list_all}
use Rattle.std.proofs.lemmas.Bool.{cases_lt}
use Rattle.std.proofs.lemmas.Bool.Decides.{nat_tests}
use Rattle.std.proofs.lemmas.List.{get_or-drop, get_or-take, get_or_past}
use Rattle.std.proofs.lemmas.List.Folds.{list_any-append}
use Rattle.cfs_file.specs.declared.sizes.TheConstants.{BLOCK_LEN, FILE_BLOCKS}
use Rattle.cfs_file.specs.declared.span.Span.{Span}
use Rattle.cfs_file.specs.declared.span.Span.TheVariants.{Nothing, Range, From}
use Rattle.cfs_file.specs.Span.{Holds, meets}
use Rattle.cfs_file.proofs.Spans.{meets-overlap}
use Rattle.cfs_core.specs.declared.flag.Flag.{Flag}
use Rattle.cfs_core.specs.declared.flag.Flag.TheVariants.{Off, On, Unsure}
use Rattle.cfs_core.specs.declared.stretch.Stretch.{Stretch}
use Rattle.cfs_core.specs.declared.image.Image.{Image}
use Rattle.cfs_core.specs.declared.event.Event.{Event}
use Rattle.cfs_core.specs.declared.event.Event.TheVariants as events
use Rattle.cfs_core.specs.declared.event.End.TheVariants as ends
use Rattle.cfs_core.specs.declared.event.SizeEnd.TheVariants as sizes
use Rattle.cfs_core.specs.declared.inode_core.Core.{Core}
use Rattle.cfs_core.specs.Fresh.{IsFresh, is_sure}
use Rattle.cfs_core.specs.Words.{block_span, end_in, flag_of, has_block, is_lent, is_live, is_off, is_on, payload_at, piece_in, start_in, track}
use Rattle.cfs_core.specs.Medium.{image_now, is_image, is_loose, recovered, rests, rests_as}
use Rattle.cfs_core.specs.May.{case, has_live_in, in_block, is_written, is_zero_block, may, may_flush, may_tag, may_trim}
use Rattle.cfs_core.specs.After.{after, crashed_to, mounted, with_tag, written}
use Rattle.cfs_core.proofs.Apart.{any_none, live_only, not_true}
use Rattle.cfs_core.proofs.Kept.{IsFree, IsKept, at, file_at, is_short}
use Rattle.cfs_core.proofs.KeptRuns.{kept-after}
use Rattle.cfs_core.proofs.Legal.{and_all, at_most, both, neither, or_right, same_number}
use Rattle.cfs_core.proofs.Images.{byte-allowed}
use Rattle.cfs_core.proofs.LoggedCrash.{tag_stays}
use Rattle.cfs_core.proofs.Order.{same_or_not, some_place, track_is, writes}
use Rattle.cfs_core.proofs.Registers.{byte_beside}
use Rattle.cfs_core.proofs.StoredFrames.{in_tracks, no_clash, now_size, or_cases, same_test}
use Rattle.cfs_core.proofs.StoredWrites.{meet_at, piece_fits}
use Rattle.cfs_core_laws.proofs.Along.{case-of}
use Rattle.cfs_core_laws.proofs.Finds.{Wants}
use Rattle.cfs_core_laws.proofs.Untagged.{AreWanted, wanted-after, wanted-fresh}

-- no stretch begins in the block, and its bytes are 0
pub record IsBlank (core : Core) (block : ℕ) : Type 0 where
  pub calm : is_written core.loose block ≡ false
  pub zeros : (p : ℕ) → p / BLOCK_LEN ≡ block → get_or core.bytes p 0 ≡ 0

-- the blocks that are not tagged in every image
abbrev pub AreBlank : Core → Type 0
AreBlank core = (block : ℕ) → is_on (get_or core.tags block Off) ≡ false → IsBlank core block

-- each stretch has a position
abbrev pub is_long : Stretch → Bool
is_long s = nat_lt s.from s.to

pub record AreTidy (core : Core) : Type 0 where
  pub long : list_all is_long core.loose ≡ true
  pub blanks : AreBlank core

-- ---- lists

pub bool-cases : (b : Bool) → (b ≡ true) ⊎ (b ≡ false)
bool-cases true = inl refl
bool-cases false = inr refl

pub list_all-at : (test : ℕ → Bool) (bytes : List ℕ) (i : ℕ) → list_all test bytes ≡ true →
    i < length bytes → test (get_or bytes i 0) ≡ true
list_all-at test [] i h less = absurd (omega arith)
list_all-at test (b ∷ bs) zero h less = (both (test b) (list_all test bs) h).0
list_all-at test (b ∷ bs) (suc i) h less =
    list_all-at test bs i (both (test b) (list_all test bs) h).1 (omega arith)

pub list_all-by : (test : ℕ → Bool) (bytes : List ℕ) →
    ((i : ℕ) → i < length bytes → test (get_or bytes i 0) ≡ true) → list_all test bytes ≡ true
list_all-by test [] h = refl
list_all-by test (b ∷ bs) h = and_all (test b) (list_all test bs) (h 0 (omega arith))
    (list_all-by test bs (λ i less. h (suc i) (omega arith)))

-- a part of zeros
pub part-zero : (bytes : List ℕ) (from n p : ℕ) →
    list_all (λ b. b == 0) (take n (drop from bytes)) ≡ true → from ≤ p → p < from + n →
    get_or bytes p 0 ≡ 0
part-zero bytes from n p h low high = elim (cases_lt p (length bytes)) [
  | inl within ↦
      let i : ℕ = p - from in
      let place : from + i ≡ p = omega arith in
      let inside : i < length (take n (drop from bytes)) =
      omega (arith, length-take n (drop from bytes), length-drop from bytes) in
      let first : get_or (take n (drop from bytes)) i 0 ≡ get_or (drop from bytes) i 0 =
      get_or-take n (drop from bytes) i 0 (omega arith) in
      let then_ : get_or (drop from bytes) i 0 ≡ get_or bytes p 0 = get_or-drop from bytes i 0
      ∙ ap (λ (k : ℕ). get_or bytes k 0) place in
      sym (first ∙ then_) ∙ same_number (get_or (take n (drop from bytes)) i 0) 0
      (list_all-at (λ b. b == 0) (take n (drop from bytes)) i h inside)
  | inr past ↦ get_or_past bytes p 0 past
]

-- and back
pub zero-part : (bytes : List ℕ) (from n : ℕ) →
    ((p : ℕ) → from ≤ p → p < from + n → get_or bytes p 0 ≡ 0) →
    list_all (λ b. b == 0) (take n (drop from bytes)) ≡ true
zero-part bytes from n zeros = list_all-by (λ b. b == 0) (take n (drop from bytes)) each
  where
    each : (i : ℕ) → i < length (take n (drop from bytes)) →
        (get_or (take n (drop from bytes)) i 0 == 0) ≡ true
    each i less =
        let small : i < n = omega (arith, length-take n (drop from bytes)) in
        let first : get_or (take n (drop from bytes)) i 0 ≡ get_or (drop from bytes) i 0 =
        get_or-take n (drop from bytes) i 0 small in
        let then_ : get_or (drop from bytes) i 0 ≡ get_or bytes (from + i) 0 =
        get_or-drop from bytes i 0 in
        same_test (get_or (take n (drop from bytes)) i 0) 0
        (first ∙ (then_ ∙ zeros (from + i) (omega arith) (omega arith)))

-- what is written begins somewhere in the block, and is loose there
pub written-loose : (loose : List Stretch) (block : ℕ) → list_all is_long loose ≡ true →
    is_written loose block ≡ true → (p : ℕ) × ((p / BLOCK_LEN ≡ block) × (is_loose loose p ≡ true))
written-loose [] block long h = cc
written-loose (s ∷ ss) block long h =
    let parts = both (is_long s) (list_all is_long ss) long in
    elim (or_cases (in_block block s) (is_written ss block) h) [
      | inl here ↦ (s.from, (same_number (s.from / BLOCK_LEN) block here, first parts.0))
      | inr rest ↦
          let found = written-loose ss block parts.1 rest in (
            found.0,
            (
              found.1.0,
              or_right (nat_le s.from found.0 && nat_lt found.0 s.to)
                  (is_loose ss found.0) found.1.1,
            ),
          )
    ]
  where
    first : nat_lt s.from s.to ≡ true → is_loose (s ∷ ss) s.from ≡ true
    first more = let self : nat_le s.from s.from ≡ true = grind (arith, nat_tests) in
        rw (self, more) refl

long-filtered : (loose : List Stretch) (test : Stretch → Bool) → list_all is_long loose ≡ true →
    list_all is_long (filter test loose) ≡ true
long-filtered [] test h = h
long-filtered (s ∷ ss) test h =
    let parts = both (is_long s) (list_all is_long ss) h in
    pick (test s) parts.0 (long-filtered ss test parts.1)
  where
    pick : (b : Bool) → is_long s ≡ true → list_all is_long (filter test ss) ≡ true →
        list_all is_long (cond b (s ∷ filter test ss) (filter test ss)) ≡ true
    pick true one rest = and_all (is_long s) (list_all is_long (filter test ss)) one rest
    pick false one rest = rest

long-more : (loose : List Stretch) (s : Stretch) → list_all is_long loose ≡ true →
    is_long s ≡ true → list_all is_long (loose ++ s ∷ []) ≡ true
long-more [] s h one = and_all (is_long s) true one refl
long-more (x ∷ xs) s h one =
    let parts = both (is_long x) (list_all is_long xs) h in
    and_all (is_long x) (list_all is_long (xs ++ s ∷ [])) parts.0 (long-more xs s parts.1 one)

calm-filtered : (loose : List Stretch) (test : Stretch → Bool) (block : ℕ) →
    is_written loose block ≡ false → is_written (filter test loose) block ≡ false
calm-filtered [] test block h = h
calm-filtered (s ∷ ss) test block h =
    let parts = neither (in_block block s) (is_written ss block) h in
    pick (test s) parts.0 (calm-filtered ss test block parts.1)
  where
    pick : (b : Bool) → in_block block s ≡ false → is_written (filter test ss) block ≡ false →
        is_written (cond b (s ∷ filter test ss) (filter test ss)) block ≡ false
    pick true one rest = rw (one, rest) refl
    pick false one rest = rest

-- ---- the part of a span in a block that it meets

pub record IsPart (span : Span) (block : ℕ) : Type 0 where
  pub some : start_in span block < end_in span block
  pub from : start_in span block / BLOCK_LEN ≡ block
  pub low : BLOCK_LEN * block ≤ start_in span block
  pub high : end_in span block ≤ BLOCK_LEN * block + BLOCK_LEN

part-of : (span : Span) (block p : ℕ) → Holds span p → BLOCK_LEN * block ≤ p →
    p < BLOCK_LEN * block + BLOCK_LEN → IsPart span block
part-of Nothing block p holds low high = absurd holds
part-of (Range from to) block p holds low high =
    let start : ℕ = max from (BLOCK_LEN * block) in
    record { some = omega arith; from = omega arith; low = omega arith; high = omega arith }
part-of (From from) block p holds low high =
    record { some = omega arith; from = omega arith; low = omega arith; high = omega arith }

pub is-part : (span : Span) (block : ℕ) → meets span (block_span block) ≡ true → IsPart span block
is-part span block h =
    let shared = (meets-overlap span (block_span block)).0 h in
    part-of span block shared.0 shared.1.0 shared.1.1.0 shared.1.1.1

-- ---- a tag

-- the block whose tag is set, and the others
blank-tag : (core : Core) (block : ℕ) (flag : Flag) → AreBlank core → IsBlank core block →
    AreBlank (with_tag core block flag)
blank-tag core block flag blanks own other off = elim (same_or_not other block) [
  | inl same ↦ rw same (record { calm = own.calm; zeros = own.zeros })
  | inr apart ↦
      let kept : get_or (set core.tags block flag) other Off ≡ get_or core.tags other Off =
      get_or-set_other core.tags block other flag Off apart in
      let was = blanks other (rw kept at off) in
      record { calm = was.calm; zeros = was.zeros }
]

pub tag-blank : (core : Core) (block : ℕ) → may_tag core block ≡ true → IsBlank core block
tag-blank core block h =
    let a = both (nat_lt block FILE_BLOCKS) _ h in
    let b = both (nat_lt block (length core.tags)) _ a.1 in
    let c = both (not (is_on (get_or core.tags block Off))) (is_zero_block core block) b.1 in
    let d = both (not (is_written core.loose block))
    (list_all (λ x. x == 0) (take BLOCK_LEN (drop (BLOCK_LEN * block) core.bytes))) c.1 in
    record {
      calm = not_true (is_written core.loose block) d.0;
      zeros = λ p here. part-zero core.bytes (BLOCK_LEN * block) BLOCK_LEN p d.1 (omega arith)
          (omega arith);
    }

rests-zero : (tag : Flag) (loose : Bool) (stands : ℕ) → is_off tag ≡ false →
    rests_as tag loose stands 0 ≡ true → (loose ≡ false) × (stands ≡ 0)
rests-zero Off loose stands on h = cc
rests-zero On loose stands on h =
    let parts = both (not loose) (stands == 0) h in
    (not_true loose parts.0, same_number stands 0 parts.1)
rests-zero Unsure loose stands on h =
    let parts = both (not loose) ((stands == 0) && true) h in
    (not_true loose parts.0, same_number stands 0 (both (stands == 0) true parts.1).0)

trim-blank : (core : Core) (block : ℕ) → IsKept core → list_all is_long core.loose ≡ true →
    may_trim core block ≡ true → IsBlank core block
trim-blank core block kept long h =
    let a = both (nat_lt block FILE_BLOCKS) _ h in
    let b = both (not (is_off (get_or core.tags block Off))) _ a.1 in
    let c = both (nat_le core.size (BLOCK_LEN * block)) _ b.1 in
    let d = both (not (is_lent core.tracks block)) _ c.1 in
    let e = both (not (has_live_in core.tracks (block_span block))) _ d.1 in
    let on = not_true (is_off (get_or core.tags block Off)) b.0 in
    let none = not_true (has_live_in core.tracks (block_span block)) e.0 in
    record {
      calm = elim (bool-cases (is_written core.loose block)) [
        | inl busy ↦
            let found = written-loose core.loose block long busy in
            absurd (no_clash (is_loose core.loose found.0) found.1.1
            (stands on none (at_most core.size (BLOCK_LEN * block) c.0) found.0 found.1.0).0)
        | inr calm ↦ calm
      ];
      zeros = λ p here. (stands on none (at_most core.size (BLOCK_LEN * block) c.0) p here).1;
    }
  where
    free : has_live_in core.tracks (block_span block) ≡ false → (p : ℕ) → p / BLOCK_LEN ≡ block →
        IsFree core (length core.log) p
    free none p here i less live alters =
        let apart : meets (at core i).span (block_span block) ≡ false =
        live_only (is_live (at core i).state) (meets (at core i).span (block_span block))
        (any_none (λ t. is_live t.state && meets t.span (block_span block)) core.tracks i none
        (in_tracks is_live core.tracks i refl live)) live in
        meet_at (at core i).span (block_span block) p alters.1 (omega arith, omega arith) apart

    stands : is_off (get_or core.tags block Off) ≡ false →
        has_live_in core.tracks (block_span block) ≡ false → core.size ≤ BLOCK_LEN * block →
        (p : ℕ) → p / BLOCK_LEN ≡ block →
        (is_loose core.loose p ≡ false) × (get_or core.bytes p 0 ≡ 0)
    stands on none small p here =
        let byte_is : get_or (file_at core (length core.log)) p 0 ≡ 0 =
        kept.stored_.zero_past (length core.log) core.size p (inl refl) (now_size core)
        (omega arith) (free none p here) in
        let rest : rests core p 0 ≡ true =
        rw byte_is at
        (kept.stored_.rests_free (length core.log) p (inl refl) (free none p here)) in
        let tagged : is_off (get_or core.tags (p / BLOCK_LEN) Off) ≡ false = rw here on in
        rests-zero (get_or core.tags (p / BLOCK_LEN) Off) (is_loose core.loose p)
        (get_or core.bytes p 0) tagged rest

-- ---- a write

-- the block that a job writes into
pub part-at : (core : Core) (place block : ℕ) → AreWanted core →
    has_block (track core.tracks place).state block ≡ true →
    Wants core.tags (track core.tracks place) (track core.tracks place).done block
part-at core place block were h =
    let some = some_place (λ s. has_block s block) refl core.tracks place h in
    let here : track core.tracks place ≡ at core (place - 1) = track_is core.tracks place
    (place - 1) some refl in
    rw here (were (place - 1) block (rw here at h))

tidy-written : (core : Core) (place block : ℕ) (bytes : List ℕ) (ok : Bool) → AreWanted core →
    AreTidy core → has_block (track core.tracks place).state block ≡ true →
    length bytes ≤ end_in (track core.tracks place).span block - start_in
    (track core.tracks place).span block → AreTidy (written core place block bytes ok)
tidy-written core place block bytes ok were tidy h fits =
    let w = part-at core place block were h in
    let part = is-part (track core.tracks place).span block w.meeting in
    record {
      long = long-more core.loose
          (record {
            from = start_in (track core.tracks place).span block;
            to =
                end_in (track core.tracks place).span block;
          }) tidy.long (longer part.some);
      blanks = λ other off.
          let was = tidy.blanks other off in
          let apart : block ≡ other → ⊥ = λ same. let on : is_on (get_or core.tags other Off)
          ≡ true = rw (← same) w.mapped in no_clash _ on off in
          record {
            calm = calm part.from apart was.calm;
            zeros = λ p here. byte_beside core.bytes bytes
                (start_in (track core.tracks place).span block) p (outside part p here apart)
                ∙ was.zeros p here;
          };
    }
  where
    longer : start_in (track core.tracks place).span block < end_in (track core.tracks place).span
        block → nat_lt (start_in (track core.tracks place).span block)
        (end_in (track core.tracks place).span block) ≡ true
    longer less = grind (arith, nat_tests)

    calm : {other : ℕ} → start_in (track core.tracks place).span block / BLOCK_LEN ≡ block →
        (block ≡ other → ⊥) → is_written core.loose other ≡ false →
        is_written
        (core.loose ++ record {
          from = start_in (track core.tracks place).span block;
          to =
              end_in (track core.tracks place).span block;
        } ∷ []) other ≡ false
    calm {other} here apart none =
        let test : (start_in (track core.tracks place).span block / BLOCK_LEN == other) ≡ false =
        rw here (unlike block other apart) in
        list_any-append (λ s. in_block other s) core.loose
        (record {
          from = start_in (track core.tracks place).span block;
          to =
              end_in (track core.tracks place).span block;
        } ∷ [])
        ∙ rw (none, test) refl
      where
        unlike : (a b : ℕ) → (a ≡ b → ⊥) → (a == b) ≡ false
        unlike a b is = grind (arith, nat_tests)

    outside : {other : ℕ} → IsPart (track core.tracks place).span block → (p : ℕ) →
        p / BLOCK_LEN ≡ other → (block ≡ other → ⊥) →
        (p < start_in (track core.tracks place).span block) ⊎
        (start_in (track core.tracks place).span block + length bytes ≤ p)
    outside {other} part p here apart =
        elim (cases_lt p (start_in (track core.tracks place).span block)) [
          | inl before ↦ inl before
          | inr up ↦ elim
              (cases_lt p (start_in (track core.tracks place).span block + length bytes)) [
                | inl within ↦
                    let low : BLOCK_LEN * block ≤ start_in (track core.tracks place).span block =
                    part.low in
                    let high : end_in (track core.tracks place).span block ≤ BLOCK_LEN * block +
                    BLOCK_LEN =
                    part.high in
                    let same : block ≡ p / BLOCK_LEN = omega arith in
                    absurd (apart (same ∙ here))
                | inr past ↦ inr past
              ]
        ]

-- ---- a mount

mount-blank : (core : Core) → IsKept (mounted core (recovered core (image_now core))) →
    AreBlank (mounted core (recovered core (image_now core)))
mount-blank core kept block off = record {
  calm = refl;
  zeros = λ p here.
      let flag : is_on (get_or core.tags (p / BLOCK_LEN) Off) ≡ false = rw here off in
      zero-byte (get_or core.tags (p / BLOCK_LEN) Off) false
      (get_or (recovered core (image_now core)) p 0)
      (get_or (recovered core (image_now core)) p 0) flag
      (kept.stored_.rests_free 0 p (inl refl) (λ i less live alters. absurd (omega arith)));
}
  where
    zero-byte : (tag : Flag) (loose : Bool) (stands byte : ℕ) → is_on tag ≡ false →
        rests_as tag loose stands byte ≡ true → byte ≡ 0
    zero-byte Off loose stands byte none h = same_number byte 0 h
    zero-byte On loose stands byte none h = cc
    zero-byte Unsure loose stands byte none h =
        same_number byte 0
        (both (stands == byte) (byte == 0)
        (both (not loose) ((stands == byte) && (byte == 0)) h).1).1

-- ---- an image

pub loose-is-written : (loose : List Stretch) (p : ℕ) → list_all is_short loose ≡ true →
    is_loose loose p ≡ true → is_written loose (p / BLOCK_LEN) ≡ true
loose-is-written [] p short h = h
loose-is-written (s ∷ ss) p short h =
    let parts = both (is_short s) (list_all is_short ss) short in
    elim (or_cases (nat_le s.from p && nat_lt p s.to) (is_loose ss p) h) [
      | inl inside ↦ rw (here inside parts.0) refl
      | inr rest ↦ or_right (in_block (p / BLOCK_LEN) s) (is_written ss (p / BLOCK_LEN))
          (loose-is-written ss p parts.1 rest)
    ]
  where
    here : (nat_le s.from p && nat_lt p s.to) ≡ true → is_short s ≡ true →
        in_block (p / BLOCK_LEN) s ≡ true
    here inside fits =
        let ends_ = both (nat_le s.from p) (nat_lt p s.to) inside in
        let low : s.from ≤ p = grind (arith, nat_tests) in
        let high : p < s.to = grind (arith, nat_tests) in
        let top : s.to ≤ BLOCK_LEN * (s.from / BLOCK_LEN) + BLOCK_LEN = grind (arith, nat_tests) in
        same_test (s.from / BLOCK_LEN) (p / BLOCK_LEN) (omega arith)

-- in a block that is calm nothing is loose
pub calm-at : (loose : List Stretch) (p : ℕ) → list_all is_short loose ≡ true →
    is_written loose (p / BLOCK_LEN) ≡ false → is_loose loose p ≡ false
calm-at loose p short calm = elim (bool-cases (is_loose loose p)) [
  | inl busy ↦ absurd
      (no_clash (is_written loose (p / BLOCK_LEN)) (loose-is-written loose p short busy) calm)
  | inr none ↦ none
]

-- what an image leaves in a block for which it has no tag
pub left-zero : (core : Core) (image : Image) → IsKept core → AreTidy core →
    is_image core image ≡ true → (block : ℕ) →
    is_on (get_or (map (λ bit. flag_of bit) image.tags) block Off) ≡ false →
    (p : ℕ) → p / BLOCK_LEN ≡ block → get_or image.bytes p 0 ≡ 0
left-zero core image kept tidy h block off p here =
    let own = tidy.blanks block untagged in
    let calm : is_loose core.loose p ≡ false = calm-at core.loose p kept.stored_.short
    (rw here own.calm) in
    byte-allowed core image p h calm ∙ own.zeros p here
  where
    untagged : is_on (get_or core.tags block Off) ≡ false
    untagged = elim (bool-cases (is_on (get_or core.tags block Off))) [
      | inl on ↦ absurd (no_clash (is_on (get_or (map (λ bit. flag_of bit) image.tags) block Off))
          (tag_stays core image block h on) off)
      | inr none ↦ none
    ]

left-blank : (core : Core) (image : Image) → IsKept core → AreTidy core →
    is_image core image ≡ true → (block : ℕ) →
    is_on (get_or (map (λ bit. flag_of bit) image.tags) block Off) ≡ false →
    IsBlank (crashed_to core image) block
left-blank core image kept tidy h block off =
    record { calm = refl; zeros = left-zero core image kept tidy h block off }

-- ---- each event

tidy-beside : (core other : Core) → other.loose ≡ core.loose → other.tags ≡ core.tags →
    other.bytes ≡ core.bytes → AreTidy core → AreTidy other
tidy-beside core other loose tags bytes tidy = record {
  long = rw loose tidy.long;
  blanks = λ block off.
      let was = tidy.blanks block (rw tags at off) in
      record { calm = rw loose was.calm; zeros = λ p here. rw bytes (was.zeros p here) };
}

tidy-after : (core : Core) (event : Event) → IsKept core → AreWanted core → AreTidy core →
    case core event ≡ true → AreTidy (after core event)
tidy-after core (events.Tag block kept) k w tidy h =
    record {
      long = tidy.long;
      blanks = blank-tag core block (if kept then On else Unsure)
          tidy.blanks (tag-blank core block h);
    }
tidy-after core (events.Admit entry grant true) k w tidy h =
    tidy-beside core (after core (events.Admit entry grant true)) refl refl refl tidy
tidy-after core (events.Admit entry grant false) k w tidy h =
    tidy-beside core (after core (events.Admit entry grant false)) refl refl refl tidy
tidy-after core (events.AdmitRead entry) k w tidy h =
    tidy-beside core (after core (events.AdmitRead entry)) refl refl refl tidy
tidy-after core (events.Serve place answer) k w tidy h =
    tidy-beside core (after core (events.Serve place answer)) refl refl refl tidy
tidy-after core (events.Mark place by kept) k w tidy h =
    tidy-beside core (after core (events.Mark place by kept)) refl refl refl tidy
tidy-after core (events.Dispatch place) k w tidy h =
    tidy-beside core (after core (events.Dispatch place)) refl refl refl tidy
tidy-after core (events.BlockWrite place block None) k w tidy h =
    tidy-written core place block
    (piece_in (payload_at core.log place) (track core.tracks place).span block) true w tidy
    (writes core place block None h)
    (piece_fits (payload_at core.log place) (track core.tracks place).span block)
tidy-after core (events.BlockWrite place block (Some left)) k w tidy h =
    let parts = both (may_flush core place block)
    (length left == end_in (track core.tracks place).span block - start_in
    (track core.tracks place).span block) h in
    tidy-written core place block left false w tidy (writes core place block (Some left) h)
    (same_length (length left)
    (end_in (track core.tracks place).span block - start_in (track core.tracks place).span
    block) parts.1)
  where
    same_length : (a b : ℕ) → (a == b) ≡ true → a ≤ b
    same_length a b is = grind (arith, nat_tests)
tidy-after core (events.Flush place block true) k w tidy h = record {
  long = long-filtered core.loose (λ s. not (in_block block s)) tidy.long;
  blanks = λ other off.
      let was = tidy.blanks other off in
      record {
        calm = calm-filtered core.loose (λ s. not (in_block block s)) other was.calm;
        zeros =
            was.zeros;
      };
}
tidy-after core (events.Flush place block false) k w tidy h = tidy
tidy-after core (events.Finish place ends.Retired) k w tidy h =
    tidy-beside core (after core (events.Finish place ends.Retired)) refl refl refl tidy
tidy-after core (events.Finish place ends.More) k w tidy h =
    tidy-beside core (after core (events.Finish place ends.More)) refl refl refl tidy
tidy-after core (events.Finish place (ends.Back sizes.AsBefore gate applied)) k w tidy h =
    tidy-beside core (after core (events.Finish place (ends.Back sizes.AsBefore gate applied))) refl
    refl refl tidy
tidy-after core (events.Finish place (ends.Back sizes.Set gate applied)) k w tidy h =
    tidy-beside core (after core (events.Finish place (ends.Back sizes.Set gate applied))) refl refl
    refl tidy
tidy-after core (events.Finish place (ends.Back sizes.Either gate applied)) k w tidy h =
    tidy-beside core (after core (events.Finish place (ends.Back sizes.Either gate applied))) refl
    refl refl tidy
tidy-after core (events.Skip place) k w tidy h = tidy-beside core (after core (events.Skip place))
    refl refl refl tidy
tidy-after core (events.Trim block kept) k w tidy h =
    record {
      long = tidy.long;
      blanks = blank-tag core block (if kept then Off else Unsure)
          tidy.blanks (trim-blank core block k tidy.long h);
    }
tidy-after core events.Settle k w tidy h = tidy-beside core (after core events.Settle) refl refl
    refl tidy
tidy-after core (events.Crash image) k w tidy h =
    record { long = refl; blanks = λ block off. left-blank core image k tidy h block off }
tidy-after core events.Mount k w tidy h =
    record { long = refl; blanks = mount-blank core (kept-after core events.Mount k h) }

tidy-fresh : (core : Core) → IsFresh core → AreTidy core
tidy-fresh core fresh = record {
  long = rw fresh.loose refl;
  blanks = λ block off. record {
    calm = rw fresh.loose refl;
    zeros = λ p here. fresh.blank p
        (rw here (unsure (get_or core.tags block Off) (sure-at core.tags block fresh.tags) off));
  };
}
  where
    sure-at : (tags : List Flag) (k : ℕ) → list_all is_sure tags ≡ true →
        is_sure (get_or tags k Off) ≡ true
    sure-at [] k h = refl
    sure-at (f ∷ fs) zero h = (both (is_sure f) (list_all is_sure fs) h).0
    sure-at (f ∷ fs) (suc k) h = sure-at fs k (both (is_sure f) (list_all is_sure fs) h).1

    unsure : (f : Flag) → is_sure f ≡ true → is_on f ≡ false → is_off f ≡ true
    unsure Off sure off = refl
    unsure On sure off = cc
    unsure Unsure sure off = cc

-- both: a write lies in a mapped block
abbrev pub AreInBlocks : Core → Type 0
AreInBlocks core = AreWanted core × AreTidy core

pub blocks-after : (core : Core) (event : Event) → IsKept core → AreInBlocks core →
    may core event ≡ true → AreInBlocks (after core event)
blocks-after core event kept both_ h = (
  wanted-after core event kept both_.0 h,
  tidy-after core event kept both_.0 both_.1
      (case-of core event h),
)

pub blocks-fresh : (core : Core) → IsFresh core → AreInBlocks core
blocks-fresh core fresh = (wanted-fresh core fresh, tidy-fresh core fresh)

pub zero-at : (core : Core) → AreTidy core → (block : ℕ) →
    is_on (get_or core.tags block Off) ≡ false → is_zero_block core block ≡ true
zero-at core tidy block off =
    let own = tidy.blanks block off in
    rw own.calm
    (zero-part core.bytes (BLOCK_LEN * block) BLOCK_LEN
    (λ p low high. own.zeros p (omega arith)))

pub tag-may : (core : Core) → IsKept core → AreTidy core → core.crashed ≡ false →
    (block : ℕ) (kept : Bool) → block < FILE_BLOCKS →
    is_on (get_or core.tags block Off) ≡ false → may core (events.Tag block kept) ≡ true
tag-may core kept tidy up block stays less off =
    let zeros = zero-at core tidy block off in
    let file : nat_lt block FILE_BLOCKS ≡ true = below block FILE_BLOCKS less in
    let there : nat_lt block (length core.tags) ≡ true = below block (length core.tags)
    (omega (arith, kept.blocks)) in
    rw (up, file, there, off, zeros) refl
  where
    below : (a b : ℕ) → a < b → nat_lt a b ≡ true
    below a b is = grind (arith, nat_tests)
