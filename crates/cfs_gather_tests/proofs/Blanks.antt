-- Regions of zeros with the device numbers of a store: a checkpoint before a journal.
use Rattle.std.proofs.Common.{ℕ, zero, suc, ◌+◌, ◌<◌, ◌≡◌, ◌∙◌, List, [], ◌∷◌, ◌++◌, length}
use Rattle.std.proofs.Common.{map, replicate, inl, inr, refl, sym, ap, subst, arith}
use Rattle.std.proofs.lemmas.List.FromFn.{get_or-map-range_with_len, length-map-range_with_len}
use Rattle.std.proofs.lemmas.List.FromFn.{map-range_with_len_more}
use Rattle.std.specs.List.{range_with_len}
use Rattle.cfs_pmem.specs.declared.mem_region.MemRegion.{MemRegion}
use Rattle.cfs_pmem.specs.AllMoments.{AreApart, AreDistinct, IsApartFrom}
use Rattle.cfs_pmem.specs.Images.{AllImages, Seen, WordStep, began, words_of}
use Rattle.cfs_pmem.specs.Objects.{all_devices, seen_at}
use Rattle.cfs_pmem.proofs.ImageLemmas.{sure_began}
use Rattle.cfs_ckpt.specs.Selects.{AreFresh}
use Rattle.cfs_journal.specs.Standing.{AreBlank}
use Rattle.cfs_gather_tests.specs.Blanks.{blanks}

-- ---- devices

abbrev single : ℕ → List ℕ
single n = n ∷ []

apart-two : (n m : ℕ) → n < m → AreApart (single n) (single m)
apart-two n m less device (inl first) (inl second) = omega (arith, less, first, second)
apart-two n m less device (inl first) (inr second) = absurd second
apart-two n m less device (inr first) second = absurd first

apart-range : (n from count : ℕ) → n < from →
    IsApartFrom (single n) (map single (range_with_len from count))
apart-range n from zero less = tt
apart-range n from (suc count) less =
    (apart-two n from less, apart-range n (from + 1) count (omega (arith, less)))

distinct-range : (from count : ℕ) → AreDistinct (map single (range_with_len from count))
distinct-range from zero = tt
distinct-range from (suc count) =
    (apart-range from (from + 1) count (omega arith), distinct-range (from + 1) count)

-- ---- records

abbrev record_of : ℕ → Seen WordStep
record_of device = began device (replicate 16 0)

devices_are : (from count : ℕ) →
    all_devices (map record_of (range_with_len from count)) ≡ map single (range_with_len from count)
devices_are from zero = refl
devices_are from (suc count) =
    ap (λ (rest : List (List ℕ)). single from ∷ rest) (devices_are (from + 1) count)

size : (count : ℕ) → length (blanks count) ≡ count
unfolding blanks
size count = length-map-range_with_len record_of 3 count

distinct : (count : ℕ) → AreDistinct (all_devices (blanks count))
unfolding blanks
distinct count = subst AreDistinct (sym (devices_are 3 count)) (distinct-range 3 count)

record_at : (count position : ℕ) → position < count →
    seen_at (blanks count) position ≡ record_of (3 + position)
unfolding blanks
record_at count position less =
    get_or-map-range_with_len record_of 3 count position (3 + position)
    record { device = 0; also = []; history = [] } less refl

zero_at : (count position : ℕ) → position < count →
    AllImages (seen_at (blanks count) position) (λ image. image ≡ replicate 16 0)
zero_at count position less =
    subst (λ seen. AllImages seen (λ image. image ≡ replicate 16 0))
    (sym (record_at count position less)) (sure_began (3 + position) (replicate 16 0))

pub blanks_are_blank : AreBlank (blanks 64)
blanks_are_blank = record {
  size = size 64;
  distinct = distinct 64;
  zero = λ position less. zero_at 64 position less;
}

pub blanks_none : [] ≡ blanks 0
unfolding blanks
blanks_none = refl

pub blanks_more : (n : ℕ) {seens later : List (Seen WordStep)} (new : Seen WordStep) →
    seens ≡ blanks n → new ≡ began (3 + n) (replicate 16 0) → later ≡ seens ++ new ∷ [] →
    later ≡ blanks (n + 1)
unfolding blanks
blanks_more n {seens} {later} new before is all =
    all ∙ ap (λ (xs : List (Seen WordStep)). xs ++ new ∷ []) before
    ∙ ap (λ (x : Seen WordStep). blanks n ++ x ∷ []) is
    ∙ sym (map-range_with_len_more record_of 3 n (3 + n) refl)

-- ---- a selector and two copies

unfoldable pub three : List ℕ → List ℕ → List ℕ → List (Seen WordStep)
three word first second = began 0 word ∷ began 1 first ∷ began 2 second ∷ []

beside : (word first second : List ℕ) (count : ℕ) →
    AreDistinct (all_devices (three word first second ++ blanks count))
unfolding blanks three
beside word first second count =
    subst (λ (rest : List (List ℕ)). AreDistinct (single 0 ∷ single 1 ∷ single 2 ∷ rest))
    (sym (devices_are 3 count)) (distinct-range 0 (suc (suc (suc count))))

sizes : (word first second : List ℕ) → length first ≡ 3073 → length second ≡ 3073 →
    (copy : ℕ) → copy < 2 → length (words_of (seen_at (three word first second) (suc copy))) ≡ 3073
unfolding three
sizes word first second a b zero less = a
sizes word first second a b (suc zero) less = b
sizes word first second a b (suc (suc copy)) less = absurd (omega arith)

fresh : (first second : List ℕ) → length first ≡ 3073 → length second ≡ 3073 →
    AreFresh (three (0 ∷ []) first second)
unfolding three
fresh first second a b = record {
  size = refl;
  distinct = distinct-range 0 3;
  selector = sure_began 0 (0 ∷ []);
  tables = sizes (0 ∷ []) first second a b;
  first = sure_began 1 first;
}

-- as regions in memory
abbrev seens : MemRegion → List MemRegion → List (Seen WordStep)
seens selector tables = selector.seen ∷ map (λ (r : MemRegion). r.seen) tables

pub regions : {word a b : List ℕ} {tables : List MemRegion} {f g h : ℕ}
    (selector first second : MemRegion) → selector ≡ record { seen = began 0 word; faults = f } →
    word ≡ 0 ∷ [] → tables ≡ first ∷ second ∷ [] →
    first ≡ record { seen = began 1 a; faults = g } →
    second ≡ record { seen = began 2 b; faults = h } →
    selector.seen ∷ map (λ (r : MemRegion). r.seen) tables ≡ three (0 ∷ []) a b
unfolding three
regions {a = a} {tables = tables} selector first second s z ts one two =
    ap (λ (r : MemRegion). seens r tables) s
    ∙ ap (λ (ws : List ℕ). began 0 ws ∷ map (λ (r : MemRegion). r.seen) tables) z
    ∙ ap (λ (rs : List MemRegion). began 0 (0 ∷ []) ∷ map (λ (r : MemRegion). r.seen) rs) ts
    ∙ ap (λ (r : MemRegion). began 0 (0 ∷ []) ∷ r.seen ∷ second.seen ∷ []) one
    ∙ ap (λ (r : MemRegion). began 0 (0 ∷ []) ∷ began 1 a ∷ r.seen ∷ []) two

pub are_fresh : {all : List (Seen WordStep)} (a b : List ℕ) → all ≡ three (0 ∷ []) a b →
    length a ≡ 3073 → length b ≡ 3073 → AreFresh all
are_fresh a b is size_a size_b = subst AreFresh (sym is) (fresh a b size_a size_b)

pub are_beside : {all : List (Seen WordStep)} (a b : List ℕ) → all ≡ three (0 ∷ []) a b →
    AreDistinct (all_devices (all ++ blanks 64))
are_beside a b is =
    subst (λ all. AreDistinct (all_devices (all ++ blanks 64))) (sym is) (beside (0 ∷ []) a b 64)
