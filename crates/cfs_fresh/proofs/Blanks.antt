-- Regions of zeros: a checkpoint on the devices 64 to 66, beside a journal on those before.
use Rattle.std.proofs.Common.{ℕ, zero, suc, ◌<◌, ◌≤◌, ◌≡◌, ◌≢◌, ◌∙◌, List, [], ◌∷◌, ◌++◌, length, map, replicate, inl, inr, refl, sym, ap, subst, arith}
use Rattle.std.proofs.lemmas.List.{map-append}
use Rattle.cfs_pmem.specs.declared.mem_region.MemRegion.{MemRegion}
use Rattle.cfs_pmem.specs.AllMoments.{AreApart, AreDistinct, IsApartFrom}
use Rattle.cfs_pmem.specs.Images.{Seen, WordStep, began, devices_of, words_of}
use Rattle.cfs_pmem.specs.Objects.{all_devices, seen_at}
use Rattle.cfs_pmem.proofs.ImageLemmas.{sure_began}
use Rattle.cfs_ckpt.specs.Selects.{AreFresh}
use Rattle.cfs_journal.proofs.Blanks.{blanks, blanks_are_blank}

two_apart : (n m : ℕ) → n ≢ m → AreApart (n ∷ []) (m ∷ [])
two_apart n m other device one two = elim one [
  | inl is ↦ elim two [
    | inl also ↦ absurd (other (sym is ∙ also))
    | inr none ↦ none
  ]
  | inr none ↦ none
]

apart_more : (one : List ℕ) (others : List (List ℕ)) (new : List ℕ) → IsApartFrom one others → AreApart one new → IsApartFrom one (others ++ new ∷ [])
apart_more one [] new a b = (b, tt)
apart_more one (other ∷ rest) new a b = (a.0, apart_more one rest new a.1 b)

devices_are : (n : ℕ) → all_devices (blanks (suc n)) ≡ all_devices (blanks n) ++ (n ∷ []) ∷ []
unfolding blanks
devices_are n = map-append devices_of (blanks n) (began n (replicate 16 0) ∷ [])

apart_from : (m n : ℕ) → n ≤ m → IsApartFrom (m ∷ []) (all_devices (blanks n))
unfolding blanks
apart_from m zero l = tt
apart_from m (suc n) l = subst (λ ds. IsApartFrom (m ∷ []) ds) (sym (devices_are n))
    (apart_more (m ∷ []) (all_devices (blanks n)) (n ∷ []) (apart_from m n (omega (arith, l))) (two_apart m n (λ same. omega (arith, same, l))))

-- a selector and two copies
unfoldable pub three : List ℕ → List ℕ → List ℕ → List (Seen WordStep)
three word first second = began 64 word ∷ began 65 first ∷ began 66 second ∷ []

beside : (word first second : List ℕ) → AreDistinct (all_devices (three word first second ++ blanks 64))
unfolding three
beside word first second = (
  (two_apart 64 65 (λ same. omega (arith, same)), (two_apart 64 66 (λ same. omega (arith, same)), apart_from 64 64 (omega arith))),
  (
    (two_apart 65 66 (λ same. omega (arith, same)), apart_from 65 64 (omega arith)),
    (apart_from 66 64 (omega arith), blanks_are_blank.distinct),
  ),
)

sizes : (word first second : List ℕ) → length first ≡ 3073 → length second ≡ 3073 → (copy : ℕ) → copy < 2
    → length (words_of (seen_at (three word first second) (suc copy))) ≡ 3073
unfolding three
sizes word first second a b zero l = a
sizes word first second a b (suc zero) l = b
sizes word first second a b (suc (suc copy)) l = absurd (omega arith)

fresh : (first second : List ℕ) → length first ≡ 3073 → length second ≡ 3073 → AreFresh (three (0 ∷ []) first second)
unfolding three
fresh first second a b = record {
  size = refl;
  distinct = (
    (two_apart 64 65 (λ same. omega (arith, same)), (two_apart 64 66 (λ same. omega (arith, same)), tt)),
    ((two_apart 65 66 (λ same. omega (arith, same)), tt), (tt, tt)),
  );
  selector = sure_began 64 (0 ∷ []);
  tables = sizes (0 ∷ []) first second a b;
  first = sure_began 65 first;
}

-- as regions in memory
abbrev seens : MemRegion → List MemRegion → List (Seen WordStep)
seens selector tables = selector.seen ∷ map (λ (r : MemRegion). r.seen) tables

pub regions : {word a b : List ℕ} {tables : List MemRegion} {f g h : ℕ} (selector first second : MemRegion) → selector ≡ record { seen = began 64 word; faults = f } → word ≡ 0 ∷ []
    → tables ≡ first ∷ second ∷ [] → first ≡ record { seen = began 65 a; faults = g } → second ≡ record { seen = began 66 b; faults = h }
    → selector.seen ∷ map (λ (r : MemRegion). r.seen) tables ≡ three (0 ∷ []) a b
unfolding three
regions {a = a} {tables = tables} selector first second s z ts one two =
    ap (λ (r : MemRegion). seens r tables) s ∙ ap (λ (ws : List ℕ). began 64 ws ∷ map (λ (r : MemRegion). r.seen) tables) z
    ∙ ap (λ (rs : List MemRegion). began 64 (0 ∷ []) ∷ map (λ (r : MemRegion). r.seen) rs) ts
    ∙ ap (λ (r : MemRegion). began 64 (0 ∷ []) ∷ r.seen ∷ second.seen ∷ []) one
    ∙ ap (λ (r : MemRegion). began 64 (0 ∷ []) ∷ began 65 a ∷ r.seen ∷ []) two

pub are_fresh : {all : List (Seen WordStep)} (a b : List ℕ) → all ≡ three (0 ∷ []) a b → length a ≡ 3073 → length b ≡ 3073 → AreFresh all
are_fresh a b is size_a size_b = subst (λ all. AreFresh all) (sym is) (fresh a b size_a size_b)

pub are_beside : {all : List (Seen WordStep)} (a b : List ℕ) → all ≡ three (0 ∷ []) a b → AreDistinct (all_devices (all ++ blanks 64))
are_beside a b is = subst (λ all. AreDistinct (all_devices (all ++ blanks 64))) (sym is) (beside (0 ∷ []) a b)
