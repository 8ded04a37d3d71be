-- A selector and two copies that nothing was written to yet.
use Rattle.std.proofs.Common.{ℕ, zero, suc, ◌<◌, ◌≡◌, ◌≢◌, ◌∙◌, List, [], ◌∷◌, length, map, inl, inr, refl, sym, ap, subst, arith}
use Rattle.cfs_pmem.specs.declared.mem_region.MemRegion.{MemRegion}
use Rattle.cfs_pmem.specs.AllMoments.{AreApart}
use Rattle.cfs_pmem.specs.Images.{Seen, WordStep, began, words_of}
use Rattle.cfs_pmem.specs.Objects.{seen_at}
use Rattle.cfs_pmem.proofs.ImageLemmas.{sure_began}
use Rattle.cfs_ckpt.specs.Selects.{AreFresh}

apart : (n m : ℕ) → n ≢ m → AreApart (n ∷ []) (m ∷ [])
apart n m other device one two = elim one [
  | inl is ↦ elim two [
    | inl also ↦ absurd (other (sym is ∙ also))
    | inr none ↦ none
  ]
  | inr none ↦ none
]

sizes : (first second : List ℕ) → length first ≡ 3073 → length second ≡ 3073 → (copy : ℕ) → copy < 2
    → length (words_of (seen_at (began 0 (0 ∷ []) ∷ began 1 first ∷ began 2 second ∷ []) (suc copy))) ≡ 3073
sizes first second a b zero l = a
sizes first second a b (suc zero) l = b
sizes first second a b (suc (suc copy)) l = absurd (omega arith)

pub fresh : (first second : List ℕ) → length first ≡ 3073 → length second ≡ 3073 → AreFresh (began 0 (0 ∷ []) ∷ began 1 first ∷ began 2 second ∷ [])
fresh first second a b = record {
  size = refl;
  distinct = (
    (apart 0 1 (λ same. omega (arith, same)), (apart 0 2 (λ same. omega (arith, same)), tt)),
    ((apart 1 2 (λ same. omega (arith, same)), tt), (tt, tt)),
  );
  selector = sure_began 0 (0 ∷ []);
  tables = sizes first second a b;
  first = sure_began 1 first;
}

-- as regions in memory
pub fresh_regions : {zeros a b : List ℕ} {tables : List MemRegion} {f g h : ℕ} (selector first second : MemRegion) → selector ≡ record { seen = began 0 zeros; faults = f } → zeros ≡ 0 ∷ []
    → tables ≡ first ∷ second ∷ [] → first ≡ record { seen = began 1 a; faults = g } → second ≡ record { seen = began 2 b; faults = h } → length a ≡ 3073 → length b ≡ 3073
    → AreFresh (selector.seen ∷ map (λ (r : MemRegion). r.seen) tables)
fresh_regions {zeros = zeros} {a = a} {b = b} {tables = tables} selector first second s z ts one two size_a size_b =
    let seens : List MemRegion → List (Seen WordStep) = λ rs. map (λ (r : MemRegion). r.seen) rs in
    let whole : selector.seen ∷ seens tables ≡ began 0 (0 ∷ []) ∷ began 1 a ∷ began 2 b ∷ [] =
    ap (λ (r : MemRegion). r.seen ∷ seens tables) s ∙ ap (λ (ws : List ℕ). began 0 ws ∷ seens tables) z
    ∙ ap (λ (rs : List MemRegion). began 0 (0 ∷ []) ∷ seens rs) ts
    ∙ ap (λ (r : MemRegion). began 0 (0 ∷ []) ∷ r.seen ∷ second.seen ∷ []) one
    ∙ ap (λ (r : MemRegion). began 0 (0 ∷ []) ∷ began 1 a ∷ r.seen ∷ []) two in
    subst AreFresh (sym whole) (fresh a b size_a size_b)
