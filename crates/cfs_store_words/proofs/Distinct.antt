-- The devices of a store are distinct, where no call on one makes a step of another.
use Rattle.std.proofs.Common.{All, ℕ, zero, suc, ◌+◌, ◌<◌, ◌≡◌, ◌∙◌, List, [], ◌∷◌, ◌++◌, length}
use Rattle.std.proofs.Common.{map, inl, inr, refl, sym, ap, subst, arith}
use Rattle.std.proofs.lemmas.List.Elements.{All-head, All-map, All-tail}
use Rattle.std.proofs.lemmas.List.Elements.{All-weaker}
use Rattle.std.specs.List.{range_with_len}
use Rattle.cfs_pmem.specs.AllMoments.{AreApart, AreDistinct, IsApartFrom}
use Rattle.cfs_pmem.specs.Images.{MemoryRegion, Seen, WordStep}
use Rattle.cfs_pmem.specs.Objects.{all_devices}
use Rattle.cfs_block.specs.BlockImages.{BlockStep}
use Rattle.cfs_block.specs.Devices.{numbers_of}
use Rattle.cfs_block.specs.MemoryBlocks.{number_of, seen_of}
use Rattle.cfs_block.specs.declared.mem_block.MemBlock.{MemBlock}
use Rattle.cfs_image.specs.Image.{IsNewRegion}
use Rattle.cfs_image.specs.Store.{IsStore}
use Rattle.cfs_store_words.specs.Leaves.{devices}

abbrev single : ℕ → List ℕ
single n = n ∷ []

apart-two : (n m : ℕ) → n < m → AreApart (single n) (single m)
apart-two n m less device (inl first) (inl second) = omega (arith, less, first, second)
apart-two n m less device (inl first) (inr second) = absurd second
apart-two n m less device (inr first) second = absurd first

apart-range : (n from count : ℕ) → n < from →
    IsApartFrom (single n) (map single (range_with_len from count))
apart-range n from zero less = tt
apart-range n from (suc count) less =
    (apart-two n from less, apart-range n (from + 1) count (omega (arith, less)))

apart-both : (one : List ℕ) (xs ys : List (List ℕ)) → IsApartFrom one xs → IsApartFrom one ys →
    IsApartFrom one (xs ++ ys)
apart-both one [] ys first second = second
apart-both one (x ∷ xs) ys first second = (first.0, apart-both one xs ys first.1 second)

distinct-range : (from count : ℕ) → AreDistinct (map single (range_with_len from count))
distinct-range from zero = tt
distinct-range from (suc count) =
    (apart-range from (from + 1) count (omega arith), distinct-range (from + 1) count)

distinct-ranges : (from count next more : ℕ) → from + count ≡ next →
    AreDistinct (map single (range_with_len from count) ++ map single (range_with_len next more))
distinct-ranges from zero next more is = distinct-range next more
distinct-ranges from (suc count) next more is = (
  apart-both (single from) (map single (range_with_len (from + 1) count))
      (map single (range_with_len next more)) (apart-range from (from + 1) count (omega arith))
      (apart-range from next more (omega (arith, is))),
  distinct-ranges (from + 1) count next more (omega (arith, is)),
)

alone : {Form : Type 0} (seens : List (Seen Form)) →
    All (λ (seen : Seen Form). seen.also ≡ []) seens →
    all_devices seens ≡ map single (map (λ (seen : Seen Form). seen.device) seens)
alone [] all = refl
alone {Form} (seen ∷ seens) all =
    ap (λ (also : List ℕ). (seen.device ∷ also) ∷ all_devices seens)
    (All-head (λ (each : Seen Form). each.also ≡ []) seen seens all)
    ∙ ap (λ (rest : List (List ℕ)). single seen.device ∷ rest)
    (alone seens (All-tail (λ (each : Seen Form). each.also ≡ []) seen seens all))

pub store-distinct : {regions : List (Seen WordStep)} {blocks : List (Seen BlockStep)}
    {numbers : List ℕ} → IsStore regions blocks numbers →
    All (λ (seen : Seen WordStep). seen.also ≡ []) regions →
    All (λ (seen : Seen BlockStep). seen.also ≡ []) blocks →
    AreDistinct (numbers_of (devices regions blocks))
store-distinct {regions} {blocks} store own own_blocks =
    subst (λ (numbers : List (List ℕ)). AreDistinct (numbers ++ all_devices blocks))
    (sym (alone regions own ∙ ap (map single) store.devices))
    (subst (λ (numbers : List (List ℕ)).
    AreDistinct (map single (range_with_len 0 (length regions)) ++ numbers))
    (sym (alone blocks own_blocks ∙ ap (map single) store.block_devices))
    (distinct-ranges 0 (length regions) (length regions) (length blocks) (omega arith)))

-- as those in memory are
pub memory-distinct : (regions : List MemoryRegion) (blocks : List MemBlock) →
    IsStore (map (λ region. region.seen) regions) (map seen_of blocks) (map number_of blocks) →
    All IsNewRegion regions →
    AreDistinct (numbers_of (devices (map (λ region. region.seen) regions) (map seen_of blocks)))
memory-distinct regions blocks store new =
    store-distinct store
    (All-map (λ (seen : Seen WordStep). seen.also ≡ []) (λ (region : MemoryRegion). region.seen)
    regions
    (All-weaker IsNewRegion (λ (region : MemoryRegion). region.seen.also ≡ [])
    (λ region is. ap (λ (r : MemoryRegion). r.seen.also) is) regions new))
    (All-map (λ (seen : Seen BlockStep). seen.also ≡ []) seen_of blocks
    (λ k d less. refl))
