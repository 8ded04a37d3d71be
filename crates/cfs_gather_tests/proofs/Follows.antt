-- Lists whose elements follow the numbers.
use Rattle.std.proofs.Common.{ℕ, ◌+◌, ◌<◌, ◌≡◌, ◌∙◌, List, [], ◌∷◌, ◌++◌, length, map, take}
use Rattle.std.proofs.Common.{get_or, refl, sym, ap, subst, arith}
use Rattle.std.proofs.lemmas.List.{length-map, map-append, take_more}
use Rattle.std.proofs.lemmas.List.FromFn.{map-range_with_len_more}
use Rattle.std.specs.List.{range_with_len}
use Rattle.cfs_active.specs.Memory.{words_seen}
use Rattle.cfs_block.specs.BlockImages.{BlockStep}
use Rattle.cfs_block.specs.MemoryBlocks.{number_of, seen_of}
use Rattle.cfs_block.specs.declared.mem_block.MemBlock.{MemBlock}
use Rattle.cfs_image.specs.Layout.{region_words}
use Rattle.cfs_image.specs.Store.{IsSized, IsStore}
use Rattle.cfs_pmem.specs.Images.{MemoryRegion, Seen, WordStep, words_of}
use Rattle.cfs_gather_tests.specs.InOrder.{AreBlocksInOrder, AreRegionsInOrder}

-- the front of a list
abbrev pub FollowsSoFar : {X : Type 0} → (X → ℕ) → (ℕ → ℕ) → ℕ → List X → ℕ → Type 0
FollowsSoFar f g from xs count = map f (take count xs) ≡ map g (range_with_len from count)

pub follows_more : {X : Type 0} (f : X → ℕ) (g : ℕ → ℕ) (from next : ℕ) (xs : List X) (i : ℕ)
    (x : X) → i < length xs → x ≡ get_or xs i x → from + i ≡ next → FollowsSoFar f g from xs i →
    f x ≡ g next → FollowsSoFar f g from xs (i + 1)
follows_more {X} f g from next xs i x less is at before here =
    ap (λ (front : List X). map f front)
    (take_more xs i x less ∙ ap (λ (y : X). take i xs ++ y ∷ []) (sym is))
    ∙ map-append f (take i xs) (x ∷ [])
    ∙ ap (λ (front : List ℕ). front ++ f x ∷ []) before
    ∙ ap (λ (y : ℕ). map g (range_with_len from i) ++ y ∷ []) here
    ∙ sym (map-range_with_len_more g from i next at)

map_same : (xs : List ℕ) → map (λ (x : ℕ). x) xs ≡ xs
map_same [] = refl
map_same (x ∷ xs) = ap (λ (rest : List ℕ). x ∷ rest) (map_same xs)

map_twice : {X Y : Type 0} (f : Y → ℕ) (g : X → Y) (xs : List X) →
    map f (map g xs) ≡ map (λ (x : X). f (g x)) xs
map_twice f g [] = refl
map_twice f g (x ∷ xs) = ap (λ (rest : List ℕ). f (g x) ∷ rest) (map_twice f g xs)

sized : (regions blocks : ℕ) → regions ≡ 339 → blocks ≡ 16 → IsSized regions blocks
sized regions blocks all many = subst (λ (n : ℕ). IsSized n blocks) (sym all)
    (subst (λ (n : ℕ). IsSized 339 n) (sym many) (record {
      whole_queues = refl;
      some_queue = omega arith;
      most_queues = omega arith;
      fewest = omega arith;
      most = omega arith;
    }))

-- so many regions and blocks in order are a store
pub store_of : (regions : List MemoryRegion) (blocks : List MemBlock) → length regions ≡ 339 →
    length blocks ≡ 16 → AreRegionsInOrder regions → AreBlocksInOrder blocks →
    IsStore (map words_seen regions) (map seen_of blocks) (map number_of blocks)
store_of regions blocks all many first second =
    let count : length (map words_seen regions) ≡ length regions = length-map regions words_seen in
    let block_count : length (map seen_of blocks) ≡ length blocks = length-map blocks seen_of in
    record {
      sized = sized _ _ (count ∙ all) (block_count ∙ many);
      devices = map_twice (λ (seen : Seen WordStep). seen.device) words_seen regions
          ∙ first.devices ∙ map_same (range_with_len 0 (length regions))
          ∙ ap (range_with_len 0) (sym count);
      sizes = map_twice (λ (seen : Seen WordStep). length (words_of seen)) words_seen regions
          ∙ first.sizes ∙ ap (λ (n : ℕ). map region_words (range_with_len 0 n)) (sym count);
      block_devices = map_twice (λ (seen : Seen BlockStep). seen.device) seen_of blocks
          ∙ second.devices ∙ map_same (range_with_len 339 (length blocks))
          ∙ ap (λ (n : ℕ). range_with_len n (length blocks)) (sym (count ∙ all))
          ∙ ap (range_with_len (length (map words_seen regions))) (sym block_count);
      own_numbers = second.numbers ∙ map_same (range_with_len 0 (length blocks))
          ∙ ap (range_with_len 0) (sym block_count);
    }
