-- What regions and blocks in memory hold is what a store can hold.
use Rattle.std.proofs.Common.{ℕ, ◌≡◌, ◌∙◌, All, List, [], ◌∷◌, length, map, refl, sym, ap, subst}
use Rattle.std.proofs.Math.ListN.{replicate}
use Rattle.std.proofs.lemmas.List.{length-map}
use Rattle.std.specs.List.{range_with_len}
use Rattle.cfs_pmem.specs.Images.{MemoryRegion, words_of}
use Rattle.cfs_block.specs.BlockImages.{Content, content_of}
use Rattle.cfs_block.specs.MemoryBlocks.{seen_of, number_of}
use Rattle.cfs_block.specs.declared.mem_block.MemBlock.{MemBlock}
use Rattle.cfs_image.specs.Layout.{region_words}
use Rattle.cfs_image.specs.Image.{IsWord, words_in, contents_in}
use Rattle.cfs_image.specs.Held.{AreHeld}
use Rattle.cfs_image.specs.Store.{IsSized, IsStore}

twice : {X Y Z : Type 0} (f : Y → Z) (g : X → Y) (xs : List X) → map f (map g xs) ≡ map (λ x. f (g x)) xs
twice f g [] = refl
twice f g (x ∷ xs) = ap (λ ys. f (g x) ∷ ys) (twice f g xs)

full_block : (block : MemBlock) → length (content_of (seen_of block)).bytes ≡ 4096
full_block block = ap (λ (content : Content). length content.bytes) block.backed.now_is ∙ block.backed.full

full_blocks : (blocks : List MemBlock) → map (λ content. length content.bytes) (contents_in blocks) ≡ replicate (length blocks) 4096
full_blocks [] = refl
full_blocks (block ∷ blocks) =
    ap (λ (n : ℕ). n ∷ map (λ content. length content.bytes) (contents_in blocks)) (full_block block)
    ∙ ap (λ (ns : List ℕ). 4096 ∷ ns) (full_blocks blocks)

pub held_by : (regions : List MemoryRegion) (blocks : List MemBlock) → IsStore (map (λ region. region.seen) regions) (map seen_of blocks) (map number_of blocks)
    → All (λ words. All IsWord words) (words_in regions) → All (λ content. IsWord content.tag) (contents_in blocks) → AreHeld (words_in regions) (contents_in blocks)
held_by regions blocks store fit fit_tags =
    let many : length (map (λ (r : MemoryRegion). r.seen) regions) ≡ length (words_in regions) =
    length-map regions (λ r. r.seen) ∙ sym (length-map regions (λ r. words_of r.seen)) in
    let many_blocks : length (map seen_of blocks) ≡ length (contents_in blocks) = length-map blocks seen_of ∙ sym (length-map blocks (λ b. content_of (seen_of b))) in
    record {
      sized = subst (λ (n : ℕ). IsSized n (length (contents_in blocks))) many (subst (λ (n : ℕ). IsSized (length (map (λ (r : MemoryRegion). r.seen) regions)) n) many_blocks store.sized);
      sizes =
          twice (λ (ws : List ℕ). length ws) (λ (r : MemoryRegion). words_of r.seen) regions
          ∙ sym (twice (λ seen. length (words_of seen)) (λ (r : MemoryRegion). r.seen) regions)
          ∙ store.sizes ∙ ap (λ (n : ℕ). map region_words (range_with_len 0 n)) many;
      full = full_blocks blocks ∙ ap (λ (n : ℕ). replicate n 4096) (sym (length-map blocks (λ b. content_of (seen_of b))));
      words = fit;
      tags = fit_tags;
    }
