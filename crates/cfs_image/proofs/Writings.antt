-- One object more behind the bytes that are there.
use Rattle.std.proofs.Common.{ℕ, ◌+◌, ◌<◌, ◌≡◌, ◌∙◌, All, List, [], ◌∷◌, ◌++◌, length, take, map, get_or, sym, ap, subst, append_assoc}
use Rattle.std.proofs.lemmas.List.{length-map, take_more}
use Rattle.std.specs.List.{flat_map}
use Rattle.cfs_pmem.specs.Images.{MemoryRegion, words_of}
use Rattle.cfs_block.specs.BlockImages.{content_of}
use Rattle.cfs_block.specs.MemoryBlocks.{seen_of}
use Rattle.cfs_block.specs.declared.mem_block.MemBlock.{MemBlock}
use Rattle.cfs_image.specs.Layout.{queues_of}
use Rattle.cfs_image.specs.Image.{block_bytes, contents_in, header_of, image_of, words_bytes, words_in}
use Rattle.cfs_image.proofs.Readings.{flat_push, fit_push}

pub written_more : {X Y : Type 0} (f : Y → List ℕ) (g : X → Y) (P : Y → Type 0) (xs : List X) (i : ℕ) (x : X) (first before after : List ℕ)
    → i < length xs → x ≡ get_or xs i x → before ≡ first ++ flat_map f (map g (take i xs)) → after ≡ before ++ f (g x) → All P (map g (take i xs)) → P (g x)
    → (after ≡ first ++ flat_map f (map g (take (i + 1) xs))) × All P (map g (take (i + 1) xs))
written_more f g P xs i x first before after l at was now all here =
    let more : take (i + 1) xs ≡ take i xs ++ x ∷ [] = take_more xs i x l ∙ ap (λ y. take i xs ++ y ∷ []) (sym at) in (
      now ∙ ap (λ bs. bs ++ f (g x)) was ∙ append_assoc first (flat_map f (map g (take i xs))) (f (g x))
          ∙ ap (λ bs. first ++ bs) (sym (flat_push f g (take i xs) x))
          ∙ ap (λ ys. first ++ flat_map f (map g ys)) (sym more),
      subst (λ ys. All P (map g ys)) (sym more) (fit_push g P (take i xs) x all here),
    )

-- the header, all regions and all blocks, one behind the other
pub image_written : (regions : List MemoryRegion) (blocks : List MemBlock) (many queues : ℕ) (empty first second last : List ℕ) → empty ≡ [] → first ≡ empty ++ words_bytes (header_of many queues)
    → second ≡ first ++ flat_map words_bytes (words_in regions) → last ≡ second ++ flat_map block_bytes (contents_in blocks) → many ≡ length blocks → queues ≡ queues_of (length regions)
    → last ≡ image_of (words_in regions) (contents_in blocks)
image_written regions blocks many queues empty first second last none head of_regions of_blocks in_blocks in_queues =
    let body : List ℕ = flat_map words_bytes (words_in regions) ++ flat_map block_bytes (contents_in blocks) in
    of_blocks ∙ ap (λ bs. bs ++ flat_map block_bytes (contents_in blocks)) of_regions
    ∙ append_assoc first (flat_map words_bytes (words_in regions)) (flat_map block_bytes (contents_in blocks))
    ∙ ap (λ bs. bs ++ body) (head ∙ ap (λ bs. bs ++ words_bytes (header_of many queues)) none)
    ∙ ap (λ (n : ℕ). words_bytes (header_of n queues) ++ body) (in_blocks ∙ sym (length-map blocks (λ b. content_of (seen_of b))))
    ∙ ap (λ (n : ℕ). words_bytes (header_of (length (contents_in blocks)) n) ++ body) (in_queues ∙ ap (λ (n : ℕ). queues_of n) (sym (length-map regions (λ r. words_of r.seen))))
