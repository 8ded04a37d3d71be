-- One region or block more of an image, and all of it.
use Rattle.std.proofs.Common.{All, subst, ℕ, ◌+◌, ◌-◌, ◌*◌, ◌<◌, ◌≤◌, ◌≡◌, ◌∙◌, List, [], ◌∷◌, ◌++◌, length, take, drop, map, get_or, refl, sym, ap, arith}
use Rattle.std.proofs.lemmas.List.{append-nil, drop-drop, length-drop, length-map, map_push, take-append-drop, take_all}
use Rattle.std.proofs.lemmas.List.Concat.{flat_map-append}
use Rattle.std.proofs.lemmas.List.Elements.{All-push}
use Rattle.std.proofs.lemmas.List.FromFn.{length-range_with_len}
use Rattle.std.specs.List.{flat_map, range_with_len}
use Rattle.cfs_pmem.specs.Images.{MemoryRegion, words_of}
use Rattle.cfs_block.specs.BlockImages.{content_of}
use Rattle.cfs_block.specs.MemoryBlocks.{seen_of, number_of}
use Rattle.cfs_block.specs.declared.mem_block.MemBlock.{MemBlock}
use Rattle.cfs_image.specs.Layout.{queues_of, region_at, region_count, region_words, block_at}
use Rattle.cfs_image.specs.Image.{IsWord, word_at, words_bytes, block_bytes, header_of, image_of, words_in, contents_in, IsNewRegion, IsNewBlock}
use Rattle.cfs_image.specs.Checks.{IsSound}
use Rattle.cfs_image.specs.Store.{IsSized, IsStore}
use Rattle.cfs_image.specs.declared.layout.TheConstants.{VERSION}
use Rattle.std.proofs.lemmas.Bool.Decides.{nat_tests}
use Rattle.cfs_image.specs.Reading.{AreRegionsOf, AreBlocksOf}
use Rattle.cfs_image.proofs.Headers.{IsHeaded, headed, four_words}
use Rattle.cfs_image.proofs.Layouts.{piece_more, range_more, region_at-next, region_at-first}

-- a map, and all its pieces, over one element more
pub flat_push : {X Y : Type 0} (f : Y → List ℕ) (g : X → Y) (xs : List X) (x : X) → flat_map f (map g (xs ++ x ∷ [])) ≡ flat_map f (map g xs) ++ f (g x)
flat_push f g xs x =
    ap (λ ys. flat_map f ys) (map_push g xs x) ∙ flat_map-append f (map g xs) (g x ∷ []) ∙ ap (λ ys. flat_map f (map g xs) ++ ys) (append-nil (f (g x)))

twice_push : {X Y Z : Type 0} (f : Y → Z) (g : X → Y) (xs : List X) (x : X) → map f (map g (xs ++ x ∷ [])) ≡ map f (map g xs) ++ f (g x) ∷ []
twice_push f g xs x = ap (λ ys. map f ys) (map_push g xs x) ∙ map_push f (map g xs) (g x)

-- a fact of all that is held, over one element more
pub fit_push : {X Y : Type 0} (g : X → Y) (P : Y → Type 0) (xs : List X) (x : X) → All P (map g xs) → P (g x) → All P (map g (xs ++ x ∷ []))
fit_push g P xs x all here = subst (λ ys. All P ys) (sym (map_push g xs x)) (All-push P (map g xs) (g x) all here)

pub regions_more : (bytes : List ℕ) (count : ℕ) (regions : List MemoryRegion) (region : MemoryRegion) → AreRegionsOf bytes count regions
    → words_bytes (words_of region.seen) ≡ take (8 * region_words count) (drop (region_at count) bytes)
    → length (words_of region.seen) ≡ region_words count → region.seen.device ≡ count → All IsWord (words_of region.seen) → IsNewRegion region
    → AreRegionsOf bytes (count + 1) (regions ++ region ∷ [])
regions_more bytes count regions region all words size device fit new = record {
  fit = fit_push (λ r. words_of r.seen) (λ ws. All IsWord ws) regions region all.fit fit;
  image =
      flat_push words_bytes (λ r. words_of r.seen) regions region
      ∙ ap (λ bs. bs ++ words_bytes (words_of region.seen)) all.image
      ∙ ap (λ bs. take (region_at count - 32) (drop 32 bytes) ++ bs) words
      ∙ sym (piece_more 32 (region_at count) (8 * region_words count) bytes (region_at-first count))
      ∙ ap (λ (to : ℕ). take (to - 32) (drop 32 bytes)) (sym (region_at-next count));
  devices =
      twice_push (λ seen. seen.device) (λ (r : MemoryRegion). r.seen) regions region
      ∙ ap (λ (ks : List ℕ). ks ++ region.seen.device ∷ []) all.devices
      ∙ ap (λ (k : ℕ). range_with_len 0 count ++ k ∷ []) device
      ∙ sym (range_more 0 count count (omega arith));
  sizes =
      twice_push (λ seen. length (words_of seen)) (λ (r : MemoryRegion). r.seen) regions region
      ∙ ap (λ (ks : List ℕ). ks ++ length (words_of region.seen) ∷ []) all.sizes
      ∙ ap (λ (k : ℕ). map region_words (range_with_len 0 count) ++ k ∷ []) size
      ∙ sym (map_push region_words (range_with_len 0 count) count)
      ∙ ap (λ (ks : List ℕ). map region_words ks) (sym (range_more 0 count count (omega arith)));
  untouched = All-push IsNewRegion regions region all.untouched new;
}

pub blocks_more : (bytes : List ℕ) (queues count : ℕ) (blocks : List MemBlock) (block : MemBlock) → AreBlocksOf bytes queues count blocks
    → block_bytes (content_of (seen_of block)) ≡ take 4104 (drop (block_at queues count) bytes)
    → (seen_of block).device ≡ region_count queues + count → number_of block ≡ count → IsWord (content_of (seen_of block)).tag → IsNewBlock block
    → AreBlocksOf bytes queues (count + 1) (blocks ++ block ∷ [])
blocks_more bytes queues count blocks block all content device number fit new = record {
  fit = fit_push (λ b. content_of (seen_of b)) (λ content. IsWord content.tag) blocks block all.fit fit;
  image =
      flat_push block_bytes (λ b. content_of (seen_of b)) blocks block
      ∙ ap (λ bs. bs ++ block_bytes (content_of (seen_of block))) all.image
      ∙ ap (λ bs. take (4104 * count) (drop (block_at queues 0) bytes) ++ bs) content
      ∙ next;
  devices =
      twice_push (λ seen. seen.device) seen_of blocks block
      ∙ ap (λ (ks : List ℕ). ks ++ (seen_of block).device ∷ []) all.devices
      ∙ ap (λ (k : ℕ). range_with_len (region_count queues) count ++ k ∷ []) device
      ∙ sym (range_more (region_count queues) count (region_count queues + count) refl);
  own_numbers =
      map_push number_of blocks block
      ∙ ap (λ (ks : List ℕ). ks ++ number_of block ∷ []) all.own_numbers
      ∙ ap (λ (k : ℕ). range_with_len 0 count ++ k ∷ []) number
      ∙ sym (range_more 0 count count (omega arith));
  untouched = All-push IsNewBlock blocks block all.untouched new;
}
  where
    next : take (4104 * count) (drop (block_at queues 0) bytes) ++ take 4104 (drop (block_at queues count) bytes) ≡ take (4104 * (count + 1)) (drop (block_at queues 0) bytes)
    next =
        let before : block_at queues count - block_at queues 0 ≡ 4104 * count = omega arith in
        let after : block_at queues count + 4104 - block_at queues 0 ≡ 4104 * (count + 1) = omega arith in
        ap (λ (n : ℕ). take n (drop (block_at queues 0) bytes) ++ take 4104 (drop (block_at queues count) bytes)) (sym before)
        ∙ sym (piece_more (block_at queues 0) (block_at queues count) 4104 bytes (omega arith))
        ∙ ap (λ (n : ℕ). take n (drop (block_at queues 0) bytes)) after

-- how many there are
pub length-regions_read : (bytes : List ℕ) (count : ℕ) (regions : List MemoryRegion) → AreRegionsOf bytes count regions → length regions ≡ count
length-regions_read bytes count regions all =
    omega (
      arith,
      ap (λ (ks : List ℕ). length ks) all.devices,
      length-map (map (λ (r : MemoryRegion). r.seen) regions) (λ seen. seen.device),
      length-map regions (λ r. r.seen),
      length-range_with_len 0 count,
    )

pub length-blocks_read : (bytes : List ℕ) (queues count : ℕ) (blocks : List MemBlock) → AreBlocksOf bytes queues count blocks → length blocks ≡ count
length-blocks_read bytes queues count blocks all =
    omega (arith, ap (λ (ks : List ℕ). length ks) all.own_numbers, length-map blocks number_of, length-range_with_len 0 count)

-- the same by the numbers in the header
settled : (bytes : List ℕ) (regions : List MemoryRegion) (blocks : List MemBlock) (count queues many : ℕ) → count ≡ region_count queues → queues ≡ word_at bytes 24 → many ≡ word_at bytes 16
    → AreRegionsOf bytes count regions → AreBlocksOf bytes queues many blocks
    → AreRegionsOf bytes (region_count (word_at bytes 24)) regions × AreBlocksOf bytes (word_at bytes 24) (word_at bytes 16) blocks
settled bytes regions blocks count queues many is in_queues in_blocks of_regions of_blocks = (
  subst (λ (n : ℕ). AreRegionsOf bytes n regions) (is ∙ ap (λ (n : ℕ). region_count n) in_queues) of_regions,
  subst (λ (n : ℕ). AreBlocksOf bytes (word_at bytes 24) n blocks) in_blocks (subst (λ (n : ℕ). AreBlocksOf bytes n many blocks) in_queues of_blocks),
)

-- so many regions and blocks are a store
sized_as : (regions blocks queues many : ℕ) → regions ≡ region_count queues → blocks ≡ many → 1 ≤ queues → queues ≤ 64 → 16 ≤ many → many ≤ 16384
    → IsSized regions blocks
sized_as regions blocks queues many count same some most fewest greatest =
    let is : queues_of regions ≡ queues = omega arith in
    record {
      whole_queues = omega arith;
      some_queue = omega arith;
      most_queues = omega arith;
      fewest = omega arith;
      most = omega arith;
    }

-- what was read is a store
store_read : (bytes : List ℕ) (regions : List MemoryRegion) (blocks : List MemBlock) → IsSound bytes
    → AreRegionsOf bytes (region_count (word_at bytes 24)) regions → AreBlocksOf bytes (word_at bytes 24) (word_at bytes 16) blocks
    → IsStore (map (λ region. region.seen) regions) (map seen_of blocks) (map number_of blocks)
store_read bytes regions blocks sound in_regions in_blocks =
    let head : IsHeaded bytes = headed bytes sound in
    let count_regions : length (map (λ (r : MemoryRegion). r.seen) regions) ≡ region_count (word_at bytes 24) =
    length-map regions (λ r. r.seen) ∙ length-regions_read bytes (region_count (word_at bytes 24)) regions in_regions in
    let count_blocks : length (map seen_of blocks) ≡ word_at bytes 16 =
    length-map blocks seen_of ∙ length-blocks_read bytes (word_at bytes 24) (word_at bytes 16) blocks in_blocks in
    let first : region_count (word_at bytes 24) ≡ length (map (λ (r : MemoryRegion). r.seen) regions) = sym count_regions in
    let many : word_at bytes 16 ≡ length (map seen_of blocks) = sym count_blocks in
    record {
      sized = sized_as (length (map (λ (r : MemoryRegion). r.seen) regions)) (length (map seen_of blocks)) (word_at bytes 24) (word_at bytes 16)
          count_regions count_blocks head.fewest_queues head.most_queues head.fewest_blocks head.most_blocks;
      devices = in_regions.devices ∙ ap (λ (n : ℕ). range_with_len 0 n) first;
      sizes = in_regions.sizes ∙ ap (λ (n : ℕ). map region_words (range_with_len 0 n)) first;
      block_devices = in_blocks.devices ∙ ap (λ (n : ℕ). range_with_len n (word_at bytes 16)) first
          ∙ ap (λ (n : ℕ). range_with_len (length (map (λ (r : MemoryRegion). r.seen) regions)) n) many;
      own_numbers = in_blocks.own_numbers ∙ ap (λ (n : ℕ). range_with_len 0 n) many;
    }

-- the header of what was read
header_read : (bytes : List ℕ) (regions blocks : ℕ) → IsHeaded bytes → regions ≡ region_count (word_at bytes 24) → blocks ≡ word_at bytes 16
    → header_of blocks (queues_of regions) ≡ word_at bytes 0 ∷ word_at bytes 8 ∷ word_at bytes 16 ∷ word_at bytes 24 ∷ []
header_read bytes regions blocks head count_regions count_blocks =
    let queues : queues_of regions ≡ word_at bytes 24 = omega arith in
    ap (λ (w : ℕ). w ∷ VERSION ∷ blocks ∷ queues_of regions ∷ []) (sym head.name)
    ∙ ap (λ (w : ℕ). word_at bytes 0 ∷ w ∷ blocks ∷ queues_of regions ∷ []) (sym head.version)
    ∙ ap (λ (w : ℕ). word_at bytes 0 ∷ word_at bytes 8 ∷ w ∷ queues_of regions ∷ []) count_blocks
    ∙ ap (λ (w : ℕ). word_at bytes 0 ∷ word_at bytes 8 ∷ word_at bytes 16 ∷ w ∷ []) queues

-- the header, the regions and the blocks are all bytes of a sound image
pieces : (bytes : List ℕ) → IsHeaded bytes
    → take 32 bytes ++ (take (region_at (region_count (word_at bytes 24)) - 32) (drop 32 bytes) ++ take (4104 * word_at bytes 16) (drop (block_at (word_at bytes 24) 0) bytes)) ≡ bytes
pieces bytes head =
    let queues : ℕ = word_at bytes 24 in
    let end : region_at (region_count queues) ≡ block_at queues 0 = grind (arith, nat_tests) in
    let front : ℕ = region_at (region_count queues) - 32 in
    let behind : 32 + front ≡ block_at queues 0 = omega (arith, end) in
    let rest : length (drop (block_at queues 0) bytes) ≤ 4104 * word_at bytes 16 = omega (arith, head.size, length-drop (block_at queues 0) bytes) in
    ap (λ bs. take 32 bytes ++ (take front (drop 32 bytes) ++ bs))
    (take_all (4104 * word_at bytes 16) (drop (block_at queues 0) bytes) rest ∙ ap (λ (m : ℕ). drop m bytes) (sym behind) ∙ sym (drop-drop front 32 bytes))
    ∙ ap (λ bs. take 32 bytes ++ bs) (take-append-drop front (drop 32 bytes))
    ∙ take-append-drop 32 bytes

-- the image of all that was read are the bytes
image_read : (bytes : List ℕ) (regions : List MemoryRegion) (blocks : List MemBlock) → ((k : ℕ) → get_or bytes k 0 < 256) → IsSound bytes
    → AreRegionsOf bytes (region_count (word_at bytes 24)) regions → AreBlocksOf bytes (word_at bytes 24) (word_at bytes 16) blocks
    → image_of (words_in regions) (contents_in blocks) ≡ bytes
image_read bytes regions blocks small sound in_regions in_blocks =
    let head : IsHeaded bytes = headed bytes sound in
    let queues : ℕ = word_at bytes 24 in
    let count_regions : length (words_in regions) ≡ region_count queues =
    length-map regions (λ r. words_of r.seen) ∙ length-regions_read bytes (region_count queues) regions in_regions in
    let count_blocks : length (contents_in blocks) ≡ word_at bytes 16 =
    length-map blocks (λ b. content_of (seen_of b)) ∙ length-blocks_read bytes queues (word_at bytes 16) blocks in_blocks in
    ap (λ ws. words_bytes ws ++ (flat_map words_bytes (words_in regions) ++ flat_map block_bytes (contents_in blocks)))
    (header_read bytes (length (words_in regions)) (length (contents_in blocks)) head count_regions count_blocks)
    ∙ ap (λ bs. bs ++ (flat_map words_bytes (words_in regions) ++ flat_map block_bytes (contents_in blocks))) (four_words bytes head.room small)
    ∙ ap (λ bs. take 32 bytes ++ (bs ++ flat_map block_bytes (contents_in blocks))) in_regions.image
    ∙ ap (λ bs. take 32 bytes ++ (take (region_at (region_count queues) - 32) (drop 32 bytes) ++ bs)) in_blocks.image
    ∙ pieces bytes head

-- What was read of a sound image, by the numbers in its header.
pub record IsAllOf (bytes : List ℕ) (regions : List MemoryRegion) (blocks : List MemBlock) : Type 0 where
  pub store : IsStore (map (λ region. region.seen) regions) (map seen_of blocks) (map number_of blocks)
  pub image : image_of (words_in regions) (contents_in blocks) ≡ bytes

pub all_read : (bytes : List ℕ) (regions : List MemoryRegion) (blocks : List MemBlock) (count queues many : ℕ) → count ≡ region_count queues → queues ≡ word_at bytes 24 → many ≡ word_at bytes 16
    → ((k : ℕ) → get_or bytes k 0 < 256) → IsSound bytes → AreRegionsOf bytes count regions → AreBlocksOf bytes queues many blocks → IsAllOf bytes regions blocks
all_read bytes regions blocks count queues many is in_queues in_blocks small sound of_regions of_blocks =
    let both = settled bytes regions blocks count queues many is in_queues in_blocks of_regions of_blocks in
    record { store = store_read bytes regions blocks sound both.0 both.1; image = image_read bytes regions blocks small sound both.0 both.1 }
