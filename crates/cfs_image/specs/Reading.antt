-- What has been read of an image.
use Rattle.std.specs.Prelude.{ℕ, ◌-◌, ◌*◌, ◌≡◌, List, length, take, drop, map, All}
use Rattle.std.specs.List.{flat_map, range_with_len}
use Rattle.cfs_pmem.specs.Images.{MemoryRegion, words_of}
use Rattle.cfs_block.specs.MemoryBlocks.{seen_of, number_of}
use Rattle.cfs_block.specs.declared.mem_block.MemBlock.{MemBlock}
use Rattle.cfs_image.specs.Layout.{region_at, region_count, region_words, block_at}
use Rattle.cfs_image.specs.Image.{IsWord, words_bytes, block_bytes, words_in, contents_in, IsNewRegion, IsNewBlock}

-- the first so many regions of these bytes
pub record AreRegionsOf (bytes : List ℕ) (count : ℕ) (regions : List MemoryRegion) : Type 0 where
  pub image : flat_map words_bytes (words_in regions) ≡ take (region_at count - 32) (drop 32 bytes)
  pub fit : All (λ words. All IsWord words) (words_in regions)
  pub devices : map (λ seen. seen.device) (map (λ region. region.seen) regions) ≡
      range_with_len 0 count
  pub sizes : map (λ seen. length (words_of seen)) (map (λ region. region.seen) regions) ≡
      map region_words (range_with_len 0 count)
  pub untouched : All IsNewRegion regions

-- the first so many blocks of these bytes, in a store of so many queues
pub record AreBlocksOf (bytes : List ℕ) (queues count : ℕ) (blocks : List MemBlock) : Type 0 where
  pub image : flat_map block_bytes (contents_in blocks) ≡
      take (4104 * count) (drop (block_at queues 0) bytes)
  pub fit : All (λ content. IsWord content.tag) (contents_in blocks)
  pub devices : map (λ seen. seen.device) (map seen_of blocks) ≡
      range_with_len (region_count queues) count
  pub own_numbers : map number_of blocks ≡ range_with_len 0 count
  pub untouched : All IsNewBlock blocks
