-- What a store can hold.
use Rattle.std.specs.Prelude.{ℕ, ◌≡◌, All, List, length, map, replicate}
use Rattle.std.specs.List.{range_with_len}
use Rattle.cfs_block.specs.BlockImages.{Content}
use Rattle.cfs_image.specs.Layout.{region_words}
use Rattle.cfs_image.specs.Image.{IsWord}
use Rattle.cfs_image.specs.Store.{IsSized}

-- Words of 64 bits, and as many words and bytes as its regions and blocks have.
pub record AreHeld (regions : List (List ℕ)) (blocks : List Content) : Type 0 where
  pub sized : IsSized (length regions) (length blocks)
  pub sizes : map (λ words. length words) regions ≡
      map region_words (range_with_len 0 (length regions))
  pub full : map (λ block. length block.bytes) blocks ≡ replicate (length blocks) 4096
  pub words : All (λ words. All IsWord words) regions
  pub tags : All (λ block. IsWord block.tag) blocks
