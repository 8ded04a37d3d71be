-- What holds of every image of a store.
use Rattle.std.specs.Prelude.{ℕ, ◌*◌, ◌<◌, ◌≡◌, List, [], length, take, drop}
use Rattle.std.proofs.Math.ListN.{get_or}
use Rattle.cfs_block.specs.BlockImages.{Content}
use Rattle.cfs_image.specs.declared.layout.TheConstants.{NAME, VERSION}
use Rattle.cfs_image.specs.Layout.{block_at, image_len, queues_of, region_at, region_words}
use Rattle.cfs_image.specs.Image.{block_bytes, image_of, word_at, words_bytes}
use Rattle.cfs_image.specs.Held.{AreHeld}
use Rattle.cfs_image.specs.Checks.{IsSound}

-- Each object stands in its range of an image, and the header and these ranges are all that there
-- is.
pub record EachStands (regions : List (List ℕ)) (blocks : List Content)
    (image : List ℕ) : Type 0 where
  pub name : word_at image 0 ≡ NAME
  pub version : word_at image 8 ≡ VERSION
  pub blocks_word : word_at image 16 ≡ length blocks
  pub queues_word : word_at image 24 ≡ queues_of (length regions)
  pub each_region : (device : ℕ) → device < length regions →
      take (8 * region_words device) (drop (region_at device) image) ≡
      words_bytes (get_or regions device [])
  pub each_block : (number : ℕ) (none : Content) → number < length blocks →
      take 4104 (drop (block_at (queues_of (length regions)) number) image) ≡
      block_bytes (get_or blocks number none)
  pub whole : length image ≡ image_len (length blocks) (queues_of (length regions))

abbrev pub ImagesStand : Type 0
ImagesStand = (regions : List (List ℕ)) (blocks : List Content) → AreHeld regions blocks →
    EachStands regions blocks (image_of regions blocks)

-- The image of a store passes all checks.
abbrev pub ImagesAreSound : Type 0
ImagesAreSound = (regions : List (List ℕ)) (blocks : List Content) → AreHeld regions blocks →
    IsSound (image_of regions blocks)

-- Two stores with one image hold the same words and bytes.
abbrev pub ImagesTell : Type 0
ImagesTell =
    (regions others : List (List ℕ)) (blocks other_blocks : List Content) → AreHeld regions blocks →
    AreHeld others other_blocks → image_of regions blocks ≡ image_of others other_blocks →
    (regions ≡ others) × (blocks ≡ other_blocks)

-- The words and bytes are those of each store that has this image.
abbrev pub IsToldBy : List ℕ → List (List ℕ) → List Content → Type 0
IsToldBy image regions blocks =
    (others : List (List ℕ)) (other_blocks : List Content) → AreHeld others other_blocks →
    image_of others other_blocks ≡ image → (others ≡ regions) × (other_blocks ≡ blocks)
