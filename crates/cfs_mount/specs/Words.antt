-- Regions as they are after an image was loaded, or after a crash.
use Rattle.std.specs.Prelude.{ℕ, ◌≡◌, ◌<◌, List, [], length, get_or}
use Rattle.cfs_pmem.specs.Images.{AllImages, Seen, WordStep}
use Rattle.cfs_pmem.specs.Objects.{seen_at}

-- They hold these words, each of them in every image.
pub record HoldWords (seens : List (Seen WordStep)) (words : List (List ℕ)) : Type 0 where
  pub count : length seens ≡ length words
  pub each : (place : ℕ) → place < length words →
      AllImages (seen_at seens place) (λ image. image ≡ get_or words place [])
