-- The devices that tell the tree of a store: the selector, the two copies of the table, and the 64
-- records of the journal.
use Rattle.std.specs.Prelude.{ℕ, ◌≡◌, ◌<◌, ◌%◌, List, [], ◌∷◌, ◌++◌, length}
use Rattle.cfs_pmem.specs.AllMoments.{AreDistinct}
use Rattle.cfs_pmem.specs.Images.{AllImages, IsSure, Seen, WordStep, words_of}
use Rattle.cfs_pmem.specs.Objects.{all_devices, seen_at}
use Rattle.cfs_survey.specs.Surveys.{Words}
use Rattle.cfs_mount.specs.Words.{HoldWords}

-- They hold these words in every image, as they do after an image was loaded, or after a crash.
pub record HoldFront (words : Words) (selector : Seen WordStep)
    (tables records : List (Seen WordStep)) : Type 0 where
  pub word : AllImages selector (λ image. image ≡ words.selector ∷ [])
  pub copies : length tables ≡ 2
  pub long : (copy : ℕ) → copy < 2 → length (words_of (seen_at tables copy)) ≡ 3073
  pub sure : (copy : ℕ) → copy < 2 → IsSure (seen_at tables copy)
  pub selected : words_of (seen_at tables (words.selector % 2)) ≡ words.table
  pub journal : HoldWords records words.journal
  pub sizes : (position : ℕ) → position < 64 → length (words_of (seen_at records position)) ≡ 16
  pub distinct : AreDistinct (all_devices ((selector ∷ tables) ++ records))
