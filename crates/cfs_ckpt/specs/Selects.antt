-- What the selector and the two copies hold between two stores.
use Rattle.std.specs.Prelude.{ℕ, suc, ◌≡◌, ◌%◌, ◌<◌, Bool, false, List, [], ◌∷◌, length}
use Rattle.cfs_pmem.specs.AllMoments.{AreDistinct}
use Rattle.cfs_pmem.specs.Images.{Seen, WordStep, words_of, AllImages, IsSure}
use Rattle.cfs_pmem.specs.Objects.{seen_at, all_devices}
use Rattle.cfs_ckpt.specs.Loads.{word_in}

-- The regions are a selector, which has this word now, and two copies of a table. In each image the
-- copy that the selector's word selects stands whole.
pub record Selects (word : ℕ) (unsure : Bool) (seens : List (Seen WordStep)) : Type 0 where
  pub size : length seens ≡ 3
  pub distinct : AreDistinct (all_devices seens)
  pub selector : words_of (seen_at seens 0) ≡ word ∷ []
  pub tables : (copy : ℕ) → copy < 2 → length (words_of (seen_at seens (suc copy))) ≡ 3073
  -- the selector's word is sure, unless a fault left it in doubt
  pub settled : unsure ≡ false → IsSure (seen_at seens 0)
  pub chosen : AllImages (seen_at seens 0)
      (λ image. IsSure (seen_at seens (suc (word_in image % 2))))

-- the regions of a new store: the selector's word is 0, and the first copy is persisted
pub record AreFresh (seens : List (Seen WordStep)) : Type 0 where
  pub size : length seens ≡ 3
  pub distinct : AreDistinct (all_devices seens)
  pub selector : AllImages (seen_at seens 0) (λ image. image ≡ 0 ∷ [])
  pub tables : (copy : ℕ) → copy < 2 → length (words_of (seen_at seens (suc copy))) ≡ 3073
  pub first : IsSure (seen_at seens 1)
