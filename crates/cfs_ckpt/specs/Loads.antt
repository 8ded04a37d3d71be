-- What the images of a selector and of two copies of a table load.
use Rattle.std.specs.Prelude.{ℕ, suc, ◌≡◌, ◌%◌, ◌/◌, List, [], get_or}
use Rattle.cfs_dir.specs.Namespace.{Namespace}
use Rattle.cfs_dir.specs.Words.{table_in}
use Rattle.cfs_pmem.specs.Images.{Seen, WordStep, IsImage}
use Rattle.cfs_pmem.specs.Objects.{IsEachImage}

-- a tree, and the number of the last change of the journal that is in it
pub record Loaded : Type 0 where
  pub tree : Namespace
  pub through : ℕ

-- the one word of a selector
abbrev pub word_in : List ℕ → ℕ
word_in image = get_or image 0 0

-- what a word selects: the number `word / 2`, and the copy `word mod 2`, whose image is behind that
-- of the selector
abbrev pub selected : ℕ → List (List ℕ) → Loaded
selected word images =
    record { tree = table_in (get_or images (suc (word % 2)) []); through = word / 2 }

-- what images load: the first is the selector's, and then come the two copies
abbrev pub loaded : List (List ℕ) → Loaded
loaded images = selected (word_in (get_or images 0 [])) images

-- a crash may leave images that load this
pub record CanLoad (seens : List (Seen WordStep)) (x : Loaded) : Type 0 where
  pub images : List (List ℕ)
  pub possible : IsEachImage IsImage seens images
  pub loads : loaded images ≡ x

-- whatever a crash leaves loads this
abbrev pub LoadsOnly : List (Seen WordStep) → Loaded → Type 0
LoadsOnly seens x =
    (images : List (List ℕ)) → IsEachImage IsImage seens images → loaded images ≡ x
