-- The region of a size word that is 0.
use Rattle.std.specs.Prelude.{◌≡◌, length, get_or}
use Rattle.cfs_pmem.specs.Images.{IsSure, Seen, WordStep, words_of}

-- It is one word, which is 0, and this is its only image.
pub record IsClean (size : Seen WordStep) : Type 0 where
  pub word : length (words_of size) ≡ 1
  pub sure : IsSure size
  pub zero : get_or (words_of size) 0 0 ≡ 0
