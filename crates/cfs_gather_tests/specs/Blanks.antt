-- The records of a new store's journal, each with its device number.
use Rattle.std.specs.Prelude.{ℕ, List, map, replicate}
use Rattle.std.specs.List.{range_with_len}
use Rattle.cfs_pmem.specs.Images.{Seen, WordStep, began}

-- the first so many
unfoldable pub blanks : ℕ → List (Seen WordStep)
blanks count = map (λ device. began device (replicate 16 0)) (range_with_len 3 count)
