-- What is gathered is what stood.
use Rattle.std.specs.Prelude.{ℕ, ◌≡◌, List, length, map}
use Rattle.std.specs.List.{range_with_len}
use Rattle.std.specs.List.Sorted.{IsPermutation}
use Rattle.cfs_pmem.specs.Images.{Seen}

-- Where devices stood one after another, from any number on, and the parts hold each of them once,
-- in whatever order, then those that were gathered are they, word for word and in their order.
abbrev pub FindsAll : {S : Type 0} → List (Seen S) → List (Seen S) → Type 0
FindsAll {S} parts gathered = (first : ℕ) (stood : List (Seen S))
    → map (λ seen. seen.device) stood ≡ range_with_len first (length stood)
    → IsPermutation stood parts → gathered ≡ stood
