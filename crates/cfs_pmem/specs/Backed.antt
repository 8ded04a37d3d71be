-- What a region in memory keeps true: its history is that of its two copies.
use Rattle.std.specs.Prelude.{ℕ, ◌<◌, ◌≤◌, ◌^◌, ◌≡◌, List, length}
use Rattle.cfs_pmem.specs.declared.run.Run.{Run}
use Rattle.cfs_pmem.specs.Images.{WordStep, words_now, words_kept}
use Rattle.cfs_pmem.specs.Range.{range_of, DifferWithin}

pub record IsBacked (history : List WordStep) (dirty : Run)
    (durable present : List ℕ) : Type 0 where
  pub present_is : words_now history ≡ present
  pub durable_is : words_kept history ≡ durable
  pub ordered : dirty.from ≤ dirty.to
  pub differ : DifferWithin (range_of dirty) durable present
  pub small : length present < 2 ^ 32
