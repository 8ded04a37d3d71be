-- A store as it was read.
use Rattle.std.specs.Prelude.{ℕ, List, map}
use Rattle.cfs_block.specs.BlockImages.{Content}
use Rattle.cfs_medium.specs.declared.recovery.BlockFound.{BlockFound}
use Rattle.cfs_medium.specs.Store.{Store}

abbrev pub contents_of : List BlockFound → List Content
contents_of blocks = map (λ b. record { tag = b.tag; bytes = b.bytes }) blocks

abbrev pub store_of : ℕ → List (List ℕ) → List BlockFound → Store
store_of size slots blocks = record { size = size; slots = slots; blocks = contents_of blocks }
