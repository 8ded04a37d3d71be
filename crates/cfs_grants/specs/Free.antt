-- The records that are free: a bit each, 64 in a word.
use Rattle.std.specs.Prelude.{ℕ, ◌/◌, ◌%◌, ◌==◌, Bool, List, get_or}
use Rattle.std.specs.Int.{bit_at}
use Rattle.cfs_grants.specs.declared.free.FreeRecords.{FreeRecords}

abbrev pub is_set : List ℕ → ℕ → Bool
is_set words rec = bit_at (get_or words (rec / 64) 0) (rec % 64) == 1

abbrev pub is_free : FreeRecords → ℕ → Bool
is_free records rec = is_set records.words rec
