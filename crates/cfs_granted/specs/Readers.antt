-- Whose reads are pending.
use Rattle.std.specs.Prelude.{ℕ, ◌==◌, Bool, not, List, filter, map}
use Rattle.cfs_granted.specs.declared.reader.Reader.{Reader}

abbrev pub reader_place : Reader → ℕ
reader_place reader = reader.place

abbrev pub is_reader_at : ℕ → Reader → Bool
is_reader_at place reader = reader.place == place

-- the read of a place is not pending any more
abbrev pub without_reader : ℕ → List Reader → List Reader
without_reader place readers = filter (λ r. not (is_reader_at place r)) readers

-- it was asked under this grant
abbrev pub is_under : ℕ → Reader → Bool
is_under grant reader = reader.grant == grant

-- the places of the reads under a grant
abbrev pub places_under : ℕ → List Reader → List ℕ
places_under grant readers = map reader_place (filter (λ r. is_under grant r) readers)
