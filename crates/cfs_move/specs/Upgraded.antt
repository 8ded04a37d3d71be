-- The image of the present version that an image of version 1 becomes.
use Rattle.std.specs.Prelude.{ℕ, ◌-◌, ◌*◌, List, ◌++◌, take, drop}
use Rattle.std.specs.List.{flat_map, range_with_len}
use Rattle.byteorder.specs.Endian.{little_bytes}
use Rattle.cfs_image.specs.declared.layout.TheConstants.{VERSION}
use Rattle.cfs_image.specs.declared.version.Version.TheVariants.{First}
use Rattle.cfs_image.specs.Versions.{journal_at_in, record_words_in}

-- the journal record at a position of the old image, and a word 0 behind its words
abbrev pub record_moved : List ℕ → ℕ → List ℕ
record_moved old position =
    take (8 * record_words_in First) (drop (journal_at_in First position) old) ++ little_bytes 8 0

-- the first so many records, in order
unfoldable pub records_moved : List ℕ → ℕ → List ℕ
records_moved old count = flat_map (record_moved old) (range_with_len 0 count)

-- The name of the old image, the present version, all that stands up to its journal, its 64 journal
-- records, each with a word 0 behind it, and all that stands behind its journal.
unfoldable pub upgraded : List ℕ → List ℕ
upgraded old =
    take 8 old ++ (little_bytes 8 VERSION ++ (take (journal_at_in First 0 - 16) (drop 16 old)
    ++ (records_moved old 64 ++ drop (journal_at_in First 64) old)))
