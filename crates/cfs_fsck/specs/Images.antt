-- The words of an image that a survey looks at, and all checks of an image.
use Rattle.std.specs.Prelude.{ℕ, ◌+◌, ◌*◌, List, ◌++◌, map}
use Rattle.std.specs.List.{range_with_len}
use Rattle.cfs_image.specs.declared.version.Version.TheVariants.{Present}
use Rattle.cfs_image.specs.Checks.{Check, checks_of}
use Rattle.cfs_image.specs.Image.{word_at}
use Rattle.cfs_image.specs.Layout.{block_at, journal_at, record_words, selector_at, size_at}
use Rattle.cfs_image.specs.Layout.{slot_at, table_words}
use Rattle.cfs_survey.specs.Surveys.{Words, selected_at, survey_checks}

-- so many words, one behind another from an offset on
unfoldable pub words_at : List ℕ → ℕ → ℕ → List ℕ
words_at bytes at count = map (λ k. word_at bytes (at + 8 * k)) (range_with_len 0 count)

-- the first so many words of each of so many objects, which begin where `place` says
unfoldable pub rows_at : List ℕ → (ℕ → ℕ) → ℕ → ℕ → List (List ℕ)
rows_at bytes place size count = map (λ k. words_at bytes (place k) size) (range_with_len 0 count)

-- the tags of so many blocks of a store of so many queues
unfoldable pub tags_at : List ℕ → ℕ → ℕ → List ℕ
tags_at bytes queues blocks =
    map (λ block. word_at bytes (block_at queues block)) (range_with_len 0 blocks)

-- The selector, the table that it selects, 64 records of the journal, 256 sizes, the first six
-- words of each of the 16 slots of each queue, and the tag of each block. The header has the
-- numbers of queues and blocks.
unfoldable pub image_words : List ℕ → Words
image_words bytes = record {
  selector = word_at bytes selector_at;
  table = words_at bytes (selected_at (word_at bytes selector_at)) table_words;
  journal = rows_at bytes journal_at record_words 64;
  sizes = words_at bytes (size_at 0) 256;
  slots = rows_at bytes slot_at 6 (16 * word_at bytes 24);
  tags = tags_at bytes (word_at bytes 24) (word_at bytes 16);
}

-- the length and the header, and then the words
unfoldable pub image_checks : List ℕ → List Check
image_checks bytes = checks_of Present bytes ++ survey_checks (image_words bytes)
