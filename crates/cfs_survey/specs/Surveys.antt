-- All checks of a store's words, in their order, and the tree that the words tell.
use Rattle.std.specs.Prelude.{ℕ, ◌≡◌, ◌≤◌, ◌/◌, ◌%◌, Bool, List, ◌++◌, is_some, length}
use Rattle.cfs_dir.specs.Change.{changed_by}
use Rattle.cfs_dir.specs.Namespace.{Namespace}
use Rattle.cfs_dir.specs.Words.{table_in}
use Rattle.cfs_image.specs.Checks.{Check}
use Rattle.cfs_image.specs.Layout.{block_at, journal_at, size_at, slot_at, table_at}
use Rattle.cfs_journal.specs.Standing.{changes_above}
use Rattle.cfs_survey.specs.declared.store_words.StoreWords.{StoreWords}
use Rattle.cfs_survey.specs.Journals.{journal_checks}
use Rattle.cfs_survey.specs.Sizes.{sizes_checks}
use Rattle.cfs_survey.specs.Slots.{slots_checks}
use Rattle.cfs_survey.specs.Tables.{table_checks}
use Rattle.cfs_survey.specs.Tags.{block_of, tags_checks}

-- the words of a store as a survey sees them: of each slot those before its payload
pub record Words : Type 0 where
  pub selector : ℕ
  pub table : List ℕ
  pub journal : List (List ℕ)
  pub sizes : List ℕ
  pub slots : List (List ℕ)
  pub tags : List ℕ

abbrev pub words_of : StoreWords → Words
words_of words = record {
  selector = words.selector;
  table = words.table.items;
  journal = words.journal.items;
  sizes = words.sizes.items;
  slots = words.slots.items;
  tags = words.tags.items;
}

-- they are as many as a store has
pub record AreWhole (words : Words) : Type 0 where
  pub table : length words.table ≡ 3073
  pub journal : length words.journal ≡ 64
  pub sizes : length words.sizes ≡ 256
  pub slots : length words.slots ≤ 1024
  pub tags : length words.tags ≤ 16384

-- where the table begins that a selector's word selects, and the number of the last change in it
abbrev pub selected_at : ℕ → ℕ
selected_at selector = table_at (selector % 2)

abbrev pub through_of : ℕ → ℕ
through_of selector = selector / 2

-- the tree of the table, changed by the records of the journal behind it
abbrev pub recovered_tree : Words → Namespace
recovered_tree words =
    changed_by (table_in words.table) (changes_above (through_of words.selector) words.journal)

-- whether some block has a tag
abbrev pub is_mapped : List ℕ → ℕ → Bool
is_mapped tags tag = is_some (block_of tags (length tags) tag)

-- the table, the journal
unfoldable pub namespace_checks : Words → List Check
namespace_checks words =
    table_checks (selected_at words.selector) words.table
    ++ journal_checks (selected_at words.selector) (journal_at 0) (through_of words.selector)
    (table_in words.table) words.journal

-- these, and then the sizes, the tags, the slots
unfoldable pub survey_checks : Words → List Check
survey_checks words =
    namespace_checks words
    ++ (sizes_checks (size_at 0) words.sizes (recovered_tree words).nodes
    ++ (tags_checks (block_at (length words.slots / 16) 0) (recovered_tree words).nodes words.tags
    ++ slots_checks (slot_at 0) (recovered_tree words).nodes (is_mapped words.tags) words.slots))
