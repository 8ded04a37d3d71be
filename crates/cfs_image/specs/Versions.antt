-- What the versions of the layout differ in.
use Rattle.std.specs.Prelude.{ℕ, ◌+◌, ◌*◌}
use Rattle.cfs_image.specs.declared.version.Version.{Version}
use Rattle.cfs_image.specs.declared.version.Version.TheVariants.{First, Present}
use Rattle.cfs_image.specs.Layout.{block_room, record_words, slot_words, table_at}

-- the number in the header
abbrev pub number_of : Version → ℕ
number_of First = 1
number_of Present = 2

-- how many words a journal record has
abbrev pub record_words_in : Version → ℕ
record_words_in First = 15
record_words_in Present = record_words

-- where the journal record at a position begins; the first one stands behind the tables
abbrev pub journal_at_in : Version → ℕ → ℕ
journal_at_in version position = table_at 2 + 8 * record_words_in version * position

-- how long the image of a store is: behind the journal stand 256 size words, 16 slots a queue, and
-- the blocks
abbrev pub image_len_in : Version → ℕ → ℕ → ℕ
image_len_in version blocks queues =
    journal_at_in version 64 + 8 * 256 + 8 * slot_words * 16 * queues + block_room * blocks
