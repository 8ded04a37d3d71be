-- Where each word and byte of an image stands. Offsets and lengths are in bytes.
use Rattle.std.specs.Prelude.{ℕ, ◌+◌, ◌-◌, ◌*◌, ◌/◌, nat_lt, if◌then◌else◌}

-- how many regions a store of so many queues has, which are the numbers below its first block's
abbrev pub region_count : ℕ → ℕ
region_count queues = 323 + 16 * queues

-- how many queues a store of so many regions has
abbrev pub queues_of : ℕ → ℕ
queues_of regions = (regions - 323) / 16

-- how many words a table, a journal record and a slot have; a selector and a size word are one word
abbrev pub table_words : ℕ
table_words = 3073

abbrev pub record_words : ℕ
record_words = 16

abbrev pub slot_words : ℕ
slot_words = 518

-- how many bytes a block has, its tag before them included
abbrev pub block_room : ℕ
block_room = 4104

-- how many words the region with this device number has: the selector, the table copies, the
-- journal records, the size words, the slots
abbrev pub region_words : ℕ → ℕ
region_words device =
    if nat_lt device 1 then 1 else if nat_lt device 3 then table_words
    else if nat_lt device 67 then record_words else if nat_lt device 323 then 1 else slot_words

-- The header has four words. Behind it stand, without a gap, the selector, both table copies, the
-- 64 journal records, the 256 size words, the slots of all queues and the blocks.
abbrev pub selector_at : ℕ
selector_at = 32

abbrev pub table_at : ℕ → ℕ
table_at copy = selector_at + 8 + 8 * table_words * copy

abbrev pub journal_at : ℕ → ℕ
journal_at position = table_at 2 + 8 * record_words * position

abbrev pub size_at : ℕ → ℕ
size_at record_number = journal_at 64 + 8 * record_number

-- the slots of queue q are 16 q to 16 q + 15
abbrev pub slot_at : ℕ → ℕ
slot_at slot = size_at 256 + 8 * slot_words * slot

-- where a block's tag begins, which its bytes follow
abbrev pub block_at : ℕ → ℕ → ℕ
block_at queues block = slot_at 0 + 8 * slot_words * 16 * queues + block_room * block

-- how long the image of a store is
abbrev pub image_len : ℕ → ℕ → ℕ
image_len blocks queues = block_at queues blocks

-- where the words of the region with this device number begin
abbrev pub region_at : ℕ → ℕ
region_at device =
    if nat_lt device 1 then selector_at else if nat_lt device 3 then table_at (device - 1)
    else if nat_lt device 67 then journal_at (device - 3)
    else if nat_lt device 323 then size_at (device - 67) else slot_at (device - 323)

-- the bytes of the device with this number, as an offset and a length
abbrev pub range_of : ℕ → ℕ → ℕ × ℕ
range_of queues device =
    if nat_lt device (region_count queues) then (region_at device, 8 * region_words device)
    else (block_at queues (device - region_count queues), block_room)
