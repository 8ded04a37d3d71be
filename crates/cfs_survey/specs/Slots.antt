-- The checks of the slots' words, of which the first six of each are looked at. `at` is the offset
-- of
-- a slot's first word, but in the last definitions that of the first slot of all.
use Rattle.std.specs.Prelude.{ℕ, ◌+◌, ◌-◌, ◌*◌, ◌/◌, ◌%◌, ◌==◌, ◌&&◌, ◌||◌, not, min, nat_le}
use Rattle.std.specs.Prelude.{nat_lt}
use Rattle.std.specs.Prelude.{Bool, List, [], ◌∷◌, ◌++◌, get_or, length, take, drop, position}
use Rattle.std.specs.Prelude.{Option, Some, None, is_none, if◌then◌else◌}
use Rattle.std.specs.List.{flat_map, list_all, list_any}
use Rattle.cfs_dir.specs.declared.node.Node.{Node}
use Rattle.cfs_image.specs.Checks.{Check, check}
use Rattle.cfs_slot.specs.Tails.{numbers_in}
use Rattle.cfs_slot.specs.Words.{count_of, gate_of, ino_of, is_live, kind_of, mark_of, offset_of}
use Rattle.cfs_slot.specs.Words.{tails_of}
use Rattle.cfs_survey.specs.Faults.{at_least, at_most, checks_from, equal}
use Rattle.cfs_survey.specs.Tags.{is_file}

-- a slot with an open gate, whose inode number is that of a file; it is live unless it is a no-op
abbrev pub is_entry : List Node → List ℕ → Bool
is_entry nodes words = not (gate_of words == 0) && is_file nodes (ino_of words)

abbrev pub is_live_entry : List Node → List ℕ → Bool
is_live_entry nodes words = is_live (ino_of words) words && is_file nodes (ino_of words)

-- the number of the first slot of the same queue
abbrev pub queue_from : ℕ → ℕ
queue_from slot = slot / 16 * 16

-- the device number of one of the slots from a number on, or 0 where there is none
abbrev pub device_in : ℕ → Option ℕ → ℕ
device_in from None = 0
device_in from (Some k) = 323 + from + k

-- the kind is one of the three, and only a long write has tails
abbrev pub kind_checks : ℕ → List ℕ → List Check
kind_checks at words =
    check (nat_le 1 (kind_of words) && nat_le (kind_of words) 3) (at + 32) (get_or words 4 0) 3
    ∷ check ((kind_of words == 3) || (tails_of words == 0)) (at + 32) (tails_of words) 0 ∷ []

-- so many bytes of payload, at least and at most
abbrev pub length_checks : ℕ → List ℕ → ℕ → ℕ → List Check
length_checks at words least most =
    at_least least (at + 32) (count_of words) ∷ at_most most (at + 32) (count_of words) ∷ []

-- how many tails the length takes
abbrev pub tails_due : List ℕ → ℕ
tails_due words = (count_of words - 1) / 4096

-- the tails have numbers of at most 15 above that of the head, and are as many as they should be
abbrev pub are_tails : ℕ → List ℕ → List ℕ → Bool
are_tails slot words numbers =
    nat_lt (tails_of words) 65536 && list_all (λ number. nat_lt (slot % 16) number) numbers
    && (length numbers == tails_due words)

-- the gate of a tail is closed
abbrev pub tail_checks : ℕ → List (List ℕ) → ℕ → ℕ → List Check
tail_checks at slots from number =
    equal 0 (at + 32) (gate_of (get_or slots (from + number) [])) ∷ []

-- whether two lists of numbers have one in common
abbrev pub have_common : List ℕ → List ℕ → Bool
have_common numbers others =
    list_any (λ number. list_any (λ other. other == number) others) numbers

-- the first of these slots that is live and has one of these tails
abbrev pub owner_of : List Node → List ℕ → List (List ℕ) → Option ℕ
owner_of nodes numbers slots =
    position (λ other. is_live_entry nodes other
    && have_common numbers (numbers_in (tails_of other))) slots

-- the lower slots of the same queue
abbrev pub lower_in_queue : ℕ → List (List ℕ) → List (List ℕ)
lower_in_queue slot slots = take (slot - queue_from slot) (drop (queue_from slot) slots)

-- the tails of a long write, of which none is a tail of a lower live slot
abbrev pub set_checks : ℕ → List Node → List (List ℕ) → ℕ → List ℕ → List ℕ → List Check
set_checks at nodes slots slot words numbers =
    check (are_tails slot words numbers) (at + 32) (tails_of words) (tails_due words)
    ∷ (flat_map (tail_checks at slots (queue_from slot)) numbers
    ++ check (is_none (owner_of nodes numbers (lower_in_queue slot slots))) (at + 32)
    (tails_of words)
    (device_in (queue_from slot) (owner_of nodes numbers (lower_in_queue slot slots))) ∷ [])

-- the end of a write; one that passes 64 bits is named as the greatest number of them
abbrev pub end_of : List ℕ → ℕ
end_of words = offset_of words + count_of words

abbrev pub end_check : ℕ → List ℕ → Check
end_check at words =
    at_most 1048576 (at + 24) (min (end_of words) 18446744073709551615)

abbrev pub truncate_checks : ℕ → List ℕ → List Check
truncate_checks at words =
    equal 0 (at + 32) (count_of words) ∷ at_most 1048576 (at + 24) (offset_of words) ∷ []

abbrev pub write_checks : ℕ → List ℕ → List Check
write_checks at words = length_checks at words 1 4096 ++ end_check at words ∷ []

abbrev pub long_checks : ℕ → List Node → List (List ℕ) → ℕ → List ℕ → List Check
long_checks at nodes slots slot words =
    length_checks at words 4097 65536
    ++ (set_checks at nodes slots slot words (numbers_in (tails_of words))
    ++ end_check at words ∷ [])

-- the request by its kind
abbrev pub request_checks : ℕ → List Node → List (List ℕ) → ℕ → List ℕ → List Check
request_checks at nodes slots slot words =
    if kind_of words == 2 then truncate_checks at words
    else if kind_of words == 3 then long_checks at nodes slots slot words
    else write_checks at words

-- the first of these slots that is live with the same inode number and gate
abbrev pub twin_slot : List ℕ → List (List ℕ) → Option ℕ
twin_slot words slots =
    position (λ other. is_live (ino_of words) other && (gate_of other == gate_of words)) slots

abbrev pub twin_check : ℕ → List (List ℕ) → ℕ → List ℕ → Check
twin_check at slots slot words =
    check (is_none (twin_slot words (take slot slots))) at (gate_of words)
    (device_in 0 (twin_slot words (take slot slots)))

-- The file blocks that a write touches, of which each has a block with its tag. `mapped` says which
-- tags have one.
abbrev pub tag_of : ℕ → ℕ → ℕ
tag_of ino block = ino * 65536 + block + 1

abbrev pub block_checks : ℕ → (ℕ → Bool) → List ℕ → ℕ → List Check
block_checks at mapped words block =
    check (mapped (tag_of (ino_of words) block)) (at + 24) block 0 ∷ []

abbrev pub first_block : List ℕ → ℕ
first_block words = offset_of words / 4096

abbrev pub blocks_touched : List ℕ → ℕ
blocks_touched words = (end_of words + 4095) / 4096 - first_block words

abbrev pub touched_checks : ℕ → (ℕ → Bool) → List ℕ → List Check
touched_checks at mapped words =
    if kind_of words == 2 then []
    else checks_from (block_checks at mapped words) (first_block words) (blocks_touched words)

-- an entry that is no no-op
abbrev pub entry_checks : ℕ → List Node → (ℕ → Bool) → List (List ℕ) → ℕ → List ℕ → List Check
entry_checks at nodes mapped slots slot words =
    kind_checks at words
    ++ (request_checks at nodes slots slot words
    ++ (twin_check at slots slot words ∷ touched_checks at mapped words))

abbrev pub open_checks : ℕ → List Node → (ℕ → Bool) → List (List ℕ) → ℕ → List ℕ → List Check
open_checks at nodes mapped slots slot words =
    at_most 1 (at + 8) (mark_of words)
    ∷ (if mark_of words == 1 then [] else entry_checks at nodes mapped slots slot words)

-- where the words of a slot begin
abbrev pub slot_at : ℕ → ℕ → ℕ
slot_at at slot = at + 4144 * slot

-- an open slot of a file
abbrev pub slot_checks : ℕ → List Node → (ℕ → Bool) → List (List ℕ) → ℕ → List Check
slot_checks at nodes mapped slots slot =
    if is_entry nodes (get_or slots slot [])
    then open_checks (slot_at at slot) nodes mapped slots slot (get_or slots slot []) else []

-- each slot, in device order
unfoldable pub slots_checks : ℕ → List Node → (ℕ → Bool) → List (List ℕ) → List Check
slots_checks at nodes mapped slots =
    checks_from (slot_checks at nodes mapped slots) 0 (length slots)
