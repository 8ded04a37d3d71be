-- The operations of a stage, the newest first: the table of its device steps as data.
use Rattle.std.specs.Prelude.{ℕ, zero, suc, ◌+◌, ◌-◌, ◌*◌, ◌^◌, List, [], ◌∷◌, ◌++◌, length, take, drop}
use Rattle.byteorder.specs.Endian.{little_number}
use Rattle.cfs_file.specs.declared.request.Request.{Request}
use Rattle.cfs_pmem.specs.WordOps.{WordOp, get, persist, puts}
use Rattle.cfs_slot.specs.Staging.{staged_kind, staged_offset, staged_payload, words_for}
use Rattle.cfs_slot.specs.Tails.{set_of}

-- n words of eight bytes each, the first byte lowest; past the last byte stand zero bytes
abbrev pub payload_words : ℕ → List ℕ → List ℕ
payload_words zero bytes = []
payload_words (suc n) bytes = little_number 8 bytes ∷ payload_words n (drop 8 bytes)

-- a write of each of these words, from a place on
abbrev pub puts_all : ℕ → List ℕ → List WordOp
puts_all from words = puts from words (length words)

-- Words 1 to 5, the words of a payload, and a persist. No slot is written with a mark; word 4 is
-- the kind's.
abbrev pub slot_ops : ℕ → ℕ → ℕ → ℕ → List ℕ → List WordOp
slot_ops ino offset kind grant payload =
    persist ∷ (puts_all 6 (payload_words (words_for (length payload)) payload)
    ++ puts_all 1 (0 ∷ ino ∷ offset ∷ kind ∷ grant ∷ []))

-- of a request that one slot holds
abbrev pub stage_ops : ℕ → Request → ℕ → List WordOp
stage_ops ino request grant =
    slot_ops ino (staged_offset request)
    (staged_kind request * 65536 + length (staged_payload request)) grant
    (staged_payload request)

-- of a part of a long write, as a tail
abbrev pub part_ops : ℕ → List ℕ → ℕ → List WordOp
part_ops ino part grant = slot_ops ino 0 (4 * 65536 + length part) grant part

-- of a long write's head, whose tails have these numbers
abbrev pub head_ops : ℕ → Request → ℕ → List ℕ → List WordOp
head_ops ino request grant numbers =
    slot_ops ino (staged_offset request)
    (set_of numbers * 2 ^ 32 + (3 * 65536 + (length (staged_payload request) - 1))) grant
    (take 4096 (staged_payload request))

-- a read of each of the first n words
abbrev pub gets : ℕ → List WordOp
gets zero = []
gets (suc k) = get k ∷ gets k

-- of recovery, which reads words 0 to 5
abbrev pub found_ops : List WordOp
found_ops = gets 6
