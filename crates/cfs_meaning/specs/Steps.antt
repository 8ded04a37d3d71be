-- Where the devices stand, and the operations of each call on them in order.
use Rattle.std.specs.Prelude.{ℕ, ◌+◌, ◌*◌, Bool, true, false, List, [], ◌∷◌, ◌++◌, length, map}
use Rattle.std.specs.Prelude.{reverse, take, drop, nat_lt}
use Rattle.std.specs.List.{enumerate_from, flat_map}
use Rattle.cfs_file.specs.declared.request.Request.{Request}
use Rattle.cfs_pmem.specs.WordOps.{get, set_ops}
use Rattle.cfs_block.specs.BlockOps.{retag_ops, zero_ops}
use Rattle.cfs_slot.specs.Operations.{gets, head_ops, part_ops, stage_ops}
use Rattle.cfs_slot.specs.Payload.{SlotRead, payload_reads}
use Rattle.cfs_slot.specs.Staging.{staged_payload}
use Rattle.cfs_dir.specs.declared.change.Change.{Change}
use Rattle.cfs_journal.specs.Records.{record_ops}
use Rattle.cfs_journal.specs.Standing.{place}
use Rattle.cfs_ckpt.specs.Placed.{PlacedOp}
use Rattle.cfs_meaning.specs.Drive.{Op, Word, on_block, on_region}

-- ---- where the devices stand

abbrev pub selector : ℕ
selector = 0

abbrev pub table_copy : ℕ → ℕ
table_copy copy = 1 + copy

-- the journal's record at a position
abbrev pub journal_record : ℕ → ℕ
journal_record position = 3 + position

abbrev pub size_word : ℕ → ℕ
size_word rec = 67 + rec

-- slot s of queue q
abbrev pub slot : ℕ → ℕ → ℕ
slot queue s = 323 + 16 * queue + s

-- ---- one word or one block

abbrev pub word_kept : ℕ → ℕ → ℕ → List Op
word_kept r at word = on_region r (set_ops at word)

-- a gate is word 0 of its slot, a mark word 1, and an offset word 3
abbrev pub gate_opened : ℕ → ℕ → List Op
gate_opened head place = word_kept head 0 place

abbrev pub gate_closed : ℕ → List Op
gate_closed head = word_kept head 0 0

abbrev pub marked : ℕ → List Op
marked head = word_kept head 1 1

abbrev pub offset_set : ℕ → ℕ → List Op
offset_set head offset = word_kept head 3 offset

abbrev pub zeroed : ℕ → List Op
zeroed b = on_block b zero_ops

abbrev pub tag_kept : ℕ → ℕ → List Op
tag_kept b tag = on_block b (retag_ops tag)

-- ---- staging

abbrev pub part_of : List ℕ → ℕ → List ℕ
part_of bytes i = take 4096 (drop (4096 * i) bytes)

-- the tails of a long write: each holds the next 4096 bytes behind those of the head
abbrev pub tails_staged : ℕ → ℕ → ℕ → List ℕ → List ℕ → List Op
tails_staged ino grant queue bytes tails =
    flat_map (λ t. on_region (slot queue t.1) (part_ops ino (part_of bytes t.0) grant))
    (enumerate_from 1 tails)

-- A request in slots of a queue, the head first: what one slot holds, or else the tails, ascending,
-- and then the head.
abbrev pub staged_in : Bool → ℕ → Request → ℕ → ℕ → ℕ → List ℕ → List Op
staged_in false ino request grant queue head tails =
    on_region (slot queue head) (stage_ops ino request grant)
staged_in true ino request grant queue head tails =
    tails_staged ino grant queue (staged_payload request) tails
    ++ on_region (slot queue head) (head_ops ino request grant tails)

abbrev pub staged : ℕ → Request → ℕ → ℕ → List ℕ → List Op
staged ino request grant queue [] = []
staged ino request grant queue (head ∷ tails) =
    staged_in (nat_lt 4096 (length (staged_payload request))) ino request grant queue head tails

-- ---- reading

-- so many bytes of a payload from a place on, which stands in slots with these device numbers
abbrev pub payload_read : List ℕ → ℕ → ℕ → List Op
payload_read devices from len =
    map (λ (read : SlotRead). Word read.device (get read.at))
    (reverse (payload_reads devices from len))

-- the first n words of a region
abbrev pub words_read : ℕ → ℕ → List Op
words_read r n = on_region r (gets n)

-- ---- the tree

-- a change with its number, the record that stands k behind a number
abbrev pub appended : ℕ → ℕ → Change → List Op
appended through k change =
    on_region (journal_record (place through k)) (record_ops (through + k + 1) change)

abbrev pub record_closed : ℕ → ℕ → List Op
record_closed through k = word_kept (journal_record (place through k)) 0 0

-- operations on the selector and the two copies, each with its place among them
abbrev pub on_tables : List PlacedOp → List Op
on_tables ops = map (λ (placed : PlacedOp). Word placed.place placed.op) (reverse ops)
