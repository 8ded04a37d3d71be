-- The words of a slot by name, and the entry that they stand for.
use Rattle.std.specs.Prelude.{ℕ, ◌+◌, ◌/◌, ◌%◌, ◌^◌, ◌≡◌, ◌==◌, Bool, not, ◌&&◌, Option, Some, None, List, ◌∷◌, take, drop, if◌then◌else◌}
use Rattle.std.specs.Int.{w64, to_le_bytes}
use Rattle.std.specs.List.{flat_map}
use Rattle.std.proofs.Math.ListN.{get_or, set}
use Rattle.cfs_file.specs.declared.request.Request.{Request}
use Rattle.cfs_file.specs.declared.request.Request.TheVariants.{Write, Append, Truncate, Read, Sync}
use Rattle.cfs_pmem.specs.Images.{Seen, WordStep, words_of, AllImages}
use Rattle.cfs_slot.specs.declared.fields.Found.{Found}

abbrev pub gate_of : List ℕ → ℕ
gate_of words = get_or words 0 0

abbrev pub mark_of : List ℕ → ℕ
mark_of words = get_or words 1 0

abbrev pub ino_of : List ℕ → ℕ
ino_of words = get_or words 2 0

-- of a truncate, its new length
abbrev pub offset_of : List ℕ → ℕ
offset_of words = get_or words 3 0

-- Word 4 has the kind, times 65,536: 1 of a write that one slot holds, 2 of a truncate, 3 of the
-- head of a longer write and 4 of its tails.
abbrev pub kind_of : List ℕ → ℕ
kind_of words = get_or words 4 0 % 2 ^ 32 / 65536

-- It also has the length of the payload, of a head that of the whole write less one.
abbrev pub count_of : List ℕ → ℕ
count_of words =
    if kind_of words == 3 then get_or words 4 0 % 65536 + 1 else get_or words 4 0 % 65536

-- And of a head a bit for the number of each tail, from 2^32 on.
abbrev pub tails_of : List ℕ → ℕ
tails_of words = get_or words 4 0 / 2 ^ 32

abbrev pub grant_of : List ℕ → ℕ
grant_of words = get_or words 5 0

-- the bytes of words, the first byte of a word lowest
abbrev pub bytes_of : List ℕ → List ℕ
bytes_of words = flat_map (to_le_bytes w64) words

-- the bytes of a slot's 512 words of payload
abbrev pub area_of : List ℕ → List ℕ
area_of words = bytes_of (drop 6 words)

-- the payload of a head and its tails, whose words are listed in order; an entry of one slot has no
-- tails
abbrev pub payload_of : List ℕ → List (List ℕ) → List ℕ
payload_of words tails = take (count_of words) (flat_map area_of (words ∷ tails))

abbrev pub found_of : List ℕ → Found
found_of words = record {
  gate = gate_of words;
  mark = mark_of words;
  ino = ino_of words;
  offset = offset_of words;
  kind = kind_of words;
  count = count_of words;
  grant = grant_of words;
  tails = tails_of words;
}

-- a write of its payload at its offset, or a truncate to its offset
abbrev pub request_of : List ℕ → List (List ℕ) → Request
request_of words tails =
    if kind_of words == 2 then Truncate (offset_of words)
    else Write (offset_of words) (payload_of words tails)

-- the same at another offset
abbrev pub with_offset : ℕ → Request → Request
with_offset at (Write offset bytes) = Write at bytes
with_offset at (Append bytes) = Append bytes
with_offset at (Truncate n) = Truncate at
with_offset at (Read offset count) = Read at count
with_offset at Sync = Sync

-- the gate is closed
abbrev pub IsClosed : List ℕ → Type 0
IsClosed words = gate_of words ≡ 0

-- The words are a live entry of the file with this inode number: the gate is open, and it is no
-- no-op.
abbrev pub is_live : ℕ → List ℕ → Bool
is_live ino words = not (gate_of words == 0) && not (mark_of words == 1) && (ino_of words == ino)

-- the place and the request of the file's live entry, if it is one
abbrev pub live_entry : ℕ → List ℕ → List (List ℕ) → Option (ℕ × Request)
live_entry ino words tails =
    if is_live ino words then Some (gate_of words, request_of words tails) else None

-- What a slot keeps in each image, beside its gate.

-- Each image is the words now, but for the offset.
abbrev pub IsWholeButOffset : Seen WordStep → Type 0
IsWholeButOffset seen = AllImages seen (λ image. set image 3 0 ≡ set (words_of seen) 3 0)

-- Each image is the words now from the inode number on.
abbrev pub IsWhole : Seen WordStep → Type 0
IsWhole seen = AllImages seen (λ image. drop 2 image ≡ drop 2 (words_of seen))
