-- What it means that a request is staged.
use Rattle.std.specs.Prelude.{ℕ, ◌+◌, ◌-◌, ◌*◌, ◌/◌, ◌<◌, ◌≤◌, ◌≡◌, List, [], ◌∷◌, ◌++◌, length, take, drop, replicate}
use Rattle.cfs_file.specs.declared.request.Request.{Request}
use Rattle.cfs_file.specs.declared.request.Request.TheVariants.{Write, Append, Truncate, Read, Sync}
use Rattle.cfs_slot.specs.Tails.{numbers_in}
use Rattle.cfs_slot.specs.Words.{gate_of, mark_of, ino_of, offset_of, kind_of, count_of, grant_of, tails_of, bytes_of, request_of}

-- What one slot holds: a write or an append of 1 to 4096 bytes, or a truncate.
abbrev pub IsStageable : Request → Type 0
IsStageable (Write offset bytes) = (0 < length bytes) × (length bytes ≤ 4096)
IsStageable (Append bytes) = (0 < length bytes) × (length bytes ≤ 4096)
IsStageable (Truncate n) = Unit {0}
IsStageable (Read offset count) = ⊥
IsStageable Sync = ⊥

-- What takes more than one: a write or an append of 4097 to 65,536 bytes.
abbrev pub IsLong : Request → Type 0
IsLong (Write offset bytes) = (4096 < length bytes) × (length bytes ≤ 65536)
IsLong (Append bytes) = (4096 < length bytes) × (length bytes ≤ 65536)
IsLong (Truncate n) = ⊥
IsLong (Read offset count) = ⊥
IsLong Sync = ⊥

-- What is staged of a request: an append is staged as a write at offset 0, whose offset is set when
-- it is known.

abbrev pub staged_offset : Request → ℕ
staged_offset (Write offset bytes) = offset
staged_offset (Append bytes) = 0
staged_offset (Truncate n) = n
staged_offset (Read offset count) = 0
staged_offset Sync = 0

abbrev pub staged_kind : Request → ℕ
staged_kind (Write offset bytes) = 1
staged_kind (Append bytes) = 1
staged_kind (Truncate n) = 2
staged_kind (Read offset count) = 0
staged_kind Sync = 0

abbrev pub staged_payload : Request → List ℕ
staged_payload (Write offset bytes) = bytes
staged_payload (Append bytes) = bytes
staged_payload (Truncate n) = []
staged_payload (Read offset count) = []
staged_payload Sync = []

abbrev pub staged_request : Request → Request
staged_request (Write offset bytes) = Write offset bytes
staged_request (Append bytes) = Write 0 bytes
staged_request (Truncate n) = Truncate n
staged_request (Read offset count) = Read offset count
staged_request Sync = Sync

-- how many words of eight bytes so many bytes take
abbrev pub words_for : ℕ → ℕ
words_for count = (count + 7) / 8

-- how many slots a request of so many bytes takes
abbrev pub slots_for : ℕ → ℕ
slots_for count = (count - 1) / 4096 + 1

-- The payload's words are its bytes, and zero bytes up to the end of the last word.
abbrev pub HoldsPayload : List ℕ → List ℕ → Type 0
HoldsPayload payload words =
    bytes_of (take (words_for (length payload)) (drop 6 words)) ≡ payload ++
    replicate (8 * words_for (length payload) - length payload) 0

-- The words hold the request whole, behind a closed gate and without a mark.
pub record IsStaged (ino : ℕ) (request : Request) (grant : ℕ) (words : List ℕ) : Type 0 where
  pub gate_is : gate_of words ≡ 0
  pub mark_is : mark_of words ≡ 0
  pub ino_is : ino_of words ≡ ino
  pub offset_is : offset_of words ≡ staged_offset request
  pub kind_is : kind_of words ≡ staged_kind request
  pub count_is : count_of words ≡ length (staged_payload request)
  pub grant_is : grant_of words ≡ grant
  pub tails_are : tails_of words ≡ 0
  pub payload_is : HoldsPayload (staged_payload request) words
  pub stands_for : request_of words [] ≡ staged_request request

-- The words hold a part of a long write, as a tail.
pub record IsPart (ino : ℕ) (part : List ℕ) (grant : ℕ) (words : List ℕ) : Type 0 where
  pub gate_is : gate_of words ≡ 0
  pub mark_is : mark_of words ≡ 0
  pub ino_is : ino_of words ≡ ino
  pub offset_is : offset_of words ≡ 0
  pub kind_is : kind_of words ≡ 4
  pub count_is : count_of words ≡ length part
  pub grant_is : grant_of words ≡ grant
  pub payload_is : HoldsPayload part words

-- The tails, whose words are listed, hold these bytes in order: 4096 in each but the last, and in
-- that what is left.
abbrev pub AreParts : ℕ → ℕ → List ℕ → List (List ℕ) → Type 0
AreParts ino grant bytes [] = length bytes ≡ 0
AreParts ino grant bytes (words ∷ tails) =
    (0 < length bytes) × IsPart ino (take 4096 bytes) grant words ×
    AreParts ino grant (drop 4096 bytes) tails

-- The words of a head and those of its tails, which have these numbers, hold the request whole,
-- behind closed gates and without a mark.
pub record IsStagedLong (ino : ℕ) (request : Request) (grant : ℕ) (numbers words : List ℕ)
    (tails : List (List ℕ)) : Type 0 where
  pub gate_is : gate_of words ≡ 0
  pub mark_is : mark_of words ≡ 0
  pub ino_is : ino_of words ≡ ino
  pub offset_is : offset_of words ≡ staged_offset request
  pub kind_is : kind_of words ≡ 3
  pub count_is : count_of words ≡ length (staged_payload request)
  pub grant_is : grant_of words ≡ grant
  pub tails_are : numbers_in (tails_of words) ≡ numbers
  pub payload_is : HoldsPayload (take 4096 (staged_payload request)) words
  pub parts_are : AreParts ino grant (drop 4096 (staged_payload request)) tails
  pub stands_for : request_of words tails ≡ staged_request request
