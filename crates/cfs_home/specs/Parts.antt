-- One file of an image, position by position, and the three kinds of step by which a mount brings
-- its lowest live entry home.
use Rattle.std.specs.Prelude.{ℕ, ◌+◌, ◌-◌, ◌≤◌, ◌≡◌, ◌⊎◌, List, [], ◌∷◌, length, map, max, get_or}
use Rattle.std.specs.List.{range_with_len}
use Rattle.cfs_file.specs.declared.request.Request.{Request}
use Rattle.cfs_file.specs.declared.request.Request.TheVariants as requests
use Rattle.cfs_file.specs.declared.sizes.TheConstants.{LONGEST_FILE}
use Rattle.cfs_file.specs.Span.{Touches}
use Rattle.cfs_medium.specs.Store.{taken_through}

-- ---- requests as slots hold them

-- a write or a truncate that makes no file longer than the longest; an append is held as a write
abbrev pub IsPlaced : Request → Type 0
IsPlaced (requests.Write offset bytes) = offset + length bytes ≤ LONGEST_FILE
IsPlaced (requests.Append bytes) = ⊥
IsPlaced (requests.Truncate n) = n ≤ LONGEST_FILE
IsPlaced (requests.Read offset count) = ⊥
IsPlaced requests.Sync = ⊥

-- the length of a file of this length after the request
abbrev pub size_after : Request → ℕ → ℕ
size_after (requests.Write offset bytes) size = max size (offset + length bytes)
size_after (requests.Append bytes) size = size + length bytes
size_after (requests.Truncate n) size = n
size_after (requests.Read offset count) size = size
size_after requests.Sync size = size

-- the byte that a write brings to a position that it touches; a truncate brings 0
abbrev pub own_byte : Request → ℕ → ℕ
own_byte (requests.Write offset bytes) position = get_or bytes (position - offset) 0
own_byte (requests.Append bytes) position = 0
own_byte (requests.Truncate n) position = 0
own_byte (requests.Read offset count) position = 0
own_byte requests.Sync position = 0

abbrev pub ArePlaced : List (ℕ × Request) → Type 0
ArePlaced [] = Unit {0}
ArePlaced (entry ∷ entries) = IsPlaced entry.1 × ArePlaced entries

-- one of the entries touches the position
abbrev pub SomeTouches : List (ℕ × Request) → ℕ → Type 0
SomeTouches [] position = ⊥
SomeTouches (entry ∷ entries) position = Touches entry.1 0 position ⊎ SomeTouches entries position

-- ---- the file

-- The stored size; the byte that is stored for each position, also past that size; and the live
-- entries, each with its gate, in order of the gates.
pub record Part : Type 0 where
  pub size : ℕ
  pub byte : ℕ → ℕ
  pub entries : List (ℕ × Request)

abbrev pub stored_by : ℕ → (ℕ → ℕ) → List ℕ
stored_by size byte = map byte (range_with_len 0 size)

-- the file that a mount finds: the stored one, taken through the live entries
abbrev pub recovered_by : Part → List ℕ
recovered_by part = taken_through (stored_by part.size part.byte) part.entries

-- The size is one of a file, the entries are writes and truncates, and past the stored size a byte
-- that none of them touches is 0.
pub record IsSound (part : Part) : Type 0 where
  pub fits : part.size ≤ LONGEST_FILE
  pub placed : ArePlaced part.entries
  pub zero_past : (position : ℕ) → part.size ≤ position →
      (SomeTouches part.entries position → ⊥) → part.byte position ≡ 0

-- The size is one that the request leaves as it is, and its bytes stand.
pub record IsHome (part : Part) (request : Request) : Type 0 where
  pub size_is : size_after request part.size ≡ part.size
  pub bytes_are : (position : ℕ) → Touches request 0 position →
      part.byte position ≡ own_byte request position

-- a mount finds the same file, and the part is sound
pub record Keeps (first second : Part) : Type 0 where
  pub recovers : recovered_by second ≡ recovered_by first
  pub sound : IsSound second

-- ---- steps

-- Where a live entry touches a position, its byte is now anything; all else is as before.
pub record BytesMoved (first second : Part) : Type 0 where
  pub size : second.size ≡ first.size
  pub entries : second.entries ≡ first.entries
  pub beside : (position : ℕ) → (SomeTouches first.entries position → ⊥) →
      second.byte position ≡ first.byte position

-- The size is the one after the lowest entry; all else is as before.
pub record SizeMoved (first second : Part) (entry : ℕ × Request)
    (rest : List (ℕ × Request)) : Type 0 where
  pub lowest : first.entries ≡ entry ∷ rest
  pub size : second.size ≡ size_after entry.1 first.size
  pub entries : second.entries ≡ first.entries
  pub bytes : (position : ℕ) → second.byte position ≡ first.byte position

-- The lowest entry is home and no longer live; all else is as before.
pub record Closed (first second : Part) (entry : ℕ × Request)
    (rest : List (ℕ × Request)) : Type 0 where
  pub lowest : first.entries ≡ entry ∷ rest
  pub home : IsHome first entry.1
  pub size : second.size ≡ first.size
  pub entries : second.entries ≡ rest
  pub bytes : (position : ℕ) → second.byte position ≡ first.byte position
