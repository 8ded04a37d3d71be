-- What words stand for, and how one of it is spelled.
use Rattle.std.specs.Prelude.{◌≡◌, ℕ, ◌+◌, ◌/◌, ◌%◌, ◌<◌, ◌≤◌, List, [], ◌∷◌, ◌++◌, codes, Bool, true, false, ◌||◌, IsTrue, if◌then◌else◌}
use Rattle.std.specs.Fmt.{decimal}
use Rattle.cfs_words.specs.declared.flags.Flags.{Flags}
use Rattle.cfs_words.specs.declared.seek.Seek.{Seek}
use Rattle.cfs_words.specs.declared.seek.Seek.TheVariants.{To, On, Back}
use Rattle.cfs_words.specs.declared.device.Device.{Device}
use Rattle.cfs_words.specs.declared.device.Device.TheVariants.{Selector, Table, Journal, Size, Slot, Block}

-- the largest number that a word may spell
abbrev pub largest_number : ℕ
largest_number = 4294967295

-- ---- flags and a mode

-- a letter that is there or not
abbrev pub letter_if : Bool → ℕ → List ℕ
letter_if there letter = if there then letter ∷ [] else []

-- `r`, `w`, `c`, `x` and `a`, each where it is set
abbrev pub flags_text : Flags → List ℕ
flags_text flags =
    letter_if flags.read 114 ++ (letter_if flags.write 119 ++ (letter_if flags.create 99
    ++ (letter_if flags.exclusive 120 ++ letter_if flags.append 97)))

-- four octal digits, the first `0`
abbrev pub mode_text : ℕ → List ℕ
mode_text mode = 48 ∷ (48 + mode / 64) ∷ (48 + mode / 8 % 8) ∷ (48 + mode % 8) ∷ []

-- the mode's word stands exactly where the file may be made
abbrev pub mode_words : Bool → ℕ → List (List ℕ)
mode_words true mode = mode_text mode ∷ []
mode_words false mode = []

-- an access is asked for, and there is a mode where the file may be made
pub record IsOpening (flags : Flags) (mode : ℕ) : Type 0 where
  pub access : IsTrue (flags.read || flags.write)
  pub bits : mode ≤ 511
  pub unmade : flags.create ≡ false → mode ≡ 0

-- ---- where a seek goes

abbrev pub seek_words : Seek → List (List ℕ)
seek_words (To n) = codes "set" ∷ decimal n ∷ []
seek_words (On n) = codes "cur" ∷ decimal n ∷ []
seek_words (Back n) = codes "cur" ∷ (codes "-" ++ decimal n) ∷ []

-- a seek back goes by one byte or more
abbrev pub IsSeek : Seek → Type 0
IsSeek (To n) = n ≤ largest_number
IsSeek (On n) = n ≤ largest_number
IsSeek (Back n) = (1 ≤ n) × (n ≤ largest_number)

-- ---- devices

abbrev pub device_words : Device → List (List ℕ)
device_words Selector = codes "selector" ∷ []
device_words (Table copy) = codes "table" ∷ decimal copy ∷ []
device_words (Journal position) = codes "journal" ∷ decimal position ∷ []
device_words (Size rec) = codes "size" ∷ decimal rec ∷ []
device_words (Slot queue number) = codes "slot" ∷ decimal queue ∷ decimal number ∷ []
device_words (Block number) = codes "block" ∷ decimal number ∷ []

abbrev pub IsDevice : Device → Type 0
IsDevice Selector = Unit {0}
IsDevice (Table copy) = copy ≤ 1
IsDevice (Journal position) = position ≤ 63
IsDevice (Size rec) = rec ≤ 255
IsDevice (Slot queue number) = (queue ≤ largest_number) × (number ≤ largest_number)
IsDevice (Block number) = number ≤ largest_number
