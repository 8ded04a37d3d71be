-- Names: of which bytes they are made, and how one is kept in an array of 40 bytes.
use Rattle.std.specs.Prelude.{◌≡◌, ℕ, ◌≤◌, List, [], ◌∷◌, Bool, false, ◌||◌, ◌&&◌, ◌==◌, nat_le, IsTrue, All, length}
use Rattle.std.specs.Str.{bytes_eq}

-- a letter, a digit, `.`, `_` or `-`
abbrev pub is_name_byte : ℕ → Bool
is_name_byte byte =
    (nat_le 97 byte && nat_le byte 122) || (nat_le 65 byte && nat_le byte 90)
    || (nat_le 48 byte && nat_le byte 57)
    || (byte == 46) || (byte == 95) || (byte == 45)

abbrev pub AreNameBytes : List ℕ → Type 0
AreNameBytes = All (λ byte. IsTrue (is_name_byte byte))

-- the name of a node that is not the root
abbrev pub IsName : List ℕ → Type 0
IsName bytes = (1 ≤ length bytes) × (length bytes ≤ 40) × AreNameBytes bytes

-- `.` and `..`, which name no node
abbrev pub is_dots : List ℕ → Bool
is_dots name = bytes_eq name (46 ∷ []) || bytes_eq name (46 ∷ 46 ∷ [])

abbrev pub IsNodeName : List ℕ → Type 0
IsNodeName name = IsName name × (is_dots name ≡ false)
