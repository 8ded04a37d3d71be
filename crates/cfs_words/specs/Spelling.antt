-- The kinds of words, the values of each, and the words that spell a value.
use Rattle.std.specs.Prelude.{◌≡◌, ℕ, ◌+◌, ◌<◌, ◌≤◌, ◌⊎◌, List, [], ◌∷◌, ◌++◌, codes, replicate, All}
use Rattle.std.specs.Fmt.{decimal}
use Rattle.hex.specs.Hex.{encode_lower}
use Rattle.cfs_dir.specs.Path.{ArePathNames, text_of}
use Rattle.cfs_words.specs.declared.flags.Flags.{Flags}
use Rattle.cfs_words.specs.declared.seek.Seek.{Seek}
use Rattle.cfs_words.specs.declared.seek.Seek.TheVariants.{On}
use Rattle.cfs_words.specs.declared.device.Device.{Device}
use Rattle.cfs_words.specs.Values.{largest_number, flags_text, mode_text, mode_words, IsOpening, seek_words, IsSeek, device_words, IsDevice}

pub data Kind : Type 0 where
  -- a fixed text
  Key : List ℕ → Kind
  -- a number, at least and at most
  Number : ℕ → ℕ → Kind
  -- the path of a file or directory, by its names
  Path : Kind
  -- flags, and a mode
  Opening : Kind
  -- a mode alone
  Mode : Kind
  -- the bytes of a write
  Payload : Kind
  -- where a seek goes
  Whence : Kind
  -- a device of the store
  Target : Kind

abbrev pub Value : Kind → Type 0
Value (Key text) = Unit {0}
Value (Number least most) = ℕ
Value Path = List (List ℕ)
Value Opening = Flags × ℕ
Value Mode = ℕ
Value Payload = List ℕ
Value Whence = Seek
Value Target = Device

-- the values that words can spell
abbrev pub IsValue : (kind : Kind) → Value kind → Type 0
IsValue (Key text) v = Unit {0}
IsValue (Number least most) n = (least ≤ n) × (n ≤ most) × (n ≤ largest_number)
IsValue Path names = ArePathNames names
IsValue Opening v = IsOpening v.0 v.1
IsValue Mode mode = mode ≤ 511
IsValue Payload bytes = All (λ b. b < 256) bytes
IsValue Whence seek = IsSeek seek
IsValue Target device = IsDevice device

-- the canonical words of a value
abbrev pub words_for : (kind : Kind) → Value kind → List (List ℕ)
words_for (Key text) v = text ∷ []
words_for (Number least most) n = decimal n ∷ []
words_for Path names = text_of names ∷ []
words_for Opening v = flags_text v.0 ∷ mode_words v.0.create v.1
words_for Mode mode = mode_text mode ∷ []
words_for Payload bytes = (codes "h:" ++ encode_lower bytes) ∷ []
words_for Whence seek = seek_words seek
words_for Target device = device_words device

-- a byte that is printed, and no space
abbrev pub IsGraphic : ℕ → Type 0
IsGraphic b = (33 ≤ b) × (b ≤ 126)

-- the bytes themselves, behind `t:`
pub record IsText (bytes word : List ℕ) : Type 0 where
  pub text : word ≡ codes "t:" ++ bytes
  pub graphic : All IsGraphic bytes

-- a count and the two digits of a byte, behind `r:`
pub record IsRepeat (bytes word : List ℕ) : Type 0 where
  pub count : ℕ
  pub byte : ℕ
  pub few : count ≤ 65536
  pub small : byte < 256
  pub text : word ≡ codes "r:" ++ (decimal count ++ (codes ":" ++ encode_lower (byte ∷ [])))
  pub bytes_are : bytes ≡ replicate count byte

-- one word
abbrev pub IsOne : List (List ℕ) → (List ℕ → Type 0) → Type 0
IsOne words P = (word : List ℕ) × (words ≡ word ∷ []) × P word

-- other words of a value
abbrev pub IsOther : (kind : Kind) → Value kind → List (List ℕ) → Type 0
IsOther (Key text) v words = ⊥
IsOther (Number least most) n words = ⊥
IsOther Path names words = ⊥
IsOther Opening v words = ⊥
IsOther Mode mode words = ⊥
IsOther Payload bytes words = IsOne words (IsText bytes) ⊎ IsOne words (IsRepeat bytes)
IsOther Whence seek words = (seek ≡ On 0) × (words ≡ codes "cur" ∷ codes "-0" ∷ [])
IsOther Target device words = ⊥

-- the words spell the value
pub record Spells (kind : Kind) (value : Value kind) (words : List (List ℕ)) : Type 0 where
  pub is_value : IsValue kind value
  pub are_words : (words ≡ words_for kind value) ⊎ IsOther kind value words

-- ---- several values, one behind another

abbrev pub Values : List Kind → Type 0
Values [] = Unit {0}
Values (kind ∷ kinds) = Value kind × Values kinds

abbrev pub AreValues : (kinds : List Kind) → Values kinds → Type 0
AreValues [] values = Unit {0}
AreValues (kind ∷ kinds) values = IsValue kind values.0 × AreValues kinds values.1

abbrev pub all_words : (kinds : List Kind) → Values kinds → List (List ℕ)
all_words [] values = []
all_words (kind ∷ kinds) values = words_for kind values.0 ++ all_words kinds values.1

-- the words spell the values in order
abbrev pub SpellAll : (kinds : List Kind) → Values kinds → List (List ℕ) → Type 0
SpellAll [] values words = words ≡ []
SpellAll (kind ∷ kinds) values words =
    (front : List (List ℕ)) × ((rest : List (List ℕ))
    × ((words ≡ front ++ rest) × Spells kind values.0 front × SpellAll kinds values.1 rest))
