-- Reading words from left to right, kind by kind.
use Rattle.std.specs.Prelude.{◌≡◌, ℕ, ◌+◌, ◌*◌, ◌-◌, List, [], ◌∷◌, length, take, drop, codes, replicate, Option, Some, None, Result, Ok, Err, option_and_then, Bool, true, false, ◌&&◌, ◌||◌, ◌==◌, nat_le, not, if◌then◌else◌}
use Rattle.std.specs.List.{list_all}
use Rattle.std.specs.Str.{bytes_eq}
use Rattle.std.specs.Char.{is_ascii_digit}
use Rattle.std.specs.Str.Parse.{digits_value}
use Rattle.hex.specs.Hex.{decode_of}
use Rattle.hex.specs.declared.error.FromHexError.{FromHexError}
use Rattle.cfs_dir.specs.Name.{is_name_byte}
use Rattle.cfs_words.specs.declared.flags.Flags.{Flags}
use Rattle.cfs_words.specs.declared.seek.Seek.{Seek}
use Rattle.cfs_words.specs.declared.seek.Seek.TheVariants.{To, On, Back}
use Rattle.cfs_words.specs.declared.device.Device.{Device}
use Rattle.cfs_words.specs.declared.device.Device.TheVariants.{Selector, Table, Journal, Size, Slot, Block}
use Rattle.cfs_words.specs.declared.refusal.WordRefusal.{WordRefusal}
use Rattle.cfs_words.specs.declared.refusal.WordRefusal.TheVariants.{Outside, NoMemory}
use Rattle.cfs_words.specs.Parts.{parts_of, words_of}
use Rattle.cfs_words.specs.Values.{largest_number}
use Rattle.cfs_words.specs.Spelling.{Kind, Key, Number, Path, Opening, Mode, Payload, Whence, Target, Value, Values}

infixl 10 ◌>>=◌
abbrev pub ◌>>=◌ : {A B : Type 0} → Option A → (A → Option B) → Option B
o >>= f = option_and_then f o

-- what a function returned, seen by view, is what reading gives, unless memory ran out
abbrev pub Gives : {X Y : Type 0} → (X → Y) → Result X WordRefusal → Option Y → Type 0
Gives view (Ok x) read = read ≡ Some (view x)
Gives view (Err Outside) read = read ≡ None
Gives view (Err NoMemory) read = Unit {0}

-- the same, of a reader that moves past what it read
abbrev pub Reads : {X Y : Type 0} → (X → Y) → Result X WordRefusal → List (List ℕ)
    → Option (Y × List (List ℕ)) → Type 0
Reads view (Ok x) rest read = read ≡ Some (view x, rest)
Reads view (Err Outside) rest read = read ≡ None
Reads view (Err NoMemory) rest read = Unit {0}

-- the words of the bytes that are left, or none behind the last word
abbrev pub words_left : Option (List ℕ) → List (List ℕ)
words_left None = []
words_left (Some bytes) = words_of bytes

-- ---- one word

-- decimal digits, without a leading zero
abbrev pub is_canonical : List ℕ → Bool
is_canonical [] = false
is_canonical (first ∷ rest) =
    list_all is_ascii_digit (first ∷ rest) && (not (first == 48) || (length rest == 0))

-- the number that a word spells
unfoldable pub number_of : ℕ → ℕ → List ℕ → Option ℕ
number_of least most word =
    let value = digits_value 10 word in
    if is_canonical word
    && (nat_le value largest_number && (nat_le least value && nat_le value most))
    then Some value
    else None

-- the names of a path, each behind a slash
abbrev pub is_path_name : List ℕ → Bool
is_path_name name =
    nat_le 1 (length name) && (nat_le (length name) 200 && list_all is_name_byte name)

abbrev pub names_behind : List (List ℕ) → Option (List (List ℕ))
names_behind [] = None
names_behind ([] ∷ []) = None
names_behind ([] ∷ name ∷ names) =
    if nat_le (length (name ∷ names)) 64 && list_all is_path_name (name ∷ names)
    then Some (name ∷ names)
    else None
names_behind ((b ∷ bs) ∷ names) = None

unfoldable pub path_of : List ℕ → Option (List (List ℕ))
path_of word = if bytes_eq word (47 ∷ []) then Some [] else names_behind (parts_of 47 word)

-- whether the bytes begin with the letter, and those behind it
abbrev pub letter_at : ℕ → List ℕ → Bool × List ℕ
letter_at letter [] = (false, [])
letter_at letter (b ∷ bytes) = if b == letter then (true, bytes) else (false, b ∷ bytes)

unfoldable pub flags_of : List ℕ → Option Flags
flags_of word =
    let read = letter_at 114 word in
    let write = letter_at 119 read.1 in
    let create = letter_at 99 write.1 in
    let exclusive = letter_at 120 create.1 in
    let append = letter_at 97 exclusive.1 in
    if (read.0 || write.0) && (length append.1 == 0)
    then Some (record {
      read = read.0;
      write = write.0;
      create = create.0;
      exclusive = exclusive.0;
      append = append.0;
    })
    else None

abbrev pub is_octal : ℕ → Bool
is_octal b = nat_le 48 b && nat_le b 55

abbrev pub octal_value : ℕ → ℕ → ℕ → ℕ
octal_value a b c = (a - 48) * 64 + (b - 48) * 8 + (c - 48)

abbrev pub octal_of : List ℕ → Option ℕ
octal_of (zero_digit ∷ a ∷ b ∷ c ∷ []) =
    if zero_digit == 48 && (is_octal a && (is_octal b && is_octal c))
    then Some (octal_value a b c)
    else None
octal_of word = None

unfoldable pub mode_of : List ℕ → Option ℕ
mode_of word = octal_of word

-- the bytes behind `t:`
abbrev pub is_graphic : ℕ → Bool
is_graphic b = nat_le 33 b && nat_le b 126

unfoldable pub text_of_bytes : List ℕ → Option (List ℕ)
text_of_bytes bytes = if list_all is_graphic bytes then Some bytes else None

-- the bytes of lower case hexadecimal digits
abbrev pub is_lower_hex : ℕ → Bool
is_lower_hex b = (nat_le 48 b && nat_le b 57) || (nat_le 97 b && nat_le b 102)

abbrev pub decoded : Result (List ℕ) FromHexError → Option (List ℕ)
decoded (Ok bytes) = Some bytes
decoded (Err e) = None

unfoldable pub hex_of : List ℕ → Option (List ℕ)
hex_of digits = if list_all is_lower_hex digits then decoded (decode_of digits) else None

-- a count and a byte
abbrev pub only_byte : List ℕ → Option ℕ
only_byte (b ∷ []) = Some b
only_byte bytes = None

unfoldable pub byte_of : List ℕ → Option ℕ
byte_of digits = hex_of digits >>= only_byte

unfoldable pub copies_of : List (List ℕ) → Option (List ℕ)
copies_of (count ∷ digits ∷ []) = do
  n ← number_of 0 65536 count
  byte ← byte_of digits
  Some (replicate n byte)
copies_of parts = None

unfoldable pub repeat_of : List ℕ → Option (List ℕ)
repeat_of bytes = copies_of (parts_of 58 bytes)

-- the bytes of a write
unfoldable pub payload_of : List ℕ → Option (List ℕ)
payload_of word =
    let mark = take 2 word in
    let bytes = drop 2 word in
    if bytes_eq mark (codes "t:") then text_of_bytes bytes
    else if bytes_eq mark (codes "h:") then hex_of bytes
    else if bytes_eq mark (codes "r:") then repeat_of bytes
    else None

-- an offset from the position, which a `-` turns back
abbrev pub back_by : ℕ → Seek
back_by n = if n == 0 then On 0 else Back n

abbrev pub signed_of : Bool × List ℕ → Option Seek
signed_of (true, digits) = number_of 0 largest_number digits >>= (λ n. Some (back_by n))
signed_of (false, digits) = number_of 0 largest_number digits >>= (λ n. Some (On n))

unfoldable pub offset_of : List ℕ → Option Seek
offset_of word = signed_of (letter_at 45 word)

-- ---- the next words of a line, and the words after them

abbrev pub word_at : List (List ℕ) → Option (List ℕ × List (List ℕ))
word_at [] = None
word_at (word ∷ words) = Some (word, words)

unfoldable pub key_at : List ℕ → List (List ℕ) → Option (Unit {0} × List (List ℕ))
key_at text words = do
  word ← word_at words
  if bytes_eq word.0 text then Some (tt, word.1) else None

unfoldable pub number_at : ℕ → ℕ → List (List ℕ) → Option (ℕ × List (List ℕ))
number_at least most words = do
  word ← word_at words
  n ← number_of least most word.0
  Some (n, word.1)

unfoldable pub path_at : List (List ℕ) → Option (List (List ℕ) × List (List ℕ))
path_at words = do
  word ← word_at words
  names ← path_of word.0
  Some (names, word.1)

unfoldable pub mode_at : List (List ℕ) → Option (ℕ × List (List ℕ))
mode_at words = do
  word ← word_at words
  mode ← mode_of word.0
  Some (mode, word.1)

-- the mode stands exactly where the file may be made
abbrev pub opened_at : Flags → Bool → List (List ℕ) → Option ((Flags × ℕ) × List (List ℕ))
opened_at flags false words = Some ((flags, 0), words)
opened_at flags true words = mode_at words >>= (λ mode. Some ((flags, mode.0), mode.1))

unfoldable pub opening_at : List (List ℕ) → Option ((Flags × ℕ) × List (List ℕ))
opening_at words = do
  word ← word_at words
  flags ← flags_of word.0
  opened_at flags flags.create word.1

unfoldable pub payload_at : List (List ℕ) → Option (List ℕ × List (List ℕ))
payload_at words = do
  word ← word_at words
  bytes ← payload_of word.0
  Some (bytes, word.1)

unfoldable pub whence_at : List (List ℕ) → Option (Seek × List (List ℕ))
whence_at words = do
  word ← word_at words
  if bytes_eq word.0 (codes "set")
      then (number_at 0 largest_number word.1 >>= (λ n. Some (To n.0, n.1)))
      else if bytes_eq word.0 (codes "cur")
      then (word_at word.1 >>= (λ next. offset_of next.0 >>= (λ seek. Some (seek, next.1))))
      else None

-- a device of one number
abbrev pub numbered_at : (ℕ → Device) → ℕ → List (List ℕ) → Option (Device × List (List ℕ))
numbered_at make most words = number_at 0 most words >>= (λ n. Some (make n.0, n.1))

unfoldable pub slot_at : List (List ℕ) → Option (Device × List (List ℕ))
slot_at words = do
  queue ← number_at 0 largest_number words
  number ← number_at 0 largest_number queue.1
  Some (Slot queue.0 number.0, number.1)

unfoldable pub target_at : List (List ℕ) → Option (Device × List (List ℕ))
target_at words = do
  word ← word_at words
  if bytes_eq word.0 (codes "selector") then Some (Selector, word.1)
      else if bytes_eq word.0 (codes "table") then numbered_at Table 1 word.1
      else if bytes_eq word.0 (codes "journal") then numbered_at Journal 63 word.1
      else if bytes_eq word.0 (codes "size") then numbered_at Size 255 word.1
      else if bytes_eq word.0 (codes "slot") then slot_at word.1
      else if bytes_eq word.0 (codes "block") then numbered_at Block largest_number word.1
      else None

-- what stands at the head of the words, by its kind
abbrev pub value_at : (kind : Kind) → List (List ℕ) → Option (Value kind × List (List ℕ))
value_at (Key text) words = key_at text words
value_at (Number least most) words = number_at least most words
value_at Path words = path_at words
value_at Opening words = opening_at words
value_at Mode words = mode_at words
value_at Payload words = payload_at words
value_at Whence words = whence_at words
value_at Target words = target_at words

-- ---- all words

abbrev pub end_of : List (List ℕ) → Option (Unit {0})
end_of [] = Some tt
end_of (word ∷ words) = None

-- what is made of the values of the words, kind by kind up to the last word
abbrev pub read : {X : Type 0} → (kinds : List Kind) → (Values kinds → X) → List (List ℕ) → Option X
read [] make words = end_of words >>= (λ e. Some (make tt))
read (kind ∷ kinds) make words =
    value_at kind words >>= (λ v. read kinds (λ values. make (v.0, values)) v.1)
