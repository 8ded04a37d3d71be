-- An answer is read from the text of its line: what it is, with its numbers and bytes, and where its entries or places begin.
use Rattle.std.proofs.Common.{◌≡◌, ℕ, zero, suc, ◌+◌, ◌*◌, ◌<◌, ◌^◌, Bool, true, false, List, [], ◌∷◌, ◌++◌, length, take, drop, Option, Some, None, Result, Ok, Err, arith, refl, sym, ap, ◌∙◌}
use Rattle.std.specs.Prelude.{codes, ◌==◌, All, slice_index}
use Rattle.std.specs.Fmt.{decimal}
use Rattle.std.proofs.lemmas.List.Elements.{All-head, All-tail}
use Rattle.std.proofs.Math.Seq.{take-append_seam, drop-append_seam}
use Rattle.hex.specs.Hex.{encode_lower, decode_of, IsBytes, lower_digits}
use Rattle.hex.specs.declared.error.FromHexError.{FromHexError}
use Rattle.hex.proofs.HexLemmas.{decode_of-encode_lower, length-encode_with}
use Rattle.cfs_dir.specs.declared.posix.Posix.{Posix}
use Rattle.cfs_dir.specs.declared.posix.Posix.TheVariants as errors
use Rattle.cfs_print.specs.declared.listed.Listed.{Listed}
use Rattle.cfs_print.specs.declared.printed.Printed.{Printed}
use Rattle.cfs_print.specs.declared.printed.Printed.TheVariants as answers
use Rattle.cfs_print.specs.Text.{entry_pieces, place_pieces, answer_pieces, is_queue, AreSmall}
use Rattle.cfs_print.proofs.Numbers.{Stops, number_at, number_at-decimal}
use Rattle.cfs_print.proofs.Lists.{onto}

-- an answer, and the text behind it
abbrev Read : Type 0
Read = Option (Printed × List ℕ)

-- what stands behind a fixed text
abbrev key : List ℕ → List ℕ → Option (List ℕ)
key [] text = Some text
key (k ∷ ks) [] = None
key (k ∷ ks) (c ∷ text) = elim (k == c) [ true ↦ key ks text | false ↦ None ]

-- a fixed text, and how to read on behind it
abbrev Row : Type 0
Row = List ℕ × (List ℕ → Read)

-- the first row whose text is there
abbrev choose : List Row → List ℕ → Read
choose [] text = None
choose (row ∷ rows) text = elim (key row.0 text) [ Some rest ↦ row.1 rest | None ↦ choose rows text ]

-- a number, and the rows behind it
pub behind_number : (ℕ → List Row) → List ℕ → Read
behind_number rows text = let read = number_at text in choose (rows read.0) read.1

behind-decimal : (rows : ℕ → List Row) (n : ℕ) (text : List ℕ) → n < 2 ^ 64 → Stops text → behind_number rows (decimal n ++ text) ≡ choose (rows n) text
unfolding behind_number
behind-decimal rows n text small stop = ap (λ (read : ℕ × List ℕ). choose (rows read.0) read.1) (number_at-decimal n text small stop)

-- ---- bytes

bytes_of : Result (List ℕ) FromHexError → List ℕ
bytes_of (Ok bytes) = bytes
bytes_of (Err e) = []

-- the answer of the bytes that so many digits give
pub behind_digits : ℕ → (List ℕ → Printed) → List ℕ → Read
behind_digits count answer text = Some (answer (bytes_of (decode_of (take (2 * count) text))), drop (2 * count) text)

are_bytes : (bytes : List ℕ) → All (λ b. b < 256) bytes → IsBytes bytes
are_bytes [] all = λ i. omega arith
are_bytes (b ∷ bytes) all = at (are_bytes bytes (All-tail (λ (k : ℕ). k < 256) b bytes all)) where
  at : IsBytes bytes → (i : ℕ) → slice_index (b ∷ bytes) i < 256
  at rest zero = All-head (λ (k : ℕ). k < 256) b bytes all
  at rest (suc i) = rest i

behind-digits : (answer : List ℕ → Printed) (bytes text : List ℕ) → All (λ b. b < 256) bytes →
    behind_digits (length bytes) answer (encode_lower bytes ++ text) ≡ Some (answer bytes, text)
unfolding behind_digits bytes_of
behind-digits answer bytes text all =
    let long = length-encode_with lower_digits bytes in
    let front = ap (λ (n : ℕ). take n (encode_lower bytes ++ text)) (sym long) ∙ take-append_seam (encode_lower bytes) text in
    let back = ap (λ (n : ℕ). drop n (encode_lower bytes ++ text)) (sym long) ∙ drop-append_seam (encode_lower bytes) text in
    rw (front, back, decode_of-encode_lower bytes (are_bytes bytes all)) refl

-- ---- the rows of the answers

-- the end of the line, which is left
abbrev end : Printed → List Row
end answer = (codes "\n", λ rest. Some (answer, 10 ∷ rest)) ∷ []

abbrev alone : List ℕ → Printed → Row
alone text answer = (text, choose (end answer))

abbrev one : List ℕ → (ℕ → Printed) → Row
one text answer = (text, behind_number (λ n. end (answer n)))

abbrev named : ℕ → List Row
named place = (codes " fd=", behind_number (λ fd. one (codes " ino=") (answers.Opened place fd) ∷ [])) ∷ one (codes " ino=") (answers.Made place) ∷ end (answers.Named place)

abbrev placed : ℕ → ℕ → List Row
placed ino place = (codes " off=", behind_number (λ offset. one (codes " n=") (answers.Wrote ino place offset) ∷ []))
    ∷ (codes " n=", behind_number (λ count. (codes " h:", behind_digits count (answers.Got ino place)) ∷ [])) ∷ end (answers.Placed ino place)

abbrev refused : List ℕ → Posix → Row
refused name error = (name, choose (one (codes " at=") (answers.RefusedAt error) ∷ end (answers.Refused error)))

abbrev rows : List Row
rows = (codes "ok ns=", behind_number named)
    ∷ (codes "ok ino=", behind_number (λ ino. (codes " place=", behind_number (placed ino)) ∷ []))
    ∷ alone (codes "ok n=0") answers.WroteNothing
    ∷ one (codes "ok off=") answers.Sought
    ∷ one (codes "ok left=") answers.Left
    ∷ alone (codes "ok more") answers.More
    ∷ one (codes "ok freed=") answers.Freed
    ∷ (codes "ok turns=", behind_number (λ turns. one (codes " freed=") (answers.Drained turns) ∷ []))
    ∷ one (codes "ok replayed=") answers.Replayed
    ∷ alone (codes "ok") answers.Fine
    ∷ one (codes "unfinished left=") answers.Unfinished
    ∷ one (codes "EMFILE queues=") answers.NoQueue
    ∷ alone (codes "ENFILE records=256") answers.NoRecord
    ∷ alone (codes "ENFILE next=4294967296") answers.NoNumber
    ∷ (codes "EAGAIN places=", λ rest. Some (answers.Full [], rest))
    ∷ (codes "ENOSPC need=", behind_number (λ need. one (codes " free=") (answers.Short need) ∷ []))
    ∷ alone (codes "EIO") answers.Faulty
    ∷ alone (codes "ENOMEM") answers.NoMemory
    ∷ one (codes "pending on=") answers.Pending
    ∷ (codes "pending ino=", behind_number (λ ino. (codes " place=", behind_number (λ place. one (codes " on=") (answers.PendingRead ino place) ∷ [])) ∷ []))
    ∷ alone (codes "none") answers.Nothing
    ∷ alone (codes "stopped") answers.Stopped
    ∷ alone (codes "unmounted") answers.Unmounted
    ∷ alone (codes "mounted") answers.Mounted
    ∷ refused (codes "EACCES") errors.PermissionDenied
    ∷ refused (codes "ENOENT") errors.NotFound
    ∷ refused (codes "EEXIST") errors.AlreadyExists
    ∷ refused (codes "ENOTDIR") errors.NotADirectory
    ∷ refused (codes "EISDIR") errors.IsADirectory
    ∷ refused (codes "ENOTEMPTY") errors.DirectoryNotEmpty
    ∷ refused (codes "EINVAL") errors.InvalidArgument
    ∷ refused (codes "ENAMETOOLONG") errors.NameTooLong
    ∷ refused (codes "EMFILE") errors.TooManyOpenFiles
    ∷ refused (codes "ENFILE") errors.TooManyFiles
    ∷ refused (codes "EBADF") errors.BadDescriptor
    ∷ refused (codes "EFBIG") errors.FileTooLarge
    ∷ []

-- the answer of a `queue` line, or of another
abbrev pub read : Bool → List ℕ → Read
read true text = choose ((codes "ok", λ rest. Some (answers.Queued [], rest)) ∷ []) text
read false text = choose rows text

-- ---- what is read of each answer

abbrev pub entries_of : Printed → List Listed
entries_of (answers.Queued entries) = entries
entries_of other = []

abbrev pub places_of : Printed → List ℕ
places_of (answers.Full places) = places
places_of other = []

-- the answer without its entries and places
abbrev pub emptied : Printed → Printed
emptied (answers.Queued entries) = answers.Queued []
emptied (answers.Full places) = answers.Full []
emptied other = other

abbrev pub refilled : List Listed → List ℕ → Printed → Printed
refilled entries places (answers.Queued none) = answers.Queued entries
refilled entries places (answers.Full none) = answers.Full places
refilled entries places other = other

pub refilled-emptied : (a : Printed) → refilled (entries_of a) (places_of a) (emptied a) ≡ a
refilled-emptied (answers.Queued entries) = refl
refilled-emptied (answers.Full places) = refl
refilled-emptied other = refl

pub small_entries : (a : Printed) → AreSmall (answer_pieces a) → AreSmall (entry_pieces (entries_of a))
small_entries (answers.Queued entries) small = small.1
small_entries other small = tt

pub small_places : (a : Printed) → AreSmall (answer_pieces a) → AreSmall (place_pieces (places_of a))
small_places (answers.Full places) small = small.1
small_places other small = tt

-- what stands behind an answer: entries, places, and the end of the line
abbrev pub left : Printed → List ℕ → List ℕ
left a text = onto (entry_pieces (entries_of a)) (onto (place_pieces (places_of a)) (10 ∷ text))

abbrev IsRead : Printed → List ℕ → Type 0
IsRead a text = read (is_queue a) (onto (answer_pieces a) (10 ∷ text)) ≡ Some (emptied a, left a text)

read-refused : (error : Posix) (text : List ℕ) → IsRead (answers.Refused error) text
read-refused errors.PermissionDenied text = refl
read-refused errors.NotFound text = refl
read-refused errors.AlreadyExists text = refl
read-refused errors.NotADirectory text = refl
read-refused errors.IsADirectory text = refl
read-refused errors.DirectoryNotEmpty text = refl
read-refused errors.InvalidArgument text = refl
read-refused errors.NameTooLong text = refl
read-refused errors.TooManyOpenFiles text = refl
read-refused errors.TooManyFiles text = refl
read-refused errors.BadDescriptor text = refl
read-refused errors.FileTooLarge text = refl

read-refused_at : (error : Posix) (place : ℕ) (text : List ℕ) → place < 2 ^ 64 → IsRead (answers.RefusedAt error place) text
read-refused_at errors.PermissionDenied place text small = behind-decimal _ place _ small refl
read-refused_at errors.NotFound place text small = behind-decimal _ place _ small refl
read-refused_at errors.AlreadyExists place text small = behind-decimal _ place _ small refl
read-refused_at errors.NotADirectory place text small = behind-decimal _ place _ small refl
read-refused_at errors.IsADirectory place text small = behind-decimal _ place _ small refl
read-refused_at errors.DirectoryNotEmpty place text small = behind-decimal _ place _ small refl
read-refused_at errors.InvalidArgument place text small = behind-decimal _ place _ small refl
read-refused_at errors.NameTooLong place text small = behind-decimal _ place _ small refl
read-refused_at errors.TooManyOpenFiles place text small = behind-decimal _ place _ small refl
read-refused_at errors.TooManyFiles place text small = behind-decimal _ place _ small refl
read-refused_at errors.BadDescriptor place text small = behind-decimal _ place _ small refl
read-refused_at errors.FileTooLarge place text small = behind-decimal _ place _ small refl

pub read-answer : (a : Printed) (text : List ℕ) → AreSmall (answer_pieces a) → IsRead a text
read-answer (answers.Opened place fd ino) text h = behind-decimal _ place _ h.1.0 refl ∙ behind-decimal _ fd _ h.1.1.1.0 refl ∙ behind-decimal _ ino _ h.1.1.1.1.1.0 refl
read-answer (answers.Made place ino) text h = behind-decimal _ place _ h.1.0 refl ∙ behind-decimal _ ino _ h.1.1.1.0 refl
read-answer (answers.Named place) text h = behind-decimal _ place _ h.1.0 refl
read-answer (answers.Wrote ino place offset count) text h = behind-decimal _ ino _ h.1.0 refl ∙ behind-decimal _ place _ h.1.1.1.0 refl
    ∙ behind-decimal _ offset _ h.1.1.1.1.1.0 refl ∙ behind-decimal _ count _ h.1.1.1.1.1.1.1.0 refl
read-answer answers.WroteNothing text h = refl
read-answer (answers.Got ino place bytes) text h = behind-decimal _ ino _ h.1.0 refl ∙ behind-decimal _ place _ h.1.1.1.0 refl
    ∙ behind-decimal _ (length bytes) _ h.1.1.1.1.1.0 refl ∙ behind-digits (answers.Got ino place) bytes _ h.1.1.1.1.1.1.1.0
read-answer (answers.Placed ino place) text h = behind-decimal _ ino _ h.1.0 refl ∙ behind-decimal _ place _ h.1.1.1.0 refl
read-answer (answers.Sought offset) text h = behind-decimal _ offset _ h.1.0 refl
read-answer (answers.Left blocks) text h = behind-decimal _ blocks _ h.1.0 refl
read-answer answers.Fine text h = refl
read-answer answers.More text h = refl
read-answer (answers.Unfinished blocks) text h = behind-decimal _ blocks _ h.1.0 refl
read-answer (answers.Freed blocks) text h = behind-decimal _ blocks _ h.1.0 refl
read-answer (answers.Drained turns blocks) text h = behind-decimal _ turns _ h.1.0 refl ∙ behind-decimal _ blocks _ h.1.1.1.0 refl
read-answer (answers.Queued entries) text h = refl
read-answer (answers.Replayed entries) text h = behind-decimal _ entries _ h.1.0 refl
read-answer (answers.RefusedAt error place) text h = read-refused_at error place text h.1.1.0
read-answer (answers.Refused error) text h = read-refused error text
read-answer (answers.NoQueue queues) text h = behind-decimal _ queues _ h.1.0 refl
read-answer answers.NoRecord text h = refl
read-answer answers.NoNumber text h = refl
read-answer (answers.Full places) text h = refl
read-answer (answers.Short need free) text h = behind-decimal _ need _ h.1.0 refl ∙ behind-decimal _ free _ h.1.1.1.0 refl
read-answer answers.Faulty text h = refl
read-answer answers.NoMemory text h = refl
read-answer (answers.Pending on) text h = behind-decimal _ on _ h.1.0 refl
read-answer (answers.PendingRead ino place on) text h = behind-decimal _ ino _ h.1.0 refl ∙ behind-decimal _ place _ h.1.1.1.0 refl ∙ behind-decimal _ on _ h.1.1.1.1.1.0 refl
read-answer answers.Nothing text h = refl
read-answer answers.Stopped text h = refl
read-answer answers.Unmounted text h = refl
read-answer answers.Mounted text h = refl
