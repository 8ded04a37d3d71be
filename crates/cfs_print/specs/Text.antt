-- The text of the output, line by line.
use Rattle.std.specs.Prelude.{◌≡◌, ℕ, ◌<◌, ◌^◌, List, [], ◌∷◌, ◌++◌, length, codes, Bool, true, false, All, map}
use Rattle.std.specs.Fmt.{decimal}
use Rattle.hex.specs.Hex.{encode_lower}
use Rattle.cfs_dir.specs.declared.posix.Posix.{Posix}
use Rattle.cfs_dir.specs.declared.posix.Posix.TheVariants as errors
use Rattle.cfs_print.specs.declared.listed.Letter.{Letter}
use Rattle.cfs_print.specs.declared.listed.Letter.TheVariants as letters
use Rattle.cfs_print.specs.declared.listed.Listed.{Listed}
use Rattle.cfs_print.specs.declared.printed.Printed.{Printed}
use Rattle.cfs_print.specs.declared.printed.Printed.TheVariants as answers
use Rattle.cfs_print.specs.declared.out_line.OutLine.{OutLine}

-- the names of errors (POSIX.1-2017, System Interfaces, section 2.3)
abbrev pub error_name : Posix → List ℕ
error_name errors.PermissionDenied = codes "EACCES"
error_name errors.NotFound = codes "ENOENT"
error_name errors.AlreadyExists = codes "EEXIST"
error_name errors.NotADirectory = codes "ENOTDIR"
error_name errors.IsADirectory = codes "EISDIR"
error_name errors.DirectoryNotEmpty = codes "ENOTEMPTY"
error_name errors.InvalidArgument = codes "EINVAL"
error_name errors.NameTooLong = codes "ENAMETOOLONG"
error_name errors.TooManyOpenFiles = codes "EMFILE"
error_name errors.TooManyFiles = codes "ENFILE"
error_name errors.BadDescriptor = codes "EBADF"
error_name errors.FileTooLarge = codes "EFBIG"

-- how a place stands in its queue: waiting, out, a no-op, in doubt
abbrev pub letter_text : Letter → List ℕ
letter_text letters.Waiting = codes "w"
letter_text letters.Out = codes "o"
letter_text letters.Idle = codes "n"
letter_text letters.Doubtful = codes "d"

-- ---- the pieces of a text

pub data Piece : Type 0 where
  -- a fixed text
  Key : List ℕ → Piece
  -- a number, in decimal
  Number : ℕ → Piece
  -- bytes, each as two lower case hexadecimal digits
  Hex : List ℕ → Piece

abbrev pub piece_text : Piece → List ℕ
piece_text (Key text) = text
piece_text (Number n) = decimal n
piece_text (Hex bytes) = encode_lower bytes

-- the text of pieces, one behind another
abbrev pub pieces_text : List Piece → List ℕ
pieces_text [] = []
pieces_text (piece ∷ pieces) = piece_text piece ++ pieces_text pieces

-- ---- the answers

-- each entry behind a space
abbrev pub entry_pieces : List Listed → List Piece
entry_pieces [] = []
entry_pieces (entry ∷ entries) =
    Key (codes " ") ∷ Number entry.place ∷ Key (letter_text entry.letter) ∷ entry_pieces entries

-- each place behind a comma
abbrev pub more_places : List ℕ → List Piece
more_places [] = []
more_places (place ∷ places) = Key (codes ",") ∷ Number place ∷ more_places places

-- places with a comma between each two
abbrev pub place_pieces : List ℕ → List Piece
place_pieces [] = []
place_pieces (place ∷ places) = Number place ∷ more_places places

-- what a line answers, one row an answer
abbrev pub answer_pieces : Printed → List Piece
answer_pieces (answers.Opened place fd ino) =
    Key (codes "ok ns=") ∷ Number place ∷ Key (codes " fd=") ∷ Number fd
    ∷ Key (codes " ino=") ∷ Number ino ∷ []
answer_pieces (answers.Made place ino) =
    Key (codes "ok ns=") ∷ Number place ∷ Key (codes " ino=") ∷ Number ino ∷ []
answer_pieces (answers.Named place) = Key (codes "ok ns=") ∷ Number place ∷ []
answer_pieces (answers.Wrote ino place offset count) =
    Key (codes "ok ino=") ∷ Number ino ∷ Key (codes " place=") ∷ Number place
    ∷ Key (codes " off=") ∷ Number offset ∷ Key (codes " n=") ∷ Number count ∷ []
answer_pieces answers.WroteNothing = Key (codes "ok n=0") ∷ []
answer_pieces (answers.Got ino place bytes) =
    Key (codes "ok ino=") ∷ Number ino ∷ Key (codes " place=") ∷ Number place
    ∷ Key (codes " n=") ∷ Number (length bytes) ∷ Key (codes " h:") ∷ Hex bytes ∷ []
answer_pieces (answers.Placed ino place) =
    Key (codes "ok ino=") ∷ Number ino ∷ Key (codes " place=") ∷ Number place ∷ []
answer_pieces (answers.Sought offset) = Key (codes "ok off=") ∷ Number offset ∷ []
answer_pieces (answers.Left blocks) = Key (codes "ok left=") ∷ Number blocks ∷ []
answer_pieces answers.Fine = Key (codes "ok") ∷ []
answer_pieces answers.More = Key (codes "ok more") ∷ []
answer_pieces (answers.Unfinished blocks) = Key (codes "unfinished left=") ∷ Number blocks ∷ []
answer_pieces (answers.Freed blocks) = Key (codes "ok freed=") ∷ Number blocks ∷ []
answer_pieces (answers.Drained turns blocks) =
    Key (codes "ok turns=") ∷ Number turns ∷ Key (codes " freed=") ∷ Number blocks ∷ []
answer_pieces (answers.Queued entries) = Key (codes "ok") ∷ entry_pieces entries
answer_pieces (answers.Replayed entries) = Key (codes "ok replayed=") ∷ Number entries ∷ []
answer_pieces (answers.RefusedAt error place) =
    Key (error_name error) ∷ Key (codes " at=") ∷ Number place ∷ []
answer_pieces (answers.Refused error) = Key (error_name error) ∷ []
answer_pieces (answers.NoQueue queues) = Key (codes "EMFILE queues=") ∷ Number queues ∷ []
answer_pieces answers.NoRecord = Key (codes "ENFILE records=256") ∷ []
answer_pieces answers.NoNumber = Key (codes "ENFILE next=4294967296") ∷ []
answer_pieces (answers.Full places) = Key (codes "EAGAIN places=") ∷ place_pieces places
answer_pieces (answers.Short need free) =
    Key (codes "ENOSPC need=") ∷ Number need ∷ Key (codes " free=") ∷ Number free ∷ []
answer_pieces answers.Faulty = Key (codes "EIO") ∷ []
answer_pieces answers.NoMemory = Key (codes "ENOMEM") ∷ []
answer_pieces (answers.Pending on) = Key (codes "pending on=") ∷ Number on ∷ []
answer_pieces (answers.PendingRead ino place on) =
    Key (codes "pending ino=") ∷ Number ino ∷ Key (codes " place=") ∷ Number place
    ∷ Key (codes " on=") ∷ Number on ∷ []
answer_pieces answers.Nothing = Key (codes "none") ∷ []
answer_pieces answers.Stopped = Key (codes "stopped") ∷ []
answer_pieces answers.Unmounted = Key (codes "unmounted") ∷ []
answer_pieces answers.Mounted = Key (codes "mounted") ∷ []

abbrev pub answer_text : Printed → List ℕ
answer_text answer = pieces_text (answer_pieces answer)

-- the line's number, a space, the answer, and the byte 10
abbrev pub line_text : OutLine → List ℕ
line_text line = decimal line.number ++ (codes " " ++ (answer_text line.answer ++ codes "\n"))

-- the text of lines, one behind another
abbrev pub lines_text : List OutLine → List ℕ
lines_text [] = []
lines_text (line ∷ lines) = line_text line ++ lines_text lines

-- ---- what a text tells

-- a number of 64 bits, or bytes of 8
abbrev pub IsSmall : Piece → Type 0
IsSmall (Key text) = Unit {0}
IsSmall (Number n) = n < 2 ^ 64
IsSmall (Hex bytes) = All (λ b. b < 256) bytes

abbrev pub AreSmall : List Piece → Type 0
AreSmall [] = Unit {0}
AreSmall (piece ∷ pieces) = IsSmall piece × AreSmall pieces

-- each number of the line is one of its type
pub record IsLine (line : OutLine) : Type 0 where
  pub number : line.number < 2 ^ 64
  pub answer : AreSmall (answer_pieces line.answer)

abbrev pub AreLines : List OutLine → Type 0
AreLines [] = Unit {0}
AreLines (line ∷ lines) = IsLine line × AreLines lines

-- whether it is the answer of a `queue` line, which without an entry reads as the plain `ok`
-- of other lines
abbrev pub is_queue : Printed → Bool
is_queue (answers.Queued entries) = true
is_queue other = false

abbrev pub kinds : List OutLine → List Bool
kinds lines = map (λ line. is_queue line.answer) lines

-- a line's text is that of no other line of its kind
abbrev pub LinesAreTold : Type 0
LinesAreTold = (a b : OutLine) → IsLine a → IsLine b → is_queue a.answer ≡ is_queue b.answer
    → line_text a ≡ line_text b → a ≡ b

-- and the text of lines is that of no other lines of their kinds
abbrev pub OutputsAreTold : Type 0
OutputsAreTold = (a b : List OutLine) → AreLines a → AreLines b → kinds a ≡ kinds b
    → lines_text a ≡ lines_text b → a ≡ b
