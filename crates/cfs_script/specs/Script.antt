-- Which bytes are a script of which lines, and which line is the first outside.
use Rattle.std.specs.Prelude.{◌≡◌, ℕ, ◌+◌, ◌≤◌, ◌&&◌, ◌==◌, ◌⊎◌, nat_le, Bool, true, false, List, [], ◌∷◌, ◌++◌, length, take, Option, Some, None, IsTrue, if◌then◌else◌}
use Rattle.std.specs.List.{list_all}
use Rattle.cfs_words.specs.Parts.{parts_of}
use Rattle.cfs_script.specs.declared.command.Command.{Command}
use Rattle.cfs_script.specs.declared.command.Command.TheVariants.{Play, Run}
use Rattle.cfs_script.specs.declared.form.Form.{Form}
use Rattle.cfs_script.specs.declared.line.Line.{Line}
use Rattle.cfs_script.specs.declared.script_refusal.ScriptRefusal.{ScriptRefusal}
use Rattle.cfs_script.specs.declared.script_refusal.ScriptRefusal.TheVariants as refusals
use Rattle.cfs_script.specs.Table.{IsForm, IsFormValue}
use Rattle.cfs_script.specs.Session.{Seen, nothing, allows, after, Keeps}

-- the most lines of a script, empty ones and comments included
abbrev pub most_lines : ℕ
most_lines = 65536

-- ---- lines

-- the parts, without an empty one at their end
abbrev pub without_empty_end : List (List ℕ) → List (List ℕ)
without_empty_end [] = []
without_empty_end ([] ∷ []) = []
without_empty_end (part ∷ parts) = part ∷ without_empty_end parts

-- the lines: each is ended by the byte 10, which the last may lack
abbrev pub lines_of : List ℕ → List (List ℕ)
lines_of bytes = without_empty_end (parts_of 10 bytes)

abbrev pub is_printed : ℕ → Bool
is_printed b = nat_le 32 b && nat_le b 126

-- an empty line, or a comment: a `#` in front, and bytes that are printed
abbrev pub is_passed_over : List ℕ → Bool
is_passed_over [] = true
is_passed_over (b ∷ bytes) = b == 35 && list_all is_printed (b ∷ bytes)

-- the lines that are not passed over, with their numbers, from this number on
abbrev pub spoken : ℕ → List (List ℕ) → List (ℕ × List ℕ)
spoken number [] = []
spoken number (text ∷ texts) =
    if is_passed_over text then spoken (number + 1) texts
    else (number, text) ∷ spoken (number + 1) texts

-- each line has its number, and its text spells its form
abbrev pub AreForms : List Line → List (ℕ × List ℕ) → Type 0
AreForms [] [] = Unit {0}
AreForms [] (text ∷ texts) = ⊥
AreForms (line ∷ lines) [] = ⊥
AreForms (line ∷ lines) (text ∷ texts) =
    (line.number ≡ text.0) × IsForm line.form text.1 × AreForms lines texts

abbrev pub forms_of : List Line → List Form
forms_of [] = []
forms_of (line ∷ lines) = line.form ∷ forms_of lines

-- ---- scripts

-- the bytes are the command's script of these lines
pub record IsScript (command : Command) (bytes : List ℕ) (lines : List Line) : Type 0 where
  pub forms : AreForms lines (spoken 1 (lines_of bytes))
  pub few : length (lines_of bytes) ≤ most_lines
  pub order : Keeps command nothing (forms_of lines)

-- the bytes are no script of the command
abbrev pub IsNoScript : Command → List ℕ → Type 0
IsNoScript command bytes = (lines : List Line) → IsScript command bytes lines → ⊥

-- so many lines of the bytes are these, and a script of the command may begin so
pub record IsFront (command : Command) (bytes : List ℕ) (count : ℕ)
    (lines : List Line) : Type 0 where
  pub forms : AreForms lines (spoken 1 (take count (lines_of bytes)))
  pub few : count ≤ most_lines
  pub order : Keeps command nothing (forms_of lines)

-- The lines before this number are a front, and with the line of this number nothing is: it is no
-- line of the grammar, not allowed in its place, or one too many.
pub record IsFirstOutside (command : Command) (bytes : List ℕ) (number : ℕ) : Type 0 where
  pub within : number ≤ length (lines_of bytes)
  pub before : (count : ℕ) × (count + 1 ≡ number)
      × ((lines : List Line) × IsFront command bytes count lines)
  pub outside : (lines : List Line) → IsFront command bytes number lines → ⊥

-- the refusal names a line, of which this holds
abbrev pub OnLine : ScriptRefusal → (ℕ → Type 0) → Type 0
OnLine (refusals.Line number) P = P number
OnLine refusals.NoMemory P = Unit {0}

-- ---- the lines of a script, without their text

-- numbers that ascend from here on, up to the most lines
abbrev pub Ascends : ℕ → List Line → Type 0
Ascends number [] = Unit {0}
Ascends number (line ∷ lines) =
    (number ≤ line.number) × (line.number ≤ most_lines) × Ascends (line.number + 1) lines

abbrev pub AreFormValues : List Line → Type 0
AreFormValues [] = Unit {0}
AreFormValues (line ∷ lines) = IsFormValue line.form × AreFormValues lines

-- the lines keep all rules of the command's scripts
pub record IsLawful (command : Command) (lines : List Line) : Type 0 where
  pub values : AreFormValues lines
  pub numbers : Ascends 1 lines
  pub order : Keeps command nothing (forms_of lines)

-- they keep those of one of the commands
abbrev pub AreLawful : List Line → Type 0
AreLawful lines = IsLawful Play lines ⊎ IsLawful Run lines

-- ---- one line more

abbrev pub IsLine : ℕ → List ℕ → Option Line → Type 0
IsLine number text None = IsTrue (is_passed_over text)
IsLine number text (Some line) =
    (is_passed_over text ≡ false) × (line.number ≡ number) × IsForm line.form text

abbrev pub IsAllowed : Command → Seen → Option Line → Type 0
IsAllowed command seen None = Unit {0}
IsAllowed command seen (Some line) = IsTrue (allows command seen line.form)

abbrev pub after_line : Seen → Option Line → Seen
after_line seen None = seen
after_line seen (Some line) = after seen line.form

-- the text of this number is this line, or is passed over, behind lines that showed this
pub record IsNext (command : Command) (seen : Seen) (number : ℕ) (text : List ℕ)
    (line : Option Line) : Type 0 where
  pub room : number ≤ most_lines
  pub spelled : IsLine number text line
  pub allowed : IsAllowed command seen line
