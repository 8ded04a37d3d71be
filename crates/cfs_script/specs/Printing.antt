-- The text of a script, in its canonical form: a line a form, without comments and empty lines.
use Rattle.std.specs.Prelude.{ℕ, ◌+◌, ◌≤◌, List, [], ◌∷◌, ◌++◌}
use Rattle.cfs_script.specs.declared.form.Form.{Form}
use Rattle.cfs_script.specs.declared.form.Form.TheVariants as forms
use Rattle.cfs_script.specs.declared.line.Line.{Line}
use Rattle.cfs_script.specs.Table.{form_text}

unfoldable pub form_printed : Form → List ℕ
form_printed form = form_text form

-- a mode has nine bits
abbrev pub has_mode : Form → Type 0
has_mode (forms.Open caller path flags mode) = mode ≤ 511
has_mode (forms.Mkdir caller path mode) = mode ≤ 511
has_mode _ = Unit {0}

-- each line's form, ended by the byte 10
abbrev pub lines_text : List Line → List ℕ
lines_text [] = []
lines_text (line ∷ lines) = form_text line.form ++ (10 ∷ lines_text lines)

-- the same forms in the same order, numbered from here on
abbrev pub renumbered : ℕ → List Line → List Line
renumbered number [] = []
renumbered number (line ∷ lines) =
    record { number = number; form = line.form } ∷ renumbered (number + 1) lines
