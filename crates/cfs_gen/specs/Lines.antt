-- Lines of a script, one a form.
use Rattle.std.specs.Prelude.{ℕ, ◌+◌, List, [], ◌∷◌}
use Rattle.cfs_script.specs.declared.form.Form.{Form}
use Rattle.cfs_script.specs.declared.line.Line.{Line}

-- the forms in order, numbered from here on
abbrev pub numbered : ℕ → List Form → List Line
numbered number [] = []
numbered number (form ∷ forms) =
    record { number = number; form = form } ∷ numbered (number + 1) forms
