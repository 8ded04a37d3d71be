-- In which order a script's requests stand in the log, and what they were answered.
use Rattle.std.specs.Prelude.{◌≡◌, ℕ, ◌==◌, Bool, true, false, List, [], map, filter}
use Rattle.cfs_file.specs.declared.entry.Entry.{Entry}
use Rattle.cfs_file.specs.Log.{IsLegal, own_list}
use Rattle.cfs_script.specs.declared.form.Form.{Form}
use Rattle.cfs_script.specs.declared.form.Form.TheVariants.{Pwrite, Pread}
use Rattle.cfs_script.specs.declared.line.Line.{Line}
use Rattle.cfs_top.specs.declared.out_line.OutLine.{OutLine}
use Rattle.cfs_top.specs.Answers.{given}

-- the form is a request to the file
abbrev pub is_request : Form → Bool
is_request (Pwrite c fd offset bytes) = true
is_request (Pread c fd offset count) = true
is_request _ = false

-- the form is a request of that caller to the file
abbrev pub is_request_of : ℕ → Form → Bool
is_request_of caller (Pwrite c fd offset bytes) = c == caller
is_request_of caller (Pread c fd offset count) = c == caller
is_request_of caller _ = false

-- the numbers of the lines whose form passes a test
abbrev pub numbers : (Form → Bool) → List Line → List ℕ
numbers p lines = map (λ line. line.number) (filter (λ line. p line.form) lines)

-- the numbers of the lines that entries come from
abbrev pub lines_in : List Entry → List ℕ
lines_in log = map (λ entry. entry.line) log

-- The requests of the lines stand in one legal order with the answers that were printed, each once,
-- and each caller's in the order of its lines.
pub record KeepsOrder (lines : List Line) (outs : List OutLine) (log : List Entry) : Type 0 where
  pub legal : IsLegal [] log (given outs)
  pub once : lines_in log ≡ numbers is_request lines
  pub own : (caller : ℕ) → lines_in (own_list log caller) ≡ numbers (is_request_of caller) lines
