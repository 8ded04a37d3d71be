-- What is printed of an answer, and which answers were printed.
use Rattle.std.specs.Prelude.{ℕ, Option, Some, List, [], ◌∷◌, ◌++◌}
use Rattle.cfs_file.specs.declared.answer.Answer.{Answer}
use Rattle.cfs_file.specs.declared.answer.Answer.TheVariants as answers
use Rattle.cfs_top.specs.declared.printed.Printed.{Printed}
use Rattle.cfs_top.specs.declared.printed.Printed.TheVariants.{Opened, Wrote, Got, Done}
use Rattle.cfs_top.specs.declared.out_line.OutLine.{OutLine}

-- a request's answer, with the file and the place of its request
abbrev pub printed : ℕ → ℕ → Answer → Printed
printed ino place (answers.Wrote offset count) = Wrote ino place offset count
printed ino place (answers.Got bytes) = Got ino place bytes
printed ino place answers.Done = Done ino place

-- the answers to requests among printed ones, in order
abbrev pub given_by : Printed → List (Option Answer)
given_by (Opened place fd ino) = []
given_by (Wrote ino place offset count) = Some (answers.Wrote offset count) ∷ []
given_by (Got ino place bytes) = Some (answers.Got bytes) ∷ []
given_by (Done ino place) = Some answers.Done ∷ []

abbrev pub given : List OutLine → List (Option Answer)
given [] = []
given (line ∷ lines) = given_by line.answer ++ given lines
