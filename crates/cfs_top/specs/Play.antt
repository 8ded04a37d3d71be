-- What a script's lines do, one by one, and what they answer.
use Rattle.std.specs.Prelude.{◌≡◌, ℕ, ◌+◌, Some, None, List, [], ◌∷◌, ◌++◌, length}
use Rattle.std.specs.declared.option.Option.{Option}
use Rattle.std.specs.Option.{option_to_list}
use Rattle.cfs_file.specs.declared.entry.Entry.{Entry}
use Rattle.cfs_file.specs.declared.request.Request.{Request}
use Rattle.cfs_file.specs.declared.request.Request.TheVariants as requests
use Rattle.cfs_file.specs.File.{answer}
use Rattle.cfs_file.specs.Log.{file_of}
use Rattle.cfs_script.specs.declared.form.Form.{Form}
use Rattle.cfs_script.specs.declared.form.Form.TheVariants as forms
use Rattle.cfs_script.specs.declared.line.Line.{Line}
use Rattle.cfs_top.specs.declared.out_line.OutLine.{OutLine}
use Rattle.cfs_top.specs.declared.printed.Printed.TheVariants.{Opened}
use Rattle.cfs_top.specs.declared.world.TheConstants.{FILE}
use Rattle.std.specs.Io.KnownBytes.{Appends}
use Rattle.cfs_io.specs.Streams.{AppendsFront}
use Rattle.cfs_top.specs.Answers.{printed}
use Rattle.cfs_top.specs.Text.{texts}

-- A request takes the next place of the file's log, and answers what it answers on the file after
-- the entries before it. The file is empty at first.
pub record Admits (old : List Entry) (line caller : ℕ) (request : Request)
    (reply : Option OutLine) (new : List Entry) : Type 0 where
  pub entry : new ≡ old
      ++ record {
        ino = FILE;
        place = length old + 1;
        caller = caller;
        line = line;
        request = request;
      } ∷ []
  pub reply_is : reply ≡ Some (record {
    number = line;
    answer = printed FILE (length old + 1) (answer (file_of [] old) request);
  })

-- what a line answers, if it answers, and the log before and after it; a script that is served has
-- no other lines than these four
abbrev pub Does : List Entry → ℕ → Form → Option OutLine → List Entry → Type 0
Does old line (forms.Open caller path flags mode) reply new =
    (reply ≡ Some (record { number = line; answer = Opened 1 0 FILE })) × (new ≡ old)
Does old line (forms.Pwrite caller fd offset bytes) reply new =
    Admits old line caller (requests.Write offset bytes) reply new
Does old line (forms.Pread caller fd offset count) reply new =
    Admits old line caller (requests.Read offset count) reply new
Does old line _ reply new = (reply ≡ None) × (new ≡ old)

abbrev pub Step : List Entry → Line → Option OutLine → List Entry → Type 0
Step old line reply new = Does old line.number line.form reply new

-- the lines in order, with all that they answer
abbrev pub Run : List Entry → List Line → List OutLine → List Entry → Type 0
Run old [] outs new = (outs ≡ []) × (new ≡ old)
Run old (line ∷ lines) outs new =
    (reply : Option OutLine) × ((mid : List Entry) × ((others : List OutLine)
    × (Step old line reply mid
    × (Run mid lines others new × (outs ≡ option_to_list reply ++ others)))))

-- The lines were played, and all that they answer was written.
pub record PlaysAll (old : List Entry) (lines : List Line) (new : List Entry)
    (before after : Option (List ℕ)) : Type 0 where
  pub outs : List OutLine
  pub run : Run old lines outs new
  pub written : Appends before after (texts outs)

-- Some front of what the lines answer was written.
pub record PlaysFront (old : List Entry) (lines : List Line)
    (before after : Option (List ℕ)) : Type 0 where
  pub outs : List OutLine
  pub new : List Entry
  pub run : Run old lines outs new
  pub written : AppendsFront before after (texts outs)
