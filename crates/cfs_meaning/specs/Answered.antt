-- Lines that have an answer.
use Rattle.std.specs.Prelude.{◌≡◌, ◌+◌, ◌<◌, Bool, true, false, List}
use Rattle.cfs_script.specs.declared.form.Form.{Form}
use Rattle.cfs_script.specs.declared.form.Form.TheVariants as forms
use Rattle.cfs_script.specs.declared.line.Line.{Line}
use Rattle.cfs_print.specs.declared.out_line.OutLine.{OutLine}
use Rattle.cfs_meaning.specs.Drive.{Drive}
use Rattle.cfs_meaning.specs.World.{Caller, World}
use Rattle.cfs_meaning.specs.Mounting.{mounted_world}
use Rattle.cfs_meaning.specs.Play.{Run, Step}

-- the lines that help no entry and make no step of a job
abbrev pub helps_none : Form → Bool
helps_none (forms.Read c fd n) = false
helps_none (forms.Write c fd bytes) = false
helps_none (forms.Pread c fd offset n) = false
helps_none (forms.Pwrite c fd offset bytes) = false
helps_none (forms.TryPwrite c fd offset bytes) = false
helps_none (forms.Ftruncate c fd n) = false
helps_none (forms.Close c fd) = false
helps_none (forms.Fsync c fd) = false
helps_none (forms.Serve c fd place) = false
helps_none (forms.Apply ino place) = false
helps_none (forms.Finish ino place) = false
helps_none forms.Turn = false
helps_none forms.Drain = false
helps_none (forms.Cut n k) = false
helps_none other = true

-- the selector's word has room for the number of the newest change of the tree
abbrev pub HasRoom : World → Type 0
HasRoom world = world.names.through + world.names.records < 9223372036854775808

-- At the end of every run of a store that was mounted such a line has an answer, and leaves a
-- world.
abbrev pub LinesHaveAnswers : Type 0
LinesHaveAnswers =
    (callers : List Caller) (drive : Drive) (lines : List Line) (outs : List OutLine)
    (world : World) (line : Line) → Run (mounted_world callers drive) lines outs world →
    HasRoom world → helps_none line.form ≡ true →
    (out : List OutLine) × (new : World) × Step line world out new
