-- What holds of every run of a script.
use Rattle.std.specs.Prelude.{◌≡◌, ℕ, ◌-◌, ◌≤◌, Bool, true, false, Option, Some, List, [], ◌∷◌}
use Rattle.std.specs.List.{slice_get}
use Rattle.cfs_file.specs.declared.entry.Entry.{Entry}
use Rattle.cfs_file.specs.File.{answer}
use Rattle.cfs_pmem.specs.declared.meter.Supply.TheVariants.{Steady}
use Rattle.cfs_pmem.specs.Meter.{plans_of, supply_of}
use Rattle.cfs_core.specs.declared.inode_core.Core.{Core}
use Rattle.cfs_core.specs.Good.{IsGood, bytes_of, file_before}
use Rattle.cfs_core_laws.specs.Reached.{IsReached}
use Rattle.cfs_dir.specs.Change.{changed_by}
use Rattle.cfs_dir.specs.Tree.{IsTree}
use Rattle.cfs_requests.specs.Steps.{NameAnswer, NameRequest}
use Rattle.cfs_script.specs.declared.form.Form.{Form}
use Rattle.cfs_script.specs.declared.form.Form.TheVariants as forms
use Rattle.cfs_script.specs.declared.line.Line.{Line}
use Rattle.cfs_print.specs.declared.out_line.OutLine.{OutLine}
use Rattle.cfs_print.specs.declared.printed.Printed.{Printed}
use Rattle.cfs_print.specs.declared.printed.Printed.TheVariants as answers
use Rattle.cfs_meaning.specs.Drive.{Drive}
use Rattle.cfs_meaning.specs.NameSteps.{AreInOrder, Order, changes_of, step_of, tree_of}
use Rattle.cfs_meaning.specs.World.{File, Up, World}
use Rattle.cfs_meaning.specs.Play.{Run, Step}

-- P holds of the inode number and the core of each file whose core has not ended
abbrev pub OfEachCore : (ℕ → Core → Type 0) → List File → Type 0
OfEachCore P [] = Unit {0}
OfEachCore P (f ∷ files) = (f.ended ≡ false → P f.ino f.core) × OfEachCore P files

-- ---- cores

-- each core is one that the laws of cores hold of
abbrev pub AreReached : World → Type 0
AreReached world = OfEachCore (λ ino core. IsReached core) world.files

abbrev pub CoresStayReached : Type 0
CoresStayReached =
    (old new : World) (line : Line) (out : List OutLine) → old.phase ≡ Up → Step line old out new →
    AreReached old → AreReached new

-- no line mounts
abbrev pub is_mount : Form → Bool
is_mount forms.Mount = true
is_mount other = false

abbrev pub HaveNoMount : List Line → Type 0
HaveNoMount [] = Unit {0}
HaveNoMount (line ∷ lines) = (is_mount line.form ≡ false) × HaveNoMount lines

-- So it is at the end of every run until the next mount, whatever fails, and crashes among the
-- lines.
abbrev pub RunsKeepCores : Type 0
RunsKeepCores =
    (old new : World) (lines : List Line) (outs : List OutLine) → HaveNoMount lines →
    Run old lines outs new → AreReached old → AreReached new

-- So each file's log is legal, a read that may be served gets its answer, and every image of the
-- core recovers the file after the log.
abbrev pub FilesAreGood : Type 0
FilesAreGood = (world : World) → AreReached world → OfEachCore (λ ino core. IsGood core) world.files

-- ---- answers

-- neither that a device failed nor that the power is off
abbrev pub IsGiven : Printed → Type 0
IsGiven answers.Faulty = ⊥
IsGiven answers.Stopped = ⊥
IsGiven other = Unit {0}

-- ---- nothing fails

-- the power has no stop and no plan
pub record IsCalm (drive : Drive) : Type 0 where
  pub steady : supply_of drive.asked ≡ Steady
  pub unplanned : plans_of drive.asked ≡ []

-- the line makes no device fail
abbrev pub is_calm : Form → Bool
is_calm (forms.Stop n) = false
is_calm (forms.Fail device k) = false
is_calm (forms.FailRead device k) = false
is_calm other = true

abbrev pub AreCalm : List Line → Type 0
AreCalm [] = Unit {0}
AreCalm (line ∷ lines) = (is_calm line.form ≡ true) × AreCalm lines

abbrev pub AreGiven : List OutLine → Type 0
AreGiven [] = Unit {0}
AreGiven (out ∷ outs) = IsGiven out.answer × AreGiven outs

-- Of lines that make no device fail none answers that one did, crashes and mounts among them.
abbrev pub CalmRunsAnswer : Type 0
CalmRunsAnswer =
    (old new : World) (lines : List Line) (outs : List OutLine) → IsCalm old.drive →
    AreCalm lines → Run old lines outs new → AreGiven outs × IsCalm new.drive

-- ---- requests on names

-- The requests on names since the mount are a legal order from the tree that it found to the tree
-- and the grants as they are.
abbrev pub AreNamesLegal : World → Type 0
AreNamesLegal world =
    AreInOrder world.names.base world.names.log world.names.now

abbrev pub NamesStayLegal : Type 0
NamesStayLegal =
    (old new : World) (line : Line) (out : List OutLine) → Step line old out new →
    AreNamesLegal old → AreNamesLegal new

-- The changes that are stored for a request make the tree that its step leaves.
abbrev pub ChangesMakeSteps : Type 0
ChangesMakeSteps =
    (order after : Order) (answer : NameAnswer) (c : ℕ) (request : NameRequest) (rec : Option ℕ) →
    IsTree (tree_of order).nodes (tree_of order).next →
    step_of order c request rec ≡ Some (answer, after) →
    changed_by (tree_of order) (changes_of order request rec) ≡ tree_of after

-- ---- logs

-- The entries come from lines whose numbers begin at one and end at another, and never fall.
abbrev pub AreOfLines : ℕ → ℕ → List Entry → Type 0
AreOfLines from to [] = from ≤ to
AreOfLines from to (entry ∷ entries) = (from ≤ entry.line) × AreOfLines entry.line to entries

-- each log has entries of lines up to that number, in their order
abbrev pub AreLogsOfLines : ℕ → World → Type 0
AreLogsOfLines to world = OfEachCore (λ ino core. AreOfLines 0 to core.log) world.files

abbrev pub LogsFollowLines : Type 0
LogsFollowLines =
    (old new : World) (line : Line) (out : List OutLine) (to : ℕ) → old.phase ≡ Up →
    Step line old out new → to ≤ line.number → AreLogsOfLines to old →
    AreLogsOfLines line.number new

-- ---- reads

-- The bytes are the answer to the request of that place on the file after the entries before it.
pub record IsReadAt (place : ℕ) (bytes : List ℕ) (core : Core) : Type 0 where
  pub entry : Entry
  pub logged : slice_get core.log (place - 1) ≡ Some entry
  pub right : bytes ≡ bytes_of (answer (file_before core place) entry.request)

abbrev pub is_reading : Form → Bool
is_reading (forms.Read c fd n) = true
is_reading (forms.Pread c fd offset n) = true
is_reading (forms.Serve c fd place) = true
is_reading (forms.Fsync c fd) = true
is_reading other = false

-- A line that reads prints the bytes of the file after the entries before its place.
abbrev pub ReadsAreRight : Type 0
ReadsAreRight =
    (old new : World) (line : Line) (out : List OutLine) (number ino place : ℕ)
    (bytes : List ℕ) → old.phase ≡ Up → AreReached old → is_reading line.form ≡ true →
    Step line old out new →
    out ≡ record { number = number; answer = answers.Got ino place bytes } ∷ [] →
    OfEachCore (λ k core. k ≡ ino → IsReadAt place bytes core) new.files

-- ---- one run

-- A script has one list of answers, and leaves one world.
abbrev pub AnswersAreOnly : Type 0
AnswersAreOnly =
    (old one other : World) (lines : List Line) (outs others : List OutLine) →
    Run old lines outs one → Run old lines others other → (outs ≡ others) × (one ≡ other)
