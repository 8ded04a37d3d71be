-- The rules of a whole script: which forms a command has, and what a line may ask
-- for behind others.
use Rattle.std.specs.Prelude.{◌≡◌, ℕ, ◌==◌, ◌&&◌, not, Bool, true, false, List, [], ◌∷◌, ◌++◌, Option, Some, None, IsTrue, if◌then◌else◌}
use Rattle.std.specs.List.{list_any}
use Rattle.cfs_script.specs.declared.command.Command.{Command}
use Rattle.cfs_script.specs.declared.command.Command.TheVariants.{Play, Run}
use Rattle.cfs_script.specs.declared.form.Form.{Form}
use Rattle.cfs_script.specs.declared.form.Form.TheVariants as forms

-- which forms `play` has: all but `cut`
abbrev pub is_played : Form → Bool
is_played (forms.Cut step pick) = false
is_played _ = true

-- which forms `run` has: callers and what they ask for, and `cut`
abbrev pub is_run : Form → Bool
is_run (forms.Post caller fd offset count) = false
is_run (forms.Serve caller fd place) = false
is_run (forms.Dispatch ino place) = false
is_run (forms.Apply ino place) = false
is_run (forms.Finish ino place) = false
is_run (forms.Skip ino place) = false
is_run (forms.Trim ino) = false
is_run (forms.Settle ino) = false
is_run forms.Turn = false
is_run forms.Drain = false
is_run (forms.Queue caller fd) = false
is_run (forms.Stop step) = false
is_run (forms.Crash pick) = false
is_run forms.Mount = false
is_run (forms.Fail device step) = false
is_run (forms.FailRead device step) = false
is_run _ = true

abbrev pub has : Command → Form → Bool
has Play form = is_played form
has Run form = is_run form

-- the caller that a form is of
abbrev pub user_of : Form → Option ℕ
user_of (forms.Open caller path flags mode) = Some caller
user_of (forms.Mkdir caller path mode) = Some caller
user_of (forms.Unlink caller path) = Some caller
user_of (forms.Rmdir caller path) = Some caller
user_of (forms.Rename caller from to) = Some caller
user_of (forms.Read caller fd count) = Some caller
user_of (forms.Write caller fd bytes) = Some caller
user_of (forms.Pread caller fd offset count) = Some caller
user_of (forms.Pwrite caller fd offset bytes) = Some caller
user_of (forms.TryPwrite caller fd offset bytes) = Some caller
user_of (forms.Lseek caller fd seek) = Some caller
user_of (forms.Ftruncate caller fd len) = Some caller
user_of (forms.Close caller fd) = Some caller
user_of (forms.Fsync caller fd) = Some caller
user_of (forms.Post caller fd offset count) = Some caller
user_of (forms.Serve caller fd place) = Some caller
user_of (forms.Queue caller fd) = Some caller
user_of _ = None

-- what lines have shown so far: the callers that they introduced, and whether there was a cut
pub record Seen : Type 0 where
  pub callers : List ℕ
  pub cut : Bool

abbrev pub nothing : Seen
nothing = record { callers = []; cut = false }

abbrev pub knows : Seen → ℕ → Bool
knows seen caller = list_any (λ other. caller == other) seen.callers

abbrev pub knows_user : Seen → Option ℕ → Bool
knows_user seen None = true
knows_user seen (Some caller) = knows seen caller

-- one `caller` line a number, before its first use, and at most one cut
abbrev pub fits : Seen → Form → Bool
fits seen (forms.Caller caller uid gid) = not (knows seen caller)
fits seen (forms.Cut step pick) = not seen.cut
fits seen form = knows_user seen (user_of form)

abbrev pub introduced : Seen → ℕ → Seen
introduced seen caller = record {
  callers = if knows seen caller then seen.callers else seen.callers ++ caller ∷ [];
  cut = seen.cut;
}

abbrev pub after : Seen → Form → Seen
after seen (forms.Caller caller uid gid) = introduced seen caller
after seen (forms.Cut step pick) = record { callers = seen.callers; cut = true }
after seen _ = seen

-- what the command's script may ask for, behind lines that showed this
abbrev pub allows : Command → Seen → Form → Bool
allows command seen form = has command form && fits seen form

-- each form may stand behind those before it
abbrev pub Keeps : Command → Seen → List Form → Type 0
Keeps command seen [] = Unit {0}
Keeps command seen (form ∷ forms) =
    IsTrue (allows command seen form) × Keeps command (after seen form) forms
