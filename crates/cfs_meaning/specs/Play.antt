-- What each line of a script does, what it answers, and what a whole script does.
use Rattle.std.specs.Prelude.{ℕ, ◌+◌, Bool, true, false, ◌&&◌, if◌then◌else◌, Option, Some, None}
use Rattle.std.specs.Prelude.{Result, Ok, Err, List, [], ◌∷◌, ◌++◌, length, map, take, nat_lt}
use Rattle.cfs_cred.specs.declared.credential.Credential.{Credential}
use Rattle.cfs_file.specs.declared.request.Request.TheVariants as requests
use Rattle.cfs_file.specs.declared.sizes.TheConstants.{LONGEST_WRITE}
use Rattle.cfs_pmem.specs.declared.trace.Asked.TheVariants.{Planned, Revived, Stopped}
use Rattle.cfs_pmem.specs.Draws.{pick_of}
use Rattle.cfs_dir.specs.declared.posix.Posix.TheVariants as posix
use Rattle.cfs_image.specs.Crash.{after_regions, blocks_left, regions_left}
use Rattle.cfs_words.specs.declared.device.Device.{Device}
use Rattle.cfs_words.specs.declared.device.Device.TheVariants as devices
use Rattle.cfs_script.specs.declared.form.Form.{Form}
use Rattle.cfs_script.specs.declared.form.Form.TheVariants as forms
use Rattle.cfs_script.specs.declared.line.Line.{Line}
use Rattle.cfs_print.specs.declared.out_line.OutLine.{OutLine}
use Rattle.cfs_print.specs.declared.printed.Printed.{Printed}
use Rattle.cfs_print.specs.declared.printed.Printed.TheVariants as answers
use Rattle.cfs_requests.specs.Steps.{makes_directory, moves_node, opens_file, removes_directory}
use Rattle.cfs_requests.specs.Steps.{unlinks_file}
use Rattle.cfs_meaning.specs.Drive.{Drive}
use Rattle.cfs_meaning.specs.Steps.{journal_record, selector, size_word, slot, table_copy}
use Rattle.cfs_meaning.specs.World.{Down, Failed, Phase, Up, World, credential_in, with_drive}
use Rattle.cfs_meaning.specs.World.{without_descriptors}
use Rattle.cfs_meaning.specs.Ways.{Changes, Fault, Halt, Now, Says, Waits, Way, give, known, never}
use Rattle.cfs_meaning.specs.Ways.{say, ◌>>=◌, ◌>>◌}
use Rattle.cfs_meaning.specs.Names.{ask, ask_and_purge, open_with, say_made, say_named}
use Rattle.cfs_meaning.specs.Files.{close, find_room, ftruncate, has_no_power, list_queue, lseek}
use Rattle.cfs_meaning.specs.Files.{most_read, opened, opened_to_read, opened_to_write, post}
use Rattle.cfs_meaning.specs.Files.{pwrite, read_or_sync, room_or_full, serve_posted, write}
use Rattle.cfs_meaning.specs.Workers.{apply_line, dispatch_line, drain, finish_line, settle_line}
use Rattle.cfs_meaning.specs.Workers.{skip_line, trim_line, turn_line}
use Rattle.cfs_meaning.specs.Mounting.{live_count, mount_steps, mounted_world}

-- ---- power and devices

-- The n-th writing step from now is refused, and all later ones; where the power is off nothing
-- changes.
abbrev pub stopped : ℕ → Drive → Drive
stopped n drive =
    if has_no_power drive then drive else record drive { asked = Stopped n ∷ drive.asked }

abbrev pub planned : ℕ → Bool → ℕ → Drive → Drive
planned device writing k drive = record drive { asked = Planned device writing k ∷ drive.asked }

-- the device number, where the store has the device
abbrev pub number_if : Bool → ℕ → Option ℕ
number_if there number = if there then Some number else None

-- in a store of so many regions and blocks
abbrev pub number_in : Device → ℕ → ℕ → Option ℕ
number_in devices.Selector regions blocks = Some selector
number_in (devices.Table copy) regions blocks = Some (table_copy copy)
number_in (devices.Journal position) regions blocks = Some (journal_record position)
number_in (devices.Size rec) regions blocks = Some (size_word rec)
number_in (devices.Slot q s) regions blocks =
    number_if (nat_lt s 16 && nat_lt (slot q s) regions) (slot q s)
number_in (devices.Block b) regions blocks = number_if (nat_lt b blocks) (regions + b)

abbrev pub number_of : Device → Drive → Option ℕ
number_of device drive = number_in device (length drive.regions) (length drive.blocks)

abbrev pub plan : Device → Bool → ℕ → Way Printed
plan device writing k = do
  world ← Now
  number ← known (number_of device world.drive) (answers.Refused posix.InvalidArgument)
  Changes (with_drive (planned number writing k))
  give answers.Fine

-- What a crash leaves: of each word and byte the value that the pick names. The stop and all plans
-- end.
abbrev pub crashed : ℕ → Drive → Drive
crashed k drive = record {
  asked = Revived ∷ drive.asked;
  regions = regions_left (pick_of k) drive.regions;
  blocks = blocks_left (after_regions (pick_of k) drive.regions) drive.blocks;
}

-- The devices are as the crash leaves them, and nobody has a descriptor. The rest of the world
-- stays for the laws to speak of: no line of a file or of the tree reaches it, and the next mount
-- makes it anew.
abbrev pub crash_in : ℕ → World → World
crash_in k world = record world {
  drive = crashed k world.drive;
  phase = Down;
  callers = map without_descriptors world.callers;
}

abbrev pub mount_failed : World → World
mount_failed world = record world { phase = Failed }

abbrev pub mounted : World → World
mounted world = mounted_world world.callers world.drive

abbrev pub stop : ℕ → Way Printed
stop n = Changes (with_drive (stopped n)) >> give answers.Fine

abbrev pub crash : ℕ → Way Printed
crash k = Changes (crash_in k) >> give answers.Fine

-- a mount that fails, or that the power cuts, is not tried again before the next crash
abbrev pub mount : Way Printed
mount = do
  world ← Now
  Changes mount_failed
  mount_steps
  Changes mounted
  give (answers.Replayed (live_count world.drive))

abbrev pub mount_line : Phase → Way Printed
mount_line Up = say answers.Mounted
mount_line Down = mount
mount_line Failed = say answers.Unmounted

-- ---- lines

abbrev pub while_up : Phase → Way Printed → Way Printed
while_up Up way = way
while_up other way = say answers.Unmounted

-- a line of a file or of the tree
abbrev pub up : Way Printed → Way (Option Printed)
up way = Now >>= (λ w. while_up w.phase way) >>= (λ answer. give (Some answer))

abbrev pub told : Way Printed → Way (Option Printed)
told way = way >>= (λ answer. give (Some answer))

-- who begins a session
abbrev pub joined : ℕ → ℕ → ℕ → World → World
joined c uid gid world = record world {
  callers = world.callers
      ++ record { number = c; credential = record { uid = uid; gid = gid }; descriptors = [] } ∷ [];
}

-- by a caller's credential
abbrev pub by : {A : Type 0} → ℕ → (Credential → Way A) → Way A
by c way = Now >>= (λ w. way (credential_in w c))

-- what a line does, and its answer if it has one; `cut` is no line of `play`
abbrev pub does : ℕ → Form → Way (Option Printed)
does line (forms.Caller c uid gid) = Changes (joined c uid gid) >> give None
does line (forms.Open c path flags mode) =
    up (by c (λ credential. ask c line (opens_file credential path flags mode))
    >>= open_with c flags.append)
does line (forms.Mkdir c path mode) =
    up (by c (λ credential. ask c line (makes_directory credential path mode)) >>= say_made)
does line (forms.Unlink c path) =
    up (by c (λ credential. ask_and_purge c line (unlinks_file credential path)))
does line (forms.Rmdir c path) =
    up (by c (λ credential. ask c line (removes_directory credential path)) >> say_named)
does line (forms.Rename c from to) =
    up (by c (λ credential. ask_and_purge c line (moves_node credential from to)))
does line (forms.Read c fd n) =
    up (opened_to_read c fd
    >>= (λ d. read_or_sync d c line (requests.Read d.position (most_read n)) true))
does line (forms.Write c fd bytes) =
    up (opened_to_write c fd >>= (λ d. write d c line (take LONGEST_WRITE bytes)))
does line (forms.Pread c fd offset n) =
    up (opened_to_read c fd
    >>= (λ d. read_or_sync d c line (requests.Read offset (most_read n)) false))
does line (forms.Pwrite c fd offset bytes) =
    up (opened_to_write c fd
    >>= (λ d. pwrite d c line offset (take LONGEST_WRITE bytes) find_room false))
does line (forms.TryPwrite c fd offset bytes) =
    up (opened_to_write c fd
    >>= (λ d. pwrite d c line offset (take LONGEST_WRITE bytes) room_or_full false))
does line (forms.Lseek c fd seek) = up (opened c fd >>= (λ d. lseek d c seek))
does line (forms.Ftruncate c fd n) = up (opened_to_write c fd >>= (λ d. ftruncate d c line n))
does line (forms.Close c fd) = up (opened c fd >>= (λ d. close d c line))
does line (forms.Fsync c fd) =
    up (opened c fd >>= (λ d. read_or_sync d c line requests.Sync false))
does line (forms.Post c fd offset n) =
    up (opened_to_read c fd >>= (λ d. post d c line (requests.Read offset (most_read n))))
does line (forms.Serve c fd place) = up (opened c fd >>= (λ d. serve_posted d place))
does line (forms.Dispatch ino place) = up (dispatch_line ino place)
does line (forms.Apply ino place) = up (apply_line ino place)
does line (forms.Finish ino place) = up (finish_line ino place)
does line (forms.Skip ino place) = up (skip_line ino place)
does line (forms.Trim ino) = up (trim_line ino)
does line (forms.Settle ino) = up (settle_line ino)
does line forms.Turn = up turn_line
does line forms.Drain = up drain
does line (forms.Queue c fd) = up (opened c fd >>= list_queue)
does line (forms.Stop n) = told (stop n)
does line (forms.Crash k) = told (crash k)
does line forms.Mount = told (Now >>= (λ w. mount_line w.phase))
does line (forms.Fail device k) = told (plan device true k)
does line (forms.FailRead device k) = told (plan device false k)
does line (forms.Cut n k) = never

-- ---- answers

abbrev pub answer_of : Halt → Printed
answer_of Fault = answers.Faulty
answer_of (Waits place) = answers.Pending place
answer_of (Says answer) = answer

-- where the power is off when the line ends, it answers that, before any other answer
abbrev pub unless_off : World → Printed → Printed
unless_off world answer = if has_no_power world.drive then answers.Stopped else answer

-- what a line prints, if anything
abbrev pub printed : ℕ → World → Result (Option Printed) Halt → List OutLine
printed number world (Ok None) = []
printed number world (Ok (Some answer)) =
    record { number = number; answer = unless_off world answer } ∷ []
printed number world (Err halt) =
    record { number = number; answer = unless_off world (answer_of halt) } ∷ []

-- A line takes a world to a world, and prints its answer.
pub data Step (line : Line) : World → List OutLine → World → Type 0 where
  steps_so : {old new : World} (end : Result (Option Printed) Halt) →
      does line.number line.form old end new → Step line old (printed line.number new end) new

-- the lines in order, with all that they print
pub data Run : World → List Line → List OutLine → World → Type 0 where
  run_ends : {world : World} → Run world [] [] world
  goes_on : {old mid new : World} {line : Line} {lines : List Line} {here later : List OutLine} →
      Step line old here mid → Run mid lines later new → Run old (line ∷ lines) (here ++ later) new
