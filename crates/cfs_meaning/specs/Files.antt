-- The lines of callers on files.
use Rattle.std.specs.Prelude.{◌≡◌, ℕ, ◌+◌, ◌-◌, ◌==◌, Bool, true, false, not, ◌&&◌, ◌||◌}
use Rattle.std.specs.Prelude.{if◌then◌else◌, min, Option, Some, None, Result, Ok, Err, List, []}
use Rattle.std.specs.Prelude.{◌∷◌, length, map, filter, take, replicate, nat_lt, nat_le}
use Rattle.std.specs.List.{flat_map, list_any}
use Rattle.cfs_file.specs.declared.request.Request.{Request}
use Rattle.cfs_file.specs.declared.request.Request.TheVariants as requests
use Rattle.cfs_file.specs.declared.sizes.TheConstants.{LONGEST_FILE, LONGEST_READ}
use Rattle.cfs_core.specs.declared.inode_core.Core.{Core}
use Rattle.cfs_core.specs.declared.doubt.Doubt.{Doubt}
use Rattle.cfs_core.specs.Listing as listing
use Rattle.cfs_core.specs.Listing.{listed}
use Rattle.cfs_core.specs.Words.{end_of, is_noop, is_out, is_unserved, start_of, track}
use Rattle.cfs_core.specs.Medium.{file}
use Rattle.cfs_core.specs.May.{is_sync_at, span_now}
use Rattle.cfs_pmem.specs.Meter.{is_off, supply_of}
use Rattle.cfs_dir.specs.declared.posix.Posix.TheVariants as posix
use Rattle.cfs_slot.specs.Staging.{slots_for, staged_payload}
use Rattle.cfs_words.specs.declared.seek.Seek.{Seek}
use Rattle.cfs_words.specs.declared.seek.Seek.TheVariants.{Back, On, To}
use Rattle.cfs_print.specs.declared.listed.Letter.{Letter}
use Rattle.cfs_print.specs.declared.listed.Letter.TheVariants as letters
use Rattle.cfs_print.specs.declared.listed.Listed.{Listed}
use Rattle.cfs_print.specs.declared.printed.Printed.{Printed}
use Rattle.cfs_print.specs.declared.printed.Printed.TheVariants.{Full, Got, PendingRead, Placed}
use Rattle.cfs_print.specs.declared.printed.Printed.TheVariants.{Queued, Refused, Short, Sought}
use Rattle.cfs_print.specs.declared.printed.Printed.TheVariants.{Wrote, WroteNothing}
use Rattle.cfs_meaning.specs.Drive.{Drive}
use Rattle.cfs_meaning.specs.NameSteps.{closing}
use Rattle.cfs_meaning.specs.Steps.{staged, zeroed}
use Rattle.cfs_meaning.specs.World.{Descriptor, File, Held, Queue, World, all_placed, core_in}
use Rattle.cfs_meaning.specs.World.{descriptor_in, file_in, queue_in, with_descriptor}
use Rattle.cfs_meaning.specs.World.{with_descriptors, with_queue}
use Rattle.cfs_meaning.specs.Ways.{Changes, Fault, Halt, Mends, Now, Repeats, Says, Waits, Way}
use Rattle.cfs_meaning.specs.Ways.{choose, done, each, end_with, give, known, refuse_if, steps}
use Rattle.cfs_meaning.specs.Ways.{when, ◌>>=◌, ◌>>◌}
use Rattle.cfs_meaning.specs.Inode.{Absent, Behind, Ready, Verdict, admit, admit_read, drop_read}
use Rattle.cfs_meaning.specs.Inode.{is_append, run_job, serve, serve_verdict, settle, skip}
use Rattle.cfs_meaning.specs.Inode.{unmapped, verdict}
use Rattle.cfs_meaning.specs.Names.{ask_and_purge}

-- ---- helping

-- it is out, or an unserved read: nothing helps it on
abbrev pub is_stuck : Core → ℕ → Bool
is_stuck core place =
    is_out (track core.tracks place).state || is_unserved (track core.tracks place).state

-- An entry and those that block it are brought home.
pub data Helps (ino : ℕ) : ℕ → World → Result (Unit {0}) Halt → World → Type 0 where
  -- a no-op is skipped
  skips : {place : ℕ} {old new : World} {end : Result (Unit {0}) Halt} →
      is_noop (track (core_in old ino).tracks place).state ≡ true → skip ino place old end new →
      Helps ino place old end new
  -- an entry that is out is waited for
  is_out_itself : {place : ℕ} {old : World} →
      is_out (track (core_in old ino).tracks place).state ≡ true →
      Helps ino place old (Err (Waits place)) old
  -- so is one behind a job or an unserved read
  is_behind : {place q : ℕ} {old : World} → verdict (core_in old ino) place ≡ Behind q →
      is_stuck (core_in old ino) q ≡ true → Helps ino place old (Err (Waits q)) old
  -- what else is in the way is helped first
  helps_first : {place q : ℕ} {old mid new : World} {end : Result (Unit {0}) Halt} →
      verdict (core_in old ino) place ≡ Behind q → is_stuck (core_in old ino) q ≡ false →
      Helps ino q old (Ok tt) mid → Helps ino place mid end new → Helps ino place old end new
  fails_first : {place q : ℕ} {old new : World} {halt : Halt} →
      verdict (core_in old ino) place ≡ Behind q → is_stuck (core_in old ino) q ≡ false →
      Helps ino q old (Err halt) new → Helps ino place old (Err halt) new
  -- with nothing in the way its jobs are done
  works : {place : ℕ} {old new : World} → verdict (core_in old ino) place ≡ Ready →
      run_job ino place old (Ok false) new → Helps ino place old (Ok tt) new
  works_on : {place : ℕ} {old mid new : World} {end : Result (Unit {0}) Halt} →
      verdict (core_in old ino) place ≡ Ready → run_job ino place old (Ok true) mid →
      Helps ino place mid end new → Helps ino place old end new
  fails : {place : ℕ} {old new : World} {halt : Halt} → verdict (core_in old ino) place ≡ Ready →
      run_job ino place old (Err halt) new → Helps ino place old (Err halt) new

-- ---- slots

abbrev pub own_doubt : Option Doubt → ℕ → Bool
own_doubt None grant = false
own_doubt (Some doubt) grant = doubt.grant == grant

abbrev pub collected : Queue → Queue
collected queue = record { free = all_placed queue.returned queue.free; returned = [] }

-- every slot that came back is taken into the queue's free ones
abbrev pub collect : ℕ → Way (Unit {0})
collect q = Changes (with_queue q collected)

abbrev pub first_place : List (ℕ × listing.Letter) → Option ℕ
first_place [] = None
first_place (first ∷ rest) = Some first.0

-- the lowest entry of the descriptor's queue
abbrev pub lowest : World → Descriptor → Option ℕ
lowest world d = first_place (listed d.grant.number 1 (core_in world d.grant.ino).tracks)

abbrev pub help_some : ℕ → Option ℕ → Way Bool
help_some ino None = give false
help_some ino (Some place) = Helps ino place >> give true

-- the value says whether there was one
abbrev pub help_lowest : Descriptor → Way Bool
help_lowest d = Now >>= (λ w. help_some d.grant.ino (lowest w d))

abbrev pub free_count : World → Descriptor → ℕ
free_count world d = length (queue_in world d.grant.queue).free

-- where too few slots are free: the doubt of the queue is settled, or else its lowest entry helped
abbrev pub make_room : Descriptor → ℕ → Way Bool
make_room d count = do
  collect d.grant.queue
  world ← Now
  choose (nat_le count (free_count world d)) (give false)
      (choose (own_doubt (core_in world d.grant.ino).doubt d.grant.number)
      (settle d.grant.ino >> give true) (help_lowest d))

abbrev pub find_room : Descriptor → ℕ → Way (Unit {0})
find_room d count = Repeats (make_room d count) >> done

-- the places of the slots that are not free, one for each slot, 0 for the slots of a request in
-- doubt
abbrev pub doubt_place : Option Doubt → ℕ → ℕ
doubt_place None gate = gate
doubt_place (Some doubt) gate = if doubt.entry.place == gate then 0 else gate

abbrev pub held_places : Core → ℕ → Held → List ℕ
held_places core queue h =
    if h.queue == queue then replicate (length h.slots) (doubt_place core.doubt h.gate) else []

abbrev pub busy : World → Descriptor → List ℕ
busy world d =
    let f : File = file_in world d.grant.ino in
    all_placed (flat_map (held_places f.core d.grant.queue) f.held) []

abbrev pub room_or_full : Descriptor → ℕ → Way (Unit {0})
room_or_full d count = do
  collect d.grant.queue
  world ← Now
  refuse_if (nat_lt (free_count world d) count) (Full (busy world d))

-- ---- descriptors

abbrev pub opened : ℕ → ℕ → Way Descriptor
opened c fd = Now >>= (λ w. known (descriptor_in w c fd) (Refused posix.BadDescriptor))

abbrev pub opened_to_read : ℕ → ℕ → Way Descriptor
opened_to_read c fd =
    opened c fd >>= (λ d. refuse_if (not d.grant.reads) (Refused posix.BadDescriptor) >> give d)

abbrev pub opened_to_write : ℕ → ℕ → Way Descriptor
opened_to_write c fd =
    opened c fd >>= (λ d. refuse_if (not d.grant.writes) (Refused posix.BadDescriptor) >> give d)

abbrev pub has_no_power : Drive → Bool
has_no_power drive = is_off (supply_of drive.asked)

abbrev pub at_position : ℕ → Descriptor → Descriptor
at_position to d = record d { position = to }

abbrev pub moved_by : Option Descriptor → ℕ → ℕ → World → World
moved_by None c to world = world
moved_by (Some d) c to world =
    if has_no_power world.drive then world else with_descriptor c (at_position to d) world

-- the position moves, where the power is on
abbrev pub move_to : ℕ → ℕ → ℕ → World → World
move_to c fd to world = moved_by (descriptor_in world c fd) c to world

-- ---- writes

-- Stages, zeroes the blocks that are needed, and admits; the value is the place.
abbrev pub stage_and_admit : Descriptor → ℕ → ℕ → Request → Way ℕ
stage_and_admit d c line request = do
  world ← Now
  let ino = d.grant.ino
  let count = length (staged_payload request)
  let slots = take (slots_for count) (queue_in world d.grant.queue).free
  steps (staged ino request d.grant.number d.grant.queue slots)
  here ← Now
  let core = core_in here ino
  refuse_if (is_append request && nat_lt LONGEST_FILE (length (file core) + count))
      (Refused posix.FileTooLarge)
  let need = length (unmapped (file_in here ino) (span_now core request))
  refuse_if (nat_lt (length here.free) need) (Short need (length here.free))
  each (take need here.free) (λ b. steps (zeroed b))
  admit d c line request slots

-- where the span of a place begins, and where it ends
abbrev pub start_at : World → ℕ → ℕ → ℕ
start_at world ino place = start_of (track (core_in world ino).tracks place).span

abbrev pub end_at : World → ℕ → ℕ → ℕ
end_at world ino place = end_of (track (core_in world ino).tracks place).span

abbrev pub length_at : World → ℕ → ℕ → ℕ
length_at world ino place = end_at world ino place - start_at world ino place

-- a write with its place: where it stood, and how long it was
abbrev pub say_wrote : ℕ → ℕ → Way Printed
say_wrote ino place =
    Now >>= (λ w. give (Wrote ino place (start_at w ino place) (length_at w ino place)))

abbrev pub admit_write : Descriptor → ℕ → ℕ → Request → Bool → Way Printed
admit_write d c line request moves = do
  place ← stage_and_admit d c line request
  when moves (Changes (λ w. move_to c d.fd (end_at w d.grant.ino place) w))
  say_wrote d.grant.ino place

abbrev pub pwrite : Descriptor → ℕ → ℕ → ℕ → List ℕ → (Descriptor → ℕ → Way (Unit {0})) → Bool
    → Way Printed
pwrite d c line offset bytes finds_room moves = do
  refuse_if (length bytes == 0) WroteNothing
  refuse_if (nat_lt LONGEST_FILE (offset + length bytes)) (Refused posix.FileTooLarge)
  finds_room d (slots_for (length bytes))
  admit_write d c line (requests.Write offset bytes) moves

abbrev pub append : Descriptor → ℕ → ℕ → List ℕ → Way Printed
append d c line bytes = do
  refuse_if (length bytes == 0) WroteNothing
  find_room d (slots_for (length bytes))
  admit_write d c line (requests.Append bytes) true

abbrev pub write : Descriptor → ℕ → ℕ → List ℕ → Way Printed
write d c line bytes =
    choose d.appends (append d c line bytes) (pwrite d c line d.position bytes find_room true)

abbrev pub ftruncate : Descriptor → ℕ → ℕ → ℕ → Way Printed
ftruncate d c line n = do
  refuse_if (nat_lt LONGEST_FILE n) (Refused posix.FileTooLarge)
  find_room d 1
  place ← stage_and_admit d c line (requests.Truncate n)
  give (Placed d.grant.ino place)

-- ---- reads

abbrev pub in_the_way : ℕ → ℕ → Verdict → World → Way Bool
in_the_way ino place (Behind q) world =
    choose (is_out (track (core_in world ino).tracks q).state) (end_with (Waits q))
    (Helps ino q >> give true)
in_the_way ino place Absent world = give false
in_the_way ino place Ready world = give false

-- one place that serve names is helped; the value says whether there was one
abbrev pub clear_way : ℕ → ℕ → Way Bool
clear_way ino place =
    Now >>= (λ w. in_the_way ino place (serve_verdict (core_in w ino) place) w)

-- a read or sync is helped until it is served, which gives its bytes; after a fault it is dropped
abbrev pub serve_helped : ℕ → ℕ → Way (List ℕ)
serve_helped ino place =
    Mends (Repeats (clear_way ino place) >> serve ino place) (drop_read ino place)

abbrev pub served_answer : ℕ → ℕ → List ℕ → World → Printed
served_answer ino place bytes world =
    if is_sync_at (core_in world ino).log place then Placed ino place else Got ino place bytes

abbrev pub say_served : ℕ → ℕ → List ℕ → Way Printed
say_served ino place bytes = Now >>= (λ w. give (served_answer ino place bytes w))

-- a read or sync that waits is answered with its place, and moves the position by the bytes that it
-- will give
pub data Defers (ino place : ℕ) (way : Way (List ℕ)) (move : World → World)
    : World → Result (List ℕ) Halt → World → Type 0 where
  serves : {old new : World} {bytes : List ℕ} → way old (Ok bytes) new →
      Defers ino place way move old (Ok bytes) (move new)
  defers : {old new : World} {q : ℕ} → way old (Err (Waits q)) new →
      Defers ino place way move old (Err (Says (PendingRead ino place q))) (move new)
  faults : {old new : World} → way old (Err Fault) new →
      Defers ino place way move old (Err Fault) new

-- the position behind the bytes of a place
abbrev pub move_by : ℕ → Descriptor → Bool → ℕ → World → World
move_by c d moves place world =
    if moves then move_to c d.fd (d.position + length_at world d.grant.ino place) world else world

abbrev pub read_or_sync : Descriptor → ℕ → ℕ → Request → Bool → Way Printed
read_or_sync d c line request moves = do
  place ← admit_read d c line request
  bytes ← Defers d.grant.ino place (serve_helped d.grant.ino place) (move_by c d moves place)
  say_served d.grant.ino place bytes

-- the bytes that one read asks for at most
abbrev pub most_read : ℕ → ℕ
most_read count = min count LONGEST_READ

abbrev pub post : Descriptor → ℕ → ℕ → Request → Way Printed
post d c line request = do
  place ← admit_read d c line request
  give (Placed d.grant.ino place)

-- the descriptor made the read or sync, and it is not served yet
abbrev pub has_posted : World → Descriptor → ℕ → Bool
has_posted world d place =
    list_any (λ p. p == place) d.posted
    && is_unserved (track (core_in world d.grant.ino).tracks place).state

abbrev pub serve_posted : Descriptor → ℕ → Way Printed
serve_posted d place = do
  world ← Now
  refuse_if (not (has_posted world d place)) (Refused posix.InvalidArgument)
  bytes ← serve_helped d.grant.ino place
  say_served d.grant.ino place bytes

-- ---- seek, queue, close

abbrev pub sought : Seek → ℕ → Option ℕ
sought (To n) position = Some n
sought (On n) position = Some (position + n)
sought (Back n) position = if nat_le n position then Some (position - n) else None

abbrev pub lseek : Descriptor → ℕ → Seek → Way Printed
lseek d c seek = do
  to ← known (sought seek d.position) (Refused posix.InvalidArgument)
  refuse_if (nat_lt 4294967295 to) (Refused posix.InvalidArgument)
  Changes (move_to c d.fd to)
  give (Sought to)

abbrev pub letter : listing.Letter → Letter
letter listing.waits = letters.Waiting
letter listing.goes = letters.Out
letter listing.idles = letters.Idle
letter listing.doubtful = letters.Doubtful

abbrev pub listed_item : ℕ × listing.Letter → Listed
listed_item x = record { place = x.0; letter = letter x.1 }

abbrev pub list_queue : Descriptor → Way Printed
list_queue d =
    Now >>= (λ w. give (Queued
    (map listed_item (listing.listing (core_in w d.grant.ino) d.grant.number))))

abbrev pub close_in : ℕ → ℕ → World → World
close_in c fd world = with_descriptors c (filter (λ o. not (o.fd == fd))) world

-- drops its unserved reads, settles its doubt, helps the entries of its queue, and closes
abbrev pub close : Descriptor → ℕ → ℕ → Way Printed
close d c line = do
  world ← Now
  each (filter (has_posted world d) d.posted) (drop_read d.grant.ino)
  when (own_doubt (core_in world d.grant.ino).doubt d.grant.number) (settle d.grant.ino)
  Repeats (help_lowest d)
  collect d.grant.queue
  Changes (close_in c d.fd)
  ask_and_purge c line (closing d.grant)
