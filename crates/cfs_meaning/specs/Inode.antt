-- What is done to one file: each part makes its operations of devices, and its events of the file's
-- core.
use Rattle.std.specs.Prelude.{◌≡◌, Result, Ok, ℕ, ◌+◌, ◌-◌, ◌*◌, ◌==◌, Bool, true, false, not, ◌&&◌}
use Rattle.std.specs.Prelude.{◌||◌, if◌then◌else◌, Option, Some, None, List, [], ◌∷◌, ◌++◌, length}
use Rattle.std.specs.Prelude.{map, filter, find, take, drop, get_or, replicate, count_by, is_none}
use Rattle.std.specs.Prelude.{is_some, unwrap_or}
use Rattle.std.specs.Option.{option_to_list}
use Rattle.std.specs.List.{flat_map, list_any, range_with_len}
use Rattle.cfs_file.specs.declared.entry.Entry.{Entry}
use Rattle.cfs_file.specs.declared.request.Request.{Request}
use Rattle.cfs_file.specs.declared.request.Request.TheVariants as requests
use Rattle.cfs_file.specs.declared.span.Span.{Span}
use Rattle.cfs_file.specs.declared.sizes.TheConstants.{BLOCK_LEN, FILE_BLOCKS}
use Rattle.cfs_file.specs.Span.{meets}
use Rattle.cfs_core.specs.declared.flag.Flag.TheVariants.{Off, Unsure}
use Rattle.cfs_core.specs.declared.state.Lease.{Lease}
use Rattle.cfs_core.specs.declared.state.Job.{Job}
use Rattle.cfs_core.specs.declared.state.State.{State}
use Rattle.cfs_core.specs.declared.state.State.TheVariants.{Out}
use Rattle.cfs_core.specs.declared.track.Track.{Track}
use Rattle.cfs_core.specs.declared.doubt.Doubt.{Doubt}
use Rattle.cfs_core.specs.declared.event.Event.{Event}
use Rattle.cfs_core.specs.declared.event.Event.TheVariants as events
use Rattle.cfs_core.specs.declared.event.End.TheVariants as ends
use Rattle.cfs_core.specs.declared.event.SizeEnd.{SizeEnd}
use Rattle.cfs_core.specs.declared.event.SizeEnd.TheVariants as sizes
use Rattle.cfs_core.specs.declared.inode_core.Core.{Core}
use Rattle.cfs_core.specs.Words.{blocks_needed, end_in, has_block, is_live, is_on, is_unserved}
use Rattle.cfs_core.specs.Words.{is_waiting, payload_at, piece_in, positions, sized, start_in}
use Rattle.cfs_core.specs.Words.{start_of, track}
use Rattle.cfs_core.specs.Jobs.{done_after, next_block, next_job}
use Rattle.cfs_core.specs.Medium.{file, reads}
use Rattle.cfs_core.specs.May.{is_sync_at, may, may_trim, span_now}
use Rattle.cfs_core.specs.After.{after, with_size}
use Rattle.cfs_core.specs.Marks.{marks_to_try}
use Rattle.cfs_pmem.specs.WordOps.{persist, put}
use Rattle.cfs_block.specs.BlockOps.{flush, get_bytes, put_bytes}
use Rattle.cfs_medium.specs.Store.{tag_of}
use Rattle.cfs_meaning.specs.Drive.{Block, Op, Word, content_at}
use Rattle.cfs_meaning.specs.Steps.{gate_closed, gate_opened, marked, offset_set, payload_read}
use Rattle.cfs_meaning.specs.Steps.{size_word, slot, tag_kept}
use Rattle.cfs_meaning.specs.World.{Descriptor, File, Held, Queue, World, all_placed, block_of}
use Rattle.cfs_meaning.specs.World.{core_in, devices_of, file_in, head_of, held_at, placed}
use Rattle.cfs_meaning.specs.World.{with_core, with_descriptors, with_file, with_queue, without}
use Rattle.cfs_meaning.specs.Ways.{Changes, Fault, Halt, Mends, Now, Tries, Way, done, each}
use Rattle.cfs_meaning.specs.Ways.{end_with, give, steps, unless_fault, when, ◌>>=◌, ◌>>◌}

-- An event comes to the core of a file. One that may not come has no way.
pub data Comes (ino : ℕ) (e : Event) : World → Result (Unit {0}) Halt → World → Type 0 where
  comes : {world : World} → may (core_in world ino) e ≡ true →
      Comes ino e world (Ok tt) (with_core ino (after (core_in world ino) e) world)

abbrev pub event : ℕ → Event → Way (Unit {0})
event ino e = Comes ino e

-- ---- slots

abbrev pub without_held : ℕ → File → File
without_held gate f = record f { held = filter (λ h. not (h.gate == gate)) f.held }

abbrev pub with_returned : List ℕ → Queue → Queue
with_returned slots queue = record queue { returned = all_placed slots queue.returned }

-- the slots that were held for the gate come back to their queue
abbrev pub come_back : ℕ → ℕ → World → World
come_back ino gate world =
    let h : Held = held_at (file_in world ino) gate in
    with_queue h.queue (with_returned h.slots)
    (with_file (without_held gate (file_in world ino)) world)

abbrev pub with_held : Held → File → File
with_held h f = record f { held = f.held ++ h ∷ [] }

abbrev pub without_free : List ℕ → Queue → Queue
without_free slots queue = record queue { free = without slots queue.free }

-- slots of a queue are taken for the gate
abbrev pub hold : ℕ → Held → World → World
hold ino h world =
    with_queue h.queue (without_free h.slots) (with_file (with_held h (file_in world ino)) world)

-- the gate is to be closed; the value says whether it was
abbrev pub try_to_close : ℕ → ℕ → Way Bool
try_to_close ino gate = do
  world ← Now
  Tries (gate_closed (head_of (held_at (file_in world ino) gate)))

-- ---- a doubt is settled

abbrev pub settle_doubt : ℕ → Option Doubt → Way (Unit {0})
settle_doubt ino None = done
settle_doubt ino (Some doubt) = do
  closed ← try_to_close ino doubt.entry.place
  unless_fault closed
  event ino events.Settle
  Changes (come_back ino doubt.entry.place)

abbrev pub settle : ℕ → Way (Unit {0})
settle ino = do
  world ← Now
  settle_doubt ino (core_in world ino).doubt

-- ---- a request is admitted

-- the file blocks of a span that have no block, and those that are not tagged in every image
abbrev pub unmapped : File → Span → List ℕ
unmapped f s = filter (λ k. is_none (block_of f k)) (blocks_needed s)

abbrev pub untagged : Core → Span → List ℕ
untagged core s = filter (λ k. not (is_on (get_or core.tags k Off))) (blocks_needed s)

abbrev pub with_block_at : ℕ → ℕ → File → File
with_block_at k b f = record f { blocks = f.blocks ++ (k, b) ∷ [] }

abbrev pub take_block : ℕ → ℕ → ℕ → World → World
take_block ino k b world =
    record (with_file (with_block_at k b (file_in world ino)) world) {
      free = without (b ∷ []) world.free;
    }

-- a block stands at a file block; where none stood there, it was a free one
abbrev pub map_block : ℕ → ℕ → ℕ → World → World
map_block ino k b world =
    if is_none (block_of (file_in world ino) k) then take_block ino k b world else world

abbrev pub tag_with : ℕ → ℕ → ℕ → Way (Unit {0})
tag_with ino k b = do
  Changes (map_block ino k b)
  kept ← Tries (tag_kept b (tag_of ino k))
  event ino (events.Tag k kept)
  unless_fault kept

-- the block that stands at a file block, or else the free one of the lowest number, is tagged
abbrev pub tag : ℕ → ℕ → Way (Unit {0})
tag ino k = do
  world ← Now
  tag_with ino k (unwrap_or (block_of (file_in world ino) k) (get_or world.free 0 0))

-- the gate of the staged slots is opened with the entry's place
abbrev pub open_gate : ℕ → Entry → ℕ → Held → Way (Unit {0})
open_gate ino entry grant h = do
  kept ← Tries (gate_opened (head_of h) entry.place)
  event ino (events.Admit entry grant kept)
  Changes (hold ino h)
  unless_fault kept

-- a mark that fails leaves its entry waiting, and is not answered
abbrev pub mark : ℕ → ℕ → ℕ → Way (Unit {0})
mark ino by place = do
  world ← Now
  kept ← Tries (marked (head_of (held_at (file_in world ino) place)))
  event ino (events.Mark place by kept)

abbrev pub is_append : Request → Bool
is_append (requests.Append bytes) = true
is_append other = false

-- settle, an append's offset, tags, gate, marks; the value is the entry's place
abbrev pub admit : Descriptor → ℕ → ℕ → Request → List ℕ → Way ℕ
admit d c line request slots = do
  let ino = d.grant.ino
  settle ino
  world ← Now
  let core = core_in world ino
  let place = length core.log + 1
  when (is_append request)
      (steps (offset_set (slot d.grant.queue (get_or slots 0 0)) (length (file core))))
  each (untagged core (span_now core request)) (tag ino)
  open_gate ino (record { ino = ino; place = place; caller = c; line = line; request = request })
      d.grant.number
      (record { gate = place; queue = d.grant.queue; slots = slots })
  behind ← Now
  each (marks_to_try (core_in behind ino) place) (mark ino place)
  give place

-- ---- what is in the way of an entry or a read

-- none waits at the place; that place is in the way; or nothing is
pub data Verdict : Type 0 where
  Absent : Verdict
  Behind : ℕ → Verdict
  Ready : Verdict

-- the smallest place below that one whose track meets a test
abbrev pub first_before : Core → ℕ → (Track → Bool) → Option ℕ
first_before core place test =
    find (λ p. test (track core.tracks p)) (range_with_len 1 (place - 1))

-- the smallest place of a job that has one of the blocks
abbrev pub holder : Core → List ℕ → Option ℕ
holder core blocks =
    find (λ p. list_any (λ k. has_block (track core.tracks p).state k) blocks)
    (range_with_len 1 (length core.tracks))

abbrev pub first_of : Option ℕ → Option ℕ → Verdict
first_of (Some p) other = Behind p
first_of None (Some p) = Behind p
first_of None None = Ready

abbrev pub leases : Job → List Lease
leases job = option_to_list job.first ++ option_to_list job.second

-- of a dispatch: an earlier live entry or unserved read that overlaps, or else a job with a block
-- that is needed
abbrev pub verdict : Core → ℕ → Verdict
verdict core place =
    let t : Track = track core.tracks place in
    if is_waiting t.state then
    first_of
    (first_before core place (λ o. (is_live o.state || is_unserved o.state) && meets o.span t.span))
    (holder core (map (λ l. l.block) (leases (next_job core.tags t))))
    else Absent

-- of a serve: an earlier live entry that overlaps, for a sync any, or else a job with a block that
-- is needed
abbrev pub serve_verdict : Core → ℕ → Verdict
serve_verdict core place =
    let t : Track = track core.tracks place in
    first_of
    (first_before core place
    (λ o. is_live o.state && (is_sync_at core.log place || meets o.span t.span)))
    (holder core (blocks_needed t.span))

-- ---- jobs

abbrev pub job_in : State → Option Job
job_in (Out job) = Some job
job_in other = None

abbrev pub job_at : World → ℕ → ℕ → Option Job
job_at world ino place = job_in (track (core_in world ino).tracks place).state

abbrev pub job_leases : Option Job → List Lease
job_leases None = []
job_leases (Some job) = leases job

abbrev pub leases_at : World → ℕ → ℕ → List Lease
leases_at world ino place = job_leases (job_at world ino place)

-- the steps that a job has left: a write of each block, and then a flush of each
abbrev pub left_at : World → ℕ → ℕ → ℕ
left_at world ino place =
    count_by (λ l. not l.written) (leases_at world ino place)
    + count_by (λ l. not l.flushed) (leases_at world ino place)

-- the entry of a place was passed over so often
abbrev pub with_passed : ℕ → ℕ → File → File
with_passed place n f = record f { passed = λ p. if p == place then n else f.passed p }

abbrev pub dispatch : ℕ → ℕ → Way (Unit {0})
dispatch ino place = do
  event ino (events.Dispatch place)
  Changes (λ w. with_file (with_passed place 0 (file_in w ino)) w)

-- what a write left, where it failed
abbrev pub what_is_left : Bool → List ℕ → Option (List ℕ)
what_is_left true bytes = None
what_is_left false bytes = Some bytes

-- the payload bytes of an entry that go to a block: none of a truncate
abbrev pub part_read : List ℕ → List ℕ → Span → ℕ → List Op
part_read devices [] s k = []
part_read devices (byte ∷ bytes) s k =
    payload_read devices (start_in s k - start_of s) (end_in s k - start_in s k)

-- a job reads the payload of its part in the block, and writes that part
abbrev pub write_block : ℕ → ℕ → ℕ → Way (Unit {0})
write_block ino place k = do
  world ← Now
  let f = file_in world ino
  let s = (track f.core.tracks place).span
  let b = unwrap_or (block_of f k) 0
  let from = start_in s k - BLOCK_LEN * k
  let piece = piece_in (payload_at f.core.log place) s k
  steps (part_read (devices_of (held_at f place)) (payload_at f.core.log place) s k)
  whole ← Tries (Block b (put_bytes from piece) ∷ [])
  behind ← Now
  event ino (events.BlockWrite place k
      (what_is_left whole (take (length piece) (drop from (content_at behind.drive b).bytes))))
  unless_fault whole

abbrev pub flush_block : ℕ → ℕ → ℕ → Way (Unit {0})
flush_block ino place k = do
  world ← Now
  kept ← Tries (Block (unwrap_or (block_of (file_in world ino) k) 0) flush ∷ [])
  event ino (events.Flush place k kept)
  unless_fault kept

abbrev pub next_step : ℕ → ℕ → Option Lease → Option Lease → Way (Unit {0})
next_step ino place (Some lease) other = write_block ino place lease.block
next_step ino place None (Some lease) = flush_block ino place lease.block
next_step ino place None None = done

-- the next step of the job, if one is left
abbrev pub apply : ℕ → ℕ → Way (Unit {0})
apply ino place = do
  world ← Now
  next_step ino place (find (λ l. not l.written) (leases_at world ino place))
      (find (λ l. not l.flushed) (leases_at world ino place))

-- the job is given up; its entry waits again
abbrev pub back : ℕ → ℕ → SizeEnd → Way (Unit {0})
back ino place size = do
  world ← Now
  let t = track (core_in world ino).tracks place
  event ino (events.Finish place (ends.Back size t.gate t.applied))

abbrev pub back_unless : Bool → ℕ → ℕ → SizeEnd → Way (Unit {0})
back_unless true ino place size = done
back_unless false ino place size = back ino place size >> end_with Fault

-- the size word gets its value and is persisted
abbrev pub set_size : ℕ → ℕ → ℕ → ℕ → Way (Unit {0})
set_size ino place rec size = do
  written ← Tries (Word (size_word rec) (put 0 size) ∷ [])
  back_unless written ino place sizes.AsBefore
  kept ← Tries (Word (size_word rec) persist ∷ [])
  back_unless kept ino place sizes.Either

-- the size word has this value in every image
abbrev pub is_size_right : Core → ℕ → Bool
is_size_right core size = (core.size == size) && (length core.sizes == 0)

-- where the gate could not be closed, the entry is applied from now on
abbrev pub close_or_apply : Bool → ℕ → ℕ → Way (Unit {0})
close_or_apply true ino place =
    event ino (events.Finish place ends.Retired) >> Changes (come_back ino place)
close_or_apply false ino place =
    event ino (events.Finish place (ends.Back sizes.Set Unsure true)) >> end_with Fault

abbrev pub retire : ℕ → ℕ → Way (Unit {0})
retire ino place = do
  world ← Now
  let core = core_in world ino
  let size = sized core.size (track core.tracks place).span
  when (not (is_size_right core size)) (set_size ino place (file_in world ino).rec size)
  closed ← try_to_close ino place
  close_or_apply closed ino place

-- behind its job's blocks, blocks are mapped that the entry still has to write
abbrev pub has_more : Core → Track → Bool
has_more core t = not t.applied && is_some (next_block core.tags t (done_after t.done t.state))

abbrev pub finish_with : Bool → ℕ → ℕ → Way Bool
finish_with true ino place = event ino (events.Finish place ends.More) >> give true
finish_with false ino place = retire ino place >> give false

-- the value says whether more is to come
abbrev pub finish : ℕ → ℕ → Way Bool
finish ino place = do
  world ← Now
  finish_with (has_more (core_in world ino) (track (core_in world ino).tracks place)) ino place

-- an entry is dispatched, applied step by step, and finished; at a fault of a step it waits again
abbrev pub run_job : ℕ → ℕ → Way Bool
run_job ino place = do
  dispatch ino place
  world ← Now
  Mends (each (replicate (left_at world ino place) place) (apply ino))
      (back ino place sizes.AsBefore)
  finish ino place

-- the gate of a no-op is closed
abbrev pub skip : ℕ → ℕ → Way (Unit {0})
skip ino place = do
  closed ← try_to_close ino place
  unless_fault closed
  event ino (events.Skip place)
  Changes (come_back ino place)

-- ---- blocks are given up

abbrev pub without_block : ℕ → File → File
without_block k f = record f { blocks = filter (λ x. not (x.0 == k)) f.blocks }

abbrev pub give_block : ℕ → ℕ → ℕ → World → World
give_block ino k b world =
    record (with_file (without_block k (file_in world ino)) world) { free = placed b world.free }

abbrev pub trim_at : ℕ → Option ℕ → Way Bool
trim_at ino None = give false
trim_at ino (Some k) = do
  world ← Now
  let b = unwrap_or (block_of (file_in world ino) k) 0
  kept ← Tries (tag_kept b 0)
  event ino (events.Trim k kept)
  unless_fault kept
  Changes (give_block ino k b)
  give true

-- the lowest block that may be given up is; the value says whether there was one
abbrev pub trim : ℕ → Way Bool
trim ino = do
  world ← Now
  trim_at ino (find (may_trim (core_in world ino)) (range_with_len 0 FILE_BLOCKS))

abbrev pub untag : ℕ → ℕ × ℕ → Way (Unit {0})
untag ino x = steps (tag_kept x.1 0) >> Changes (give_block ino x.0 x.1)

-- ascending by file block
abbrev pub blocks_ascending : File → List (ℕ × ℕ)
blocks_ascending f = flat_map (λ k. filter (λ x. x.0 == k) f.blocks) (range_with_len 0 FILE_BLOCKS)

abbrev pub end_core : ℕ → World → World
end_core ino world = with_file (record (file_in world ino) { ended = true }) world

abbrev pub with_size_unsure : ℕ → World → World
with_size_unsure ino world =
    let core : Core = with_size (core_in world ino) sizes.Either 0 in
    with_file (record (file_in world ino) { core = core; ended = true }) world

abbrev pub clear_size : ℕ → ℕ → Way (Unit {0})
clear_size ino rec = do
  steps (Word (size_word rec) (put 0 0) ∷ [])
  Changes (with_size_unsure ino)
  steps (Word (size_word rec) persist ∷ [])

-- A removed file is given up, which ends its core: each block is untagged, ascending, and then the
-- size word is 0.
abbrev pub purge : ℕ → Way (Unit {0})
purge ino = do
  world ← Now
  let f = file_in world ino
  Changes (end_core ino)
  each (blocks_ascending f) (untag ino)
  when (not (is_size_right f.core 0)) (clear_size ino f.rec)
  Changes (λ w. record w { files = filter (λ g. not (g.ino == ino)) w.files })

-- ---- reads

-- the descriptor of a number made the read or sync of a place
abbrev pub with_posted : ℕ → ℕ → Descriptor → Descriptor
with_posted fd place d = if d.fd == fd then record d { posted = place ∷ d.posted } else d

-- a read or sync of a descriptor takes its place, which is the value
abbrev pub admit_read : Descriptor → ℕ → ℕ → Request → Way ℕ
admit_read d c line request = do
  world ← Now
  let ino = d.grant.ino
  let place = length (core_in world ino).log + 1
  event ino (events.AdmitRead
      (record { ino = ino; place = place; caller = c; line = line; request = request }))
  Changes (with_descriptors c (map (with_posted d.fd place)))
  give place

-- each block that has one of the bytes is read; the value is the bytes
abbrev pub serve : ℕ → ℕ → Way (List ℕ)
serve ino place = do
  world ← Now
  let f = file_in world ino
  let s = (track f.core.tracks place).span
  let bytes = map (reads f.core) (positions s)
  steps (flat_map (λ k. map (λ b. Block b get_bytes) (option_to_list (block_of f k)))
      (blocks_needed s))
  event ino (events.Serve place (Some bytes))
  give bytes

abbrev pub drop_read : ℕ → ℕ → Way (Unit {0})
drop_read ino place = event ino (events.Serve place None)
