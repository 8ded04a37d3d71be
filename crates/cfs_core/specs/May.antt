-- When each event may come.
use Rattle.std.specs.Prelude.{ℕ, ◌+◌, ◌-◌, ◌*◌, ◌/◌, ◌==◌, Bool, true, false, not, ◌&&◌, ◌||◌, if◌then◌else◌, Option, Some, None, List, length, take, drop, get_or, slice_get, is_none, is_some, nat_lt, nat_le}
use Rattle.std.specs.List.{list_any, list_all}
use Rattle.cfs_file.specs.declared.entry.Entry.{Entry}
use Rattle.cfs_file.specs.declared.request.Request.{Request}
use Rattle.cfs_file.specs.declared.request.Request.TheVariants as requests
use Rattle.cfs_file.specs.declared.span.Span.{Span}
use Rattle.cfs_file.specs.File.{effect}
use Rattle.cfs_file.specs.Span.{meets, reaches_over, span}
use Rattle.cfs_file.specs.declared.sizes.TheConstants.{BLOCK_LEN, FILE_BLOCKS, LONGEST_FILE, LONGEST_WRITE}
use Rattle.cfs_core.specs.declared.flag.Flag.{Flag}
use Rattle.cfs_core.specs.declared.flag.Flag.TheVariants.{Off, On}
use Rattle.cfs_core.specs.declared.track.Track.{Track}
use Rattle.cfs_core.specs.declared.doubt.Doubt.{Doubt}
use Rattle.cfs_core.specs.declared.stretch.Stretch.{Stretch}
use Rattle.cfs_core.specs.declared.event.Event.{Event}
use Rattle.cfs_core.specs.declared.event.Event.TheVariants as events
use Rattle.cfs_core.specs.declared.event.End.{End}
use Rattle.cfs_core.specs.declared.event.End.TheVariants as ends
use Rattle.cfs_core.specs.declared.event.SizeEnd.{SizeEnd}
use Rattle.cfs_core.specs.declared.event.SizeEnd.TheVariants as sizes
use Rattle.cfs_core.specs.declared.inode_core.Core.{Core}
use Rattle.cfs_core.specs.Words.{blocks_needed, block_span, end_in, end_of, has_block, is_lent, is_live, is_noop, is_off, is_on, is_out, is_through, is_unserved, is_waiting, payload_at, positions, sized, start_in, start_of, track}
use Rattle.cfs_core.specs.Jobs.{is_taken, next_job}
use Rattle.cfs_core.specs.Medium.{file, is_image, reads, stands}

-- the stretch lies in the block
abbrev pub in_block : ℕ → Stretch → Bool
in_block block stretch = stretch.from / BLOCK_LEN == block

-- the block was written since its last flush
abbrev pub is_written : List Stretch → ℕ → Bool
is_written loose block = list_any (λ s. in_block block s) loose

-- Nothing was written in the block since its last flush, and every byte of it is 0.
abbrev pub is_zero_block : Core → ℕ → Bool
is_zero_block core block =
    not (is_written core.loose block)
    && list_all (λ b. b == 0) (take BLOCK_LEN (drop (BLOCK_LEN * block) core.bytes))

-- The block is one of the file's, zero in every image, and not tagged in every image.
abbrev pub may_tag : Core → ℕ → Bool
may_tag core block =
    nat_lt block FILE_BLOCKS
    && (nat_lt block (length core.tags)
    && (not (is_on (get_or core.tags block Off)) && is_zero_block core block))

-- a write or append of 1 to 65,536 bytes, or a truncate
abbrev pub is_change : Request → Bool
is_change (requests.Write offset bytes) =
    nat_le 1 (length bytes) && nat_le (length bytes) LONGEST_WRITE
is_change (requests.Append bytes) =
    nat_le 1 (length bytes) && nat_le (length bytes) LONGEST_WRITE
is_change (requests.Truncate n) = true
is_change (requests.Read offset count) = false
is_change requests.Sync = false

-- the file that the request makes is short enough
abbrev pub fits : List ℕ → Request → Bool
fits file request = nat_le (length (effect file request)) LONGEST_FILE

-- each block of the write is tagged in every image
abbrev pub is_mapped : List Flag → Span → Bool
is_mapped tags span = list_all (λ k. is_on (get_or tags k Off)) (blocks_needed span)

-- the span of a request on the file after the log
abbrev pub span_now : Core → Request → Span
span_now core request = span request (length (file core))

-- the entry has the next place
abbrev pub is_next : Core → Entry → Bool
is_next core entry = entry.place == length core.log + 1

-- Nothing is in doubt, the place is the next, and the request is a change whose file fits and whose
-- blocks are mapped.
abbrev pub may_admit : Core → Entry → Bool
may_admit core entry =
    is_none core.doubt
    && (is_next core entry
    && (is_change entry.request
    && (fits (file core) entry.request && is_mapped core.tags (span_now core entry.request))))

abbrev pub is_query : Request → Bool
is_query (requests.Read offset count) = true
is_query requests.Sync = true
is_query _ = false

abbrev pub is_sync_request : Request → Bool
is_sync_request requests.Sync = true
is_sync_request _ = false

abbrev pub is_sync : Option Entry → Bool
is_sync None = false
is_sync (Some entry) = is_sync_request entry.request

-- the entry of a place, from 1, is a sync
abbrev pub is_sync_at : List Entry → ℕ → Bool
is_sync_at log place = if place == 0 then false else is_sync (slice_get log (place - 1))

-- The place is the next, and the request is a read or a sync.
abbrev pub may_admit_read : Core → Entry → Bool
may_admit_read core entry = is_next core entry && is_query entry.request

-- a live entry overlaps the span
abbrev pub has_live_in : List Track → Span → Bool
has_live_in tracks span = list_any (λ t. is_live t.state && meets t.span span) tracks

-- an unserved read overlaps the span
abbrev pub has_read_in : List Track → Span → Bool
has_read_in tracks span = list_any (λ t. is_unserved t.state && meets t.span span) tracks

-- an earlier live entry overlaps the span
abbrev pub meets_live : List Track → ℕ → Span → Bool
meets_live tracks place span = has_live_in (take (place - 1) tracks) span

-- an earlier unserved read overlaps the span
abbrev pub meets_read : List Track → ℕ → Span → Bool
meets_read tracks place span = has_read_in (take (place - 1) tracks) span

-- an earlier entry is live
abbrev pub has_live : List Track → ℕ → Bool
has_live tracks place = list_any (λ t. is_live t.state) (take (place - 1) tracks)

-- an unserved read between the two places overlaps the span
abbrev pub needed_between : List Track → ℕ → ℕ → Span → Bool
needed_between tracks place by span = has_read_in (drop place (take (by - 1) tracks)) span

abbrev pub read_alike : Core → Span → List ℕ → Bool
read_alike core span bytes =
    list_all (λ p. get_or bytes (p - start_of span) 0 == reads core p) (positions span)

-- the bytes are the stored ones at the span's positions, 0 past the stored size
abbrev pub are_stored : Core → Span → List ℕ → Bool
are_stored core span bytes =
    (length bytes == end_of span - start_of span) && read_alike core span bytes

-- an earlier live entry overlaps; for a sync, one stands
abbrev pub must_wait : Core → ℕ → Bool
must_wait core place =
    if is_sync_at core.log place then has_live core.tracks place
    else meets_live core.tracks place (track core.tracks place).span

-- Unserved; where bytes are given, it need not wait for an earlier entry, no needed block is out,
-- and they are the stored ones.
abbrev pub may_serve : Core → ℕ → Option (List ℕ) → Bool
may_serve core place None = is_unserved (track core.tracks place).state
may_serve core place (Some bytes) =
    is_unserved (track core.tracks place).state
    && (not (must_wait core place)
    && (not (list_any (λ k. is_lent core.tracks k) (blocks_needed (track core.tracks place).span))
    && are_stored core (track core.tracks place).span bytes))

-- The place is waiting; `by` is later, live and covers it; no unserved read between them overlaps
-- it.
abbrev pub may_mark : Core → ℕ → ℕ → Bool
may_mark core place by =
    is_waiting (track core.tracks place).state
    && (nat_lt place by
    && (is_live (track core.tracks by).state
    && (reaches_over (track core.tracks by).span (track core.tracks place).span
    && not (needed_between core.tracks place by (track core.tracks place).span))))

-- Waiting; no earlier live entry and no earlier unserved read overlaps; no needed block is out.
abbrev pub may_dispatch : Core → ℕ → Bool
may_dispatch core place =
    is_waiting (track core.tracks place).state
    && (not (meets_live core.tracks place (track core.tracks place).span)
    && (not (meets_read core.tracks place (track core.tracks place).span)
    && (not (is_taken core.tracks (next_job core.tags (track core.tracks place)).first)
    && not (is_taken core.tracks (next_job core.tags (track core.tracks place)).second))))

-- Out, and the block is one of the file's that the job has.
abbrev pub may_flush : Core → ℕ → ℕ → Bool
may_flush core place block =
    nat_lt block FILE_BLOCKS && has_block (track core.tracks place).state block

-- The same; what a failed write left has a byte for each position of the entry in the block.
abbrev pub may_write : Core → ℕ → ℕ → Option (List ℕ) → Bool
may_write core place block None = may_flush core place block
may_write core place block (Some left) =
    may_flush core place block
    && (length left == end_in (track core.tracks place).span block - start_in
    (track core.tracks place).span block)

-- the entry's bytes stand in every image
abbrev pub stands_at : Core → ℕ → Bool
stands_at core place = stands core (payload_at core.log place) (track core.tracks place).span

-- the entry leaves the size as it is
abbrev pub keeps_size : Span → ℕ → Bool
keeps_size span size = size == sized size span

abbrev pub keep_all : Span → List ℕ → Bool
keep_all span sizes = list_all (λ s. keeps_size span s) sizes

-- The size word is set for the entry in every image.
abbrev pub is_size_set : Core → Span → SizeEnd → Bool
is_size_set core span sizes.AsBefore = keeps_size span core.size && keep_all span core.sizes
is_size_set core span sizes.Set = true
is_size_set core span sizes.Either = keeps_size span core.size && keep_all span core.sizes

-- a gate is open in every image only where it was so before
abbrev pub keeps_gate : Flag → Flag → Bool
keeps_gate was On = is_on was
keeps_gate was _ = true

-- Retired: its blocks were written and flushed, and its bytes stand in every image.
-- More: its blocks were written and flushed.
-- Back: no gate is opened. An entry that ends applied has its bytes in every image; it was applied
-- before, or the size word is set for it in every image. One that ends otherwise was not applied,
-- and its gate is open in every image.
abbrev pub ends_well : Core → ℕ → End → Bool
ends_well core place ends.Retired =
    is_through (track core.tracks place).state && stands_at core place
ends_well core place ends.More = is_through (track core.tracks place).state
ends_well core place (ends.Back size gate true) =
    keeps_gate (track core.tracks place).gate gate
    && (stands_at core place
    && ((track core.tracks place).applied || is_size_set core (track core.tracks place).span size))
ends_well core place (ends.Back size gate false) =
    keeps_gate (track core.tracks place).gate gate
    && (not (track core.tracks place).applied && is_on gate)

abbrev pub may_finish : Core → ℕ → End → Bool
may_finish core place end = is_out (track core.tracks place).state && ends_well core place end

-- It is a no-op.
abbrev pub may_skip : Core → ℕ → Bool
may_skip core place = is_noop (track core.tracks place).state

abbrev pub doubt_meets : Option Doubt → Span → Bool
doubt_meets None span = false
doubt_meets (Some doubt) span = meets doubt.span span

-- The block is mapped or its tag is unsure, begins at or past the stored size, is not out, and no
-- live entry and no request in doubt has a position of it.
abbrev pub may_trim : Core → ℕ → Bool
may_trim core block =
    nat_lt block FILE_BLOCKS
    && (not (is_off (get_or core.tags block Off))
    && (nat_le core.size (BLOCK_LEN * block)
    && (not (is_lent core.tracks block)
    && (not (has_live_in core.tracks (block_span block))
    && not (doubt_meets core.doubt (block_span block))))))

-- the event may come where no crash came, or no mount since the crash
abbrev pub case : Core → Event → Bool
case core (events.Tag block kept) = may_tag core block
case core (events.Admit entry grant kept) = may_admit core entry
case core (events.AdmitRead entry) = may_admit_read core entry
case core (events.Serve place answer) = may_serve core place answer
case core (events.Mark place by kept) = may_mark core place by
case core (events.Dispatch place) = may_dispatch core place
case core (events.BlockWrite place block left) = may_write core place block left
case core (events.Flush place block ok) = may_flush core place block
case core (events.Finish place end) = may_finish core place end
case core (events.Skip place) = may_skip core place
case core (events.Trim block kept) = may_trim core block
case core events.Settle = is_some core.doubt
case core (events.Crash image) = is_image core image
case core events.Mount = true

-- After a crash nothing comes but a crash or a mount, and a mount comes only there.
abbrev pub is_in_phase : Bool → Event → Bool
is_in_phase crashed (events.Crash image) = true
is_in_phase crashed events.Mount = crashed
is_in_phase crashed _ = not crashed

-- the event may come
abbrev pub may : Core → Event → Bool
may core event = is_in_phase core.crashed event && case core event
