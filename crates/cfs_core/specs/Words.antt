-- Words on the state of logged requests and on the positions of their spans.
use Rattle.std.specs.Prelude.{ℕ, ◌+◌, ◌-◌, ◌*◌, ◌/◌, ◌==◌, Bool, true, false, ◌&&◌, ◌||◌, if◌then◌else◌, Option, Some, None, List, [], min, max, take, drop, replicate, get_or, slice_get}
use Rattle.std.specs.List.{list_any, range_with_len}
use Rattle.cfs_file.specs.declared.entry.Entry.{Entry}
use Rattle.cfs_file.specs.declared.request.Request.{Request}
use Rattle.cfs_file.specs.declared.request.Request.TheVariants as requests
use Rattle.cfs_file.specs.declared.span.Span.{Span}
use Rattle.cfs_file.specs.declared.span.Span.TheVariants.{Nothing, Range, From}
use Rattle.cfs_file.specs.declared.sizes.TheConstants.{LONGEST_FILE}
use Rattle.cfs_file.specs.declared.sizes.TheConstants.{BLOCK_LEN}
use Rattle.cfs_core.specs.declared.flag.Flag.{Flag}
use Rattle.cfs_core.specs.declared.flag.Flag.TheVariants.{Off, On, Unsure}
use Rattle.cfs_core.specs.declared.state.Lease.{Lease}
use Rattle.cfs_core.specs.declared.state.State.{State}
use Rattle.cfs_core.specs.declared.state.State.TheVariants.{Waiting, Out, Noop, Unserved, Closed}
use Rattle.cfs_core.specs.declared.track.Track.{Track}

-- waiting or out
abbrev pub is_live : State → Bool
is_live Waiting = true
is_live (Out job) = true
is_live _ = false

abbrev pub is_waiting : State → Bool
is_waiting Waiting = true
is_waiting _ = false

abbrev pub is_out : State → Bool
is_out (Out job) = true
is_out _ = false

abbrev pub is_noop : State → Bool
is_noop Noop = true
is_noop _ = false

abbrev pub is_unserved : State → Bool
is_unserved Unserved = true
is_unserved _ = false

-- 1 in every image
abbrev pub is_on : Flag → Bool
is_on On = true
is_on _ = false

-- 0 in every image
abbrev pub is_off : Flag → Bool
is_off Off = true
is_off _ = false

-- an image may have that value
abbrev pub can_be : Flag → Bool → Bool
can_be Off true = false
can_be Off false = true
can_be On bit = bit
can_be Unsure bit = true

abbrev pub flag_of : Bool → Flag
flag_of true = On
flag_of false = Off

-- what stands where no request was logged
abbrev pub blank : Track
blank = record {
  grant = 0;
  span = Nothing;
  state = Closed;
  applied = false;
  done = None;
  gate = Off;
  mark = Off;
}

-- the track of a place, from 1
abbrev pub track : List Track → ℕ → Track
track tracks place = if place == 0 then blank else get_or tracks (place - 1) blank

-- ---- the job of an entry

abbrev pub is_lease : Option Lease → ℕ → Bool
is_lease None block = false
is_lease (Some lease) block = lease.block == block

-- the entry is out, and its job has the block
abbrev pub has_block : State → ℕ → Bool
has_block (Out job) block = is_lease job.first block || is_lease job.second block
has_block _ block = false

-- some job has the block
abbrev pub is_lent : List Track → ℕ → Bool
is_lent tracks block = list_any (λ t. has_block t.state block) tracks

-- written, and then flushed
abbrev pub is_done : Option Lease → Bool
is_done None = true
is_done (Some lease) = lease.written && lease.flushed

-- the entry is out, and each block of its job was written and then flushed
abbrev pub is_through : State → Bool
is_through (Out job) = is_done job.first && is_done job.second
is_through _ = false

-- ---- positions

-- the bytes of a write or an append
abbrev pub payload_of : Request → List ℕ
payload_of (requests.Write offset bytes) = bytes
payload_of (requests.Append bytes) = bytes
payload_of _ = []

abbrev pub payload : Option Entry → List ℕ
payload None = []
payload (Some entry) = payload_of entry.request

-- the bytes of the entry at a place, from 1
abbrev pub payload_at : List Entry → ℕ → List ℕ
payload_at log place = if place == 0 then [] else payload (slice_get log (place - 1))

-- where a span begins, and the first position behind it; a truncate reaches to the end of the
-- longest file
abbrev pub start_of : Span → ℕ
start_of Nothing = 0
start_of (Range from to) = from
start_of (From from) = from

abbrev pub end_of : Span → ℕ
end_of Nothing = 0
end_of (Range from to) = to
end_of (From from) = LONGEST_FILE

-- the positions of a span that a file may have
abbrev pub positions : Span → List ℕ
positions span = range_with_len (start_of span) (end_of span - start_of span)

-- the blocks that a write or a read needs; a truncate takes those that are there
abbrev pub first_needed : Span → ℕ
first_needed Nothing = 0
first_needed (Range from to) = from / BLOCK_LEN
first_needed (From from) = 0

abbrev pub end_needed : Span → ℕ
end_needed Nothing = 0
end_needed (Range from to) = (to - 1) / BLOCK_LEN + 1
end_needed (From from) = 0

abbrev pub blocks_needed : Span → List ℕ
blocks_needed span = range_with_len (first_needed span) (end_needed span - first_needed span)

-- the positions of a block
abbrev pub block_span : ℕ → Span
block_span block = Range (BLOCK_LEN * block) (BLOCK_LEN * block + BLOCK_LEN)

-- the part of a span in a block: where it begins, and where it ends
abbrev pub start_in : Span → ℕ → ℕ
start_in Nothing block = BLOCK_LEN * block
start_in (Range from to) block = max from (BLOCK_LEN * block)
start_in (From from) block = max from (BLOCK_LEN * block)

abbrev pub end_in : Span → ℕ → ℕ
end_in Nothing block = BLOCK_LEN * block
end_in (Range from to) block = min to (BLOCK_LEN * block + BLOCK_LEN)
end_in (From from) block = BLOCK_LEN * block + BLOCK_LEN

-- the byte that an entry leaves at a position of its span: 0 for a truncate
abbrev pub byte_at : List ℕ → Span → ℕ → ℕ
byte_at bytes Nothing position = 0
byte_at bytes (Range from to) position = get_or bytes (position - from) 0
byte_at bytes (From from) position = 0

-- the bytes that an entry leaves in a block
abbrev pub piece_in : List ℕ → Span → ℕ → List ℕ
piece_in bytes Nothing block = []
piece_in bytes (Range from to) block =
    take (min to (BLOCK_LEN * block + BLOCK_LEN) - max from (BLOCK_LEN * block))
    (drop (max from (BLOCK_LEN * block) - from) bytes)
piece_in bytes (From from) block =
    replicate (BLOCK_LEN * block + BLOCK_LEN - max from (BLOCK_LEN * block)) 0

-- the size of the file after an entry, by its span
abbrev pub sized : ℕ → Span → ℕ
sized size Nothing = size
sized size (Range from to) = max size to
sized size (From from) = from
