-- Reads and syncs are admitted, served and dropped.
use Rattle.std.specs.Prelude.{ℕ, ◌+◌, Bool, true, false, ◌&&◌, ◌||◌, not, Option, Some, None, List, [], ◌∷◌, ◌++◌, filter, find, nat_lt, nat_le, option_map}
use Rattle.std.specs.Option.{option_or}
use Rattle.cfs_file.specs.declared.request.Request.{Request}
use Rattle.cfs_file.specs.declared.span.Span.{Span}
use Rattle.cfs_file.specs.Span.{meets, span}
use Rattle.cfs_core.specs.Words.{end_needed, first_needed}
use Rattle.cfs_core.specs.May.{is_sync_request}
use Rattle.cfs_tracker.specs.declared.doing.Doing.{Doing}
use Rattle.cfs_tracker.specs.declared.doing.Doing.TheVariants.{Waiting, Marking, Out, Covered, Closing}
use Rattle.cfs_tracker.specs.declared.pending.Pending.{Pending}
use Rattle.cfs_tracker.specs.declared.reading.Reading.{Reading}
use Rattle.cfs_tracker.specs.View.{TrackerView, is_read_at}

abbrev pub without_read : ℕ → List Reading → List Reading
without_read place reads = filter (λ r. not (is_read_at place r)) reads

-- a read or a sync takes the next place
abbrev pub reading : {S D B : Type 0} → Request → TrackerView S D B → Reading
reading request view = record {
  place = view.count + 1;
  span = span request view.long;
  is_sync = is_sync_request request;
}

abbrev pub read_admitted : {S D B : Type 0} → Request → TrackerView S D B → TrackerView S D B
read_admitted request view =
    record view { count = view.count + 1; reads = view.reads ++ reading request view ∷ [] }

-- one is answered or dropped
abbrev pub read_ended : {S D B : Type 0} → ℕ → TrackerView S D B → TrackerView S D B
read_ended place view = record view { reads = without_read place view.reads }

-- ---- what a read waits for

-- waiting or out
abbrev pub is_live_doing : {S : Type 0} → Doing S → Bool
is_live_doing (Waiting slots) = true
is_live_doing Marking = true
is_live_doing (Out first second) = true
is_live_doing (Covered slots) = false
is_live_doing Closing = false

-- an earlier live entry that the read waits for: one that overlaps, and for a sync any
abbrev pub is_before : {S : Type 0} → Reading → Pending S → Bool
is_before read entry =
    nat_lt entry.place read.place
    && (is_live_doing entry.doing && (read.is_sync || meets entry.span read.span))

-- the block is one that a read of this span needs
abbrev pub is_needed : Span → Option ℕ → Bool
is_needed span None = false
is_needed span (Some block) = nat_le (first_needed span) block && nat_lt block (end_needed span)

abbrev pub has_needed : {S : Type 0} → Span → Doing S → Bool
has_needed span (Out first second) = is_needed span first || is_needed span second
has_needed span _ = false

abbrev pub place_of : {S : Type 0} → Option (Pending S) → Option ℕ
place_of entry = option_map (λ e. e.place) entry

-- The first earlier live entry that the read waits for, else the first entry whose job has a block
-- that it needs.
abbrev pub blocker_of_read : {S : Type 0} → List (Pending S) → Reading → Option ℕ
blocker_of_read entries read =
    option_or (place_of (find (is_before read) entries))
    (place_of (find (λ e. has_needed read.span e.doing) entries))

abbrev pub blocker_of : {S : Type 0} → List (Pending S) → Option Reading → Option ℕ
blocker_of entries None = None
blocker_of entries (Some read) = blocker_of_read entries read
