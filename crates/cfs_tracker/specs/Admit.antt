-- A change takes a place, or is in doubt.
use Rattle.std.specs.Prelude.{◌≡◌, ℕ, ◌+◌, ◌≤◌, Bool, true, false, not, Option, Some, None, List}
use Rattle.std.specs.Prelude.{[], ◌∷◌, ◌++◌, length, max, filter, find}
use Rattle.cfs_file.specs.declared.request.Request.{Request}
use Rattle.cfs_file.specs.declared.request.Request.TheVariants as requests
use Rattle.cfs_file.specs.declared.sizes.TheConstants.{LONGEST_FILE}
use Rattle.cfs_file.specs.declared.span.Span.{Span}
use Rattle.cfs_file.specs.Span.{span}
use Rattle.cfs_core.specs.Words.{blocks_needed}
use Rattle.cfs_core.specs.May.{is_change}
use Rattle.cfs_tracker.specs.declared.cell.Cell.{Cell}
use Rattle.cfs_tracker.specs.declared.cell.Cell.TheVariants.{Hole, Home, Unsure, Lent, Moving}
use Rattle.cfs_tracker.specs.declared.doing.Doing.TheVariants.{Waiting}
use Rattle.cfs_tracker.specs.declared.pending.Pending.{Pending}
use Rattle.cfs_tracker.specs.Cells.{cell_at, is_bare}
use Rattle.cfs_tracker.specs.View.{TrackerView}

-- the length of the file after a request, where it had that length
abbrev pub long_after : ℕ → Request → ℕ
long_after long (requests.Write offset bytes) = max long (offset + length bytes)
long_after long (requests.Append bytes) = max long (long + length bytes)
long_after long (requests.Truncate n) = n
long_after long (requests.Read offset count) = long
long_after long requests.Sync = long

-- a block of the medium is tagged in every image, and may be out
abbrev pub is_mapped : {B : Type 0} → Cell B → Bool
is_mapped Hole = false
is_mapped (Home block) = true
is_mapped (Unsure block) = false
is_mapped (Lent place) = true
is_mapped (Moving is_sure) = is_sure

-- the first block of the file that a write of the span needs and that is not tagged in every image
abbrev pub first_unmapped : {B : Type 0} → List (Cell B) → Span → Option ℕ
first_unmapped cells span = find (λ k. not (is_mapped (cell_at cells k))) (blocks_needed span)

-- so many blocks of the file that such a write needs have no block of the medium
abbrev pub bare_needed : {B : Type 0} → List (Cell B) → Span → ℕ
bare_needed cells span = length (filter (λ k. is_bare (cell_at cells k)) (blocks_needed span))

-- Nothing is in doubt, and the request is a change whose file is short enough and whose blocks are
-- mapped.
pub record MayAdmit {S D B : Type 0} (view : TrackerView S D B) (request : Request) : Type 0 where
  pub settled : view.doubt ≡ None
  pub change : is_change request ≡ true
  pub fits : long_after view.long request ≤ LONGEST_FILE
  pub mapped : first_unmapped view.cells (span request view.long) ≡ None

abbrev pub pending : {S D B : Type 0} → Request → ℕ → S → TrackerView S D B → Pending S
pending request grant slots view = record {
  place = view.count + 1;
  grant = grant;
  span = span request view.long;
  applied = false;
  done = None;
  doing = Waiting slots;
  passed = 0;
}

-- it is admitted
abbrev pub admitted : {S D B : Type 0} → Request → ℕ → S → TrackerView S D B → TrackerView S D B
admitted request grant slots view = record view {
  count = view.count + 1;
  long = long_after view.long request;
  entries = view.entries ++ pending request grant slots view ∷ [];
}

-- its gate failed
abbrev pub doubted : {S D B : Type 0} → Request → ℕ → D → TrackerView S D B → TrackerView S D B
doubted request grant slots view = record view {
  doubt = Some (record {
    place = view.count + 1;
    grant = grant;
    span = span request view.long;
    slots = Some slots;
  });
}
