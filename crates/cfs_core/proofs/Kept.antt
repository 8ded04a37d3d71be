-- The invariant of a run: what the log, the tracks and the medium have to do with each other.
-- Entries are named by their index, from 0.
use Rattle.std.proofs.Common.{◌≡◌, ◌⊎◌, ℕ, ◌+◌, ◌*◌, ◌/◌, ◌<◌, ◌≤◌, Bool, true, false, Option, Some, None, List, [], length, take, get_or, nat_le, nat_lt, if◌then◌else◌}
use Rattle.std.specs.List.{list_all, slice_get}
use Rattle.cfs_file.specs.declared.entry.Entry.{Entry}
use Rattle.cfs_file.specs.declared.span.Span.{Span}
use Rattle.cfs_file.specs.declared.span.Span.TheVariants.{Nothing, Range, From}
use Rattle.cfs_file.specs.File.{IsFile, effect}
use Rattle.cfs_file.specs.Log.{IsLegal, file_of}
use Rattle.cfs_file.specs.Span.{Holds, meets, reaches_over, span}
use Rattle.cfs_file.specs.declared.sizes.TheConstants.{BLOCK_LEN, FILE_BLOCKS}
use Rattle.cfs_core.specs.declared.track.Track.{Track}
use Rattle.cfs_core.specs.declared.doubt.Doubt.{Doubt}
use Rattle.cfs_core.specs.declared.stretch.Stretch.{Stretch}
use Rattle.cfs_core.specs.declared.inode_core.Core.{Core}
use Rattle.cfs_core.specs.Words.{blank, byte_at, has_block, is_live, is_off, is_unserved, payload, sized}
use Rattle.cfs_core.specs.Medium.{file, is_size, rests}
use Rattle.cfs_core.specs.May.{is_change, is_mapped, is_query}
use Rattle.cfs_core.proofs.Alive.{AreSound}
use Rattle.cfs_core.proofs.Apart.{AreApart, is_busy}
use Rattle.cfs_core.proofs.Order.{IsOrdered}

abbrev pub at : Core → ℕ → Track
at core k = get_or core.tracks k blank

abbrev pub IsLive : Core → ℕ → Type 0
IsLive core k = is_live (at core k).state ≡ true

abbrev pub IsUnserved : Core → ℕ → Type 0
IsUnserved core k = is_unserved (at core k).state ≡ true

abbrev pub is_changing : Option Entry → Bool
is_changing None = false
is_changing (Some entry) = is_change entry.request

abbrev pub is_asking : Option Entry → Bool
is_asking None = false
is_asking (Some entry) = is_query entry.request

-- the entry is a write, an append or a truncate
abbrev pub IsChange : Core → ℕ → Type 0
IsChange core k = is_changing (slice_get core.log k) ≡ true

-- the entry changes the byte at the position
abbrev pub Alters : Core → ℕ → ℕ → Type 0
Alters core k p = IsChange core k × Holds (at core k).span p

-- the byte that the entry leaves at a position of its span
abbrev pub byte_of : Core → ℕ → ℕ → ℕ
byte_of core k p = byte_at (payload (slice_get core.log k)) (at core k).span p

-- the file after the entries before an index
abbrev pub file_at : Core → ℕ → List ℕ
file_at core k = file_of core.base (take k core.log)

-- From where a position of the file is looked at: from the end of the log, or from an unserved read
-- that asks for it.
abbrev pub IsView : Core → ℕ → ℕ → Type 0
IsView core v p = (v ≡ length core.log) ⊎ (IsUnserved core v × Holds (at core v).span p)

-- no live entry before the view has the position
abbrev pub IsFree : Core → ℕ → ℕ → Type 0
IsFree core v p = (i : ℕ) → i < v → IsLive core i → Alters core i p → ⊥

-- the last entry before the view that has the position
abbrev pub IsLast : Core → ℕ → ℕ → ℕ → Type 0
IsLast core v p m = (m < v) × Alters core m p × ((j : ℕ) → m < j → j < v → Alters core j p → ⊥)

-- whether an entry of that span decides that the file has the position, and how
abbrev pub decides : ℕ → Span → Option Bool
decides p Nothing = None
decides p (Range from to) = if nat_lt p to then Some true else None
decides p (From from) = Some (nat_lt p from)

-- the request in doubt, on the file after the log
pub record IsDoubtful (core : Core) (doubt : Doubt) : Type 0 where
  pub change : is_change doubt.entry.request ≡ true
  pub span_is : doubt.span ≡ span doubt.entry.request (length (file core))
  pub mapped : is_mapped core.tags doubt.span ≡ true
  pub fits : IsFile (effect (file core) doubt.entry.request)

-- ---- the log's part

pub record IsLogged (core : Core) : Type 0 where
  pub kinds : (k : ℕ) (entry : Entry) → slice_get core.log k ≡ Some entry →
      (is_change entry.request ≡ true) ⊎ (is_query entry.request ≡ true)
  pub spans : (k : ℕ) (entry : Entry) → slice_get core.log k ≡ Some entry →
      (at core k).span ≡ span entry.request (length (file_at core k))
  -- what is live, out or applied is a change, and what is unserved is a read or a sync
  pub live_changes : (k : ℕ) → IsLive core k → IsChange core k
  pub busy_changes : (k : ℕ) → is_busy (at core k) ≡ true → IsChange core k
  pub queries : (k : ℕ) → IsUnserved core k → is_asking (slice_get core.log k) ≡ true
  -- the job of an applied entry has no block
  pub idle : (k block : ℕ) → (at core k).applied ≡ true → has_block (at core k).state block ≡ false
  -- the blocks of a live write are tagged in every image
  pub mapped : (k : ℕ) → IsLive core k → is_mapped core.tags (at core k).span ≡ true
  -- where a mark may be set, a later change has the positions
  pub covered : (k : ℕ) → is_off (at core k).mark ≡ false →
      (by : ℕ) × ((k < by)
      × (IsChange core by × (reaches_over (at core by).span (at core k).span ≡ true)))
  -- where a live entry before a view has the position, the last one that has it is live
  pub order : (v i p : ℕ) → IsView core v p → i < v → IsLive core i → Alters core i p →
      (m : ℕ) × (IsLive core m × IsLast core v p m)
  -- what is out or applied overlaps no unserved read before it
  pub clear : (v k : ℕ) → v < k → IsUnserved core v → is_busy (at core k) ≡ true →
      meets (at core v).span (at core k).span ≡ false
  pub doubtful : (doubt : Doubt) → core.doubt ≡ Some doubt → IsDoubtful core doubt

-- ---- the medium's part

-- the stretch ends with the block that it begins in
abbrev pub is_short : Stretch → Bool
is_short s = nat_le s.to (BLOCK_LEN * (s.from / BLOCK_LEN) + BLOCK_LEN)

pub record IsStored (core : Core) : Type 0 where
  pub short : list_all is_short core.loose ≡ true
  -- where no live entry before a view has the position, its byte is stored in every image
  pub rests_free : (v p : ℕ) → IsView core v p → IsFree core v p →
      rests core p (get_or (file_at core v) p 0) ≡ true
  -- and it is 0 past each size that the size word may have
  pub zero_past : (v s p : ℕ) → IsView core v p → is_size core s ≡ true → s ≤ p → IsFree core v p →
      get_or (file_at core v) p 0 ≡ 0
  -- where no live entry decides it, each size has the positions of the file after the log
  pub long : (s p : ℕ) → is_size core s ≡ true →
      ((i : ℕ) → IsLive core i → decides p (at core i).span ≡ None) →
      nat_lt p s ≡ nat_lt p (length (file core))
  -- the bytes of an applied entry are stored, and each size is one that it leaves as it is
  pub applied_rests : (k p : ℕ) → IsLive core k → (at core k).applied ≡ true → Alters core k p →
      rests core p (byte_of core k p) ≡ true
  pub applied_size : (k s : ℕ) → IsLive core k → (at core k).applied ≡ true →
      is_size core s ≡ true → sized s (at core k).span ≡ s

-- ---- the whole

pub record IsKept (core : Core) : Type 0 where
  pub legal : IsLegal core.base core.log []
  pub blocks : length core.tags ≡ FILE_BLOCKS
  pub ordered : IsOrdered core
  pub sound : AreSound core
  pub apart : AreApart core
  pub logged : IsLogged core
  pub stored_ : IsStored core
