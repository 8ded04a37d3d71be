-- The marks that an admitted entry may set.
use Rattle.std.specs.Prelude.{ℕ, ◌-◌, Bool, List, map, filter}
use Rattle.std.specs.List.{range_with_len}
use Rattle.cfs_core.specs.declared.event.Event.{Event}
use Rattle.cfs_core.specs.declared.event.Event.TheVariants as events
use Rattle.cfs_core.specs.declared.inode_core.Core.{Core}
use Rattle.cfs_core.specs.May.{may_mark}

-- The places of the waiting entries that the entry of a place covers, with no unserved read between
-- that overlaps; ascending.
abbrev pub marks_to_try : Core → ℕ → List ℕ
marks_to_try core by = filter (λ place. may_mark core place by) (range_with_len 1 (by - 1))

-- their marks, one after another, of which those that are so chosen are kept
abbrev pub marks_by : ℕ → (ℕ → Bool) → List ℕ → List Event
marks_by by kept places = map (λ place. events.Mark place by (kept place)) places
