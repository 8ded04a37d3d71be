-- A range of places, as the least that holds all that were added to it, and the two copies that may
-- differ in it alone.
use Rattle.std.specs.Prelude.{ℕ, ◌≤◌, ◌≡◌, List, length, take, drop, min, max, nat_lt, if◌then◌else◌}
use Rattle.cfs_pmem.specs.declared.dirty.Dirty.{Dirty}
use Rattle.cfs_pmem.specs.declared.run.Run.{Run}

abbrev pub with_range : ℕ → ℕ → Dirty → Dirty
with_range from to dirty = record { from = min dirty.from from; to = max dirty.to to }

-- the range of a run and of what came before
abbrev pub range_of : Run → Dirty
range_of run = if nat_lt run.from run.to then with_range run.from run.to run.before else run.before

-- Below the range and from its end on, what is durable is what is present.
pub record DifferWithin {X : Type 0} (dirty : Dirty) (durable present : List X) : Type 0 where
  pub size : length durable ≡ length present
  pub from_in : dirty.from ≤ length present
  pub to_in : dirty.to ≤ length present
  pub below : take dirty.from durable ≡ take dirty.from present
  pub above : drop dirty.to durable ≡ drop dirty.to present
