-- The size word is set for a request that a job did.
use Rattle.std.specs.Prelude.{ℕ, ◌+◌, ◌≤◌, ◌<◌, ◌≡◌, ◌⊎◌, Bool, true, List, length, OnOk, OnErr}
use Rattle.cfs_core.specs.declared.event.End.{End}
use Rattle.cfs_core.specs.declared.event.End.TheVariants as ends
use Rattle.cfs_core.specs.declared.event.Event.TheVariants as events
use Rattle.cfs_core.specs.declared.event.SizeEnd.{SizeEnd}
use Rattle.cfs_core.specs.declared.event.SizeEnd.TheVariants as sizes
use Rattle.cfs_core.specs.declared.flag.Flag.{Flag}
use Rattle.cfs_core.specs.declared.inode_core.Core.{Core}
use Rattle.cfs_core.specs.After.{after}
use Rattle.cfs_core.specs.Good.{IsGood}
use Rattle.cfs_core.specs.May.{may}
use Rattle.cfs_core.specs.Words.{sized, track}
use Rattle.cfs_pmem.specs.declared.trace.Asked.{Asked}
use Rattle.cfs_pmem.specs.Images.{Seen, WordStep, words_of}
use Rattle.cfs_pmem.specs.WordOps.{SetsWord}
use Rattle.cfs_medium.specs.Shows.{Recovers, Shows}
use Rattle.cfs_medium.specs.SlotEvents.{Answer, sized_end}
use Rattle.cfs_medium.specs.World.{World}
use Rattle.cfs_medium.specs.WorldCalls.{WorldMoments, with_size}

-- the core where a job comes back whose gate stays as it is, with this of the size word
abbrev pub back : Core → ℕ → Flag → Bool → SizeEnd → Core
back core place gate applied size = after core (events.Finish place (ends.Back size gate applied))

-- A call set the size word. At each moment what is left recovers the file of the core that knows
-- the old size and the new one. Where the call went well the devices show the new size, and where
-- it failed the old one, at the write, or both, at the persist.
pub record SizeLeads (ino n place : ℕ) (gate : Flag) (applied : Bool) (core : Core) (world : World)
    (new : Seen WordStep) (result : Answer) (asked_old asked_new : List Asked) : Type 0 where
  pub moments : WorldMoments (Recovers ino n (back core place gate applied sizes.Either)) asked_old
      world asked_new (with_size new world)
  pub ok : OnOk result
      (Shows ino (after core (events.Finish place (sized_end gate))) (with_size new world))
  pub err : OnErr result
      (Shows ino (back core place gate applied sizes.AsBefore) (with_size new world)
      ⊎ Shows ino (back core place gate applied sizes.Either) (with_size new world))

abbrev pub SizesShow : Type 0
SizesShow =
    (ino n place : ℕ) (gate : Flag) (applied : Bool) (core : Core) (world : World)
    (new : Seen WordStep) (obeys : Bool) (result : Answer) (asked_old asked_new : List Asked) →
    IsGood (back core place gate applied sizes.Either) → Shows ino core world →
    may core (events.Finish place (ends.Back sizes.Either gate applied)) ≡ true →
    gate ≡ (track core.tracks place).gate → length core.log + 2 ≤ n →
    0 < length (words_of world.size) →
    SetsWord obeys 0 (sized core.size (track core.tracks place).span) result asked_old world.size
    asked_new new →
    SizeLeads ino n place gate applied core world new result asked_old asked_new
