-- Events that no device shows.
use Rattle.std.specs.Prelude.{ℕ, ◌≡◌, Bool, true, false}
use Rattle.cfs_file.specs.declared.entry.Entry.{Entry}
use Rattle.cfs_core.specs.declared.event.End.TheVariants as ends
use Rattle.cfs_core.specs.declared.event.Event.{Event}
use Rattle.cfs_core.specs.declared.event.Event.TheVariants as events
use Rattle.cfs_core.specs.declared.event.SizeEnd.TheVariants as sizes
use Rattle.cfs_core.specs.declared.flag.Flag.{Flag}
use Rattle.cfs_core.specs.declared.inode_core.Core.{Core}
use Rattle.cfs_core.specs.After.{after}
use Rattle.cfs_core.specs.May.{may}
use Rattle.cfs_core.specs.Words.{track}
use Rattle.cfs_medium.specs.Shows.{Shows}
use Rattle.cfs_medium.specs.World.{World}

-- a read is served, a job is given out, or it comes back for the blocks that are left
abbrev pub is_quiet : Event → Bool
is_quiet (events.Serve place answer) = true
is_quiet (events.Dispatch place) = true
is_quiet (events.Finish place ends.More) = true
is_quiet event = false

-- devices that show a core show it behind such an event, without a step
abbrev pub QuietEventsShow : Type 0
QuietEventsShow =
    (ino : ℕ) (core : Core) (event : Event) (world : World) →
    Shows ino core world → is_quiet event ≡ true → may core event ≡ true →
    Shows ino (after core event) world

-- and a read or sync that comes
abbrev pub ReadsMayCome : Type 0
ReadsMayCome =
    (ino : ℕ) (core : Core) (entry : Entry) (world : World) →
    Shows ino core world → may core (events.AdmitRead entry) ≡ true →
    Shows ino (after core (events.AdmitRead entry)) world

-- and a job that comes back whose gate and size word are as they were
abbrev pub BacksShow : Type 0
BacksShow =
    (ino place : ℕ) (gate : Flag) (applied : Bool) (core : Core) (world : World) →
    Shows ino core world →
    may core (events.Finish place (ends.Back sizes.AsBefore gate applied)) ≡ true →
    gate ≡ (track core.tracks place).gate →
    Shows ino (after core (events.Finish place (ends.Back sizes.AsBefore gate applied))) world
