-- Single steps of an admission.
use Rattle.std.specs.Prelude.{◌≡◌, ◌<◌, ℕ, length, Result, false}
use Rattle.std.specs.List.{Contains}
use Rattle.cfs_pmem.specs.Images.{words_of}
use Rattle.cfs_meaning.specs.Drive.{region_at}
use Rattle.cfs_meaning.specs.World.{World, devices_of, file_in, held_at}
use Rattle.cfs_meaning.specs.Devices.{IsShown}
use Rattle.cfs_meaning.specs.Inode.{mark}
use Rattle.cfs_meaning.specs.Laws.{AreReached}
use Rattle.cfs_meaning.specs.Ways.{Halt}

-- The slots of each request of a file have a word for the mark.
abbrev pub HaveMarks : World → ℕ → Type 0
HaveMarks world ino =
    (gate r : ℕ) → Contains (devices_of (held_at (file_in world ino) gate)) r →
    1 < length (words_of (region_at world.drive r))

-- A mark of a file whose core has not ended keeps a world shown, done or refused.
abbrev pub MarksKeepShown : Type 0
MarksKeepShown =
    (old new : World) (ino by place : ℕ) (end : Result (Unit {0}) Halt) →
    (file_in old ino).ended ≡ false → HaveMarks old ino → AreReached old → IsShown old →
    mark ino by place old end new → IsShown new
