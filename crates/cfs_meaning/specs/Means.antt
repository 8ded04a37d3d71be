-- What a function on real values does, as a way of worlds.
use Rattle.std.specs.Prelude.{◌≡◌, Result, List}
use Rattle.cfs_pmem.specs.declared.trace.Asked.{Asked}
use Rattle.cfs_meaning.specs.Drive.{Drive}
use Rattle.cfs_meaning.specs.World.{World}
use Rattle.cfs_meaning.specs.Ways.{Halt, Way}

-- Whatever world the old value is shown by, the way leads from it, with this result, to one that
-- shows the new value.
pub record Means {A Real : Type 0} (Shows : Real → World → Type 0) (old : Real)
    (result : Result A Halt) (new : Real) (way : Way A) : Type 0 where
  pub by : (before : World) → Shows old before →
      (later : World) × way before result later × Shows new later

-- the world's power has this history
abbrev pub ShowsPower : List Asked → World → Type 0
ShowsPower asked world = world.drive.asked ≡ asked

-- the world's drive is this one
abbrev pub ShowsDrive : Drive → World → Type 0
ShowsDrive drive world = world.drive ≡ drive
