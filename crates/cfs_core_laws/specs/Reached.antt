-- The cores that there are: fresh ones, what events make of them, and images that are opened.
use Rattle.std.specs.Prelude.{◌≡◌, true}
use Rattle.cfs_core.specs.declared.event.Event.{Event}
use Rattle.cfs_core.specs.declared.image.Image.{Image}
use Rattle.cfs_core.specs.declared.inode_core.Core.{Core}
use Rattle.cfs_core.specs.After.{after}
use Rattle.cfs_core.specs.Fresh.{IsFresh}
use Rattle.cfs_core.specs.May.{may}
use Rattle.cfs_core.specs.Medium.{is_image}
use Rattle.cfs_core.specs.Opened.{opened}

pub data IsReached : Core → Type 0 where
  begins : (core : Core) → IsFresh core → IsReached core
  comes : (core : Core) (event : Event) → IsReached core → may core event ≡ true →
      IsReached (after core event)
  -- a crash left the image, and a mount finds it
  opens : (core : Core) (image : Image) → IsReached core → is_image core image ≡ true →
      IsReached (opened core image)
