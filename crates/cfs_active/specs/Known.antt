-- What is known between calls of a state and of its jobs that are out.
use Rattle.std.specs.Prelude.{◌≡◌, ◌<◌, ◌^◌, true, List, length}
use Rattle.cfs_core.specs.declared.inode_core.Core.{Core}
use Rattle.cfs_job.specs.Views.{JobView}
use Rattle.cfs_medium.specs.World.{World}
use Rattle.cfs_pmem.specs.Images.{words_of}
use Rattle.cfs_inode.specs.Admitting.{is_here}
use Rattle.cfs_inode.specs.Stands.{Together}
use Rattle.cfs_inode.specs.View.{StateView}

-- The number fits its field in a slot, the slots of a request in doubt are here, and the region of
-- the size word has a word. Some core, which is reached, and some devices, which show it, are what
-- the state and its jobs stand for.
pub record IsActive (state : StateView) (jobs : List JobView) : Type 0 where
  pub number : state.ino < 2 ^ 32
  pub here : is_here state.tracker.doubt ≡ true
  pub sized : 0 < length (words_of state.size)
  pub core : Core
  pub world : World
  pub together : Together state jobs core world
