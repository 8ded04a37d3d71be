-- What is known between calls of a file that is being emptied.
use Rattle.std.specs.Prelude.{◌≡◌, false, length}
use Rattle.cfs_pmem.specs.Images.{words_of}
use Rattle.cfs_tracker.specs.Purge.{is_in_use}
use Rattle.cfs_inode.specs.Purges.{TellsZero}
use Rattle.cfs_inode.specs.View.{StateView}

-- Nothing uses it any more. Where it says that its size word, which is all of its region, is 0 in
-- every image, it is.
pub record IsEnding (state : StateView) : Type 0 where
  pub unused : is_in_use state.tracker ≡ false
  pub tells : TellsZero state
  pub word : length (words_of state.size) ≡ 1
