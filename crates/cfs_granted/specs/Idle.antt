-- A state of which nothing is pending.
use Rattle.std.specs.Prelude.{◌≡◌, None, [], length}
use Rattle.cfs_pmem.specs.Images.{words_of}
use Rattle.cfs_inode.specs.View.{StateView}

pub record IsIdle (state : StateView) : Type 0 where
  pub entries : state.tracker.entries ≡ []
  pub reads : state.tracker.reads ≡ []
  pub doubt : state.tracker.doubt ≡ None
  pub word : length (words_of state.size) ≡ 1
