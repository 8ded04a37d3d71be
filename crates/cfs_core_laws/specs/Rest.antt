-- A core that has come to rest, and begins anew.
use Rattle.std.specs.Prelude.{◌≡◌, Bool, true, false, None, []}
use Rattle.std.specs.List.{list_all}
use Rattle.cfs_core.specs.declared.event.Event.{Event}
use Rattle.cfs_core.specs.declared.event.Event.TheVariants as events
use Rattle.cfs_core.specs.declared.image.Image.{Image}
use Rattle.cfs_core.specs.declared.inode_core.Core.{Core}
use Rattle.cfs_core.specs.declared.state.State.{State}
use Rattle.cfs_core.specs.declared.state.State.TheVariants.{Closed}
use Rattle.cfs_core.specs.Fresh.{is_sure}
use Rattle.cfs_core.specs.Medium.{file}

abbrev pub is_closed : State → Bool
is_closed Closed = true
is_closed _ = false

-- a step of a job, or its end
abbrev pub is_of_a_job : Event → Bool
is_of_a_job (events.Dispatch place) = true
is_of_a_job (events.BlockWrite place block left) = true
is_of_a_job (events.Flush place block ok) = true
is_of_a_job (events.Finish place end) = true
is_of_a_job _ = false

-- nothing of the log is live, a no-op or unserved, nothing is in doubt, and each tag is known
pub record IsAtRest (core : Core) : Type 0 where
  pub up : core.crashed ≡ false
  pub closed : list_all (λ t. is_closed t.state) core.tracks ≡ true
  pub doubt : core.doubt ≡ None
  pub tags : list_all is_sure core.tags ≡ true

-- The file is the base, and the log is dropped. Its one size is listed once.
abbrev pub restarted : Core → Core
restarted core = record core { base = file core; log = []; tracks = []; sizes = [] }

-- the image without the words of the log's slots
abbrev pub without_log : Image → Image
without_log image = record image { gates = []; marks = [] }
