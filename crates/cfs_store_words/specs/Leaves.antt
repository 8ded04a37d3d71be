-- Calls that change no device.
use Rattle.std.specs.Prelude.{◌≡◌, List}
use Rattle.cfs_pmem.specs.declared.trace.Asked.{Asked}
use Rattle.cfs_pmem.specs.Images.{Seen, WordStep}
use Rattle.cfs_pmem.specs.Objects.{IsEachImage, MomentsOf}
use Rattle.cfs_block.specs.BlockImages.{BlockStep}
use Rattle.cfs_block.specs.Devices.{AreImagesOf, DeviceMoments, Devices}

-- None of these objects is changed: at each moment a crash leaves what it left before.
pub record LeavesEach {Form Image : Type 0} (IsImage : List Form → Image → Type 0)
    (asked_old : List Asked) (old : List (Seen Form)) (asked_new : List Asked)
    (new : List (Seen Form)) : Type 0 where
  pub same : new ≡ old
  pub moments : MomentsOf IsImage (IsEachImage IsImage old) asked_old old asked_new new

abbrev pub devices : List (Seen WordStep) → List (Seen BlockStep) → Devices
devices regions blocks = record { regions = regions; blocks = blocks }

-- the same of the regions and the blocks of a store
pub record LeavesStore (asked_old : List Asked) (old : Devices) (asked_new : List Asked)
    (new : Devices) : Type 0 where
  pub same : new ≡ old
  pub moments : DeviceMoments (AreImagesOf old) asked_old old asked_new new
