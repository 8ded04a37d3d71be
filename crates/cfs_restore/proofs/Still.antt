-- A store that is only read.
use Rattle.std.proofs.Common.{sym, subst}
use Rattle.cfs_pmem.proofs.AllMomentLemmas.{all_weaker}
use Rattle.cfs_block.specs.Devices.{AreImagesOf, DeviceImages, Devices}
use Rattle.cfs_home.specs.Calls.{disk_of}
use Rattle.cfs_home.specs.Disks.{AllStay}
use Rattle.cfs_home.proofs.Disks.{all-same}
use Rattle.cfs_recover.specs.Begins.{Stands, both}
use Rattle.cfs_restore.specs.Still.{StillStoresStand}

pub still-stands : StillStoresStand
still-stands files start first _ _ olds news blocks_old blocks_new stands leaves = (
  subst (λ (now : Devices). Stands files start first now.regions now.blocks) (sym leaves.same)
      stands,
  all_weaker (λ (images : DeviceImages) are. there images are) leaves.moments,
)
  where
    there : (images : DeviceImages) → AreImagesOf (both olds blocks_old) images →
        AllStay files start (disk_of images)
    there images are =
        let words = stands.words images.words are.words in
        all-same files start first (disk_of images) stands.stay words.front words.sizes words.slots
        (stands.blocks_are images.contents are.contents)
