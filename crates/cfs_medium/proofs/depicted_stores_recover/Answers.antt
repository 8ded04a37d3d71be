use Rattle.cfs_medium.proofs.Blocks.{stored-same}
use Rattle.cfs_medium.proofs.Recovered.{recovered-same}
use Rattle.cfs_medium.proofs.depicted_stores_recover.Goals as goal

pub returns : goal.returns
returns c = λ ino store core image is. (stored-same ino store core image is, recovered-same ino store core image is)
