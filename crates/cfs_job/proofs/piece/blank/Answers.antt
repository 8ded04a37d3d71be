use Rattle.std.proofs.Common.{refl}
use Rattle.cfs_block.specs.BlockImages.{zeros}
use Rattle.cfs_job.proofs.piece.blank.Goals as goal

pub returns : goal.returns
unfolding zeros
returns c = refl
