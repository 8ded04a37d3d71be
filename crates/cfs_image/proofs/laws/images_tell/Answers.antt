use Rattle.cfs_image.proofs.Standing.{images-tell}
use Rattle.cfs_image.proofs.laws.images_tell.Goals as goal

pub returns : goal.returns
returns c = images-tell
