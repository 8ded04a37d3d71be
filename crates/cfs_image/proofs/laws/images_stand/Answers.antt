use Rattle.cfs_image.proofs.Standing.{images-stand}
use Rattle.cfs_image.proofs.laws.images_stand.Goals as goal

pub returns : goal.returns
returns c = images-stand
