use Rattle.cfs_image.proofs.Standing.{images-are-sound}
use Rattle.cfs_image.proofs.laws.images_are_sound.Goals as goal

pub returns : goal.returns
returns c = images-are-sound
