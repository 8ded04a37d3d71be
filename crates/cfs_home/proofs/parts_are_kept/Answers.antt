use Rattle.cfs_home.proofs.Parts.{parts-kept}
use Rattle.cfs_home.proofs.parts_are_kept.Goals as goal

pub returns : goal.returns
returns c = parts-kept
