use Rattle.cfs_medium.proofs.Others.{tags-apart}
use Rattle.cfs_medium.proofs.tags_are_apart.Goals as goal

pub returns : goal.returns
returns c = tags-apart
