use Rattle.cfs_medium.proofs.TagEvents.{tags-show}
use Rattle.cfs_medium.proofs.tags_show.Goals as goal

pub returns : goal.returns
returns c = tags-show
