use Rattle.cfs_meaning.proofs.ShownNames.{names-keep-shown}
use Rattle.cfs_meaning.proofs.laws.names_keep_shown.Goals as goal

pub returns : goal.returns
returns c = names-keep-shown
