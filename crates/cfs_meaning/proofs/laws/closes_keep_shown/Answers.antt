use Rattle.cfs_meaning.proofs.ShownCloses.{closes-keep-shown}
use Rattle.cfs_meaning.proofs.laws.closes_keep_shown.Goals as goal

pub returns : goal.returns
returns c = closes-keep-shown
