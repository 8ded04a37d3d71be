use Rattle.cfs_meaning.proofs.Homes.{homes-are-shown}
use Rattle.cfs_meaning.proofs.laws.homes_are_shown.Goals as goal

pub returns : goal.returns
returns c = homes-are-shown
