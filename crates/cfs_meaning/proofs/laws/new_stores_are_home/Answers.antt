use Rattle.cfs_meaning.proofs.NewStores.{new-stores-are-home}
use Rattle.cfs_meaning.proofs.laws.new_stores_are_home.Goals as goal

pub returns : goal.returns
returns c = new-stores-are-home
