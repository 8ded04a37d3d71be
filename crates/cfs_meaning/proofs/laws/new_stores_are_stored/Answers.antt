use Rattle.cfs_meaning.proofs.NewTrees.{new-stores-are-stored}
use Rattle.cfs_meaning.proofs.laws.new_stores_are_stored.Goals as goal

pub returns : goal.returns
returns c = new-stores-are-stored
