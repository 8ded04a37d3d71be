use Rattle.cfs_meaning.proofs.NewTrees.{new-stores-are-clear}
use Rattle.cfs_meaning.proofs.laws.new_stores_are_clear.Goals as goal

pub returns : goal.returns
returns c = new-stores-are-clear
