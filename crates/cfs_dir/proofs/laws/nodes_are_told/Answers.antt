use Rattle.cfs_dir.proofs.Told.{node_told}
use Rattle.cfs_dir.proofs.laws.nodes_are_told.Goals as goal

pub returns : goal.returns
returns c = node_told
