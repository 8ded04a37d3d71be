use Rattle.cfs_tree.specs.Nodes.{stored_at}
use Rattle.cfs_tree.proofs.store.change.+take_least.Given as goal

abbrev pub decreases-take_least : goal.decreases-take_least
decreases-take_least l = (stored_at l.nodes.now l.at).height
