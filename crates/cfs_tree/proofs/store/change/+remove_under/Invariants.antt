use Rattle.cfs_tree.specs.Nodes.{height_under}
use Rattle.cfs_tree.proofs.store.change.+remove_under.Given as goal

abbrev pub decreases-remove_under : goal.decreases-remove_under
decreases-remove_under l = height_under l.nodes.now l.at
