use Rattle.cfs_tree.specs.Nodes.{height_under}
use Rattle.cfs_tree.proofs.store.change.+insert_under.Given as goal

abbrev pub decreases-insert_under : goal.decreases-insert_under
decreases-insert_under l = height_under l.nodes.now l.at
