use Rattle.cfs_tree.specs.Nodes.{height_under}
use Rattle.cfs_tree.proofs.search.Search.+least_under.Given as goal

abbrev pub decreases-least_under : goal.decreases-least_under
decreases-least_under g l = height_under l.store.now.nodes.items l.at
