use Rattle.cfs_tree.proofs.Removing.{sides_join, sides_end}
use Rattle.cfs_tree.proofs.store.change.join_sides.Goals as goal

pub join-requires : goal.join-requires
join-requires c =
    let s = sides_join c.args.nodes.now _ c.in-Some.first _ c.args.left c.args.right _ c.requires.0 c.requires.1 c.in-Some.is c.requires.2 c.take_least-least.ensures in
    (c.requires.0, s.0, s.3)

pub returns : goal.returns
returns c = sides_end c.args.nodes.now _ _ c.in-Some.first _ _ c.args.left c.args.right _ c.in-Some.is c.take_least-least.ensures c.join.ensures
