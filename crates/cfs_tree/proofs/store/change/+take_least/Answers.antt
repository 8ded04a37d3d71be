use Rattle.std.proofs.Common.{arith}
use Rattle.cfs_tree.proofs.Removing.{least_goes_left, least_joins, least_ends}
use Rattle.cfs_tree.proofs.store.change.+take_least.Goals as goal

pub take_least-least-requires : goal.take_least-least-requires
take_least-least-requires t c =
    let g = least_goes_left c.args.nodes.now c.args.at c.in-Some.left c.stored.result c.requires.0 c.stored.ensures c.in-Some.is c.requires.1 in
    (let h = g.0 in omega arith, g.1)

pub join-requires : goal.join-requires
join-requires t c = least_joins c.args.nodes.now _ c.args.at c.in-Some.left _ _ c.stored.result c.requires.0 c.stored.ensures c.in-Some.is c.requires.1 c.take_least-least.ensures

pub returns : goal.returns
returns t c = least_ends c.args.nodes.now _ _ c.args.at c.in-Some.left _ _ _ c.stored.result c.stored.ensures c.in-Some.is c.take_least-least.ensures c.join.ensures
