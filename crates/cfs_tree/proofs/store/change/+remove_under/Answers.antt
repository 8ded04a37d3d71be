use Rattle.std.proofs.Common.{arith, ◌≢◌, ◌<◌, ◌≤◌, sym}
use Rattle.cfs_tree.specs.Change.{rank}
use Rattle.cfs_tree.proofs.Changing.{ranks_below, ranks_above}
use Rattle.cfs_tree.proofs.Removing.{remove_here_joins, remove_here_ends, remove_goes, remove_joins_left, remove_joins_right, remove_ends_left, remove_ends_right}
use Rattle.cfs_tree.proofs.store.change.+remove_under.Goals as goal

pub join_sides-requires : goal.join_sides-requires
join_sides-requires t c = remove_here_joins c.args.nodes.now c.in-Some.at c.args.at c.stored.result c.requires.0 c.in-Some.is c.stored.ensures c.requires.1

pub returns-then-at-gone : goal.returns-then-at-gone
returns-then-at-gone t c = remove_here_ends c.args.nodes.now _ c.in-Some.at c.args.gone c.args.at _ c.stored.result c.in-Some.is c.stored.ensures c.if-at-gone.true c.join_sides.ensures

pub remove_under-left-requires : goal.remove_under-left-requires
remove_under-left-requires t c =
    let g = remove_goes c.args.nodes.now c.in-Some.at c.args.at c.stored.result c.requires.0 c.in-Some.is c.stored.ensures c.requires.1 in
    (let h = g.0 in omega arith, g.1)

pub remove_under-right-requires : goal.remove_under-right-requires
remove_under-right-requires t c =
    let g = remove_goes c.args.nodes.now c.in-Some.at c.args.at c.stored.result c.requires.0 c.in-Some.is c.stored.ensures c.requires.1 in
    (let h = g.2 in omega arith, g.3)

pub join-requires : goal.join-requires
join-requires t c = remove_joins_left c.args.nodes.now _ c.in-Some.at c.args.gone c.args.at _ c.stored.result c.requires.0 c.in-Some.is c.stored.ensures c.requires.1 c.remove_under-left.ensures

pub join-requires-else-comes_before : goal.join-requires-else-comes_before
join-requires-else-comes_before t c = remove_joins_right c.args.nodes.now _ c.in-Some.at c.args.gone c.args.at _ c.stored.result c.requires.0 c.in-Some.is c.stored.ensures c.requires.1 c.remove_under-right.ensures

pub returns-then-comes_before : goal.returns-then-comes_before
returns-then-comes_before t c =
    let lt : rank c.args.nodes.now c.args.gone < rank c.args.nodes.now c.in-Some.at =
    ranks_below c.args.nodes.now _ _ c.stored-2.result c.stored.result c.stored-2.ensures c.stored.ensures (c.comes_before.ensures.0 c.if-comes_before.true) in
    remove_ends_left c.args.nodes.now _ _ c.in-Some.at c.args.gone _ c.args.at _ c.stored.result c.in-Some.is c.stored.ensures lt c.remove_under-left.ensures c.join.ensures

pub returns-else-comes_before : goal.returns-else-comes_before
returns-else-comes_before t c =
    let le : rank c.args.nodes.now c.in-Some.at ≤ rank c.args.nodes.now c.args.gone =
    ranks_above c.args.nodes.now _ _ c.stored-2.result c.stored.result c.stored-2.ensures c.stored.ensures (λ h. let e = c.comes_before.ensures.1 h in cc (e, c.if-comes_before.false)) in
    let apart : c.args.gone ≢ c.in-Some.at = λ e. c.if-at-gone.false (sym e) in
    remove_ends_right c.args.nodes.now _ _ c.in-Some.at c.args.gone _ c.args.at _ c.stored.result c.in-Some.is c.stored.ensures le apart c.remove_under-right.ensures c.join-else-comes_before.ensures
