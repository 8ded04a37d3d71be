use Rattle.std.proofs.Common.{arith, ◌<◌, ◌≤◌, sym, subst, Option, ℕ}
use Rattle.cfs_tree.specs.Change.{InsertsTo, rank}
use Rattle.cfs_tree.proofs.Changing.{inserted_alone, insert_goes_left, insert_goes_right, insert_joins_left, insert_joins_right, insert_ends_left, insert_ends_right, ranks_below, ranks_above}
use Rattle.cfs_tree.proofs.store.change.+insert_under.Goals as goal

pub returns-in_default : goal.returns-in_default
returns-in_default t c =
    let P : Option ℕ → Type 0 = λ w. InsertsTo c.args.nodes.now c.link.new.nodes w c.args.new c.args.new in
    subst P (sym c.in_default.is) (λ v i. inserted_alone c.args.nodes.now c.link.new.nodes c.args.new v i c.link.ensures)

pub insert_under-left-requires : goal.insert_under-left-requires
insert_under-left-requires t c =
    let g = insert_goes_left c.args.nodes.now c.in-Some.at c.args.new c.args.at c.stored.result c.requires.0 c.in-Some.is c.stored.ensures c.requires.1 in
    (let h = g.0 in omega arith, g.1)

pub insert_under-right-requires : goal.insert_under-right-requires
insert_under-right-requires t c =
    let g = insert_goes_right c.args.nodes.now c.in-Some.at c.args.new c.args.at c.stored.result c.requires.0 c.in-Some.is c.stored.ensures c.requires.1 in
    (let h = g.0 in omega arith, g.1)

pub join-requires : goal.join-requires
join-requires t c =
    insert_joins_left c.args.nodes.now _ c.in-Some.at c.args.new _ c.args.at c.stored.result c.requires.0 c.in-Some.is c.stored.ensures c.requires.1 c.insert_under-left.ensures

pub join-requires-else-comes_before : goal.join-requires-else-comes_before
join-requires-else-comes_before t c =
    insert_joins_right c.args.nodes.now _ c.in-Some.at c.args.new _ c.args.at c.stored.result c.requires.0 c.in-Some.is c.stored.ensures c.requires.1 c.insert_under-right.ensures

pub returns-then-comes_before : goal.returns-then-comes_before
returns-then-comes_before t c =
    let lt : rank c.args.nodes.now c.args.new < rank c.args.nodes.now c.in-Some.at =
    ranks_below c.args.nodes.now _ _ c.stored-2.result c.stored.result c.stored-2.ensures c.stored.ensures (c.comes_before.ensures.0 c.if-comes_before.true) in
    insert_ends_left c.args.nodes.now _ _ c.in-Some.at c.args.new _ _ c.args.at c.stored.result c.in-Some.is c.stored.ensures lt c.insert_under-left.ensures c.join.ensures

pub returns-else-comes_before : goal.returns-else-comes_before
returns-else-comes_before t c =
    let le : rank c.args.nodes.now c.in-Some.at ≤ rank c.args.nodes.now c.args.new =
    ranks_above c.args.nodes.now _ _ c.stored-2.result c.stored.result c.stored-2.ensures c.stored.ensures (λ h. let e = c.comes_before.ensures.1 h in cc (e, c.if-comes_before.false)) in
    insert_ends_right c.args.nodes.now _ _ c.in-Some.at c.args.new _ _ c.args.at c.stored.result c.in-Some.is c.stored.ensures le c.insert_under-right.ensures c.join-else-comes_before.ensures
