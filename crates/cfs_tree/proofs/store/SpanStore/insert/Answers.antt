use Rattle.std.proofs.Common.{arith, set, sym, subst, List, ◌≡◌, length}
use Rattle.cfs_tree.specs.declared.store.stored_node.StoredNode.{StoredNode}
use Rattle.cfs_tree.specs.Change.{CanInsert}
use Rattle.cfs_tree.specs.Nodes.{alone_at}
use Rattle.cfs_tree.proofs.Holding.{grown_holds, free_one, can_insert, inserted_as, on_ok}
use Rattle.cfs_tree.proofs.store.SpanStore.insert.Goals as goal

pub insert_node-requires-clause-within : goal.insert_node-requires-clause-within
insert_node-requires-clause-within c =
    let f = free_one _ _ c.in-Some.at _ c.requires.holds.0 c.requires.holds.1 c.in-Some.ensures.items in
    let h = f.1 in rw c.deref_mut.ensures.value h

pub insert_node-requires-clause-tree : goal.insert_node-requires-clause-tree
insert_node-requires-clause-tree c =
    let f = free_one _ _ c.in-Some.at _ c.requires.holds.0 c.requires.holds.1 c.in-Some.ensures.items in
    let P : List StoredNode → Type 0 = λ w. CanInsert (set w c.in-Some.at (alone_at c.args.place c.args.span)) c.args.root c.in-Some.at c.requires.holds.0 in
    (c.requires.holds.0, subst P (sym c.deref_mut.ensures.value) (can_insert c.args.self.now.nodes.items _ _ _ _ c.requires.holds.1.tree f.0 f.1))

pub returns-clause-kept : goal.returns-clause-kept
returns-clause-kept c = λ t h. grown_holds _ _ _ c.in-Some.at _ _ _ t h (record {
  free = c.in-Some.ensures.items;
  capacity = c.in-Some.ensures.capacity;
  numbers = (on_ok _ _ c.insert.ensures.updates (c.insert.ensures.succeeds (omega arith))).0;
  inserts =
      let e : c.args.self.now.nodes.len ≡ length c.insert_node.new.nodes = omega arith in
      inserted_as c.args.self.now.nodes.items _ c.insert_node.new.nodes _ c.args.self.now.nodes.len _ _ _ _ _ c.deref_mut.ensures.value e c.insert_node.ensures;
  unkept = c.requires.new;
  fits = c.ranges.place.fits;
  bounded = c.requires.bounded;
  positions = c.requires.positions;
})
