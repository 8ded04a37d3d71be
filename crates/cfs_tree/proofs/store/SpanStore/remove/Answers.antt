use Rattle.std.proofs.Common.{arith, refl, sym, subst, ◌≡◌, length, Option, ℕ}
use Rattle.std.specs.Prelude.{IsSome}
use Rattle.cfs_tree.proofs.Holding.{shrunk_holds, removed_as}
use Rattle.cfs_tree.proofs.Removing.{numbers_within}
use Rattle.cfs_tree.proofs.store.SpanStore.remove.Goals as goal

pub remove_node-left-requires-clause-within : goal.remove_node-left-requires-clause-within
remove_node-left-requires-clause-within c =
    let h = c.requires.holds.1 in
    let l = h.listed c.args.place c.in_ok-gone.field-0.now (sym c.in_ok-gone.ensures.value) in
    let w = numbers_within c.args.self.now.nodes.items c.requires.holds.0 c.in_ok-gone.field-0.now h.tree.stands l.0 in
    rw c.deref_mut.ensures.value w

pub returns-clause-kept : goal.returns-clause-kept
returns-clause-kept c = λ t h.
    let e : c.args.self.now.nodes.len ≡ length c.remove_node-left.new.nodes = omega arith in
    let r = removed_as c.args.self.now.nodes.items _ c.remove_node-left.new.nodes _ c.args.self.now.nodes.len _ _ _ c.deref_mut.ensures.value e c.remove_node-left.ensures in
    let P : Option ℕ → Type 0 = λ w. IsSome w in (
      subst P c.in_ok-gone.ensures.value refl,
      shrunk_holds _ _ _ _ c.in_ok-gone.field-0.now c.args.place r.0 t h (record {
        was = sym c.in_ok-gone.ensures.value;
        nodes = r.2;
        free = c.push_reserved.ensures.items;
        capacity = omega arith;
        numbers = c.remove.ensures.updates.0;
        removes = r.1;
      }),
    )
