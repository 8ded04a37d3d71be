use Rattle.std.proofs.Common.{rules, ◌≡◌, ◌∙◌, ◌+◌, false, refl, sym, ap, subst}
use Rattle.cfs_dir.specs.Namespace.{Namespace}
use Rattle.cfs_dir.specs.Moved.{CanMove, change_of}
use Rattle.cfs_requests.specs.Looks.{moves}
use Rattle.cfs_kernel.proofs.Performing.{failed_to_store, same_value, spent, unchanged_then}
use Rattle.cfs_kernel.proofs.ns_state.NsState.rename.Goals as goal

pub returns-in_default-clause-itself : goal.returns-in_default-clause-itself
returns-in_default-clause-itself g c moved is there =
    spent g.R.Region.seen g.R.Region.faults g.R.Region.obeys_power false c.args.self.now (g.P.Power.asked c.args.power.now) _ _ _ (search rules)

pub returns-in_default-clause-moved : goal.returns-in_default-clause-moved
returns-in_default-clause-moved g c moved is differs =
    spent g.R.Region.seen g.R.Region.faults g.R.Region.obeys_power false c.args.self.now (g.P.Power.asked c.args.power.now) _ _ _ (search rules)

pub returns-then-stands-clause-itself : goal.returns-then-stands-clause-itself
returns-then-stands-clause-itself g c moved is there =
    let place : c.in-Some.place ≡ c.args.self.now.places + 1 = search rules in
    unchanged_then g.R.Region.seen g.R.Region.faults g.R.Region.obeys_power false c.args.self.now (g.P.Power.asked c.args.power.now) _ _ _ _
    (λ is. search rules) (rw place refl) (rw place refl) ((refl, refl, refl), refl)

pub move_node-requires : goal.move_node-requires
move_node-requires g c = subst (λ (tree : Namespace). CanMove tree c.in-Ok.moved) c.tree.ensures c.in-Ok.ensures.moves

pub returns-in-Err-move_node-clause-moved : goal.returns-in-Err-move_node-clause-moved
returns-in-Err-move_node-clause-moved g c moved is differs =
    let looked = sym (c.look_to_move.ensures.answer ∙ ap (λ (tree : Namespace). moves tree c.args.credential c.args.from.now c.args.to.now) c.tree.ensures) in
    let same = same_value c.look_to_move.result c.in-Ok.is (sym looked ∙ is) in
    let called = c.move_node.ensures in
    rw (sym same) (failed_to_store g.R.Region.seen g.R.Region.faults g.R.Region.obeys_power false c.args.self.now (g.P.Power.asked c.args.power.now)
    (change_of c.in-Ok.moved) c.move_node.result (g.P.Power.asked c.move_node.new.power) c.move_node.new.self
    (λ is. search rules) called.without_memory called.stores called.lacks.1 (λ takes. called.lacks.0)
    _ _ c.in-Err-move_node.refusal c.stored_told.result c.in-Err-move_node.is c.stored_told.ensures called.failed)
