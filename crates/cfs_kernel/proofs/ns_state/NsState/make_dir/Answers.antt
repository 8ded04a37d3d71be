use Rattle.std.proofs.Common.{rules, ℕ, ◌≡◌, ◌∙◌, ◌+◌, Err, Option, true, refl, sym, ap}
use Rattle.cfs_dir.specs.Namespace.{Namespace}
use Rattle.cfs_dir.specs.declared.change.Change.TheVariants as changes
use Rattle.std.specs.Result.{is_err}
use Rattle.cfs_names.proofs.Ends.{on_ok}
use Rattle.cfs_requests.specs.Looks.{makes}
use Rattle.cfs_kernel.specs.Answers.{told}
use Rattle.cfs_kernel.specs.States.{kernel_of}
use Rattle.cfs_kernel.proofs.Performing.{counted_as, failed_to_store, not_both, same_refusal, same_value, spent, stored_then}
use Rattle.cfs_kernel.proofs.ns_state.NsState.make_dir.Goals as goal

pub look_to_make-requires-clause-free : goal.look_to_make-requires-clause-free
look_to_make-requires-clause-free g c = rw c.tree.ensures c.free_record-rec.ensures.within

pub returns-in-Err-clause-refused : goal.returns-in-Err-clause-refused
returns-in-Err-clause-refused g c refusal is =
    let looked = sym (c.look_to_make.ensures.answer
    ∙ ap (λ (tree : Namespace). makes tree c.args.credential c.args.path.now c.args.mode c.free_record-rec.result) c.tree.ensures
    ∙ ap (λ (rec : Option ℕ). makes c.args.self.now.stored.tree c.args.credential c.args.path.now c.args.mode rec) c.free_record-rec.ensures.lowest) in
    let same = same_refusal c.look_to_make.result c.in-Err.is (sym looked ∙ is) in
    record {
      answer = ap (λ refusal. Err refusal) (c.refused.ensures ∙ ap (λ refusal. told (kernel_of c.args.self.now) refusal) same);
      same = refl;
      rests = ((refl, refl, refl), refl);
    }

pub returns-in_default-clause-performed : goal.returns-in_default-clause-performed
returns-in_default-clause-performed g c node is =
    spent g.R.Region.seen g.R.Region.faults g.R.Region.obeys_power true c.args.self.now (g.P.Power.asked c.args.power.now) _ _ _ (search rules)

pub returns-in-Err-add_node-clause-refused : goal.returns-in-Err-add_node-clause-refused
returns-in-Err-add_node-clause-refused g c refusal is =
    let looked = sym (c.look_to_make.ensures.answer
    ∙ ap (λ (tree : Namespace). makes tree c.args.credential c.args.path.now c.args.mode c.free_record-rec.result) c.tree.ensures
    ∙ ap (λ (rec : Option ℕ). makes c.args.self.now.stored.tree c.args.credential c.args.path.now c.args.mode rec) c.free_record-rec.ensures.lowest) in
    not_both c.look_to_make.result c.in-Ok.is (sym looked ∙ is)

pub returns-in-Err-add_node-clause-performed : goal.returns-in-Err-add_node-clause-performed
returns-in-Err-add_node-clause-performed g c node is =
    let looked = sym (c.look_to_make.ensures.answer
    ∙ ap (λ (tree : Namespace). makes tree c.args.credential c.args.path.now c.args.mode c.free_record-rec.result) c.tree.ensures
    ∙ ap (λ (rec : Option ℕ). makes c.args.self.now.stored.tree c.args.credential c.args.path.now c.args.mode rec) c.free_record-rec.ensures.lowest) in
    let same = same_value c.look_to_make.result c.in-Ok.is (sym looked ∙ is) in
    let called = c.add_node.ensures in
    rw (sym same) (failed_to_store g.R.Region.seen g.R.Region.faults g.R.Region.obeys_power true c.args.self.now (g.P.Power.asked c.args.power.now)
    (changes.Create c.in-Ok.node) c.add_node.result (g.P.Power.asked c.add_node.new.power) c.add_node.new.self
    (λ is. search rules) called.without_memory called.stores called.lacks (λ takes. absurd (cc))
    _ _ c.in-Err-add_node.refusal c.stored_told.result c.in-Err-add_node.is c.stored_told.ensures called.failed)

pub returns-clause-refused : goal.returns-clause-refused
returns-clause-refused g c refusal is =
    let looked = sym (c.look_to_make.ensures.answer
    ∙ ap (λ (tree : Namespace). makes tree c.args.credential c.args.path.now c.args.mode c.free_record-rec.result) c.tree.ensures
    ∙ ap (λ (rec : Option ℕ). makes c.args.self.now.stored.tree c.args.credential c.args.path.now c.args.mode rec) c.free_record-rec.ensures.lowest) in
    not_both c.look_to_make.result c.in-Ok.is (sym looked ∙ is)

pub returns-clause-performed : goal.returns-clause-performed
returns-clause-performed g c node is =
    let looked = sym (c.look_to_make.ensures.answer
    ∙ ap (λ (tree : Namespace). makes tree c.args.credential c.args.path.now c.args.mode c.free_record-rec.result) c.tree.ensures
    ∙ ap (λ (rec : Option ℕ). makes c.args.self.now.stored.tree c.args.credential c.args.path.now c.args.mode rec) c.free_record-rec.ensures.lowest) in
    let same = same_value c.look_to_make.result c.in-Ok.is (sym looked ∙ is) in
    let called = c.add_node.ensures in
    let place : c.in-Some.place ≡ c.args.self.now.places + 1 = search rules in
    let passed = on_ok c.add_node.result (ap (λ result. is_err result) c.in-Ok-add_node.is) called.passed in
    rw (sym same) (stored_then g.R.Region.seen g.R.Region.faults g.R.Region.obeys_power true c.args.self.now (g.P.Power.asked c.args.power.now)
    (changes.Create c.in-Ok.node) c.add_node.result (g.P.Power.asked c.add_node.new.power) _
    (λ is. search rules) called.without_memory called.stores called.lacks (λ takes. absurd (cc))
    _ _ c.in-Ok-add_node.field-0 _ c.in-Ok-add_node.is (rw place refl)
    (counted_as (kernel_of c.add_node.new.self) _ c.in-Some.place (c.args.self.now.places + 1) passed place))
