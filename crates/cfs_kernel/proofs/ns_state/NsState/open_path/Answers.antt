use Rattle.std.proofs.Common.{rules, ℕ, ◌≡◌, ◌∙◌, Option, Result, Some, ap, subst}
use Rattle.std.specs.Prelude.{IfOk}
use Rattle.cfs_dir.specs.Namespace.{Namespace}
use Rattle.cfs_dir.specs.Tree.{CanJoin}
use Rattle.cfs_requests.specs.declared.name_refusal.NameRefusal.{NameRefusal}
use Rattle.cfs_requests.specs.declared.opening.Opening.{Opening}
use Rattle.cfs_requests.specs.Looks.{opens}
use Rattle.cfs_requests.specs.Made.{IfMade}
use Rattle.cfs_requests.specs.Steps.{granted, open_step}
use Rattle.cfs_grants.specs.Grants.{free_queue}
use Rattle.cfs_kernel.specs.States.{names_of}
use Rattle.cfs_kernel.proofs.Opening.{opening_takes}
use Rattle.cfs_kernel.proofs.ns_state.NsState.open_path.Goals as goal

pub look_to_open-looked-requires-clause-free : goal.look_to_open-looked-requires-clause-free
look_to_open-looked-requires-clause-free g c = rw c.tree.ensures c.free_record-rec.ensures.within

pub open-requires : goal.open-requires
open-requires g c =
    let joins = subst (λ (tree : Namespace). IfOk c.look_to_open-looked.result (λ opening. IfMade opening (CanJoin tree))) c.tree.ensures c.look_to_open-looked.ensures.joins in
    let takes = subst (λ (rec : Option ℕ). IfOk c.look_to_open-looked.result (λ opening. IfMade opening (λ node. rec ≡ Some node.rec))) c.free_record-rec.ensures.lowest
    (opening_takes c.tree.result.now c.args.credential c.args.path.now c.args.flags c.args.mode c.free_record-rec.result c.look_to_open-looked.result
    c.look_to_open-looked.ensures.answer) in
    (search rules, (joins, takes))

pub returns-clause-refused : goal.returns-clause-refused
returns-clause-refused g c refusal is =
    let looked = c.look_to_open-looked.ensures.answer
    ∙ ap (λ (tree : Namespace). opens tree c.args.credential c.args.path.now c.args.flags c.args.mode c.free_record-rec.result) c.tree.ensures
    ∙ ap (λ (rec : Option ℕ). opens c.args.self.now.stored.tree c.args.credential c.args.path.now c.args.flags c.args.mode rec) c.free_record-rec.ensures.lowest in
    c.open.ensures.refused refusal (looked ∙ is)

pub returns-clause-no_queue : goal.returns-clause-no_queue
returns-clause-no_queue g c opening is none =
    let looked = c.look_to_open-looked.ensures.answer
    ∙ ap (λ (tree : Namespace). opens tree c.args.credential c.args.path.now c.args.flags c.args.mode c.free_record-rec.result) c.tree.ensures
    ∙ ap (λ (rec : Option ℕ). opens c.args.self.now.stored.tree c.args.credential c.args.path.now c.args.flags c.args.mode rec) c.free_record-rec.ensures.lowest in
    c.open.ensures.no_queue opening (looked ∙ is) none

pub returns-clause-performed : goal.returns-clause-performed
returns-clause-performed g c opening number queue is free home =
    let looked = c.look_to_open-looked.ensures.answer
    ∙ ap (λ (tree : Namespace). opens tree c.args.credential c.args.path.now c.args.flags c.args.mode c.free_record-rec.result) c.tree.ensures
    ∙ ap (λ (rec : Option ℕ). opens c.args.self.now.stored.tree c.args.credential c.args.path.now c.args.flags c.args.mode rec) c.free_record-rec.ensures.lowest in
    c.open.ensures.performed opening number queue (looked ∙ is) free home

pub returns-clause-step : goal.returns-clause-step
returns-clause-step g c =
    let self = c.args.self.now in
    let looked = c.look_to_open-looked.ensures.answer
    ∙ ap (λ (tree : Namespace). opens tree c.args.credential c.args.path.now c.args.flags c.args.mode c.free_record-rec.result) c.tree.ensures
    ∙ ap (λ (rec : Option ℕ). opens c.args.self.now.stored.tree c.args.credential c.args.path.now c.args.flags c.args.mode rec) c.free_record-rec.ensures.lowest in
    subst (λ (looked : Result Opening NameRefusal). IfOk c.open.result (λ opened.
    open_step (names_of self) c.args.caller c.args.flags (free_queue self.queues.grants) looked ≡ Some (granted opened.grant, names_of c.open.new.self)))
    looked c.open.ensures.step
