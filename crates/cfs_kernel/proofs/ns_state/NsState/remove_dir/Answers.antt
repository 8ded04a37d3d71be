use Rattle.std.proofs.Common.{◌∙◌, Result, Some, ap}
use Rattle.cfs_dir.specs.Namespace.{Namespace}
use Rattle.cfs_dir.specs.declared.node.Node.{Node}
use Rattle.cfs_requests.specs.declared.name_refusal.NameRefusal.{NameRefusal}
use Rattle.cfs_requests.specs.Looks.{removes}
use Rattle.cfs_requests.specs.Steps.{done, remove_step}
use Rattle.cfs_kernel.specs.States.{names_of}
use Rattle.cfs_kernel.proofs.Performing.{for_every}
use Rattle.cfs_kernel.proofs.ns_state.NsState.remove_dir.Goals as goal

pub returns-clause-refused : goal.returns-clause-refused
returns-clause-refused g c refusal is =
    let looked = c.look_to_remove-looked.ensures.answer ∙ ap (λ (tree : Namespace). removes tree c.args.credential c.args.path.now) c.tree.ensures in
    c.remove.ensures.refused refusal (looked ∙ is)

pub returns-clause-performed : goal.returns-clause-performed
returns-clause-performed g c node is =
    let looked = c.look_to_remove-looked.ensures.answer ∙ ap (λ (tree : Namespace). removes tree c.args.credential c.args.path.now) c.tree.ensures in
    c.remove.ensures.performed node (looked ∙ is)

pub returns-clause-step : goal.returns-clause-step
returns-clause-step g c =
    let looked = c.look_to_remove-looked.ensures.answer ∙ ap (λ (tree : Namespace). removes tree c.args.credential c.args.path.now) c.tree.ensures in
    for_every (Some (done, names_of c.remove.new.self)) c.remove.result (ap (λ (looked : Result Node NameRefusal). remove_step (names_of c.args.self.now) looked) looked) c.remove.ensures.step
