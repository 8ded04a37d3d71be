use Rattle.std.proofs.Common.{◌∙◌, ◌+◌, ◌++◌, List, Some, sym, ap}
use Rattle.std.proofs.lemmas.Result.{err_from_is_err_and}
use Rattle.cfs_dir.specs.declared.node.Node.{Node}
use Rattle.cfs_image.specs.Checks.{Check, damage_of}
use Rattle.cfs_survey.specs.Changes.{joining_checks, new_checks, node_row, node_told}
use Rattle.cfs_survey.specs.Faults.{damage_in, reported}
use Rattle.cfs_survey.specs.Fields.{field_checks}
use Rattle.cfs_survey.proofs.ChangeLemmas.{made}
use Rattle.cfs_survey.proofs.FirstFaults.{behind_sound}
use Rattle.cfs_survey.proofs.changes.read_created.Goals as goal

pub returns-in_err-check_joining-clause-named : goal.returns-in_err-check_joining-clause-named
returns-in_err-check_joining-clause-named c =
    let r = c.from_residual-in_err-check_joining in
    let p = err_from_is_err_and r.result r.ensures.1 in
    let numbers : List Check =
    new_checks c.args.at (made c.args.nodes.now c.args.next) c.args.words.now in
    let fields : List Check = field_checks (c.args.at + 24) (node_row c.args.words.now) in
    let joining : List Check =
    joining_checks (c.args.at + 24) c.args.nodes.now (node_told c.args.words.now) in
    let f = behind_sound numbers (fields ++ joining) (sym c.in_ok-check_new.ensures.named)
    ∙ behind_sound fields joining (sym c.in_ok-node.ensures.named)
    ∙ ap (λ (node : Node). damage_of (joining_checks (c.args.at + 24) c.args.nodes.now node))
    (sym c.in_ok-node.ensures.node)
    ∙ sym c.in_err-check_joining.ensures in
    ap reported p.1 ∙ ap (λ e. Some (damage_in e)) p.2 ∙ sym f
