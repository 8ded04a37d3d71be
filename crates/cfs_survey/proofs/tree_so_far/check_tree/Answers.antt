use Rattle.std.proofs.Common.{◌∙◌, Some, get_or, sym, ap, arith}
use Rattle.std.specs.List.{flat_map}
use Rattle.std.proofs.lemmas.List.{take_all}
use Rattle.std.proofs.lemmas.Result.{err_from_is_err_and}
use Rattle.cfs_dir.specs.declared.node.Node.{Node}
use Rattle.cfs_image.specs.Checks.{damage_of}
use Rattle.cfs_survey.specs.Faults.{damage_in, reported}
use Rattle.cfs_survey.specs.Places.{place_checks, places_checks}
use Rattle.cfs_survey.proofs.FirstFaults.{fails_taken, sound_taken}
use Rattle.cfs_survey.proofs.tree_so_far.check_tree.Goals as goal

pub returns-in_err-check_node : goal.returns-in_err-check_node
unfolding places_checks
returns-in_err-check_node c =
    let each =
    λ (node : Node). place_checks (get_or c.args.places.now node.rec 0) c.args.nodes.now node in
    let p = err_from_is_err_and c.from_residual.result c.from_residual.ensures.1 in
    let f = fails_taken each c.args.nodes.now c.loop-node.node-index c.node-item.result
    (damage_in c.in_err-check_node.field-0.0) c.loop-node-test.true c.loop-node.invariant
    (ap (λ node. damage_of (each node)) (sym c.node-item.is) ∙ sym c.in_err-check_node.ensures) in
    ap reported p.1 ∙ ap (λ e. Some (damage_in e)) p.2 ∙ sym f

pub loop-node-preserved : goal.loop-node-preserved
loop-node-preserved c =
    let each =
    λ (node : Node). place_checks (get_or c.args.places.now node.rec 0) c.args.nodes.now node in
    sound_taken each c.args.nodes.now c.loop-node.node-index c.node-item.result
    c.loop-node-test.true c.loop-node.invariant
    (ap (λ node. damage_of (each node)) (sym c.node-item.is) ∙ sym c.in_ok-check_node.ensures)

pub returns : goal.returns
unfolding places_checks
returns c =
    let each =
    λ (node : Node). place_checks (get_or c.args.places.now node.rec 0) c.args.nodes.now node in
    let all = take_all c.loop-node.node-index c.args.nodes.now (omega arith) in
    sym (ap (λ xs. damage_of (flat_map each xs)) (sym all) ∙ c.loop-node.invariant)
