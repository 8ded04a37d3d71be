use Rattle.std.proofs.Common.{◌≡◌, ◌-◌, ◌∙◌, suc, false, sym, ap, arith}
use Rattle.std.specs.Option.{option_map_or}
use Rattle.cfs_dir.specs.Tree.{leads_to_root}
use Rattle.cfs_survey.proofs.RootLemmas.{at_root, no_step_left, one_step}
use Rattle.cfs_survey.proofs.places.+leads_to_root.Goals as goal

pub returns-then-ino-eq1 : goal.returns-then-ino-eq1
returns-then-ino-eq1 t c = sym (at_root c.args.steps c.args.nodes.now c.args.ino c.if-ino-eq1.true)

pub returns-then-steps-eq0 : goal.returns-then-steps-eq0
returns-then-steps-eq0 t c = sym (no_step_left c.args.steps c.args.nodes.now c.args.ino c.if-steps-eq0.true c.if-ino-eq1.false)

pub returns-in-Some : goal.returns-in-Some
returns-in-Some t c =
    let more : c.args.steps ≡ suc (c.args.steps - 1) = omega arith in
    let step = one_step c.args.steps (c.args.steps - 1) c.args.nodes.now c.args.ino more c.if-ino-eq1.false in
    c.leads_to_root.ensures ∙ ap (λ found. option_map_or (λ node. leads_to_root (c.args.steps - 1) c.args.nodes.now node.parent) found false) c.in-Some.ensures ∙ sym step

pub returns-in-None : goal.returns-in-None
returns-in-None t c =
    let more : c.args.steps ≡ suc (c.args.steps - 1) = omega arith in
    let step = one_step c.args.steps (c.args.steps - 1) c.args.nodes.now c.args.ino more c.if-ino-eq1.false in
    ap (λ found. option_map_or (λ node. leads_to_root (c.args.steps - 1) c.args.nodes.now node.parent) found false) c.in-None.ensures ∙ sym step
