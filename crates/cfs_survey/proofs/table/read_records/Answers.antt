use Rattle.std.proofs.Common.{◌≡◌, ◌∙◌, ◌+◌, ◌-◌, ◌++◌, ◌∷◌, [], List, sym, ap, arith}
use Rattle.std.proofs.lemmas.Result.{err_from_is_err_and}
use Rattle.std.specs.Option.{option_to_list}
use Rattle.cfs_image.specs.Checks.{Check, damage_of}
use Rattle.cfs_survey.specs.declared.refusal.SurveyRefusal.TheVariants.{Damaged}
use Rattle.cfs_survey.specs.Faults.{checks_from, damage_in}
use Rattle.cfs_survey.specs.Fields.{root_checks}
use Rattle.cfs_survey.specs.Tables.{nodes_below, record_checks, records_checks, row, row_at}
use Rattle.cfs_survey.proofs.FirstFaults.{before_others, behind_sound, fails_at, none_yet, sound_more}
use Rattle.cfs_survey.proofs.RefusalLemmas.{refused_with}
use Rattle.cfs_survey.proofs.TableLemmas.{below_first, below_next}
use Rattle.cfs_survey.proofs.table.read_records.Goals as goal

pub returns-in_err-read_first-clause-named : goal.returns-in_err-read_first-clause-named
unfolding records_checks
returns-in_err-read_first-clause-named c =
    let r = c.from_residual-in_err-read_first in
    let p = err_from_is_err_and r.result r.ensures.1 in
    let root : List Check = root_checks (row_at c.args.at 0) (row c.args.words.now 0) in
    let others : List Check = checks_from (record_checks c.args.at c.args.words.now) 1 255 in
    refused_with r.result (root ++ others) p.0 (Damaged c.in_err-read_first.field-0.0) p.1 p.2
    (before_others root others (damage_in c.in_err-read_first.field-0.0) (sym c.in_err-read_first.ensures.named))

pub loop-rec-init : goal.loop-rec-init
loop-rec-init c =
    let node = c.in_ok-read_first.ensures.node in
    record {
      root = sym c.in_ok-read_first.ensures.named;
      sound = none_yet (record_checks c.args.at c.args.words.now) 1;
      nodes = c.in_ok-push.ensures.items
          ∙ ap (λ xs. xs ++ c.in_ok-read_first.field-0 ∷ []) c.in_ok-nodes.ensures.items
          ∙ ap (λ x. x ∷ []) node
          ∙ sym (below_first c.args.words.now (sym (ap (λ x. x.ino) node) ∙ c.in_ok-read_first.ensures.root));
    }

pub returns-in_err-node-clause-named : goal.returns-in_err-node-clause-named
unfolding records_checks
returns-in_err-node-clause-named c =
    let r = c.from_residual-in_err-node in
    let p = err_from_is_err_and r.result r.ensures.1 in
    let each = record_checks c.args.at c.args.words.now in
    let root : List Check = root_checks (row_at c.args.at 0) (row c.args.words.now 0) in
    let others : List Check = checks_from each 1 255 in
    refused_with r.result (root ++ others) p.0 (Damaged c.in_err-node.field-0.0) p.1 p.2
    (behind_sound root others c.loop-rec.invariant.root
    ∙ fails_at each 1 (c.loop-rec.rec - 1) 255 c.loop-rec.rec (damage_in c.in_err-node.field-0.0) (omega arith) (omega arith) c.loop-rec.invariant.sound (sym c.in_err-node.ensures.named))

pub loop-rec-preserved : goal.loop-rec-preserved
loop-rec-preserved c =
    let each = record_checks c.args.at c.args.words.now in
    let more : c.loop-rec.rec + 1 - 1 ≡ c.loop-rec.rec - 1 + 1 = omega arith in
    record {
      root = c.loop-rec.invariant.root;
      sound = ap (λ n. damage_of (checks_from each 1 n)) more
          ∙ sound_more each 1 (c.loop-rec.rec - 1) c.loop-rec.rec (omega arith) c.loop-rec.invariant.sound (sym c.in_ok-node.ensures.named);
      nodes = c.in_ok-push_some.ensures
          ∙ ap (λ xs. xs ++ option_to_list c.in_ok-node.node) c.loop-rec.invariant.nodes
          ∙ ap (λ ys. nodes_below c.args.words.now c.loop-rec.rec ++ ys) c.in_ok-node.ensures.node
          ∙ sym (below_next c.args.words.now c.loop-rec.rec);
    }

pub returns-clause-sound : goal.returns-clause-sound
unfolding records_checks
returns-clause-sound c =
    let each = record_checks c.args.at c.args.words.now in
    let all : c.loop-rec.rec - 1 ≡ 255 = omega arith in
    behind_sound (root_checks (row_at c.args.at 0) (row c.args.words.now 0)) (checks_from each 1 255) c.loop-rec.invariant.root
    ∙ ap (λ n. damage_of (checks_from each 1 n)) (sym all) ∙ c.loop-rec.invariant.sound
