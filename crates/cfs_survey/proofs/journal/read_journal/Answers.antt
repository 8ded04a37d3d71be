use Rattle.std.proofs.Common.{◌≡◌, ◌∙◌, ◌+◌, ◌++◌, List, ℕ, sym, ap, subst}
use Rattle.std.proofs.lemmas.Result.{err_from_is_err_and}
use Rattle.cfs_dir.specs.Namespace.{Namespace}
use Rattle.cfs_image.specs.Checks.{Check, damage_of}
use Rattle.cfs_survey.specs.declared.refusal.SurveyRefusal.TheVariants.{Damaged}
use Rattle.cfs_survey.specs.Journals.{changes_checks, gates_checks, last_reached, reached}
use Rattle.cfs_survey.specs.Journals.{table_places}
use Rattle.cfs_survey.specs.Refusals.{Refuses}
use Rattle.cfs_survey.proofs.FirstFaults.{behind_sound}
use Rattle.cfs_survey.proofs.RefusalLemmas.{refused_before, refused_with}
use Rattle.cfs_survey.proofs.journal.read_journal.Goals as goal

pub returns-in_err-changes-clause-named : goal.returns-in_err-changes-clause-named
returns-in_err-changes-clause-named c =
    let r = c.from_residual-in_err-changes in
    let p = err_from_is_err_and r.result r.ensures.1 in
    let table : Namespace = record { nodes = c.args.nodes.items; next = c.args.next } in
    let through_reached : List (List ℕ) = reached c.args.through c.args.journal.now in
    let changes : List Check =
    changes_checks c.args.at c.args.through table (table_places c.args.table_at)
    through_reached in
    let gates : List Check =
    gates_checks c.args.at c.args.journal.now
    (last_reached c.args.through c.args.journal.now) in
    let refusal = c.in_err-changes.field-0.0 in
    refused_with r.result (changes ++ gates) p.0 refusal p.1 p.2
    (refused_before changes gates refusal
    (subst (λ (places : List ℕ). Refuses
    (changes_checks c.args.at c.args.through table places through_reached) refusal)
    c.in_ok-places.ensures c.in_err-changes.ensures.named))

pub returns-in_err-check_gates-clause-named : goal.returns-in_err-check_gates-clause-named
returns-in_err-check_gates-clause-named c =
    let r = c.from_residual-in_err-check_gates in
    let p = err_from_is_err_and r.result r.ensures.1 in
    let table : Namespace = record { nodes = c.args.nodes.items; next = c.args.next } in
    let through_reached : List (List ℕ) = reached c.args.through c.args.journal.now in
    let changes : List Check =
    changes_checks c.args.at c.args.through table (table_places c.args.table_at)
    through_reached in
    let gates : List Check =
    gates_checks c.args.at c.args.journal.now
    (last_reached c.args.through c.args.journal.now) in
    refused_with r.result (changes ++ gates) p.0 (Damaged c.in_err-check_gates.field-0.0) p.1 p.2
    (behind_sound changes gates
    (subst (λ (places : List ℕ). damage_of
    (changes_checks c.args.at c.args.through table places through_reached) ≡ _)
    c.in_ok-places.ensures c.in_ok-changes.ensures.sound)
    ∙ ap (λ n. damage_of (gates_checks c.args.at c.args.journal.now (c.args.through + n)))
    (sym c.count_reached-count.ensures.count)
    ∙ sym c.in_err-check_gates.ensures)

pub returns-clause-sound : goal.returns-clause-sound
returns-clause-sound c =
    let table : Namespace = record { nodes = c.args.nodes.items; next = c.args.next } in
    let through_reached : List (List ℕ) = reached c.args.through c.args.journal.now in
    let changes : List Check =
    changes_checks c.args.at c.args.through table (table_places c.args.table_at)
    through_reached in
    let gates : List Check =
    gates_checks c.args.at c.args.journal.now
    (last_reached c.args.through c.args.journal.now) in
    behind_sound changes gates
    (subst (λ (places : List ℕ). damage_of
    (changes_checks c.args.at c.args.through table places through_reached) ≡ _)
    c.in_ok-places.ensures c.in_ok-changes.ensures.sound)
    ∙ ap (λ n. damage_of (gates_checks c.args.at c.args.journal.now (c.args.through + n)))
    (sym c.count_reached-count.ensures.count)
    ∙ sym c.in_ok-check_gates.ensures
