use Rattle.std.proofs.Common.{◌∙◌, ◌++◌, List, drop, get_or, sym, ap, ◌<◌}
use Rattle.std.proofs.lemmas.List.Elements.{All-same}
use Rattle.cfs_dir.specs.declared.node.Node.{Node}
use Rattle.cfs_dir.specs.Tree.{IsTree}
use Rattle.cfs_survey.proofs.TableLemmas.{nodes_in-records}
use Rattle.cfs_survey.proofs.WholeLemmas.{table_is_tree}
use Rattle.std.proofs.Common.{subst}
use Rattle.std.proofs.lemmas.Result.{err_from_is_err_and}
use Rattle.cfs_dir.specs.Words.{table_in}
use Rattle.cfs_image.specs.Checks.{Check, damage_of}
use Rattle.cfs_survey.specs.declared.refusal.SurveyRefusal.TheVariants.{Damaged}
use Rattle.cfs_survey.specs.Faults.{damage_in}
use Rattle.cfs_survey.specs.Places.{places_checks}
use Rattle.cfs_survey.specs.Tables.{next_checks, records_checks, row_at}
use Rattle.cfs_survey.proofs.FirstFaults.{before_others, behind_sound}
use Rattle.cfs_survey.proofs.RefusalLemmas.{refused_before, refused_behind, refused_with}
use Rattle.cfs_survey.proofs.table.read_table.Goals as goal

pub returns-in_err-check_next-clause-named : goal.returns-in_err-check_next-clause-named
returns-in_err-check_next-clause-named c =
    let r = c.from_residual in
    let p = err_from_is_err_and r.result r.ensures.1 in
    let next : List Check = next_checks c.args.at (get_or c.args.words.now 0 0) in
    let others : List Check = records_checks c.args.at c.args.words.now ++ places_checks (row_at c.args.at) (table_in c.args.words.now).nodes in
    refused_with r.result (next ++ others) p.0 (Damaged c.in_err-check_next.field-0.0) p.1 p.2
    (before_others next others (damage_in c.in_err-check_next.field-0.0) (sym c.in_err-check_next.ensures))

pub returns-in_err-nodes-clause-named : goal.returns-in_err-nodes-clause-named
returns-in_err-nodes-clause-named c =
    let r = c.from_residual-in_err-nodes in
    let p = err_from_is_err_and r.result r.ensures.1 in
    let next : List Check = next_checks c.args.at (get_or c.args.words.now 0 0) in
    let records : List Check = records_checks c.args.at c.args.words.now in
    let places : List Check = places_checks (row_at c.args.at) (table_in c.args.words.now).nodes in
    refused_with r.result (next ++ (records ++ places)) p.0 c.in_err-nodes.field-0.0 p.1 p.2
    (refused_behind next (records ++ places) c.in_err-nodes.field-0.0 (sym c.in_ok-check_next.ensures)
    (refused_before records places c.in_err-nodes.field-0.0 c.in_err-nodes.ensures.named))

pub returns-in_err-check_places-clause-named : goal.returns-in_err-check_places-clause-named
returns-in_err-check_places-clause-named c =
    let r = c.from_residual-in_err-check_places in
    let p = err_from_is_err_and r.result r.ensures.1 in
    let next : List Check = next_checks c.args.at (get_or c.args.words.now 0 0) in
    let records : List Check = records_checks c.args.at c.args.words.now in
    let places : List Check = places_checks (row_at c.args.at) (table_in c.args.words.now).nodes in
    refused_with r.result (next ++ (records ++ places)) p.0 (Damaged c.in_err-check_places.field-0.0) p.1 p.2
    (behind_sound next (records ++ places) (sym c.in_ok-check_next.ensures)
    ∙ behind_sound records places c.in_ok-nodes.ensures.sound
    ∙ ap (λ nodes. damage_of (places_checks (row_at c.args.at) nodes)) (sym (c.deref.ensures.value ∙ c.in_ok-nodes.ensures.nodes))
    ∙ sym c.in_err-check_places.ensures)

pub returns-clause-sound : goal.returns-clause-sound
returns-clause-sound c =
    let next : List Check = next_checks c.args.at (get_or c.args.words.now 0 0) in
    let records : List Check = records_checks c.args.at c.args.words.now in
    let places : List Check = places_checks (row_at c.args.at) (table_in c.args.words.now).nodes in
    behind_sound next (records ++ places) (sym c.in_ok-check_next.ensures)
    ∙ behind_sound records places c.in_ok-nodes.ensures.sound
    ∙ ap (λ nodes. damage_of (places_checks (row_at c.args.at) nodes)) (sym (c.deref.ensures.value ∙ c.in_ok-nodes.ensures.nodes))
    ∙ sym c.in_ok-check_places.ensures

pub returns-clause-records : goal.returns-clause-records
returns-clause-records c =
    All-same (λ (node : Node). node.rec < 256) c.in_ok-nodes.nodes.items (table_in c.args.words.now).nodes c.in_ok-nodes.ensures.nodes
    (nodes_in-records 256 0 (drop 1 c.args.words.now))

pub returns-clause-tree : goal.returns-clause-tree
returns-clause-tree c =
    subst (λ (nodes : List Node). IsTree nodes (get_or c.args.words.now 0 0)) (sym c.in_ok-nodes.ensures.nodes)
    (table_is_tree c.args.at c.args.words.now (returns-clause-sound c))
