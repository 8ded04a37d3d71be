use Rattle.std.proofs.Common.{◌∙◌, ap, subst}
use Rattle.cfs_plan.specs.Files.{IsRecordMap, files_of}
use Rattle.cfs_plan.specs.Lists.{dead_slots, stray_blocks}
use Rattle.cfs_plan.specs.Pendings.{pendings}
use Rattle.cfs_plan.proofs.mount.plan_lists.Goals as goal

pub returns-clause-dead : goal.returns-clause-dead
returns-clause-dead c =
    let files = files_of c.args.survey.now.tree.nodes.items in
    c.in_ok-dead.ensures files
    (subst (λ nodes. IsRecordMap (files_of nodes) c.in_ok-records.records) c.deref.ensures.value
    c.in_ok-records.ensures) ∙ ap (dead_slots files) c.deref-2.ensures.value

pub returns-clause-entries : goal.returns-clause-entries
returns-clause-entries c =
    let files = files_of c.args.survey.now.tree.nodes.items in
    c.in_ok-entries.ensures files
    (subst (λ nodes. IsRecordMap (files_of nodes) c.in_ok-records.records) c.deref.ensures.value
    c.in_ok-records.ensures) ∙ ap (pendings files) c.deref-3.ensures.value

pub returns-clause-untagged : goal.returns-clause-untagged
returns-clause-untagged c =
    let files = files_of c.args.survey.now.tree.nodes.items in
    c.in_ok-untagged.ensures files
    (subst (λ nodes. IsRecordMap (files_of nodes) c.in_ok-records.records) c.deref.ensures.value
    c.in_ok-records.ensures) ∙ ap (stray_blocks files) c.deref-4.ensures.value
