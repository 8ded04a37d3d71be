use Rattle.std.proofs.Common.{arith, length}
use Rattle.std.specs.Prelude.{All}
use Rattle.cfs_plan.specs.Mounts.{OnDevicesOf}
use Rattle.cfs_plan.specs.Readings.{files_in}
use Rattle.cfs_plan.proofs.Plans.{is-plan-for, is-within, made-ok}
use Rattle.cfs_plan.proofs.Ready.{are-ready, can-all}
use Rattle.cfs_plan.proofs.Told.{are-sound}
use Rattle.cfs_plan.proofs.TreeFiles.{are-files}
use Rattle.cfs_replay.specs.Entries.{CanReplay}
use Rattle.cfs_replay.specs.Pieces.{tags_in}
use Rattle.cfs_replay.specs.Plans.{IsPlanFor, IsWithin, disk_in}
use Rattle.cfs_survey.specs.Surveys.{words_of}
use Rattle.cfs_plan.proofs.mount.plan_mount.Goals as goal

pub plan_lists-requires : goal.plan_lists-requires
plan_lists-requires c = λ k d below.
    omega (arith, c.requires.told.stands.records k d below, c.requires.whole.sizes)

pub returns-clause-files : goal.returns-clause-files
returns-clause-files c =
    are-files c.args.survey.now.tree.nodes.items c.args.survey.now.tree.next c.requires.told.stands

pub returns-clause-within : goal.returns-clause-within
returns-clause-within c =
    let words = words_of c.args.words.now in
    let nodes = c.args.survey.now.tree.nodes.items in
    made-ok words nodes c.args.survey.now.entries.items c.plan_lists.result
    (λ plan. OnDevicesOf words (λ regions blocks. IsWithin plan (length regions) (length blocks)))
    c.plan_lists.ensures.dead c.plan_lists.ensures.entries c.plan_lists.ensures.untagged
    c.plan_lists.ensures.emptied c.requires.told.entries
    (λ plan is regions blocks read.
    is-within words nodes regions blocks plan read c.requires.whole.sizes is)

pub returns-clause-plan : goal.returns-clause-plan
returns-clause-plan c =
    let words = words_of c.args.words.now in
    let survey = c.args.survey.now in
    let nodes = survey.tree.nodes.items in
    made-ok words nodes survey.entries.items c.plan_lists.result
    (λ plan. OnDevicesOf words (λ regions blocks.
    IsPlanFor (files_in survey) (disk_in regions blocks) plan))
    c.plan_lists.ensures.dead c.plan_lists.ensures.entries c.plan_lists.ensures.untagged
    c.plan_lists.ensures.emptied c.requires.told.entries
    (λ plan is regions blocks read.
    is-plan-for words nodes survey.tree.next regions blocks plan
    (record {
      tree = c.requires.told.stands;
      sound = are-sound words survey c.requires.sound c.requires.told;
      read = read;
    }) c.requires.whole.sizes is)

pub returns-clause-can : goal.returns-clause-can
returns-clause-can c =
    let words = words_of c.args.words.now in
    let survey = c.args.survey.now in
    let nodes = survey.tree.nodes.items in
    made-ok words nodes survey.entries.items c.plan_lists.result
    (λ plan. OnDevicesOf words (λ regions blocks.
    All (CanReplay survey.blocks (tags_in blocks) regions) plan.entries.items))
    c.plan_lists.ensures.dead c.plan_lists.ensures.entries c.plan_lists.ensures.untagged
    c.plan_lists.ensures.emptied c.requires.told.entries
    (λ plan is regions blocks read.
    can-all words nodes survey.tree.next regions blocks survey.blocks plan.entries.items
    (record {
      tree = c.requires.told.stands;
      sound = are-sound words survey c.requires.sound c.requires.told;
      read = read;
    }) c.requires.whole c.requires.told.blocks is.entries)

pub returns-clause-ready : goal.returns-clause-ready
returns-clause-ready c = λ regions blocks read nothing.
    are-ready (words_of c.args.words.now) c.args.survey.now.tree.nodes.items
    c.args.survey.now.tree.next regions blocks
    (record {
      tree = c.requires.told.stands;
      sound = are-sound (words_of c.args.words.now) c.args.survey.now c.requires.sound
          c.requires.told;
      read = read;
    }) nothing
