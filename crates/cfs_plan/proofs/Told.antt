-- What a sound survey tells of a store's words.
use Rattle.std.proofs.Common.{◌≡◌, ◌/◌, List, ◌++◌, length, sym, ap, subst}
use Rattle.std.specs.Prelude.{None}
use Rattle.cfs_dir.specs.declared.node.Node.{Node}
use Rattle.cfs_dir.specs.Namespace.{Namespace}
use Rattle.cfs_image.specs.Checks.{Check, damage_of}
use Rattle.cfs_image.specs.Layout.{block_at, size_at}
use Rattle.cfs_image.specs.Layout.{slot_at as first_slot_at}
use Rattle.cfs_survey.specs.declared.survey.Survey.{Survey}
use Rattle.cfs_survey.specs.Sizes.{sizes_checks}
use Rattle.cfs_survey.specs.Slots.{slots_checks}
use Rattle.cfs_survey.specs.Surveys.{Words, is_mapped, namespace_checks, recovered_tree}
use Rattle.cfs_survey.specs.Surveys.{survey_checks}
use Rattle.cfs_survey.specs.Tags.{tags_checks}
use Rattle.cfs_survey.proofs.FirstFaults.{sound_parts}
use Rattle.cfs_plan.specs.Readings.{IsSurveyOf}

-- sizes, tags and slots pass their checks, wherever these stand in an image
pub record AreSound (words : Words) (nodes : List Node) : Type 0 where
  pub sizes : damage_of (sizes_checks (size_at 0) words.sizes nodes) ≡ None
  pub tags : damage_of (tags_checks (block_at (length words.slots / 16) 0) nodes words.tags) ≡ None
  pub slots : damage_of (slots_checks (first_slot_at 0) nodes (is_mapped words.tags) words.slots)
      ≡ None

sound-words : (words : Words) → damage_of (survey_checks words) ≡ None →
    AreSound words (recovered_tree words).nodes
unfolding survey_checks
sound-words words sound =
    let nodes : List Node = (recovered_tree words).nodes in
    let sizes : List Check = sizes_checks (size_at 0) words.sizes nodes in
    let tags : List Check =
    tags_checks (block_at (length words.slots / 16) 0) nodes words.tags in
    let slots : List Check =
    slots_checks (first_slot_at 0) nodes (is_mapped words.tags) words.slots in
    let first = sound_parts (namespace_checks words) (sizes ++ (tags ++ slots)) sound in
    let second = sound_parts sizes (tags ++ slots) first.1 in
    let third = sound_parts tags slots second.1 in
    record { sizes = second.0; tags = third.0; slots = third.1 }

pub are-sound : (words : Words) (survey : Survey) → damage_of (survey_checks words) ≡ None →
    IsSurveyOf words survey → AreSound words survey.tree.nodes.items
are-sound words survey sound told =
    subst (AreSound words) (sym (ap (λ (tree : Namespace). tree.nodes) told.tree))
    (sound-words words sound)
