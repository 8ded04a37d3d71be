use Rattle.std.proofs.Common.{◌≡◌, ◌∙◌, ℕ, List, sym, ap, ap₂, length}
use Rattle.std.specs.Prelude.{is_some, nat_eq}
use Rattle.std.specs.HashMap.{get}
use Rattle.cfs_dir.specs.declared.node.Node.{Node}
use Rattle.cfs_image.specs.Checks.{damage_of}
use Rattle.cfs_survey.specs.Mapped.{BlockMap, IsBlockMap}
use Rattle.cfs_survey.specs.Slots.{slots_checks}
use Rattle.cfs_survey.specs.Surveys.{is_mapped}
use Rattle.cfs_survey.proofs.MappedLemmas.{slots_same}
use Rattle.cfs_survey.proofs.NameLemmas.{on_ok}
use Rattle.cfs_survey.proofs.RefusalLemmas.{refused_same}
use Rattle.cfs_survey.proofs.survey.read_entries.Goals as goal

-- the map answers as the tags do
same : (nodes : List Node) (tags : List ℕ) (blocks : BlockMap) (at due : ℕ)
    (slots all : List (List ℕ)) → IsBlockMap nodes tags (length tags) blocks → at ≡ due →
    slots ≡ all
    → damage_of (slots_checks at nodes (λ tag. is_some (get nat_eq blocks tag)) slots)
    ≡ damage_of (slots_checks due nodes (is_mapped tags) all)
same nodes tags blocks at due slots all found here whole =
    slots_same at nodes (λ tag. is_some (get nat_eq blocks tag)) (is_mapped tags) slots
    (record { answers = λ tag file. ap is_some (found tag file) })
    ∙ ap₂ (λ a s. damage_of (slots_checks a nodes (is_mapped tags) s)) here whole

pub returns-clause-sound : goal.returns-clause-sound
returns-clause-sound c =
    let e = same c.args.nodes.now c.args.words.now.tags.items c.args.blocks.now c.region_at.result
    59448 c.deref.result.now c.args.words.now.slots.items c.requires.blocks c.region_at.ensures
    c.deref.ensures.value in
    on_ok c.read_slots.result _ _ (λ sound. sym e ∙ sound) c.read_slots.ensures.sound

pub returns-clause-named : goal.returns-clause-named
returns-clause-named c =
    refused_same
    (slots_checks c.region_at.result c.args.nodes.now
    (λ tag. is_some (get nat_eq c.args.blocks.now tag)) c.deref.result.now)
    (slots_checks 59448 c.args.nodes.now (is_mapped c.args.words.now.tags.items)
    c.args.words.now.slots.items) c.read_slots.result
    (same c.args.nodes.now c.args.words.now.tags.items c.args.blocks.now c.region_at.result
    59448 c.deref.result.now c.args.words.now.slots.items c.requires.blocks c.region_at.ensures
    c.deref.ensures.value)
    c.read_slots.ensures.named
