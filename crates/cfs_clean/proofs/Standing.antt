-- A mount finds the files of a clean store in it.
use Rattle.std.proofs.Common.{ℕ, ◌+◌, ◌/◌, ◌<◌, ◌≤◌, ◌≡◌, ◌∙◌, All, List, [], ◌∷◌, ◌++◌}
use Rattle.std.proofs.Common.{length, map, get_or, take, drop, sym, ap, ap₂, refl, arith, subst}
use Rattle.std.specs.Prelude.{None}
use Rattle.std.proofs.Math.ListN as lists
use Rattle.std.proofs.lemmas.List.{get_or-drop, get_or-map, get_or-take, length-drop, length-map}
use Rattle.std.proofs.lemmas.List.{length-take-le}
use Rattle.std.proofs.lemmas.List.Elements.{All-head, All-tail}
use Rattle.cfs_pmem.specs.Images.{IsImage, IsSure, Seen, WordStep, words_of}
use Rattle.cfs_pmem.specs.Objects.{IsEachImage}
use Rattle.cfs_block.specs.BlockImages.{BlockStep, Content, IsBlockImage, IsSureBlock, content_of}
use Rattle.cfs_dir.specs.declared.node.Node.{Node}
use Rattle.cfs_home.specs.Calls.{AreWordsOf}
use Rattle.cfs_image.specs.Checks.{Check, damage_of}
use Rattle.cfs_image.specs.Layout.{block_at, queues_of, size_at, slot_at}
use Rattle.cfs_image.specs.Store.{IsStore}
use Rattle.cfs_plan.specs.Readings.{AreReadOf}
use Rattle.cfs_plan.proofs.Listed.{Reads}
use Rattle.cfs_plan.proofs.Ready.{are-ready}
use Rattle.cfs_plan.proofs.Told.{AreSound}
use Rattle.cfs_plan.proofs.TreeFiles.{are-files}
use Rattle.cfs_replay.specs.Plans.{disk_in}
use Rattle.cfs_replay.specs.Reading.{words_at}
use Rattle.cfs_restore.proofs.Stores.{are-read}
use Rattle.cfs_store_words.specs.Held.{words_held}
use Rattle.cfs_store_words.specs.Rows.{first_word, rows_from}
use Rattle.cfs_store_words.proofs.Distinct.{store-distinct}
use Rattle.cfs_survey.proofs.FirstFaults.{sound_parts}
use Rattle.cfs_survey.specs.Sizes.{sizes_checks}
use Rattle.cfs_survey.specs.Slots.{slots_checks}
use Rattle.cfs_survey.specs.Surveys.{Words, is_mapped, namespace_checks, recovered_tree}
use Rattle.cfs_survey.specs.Surveys.{survey_checks}
use Rattle.cfs_survey.specs.Tags.{tags_checks}
use Rattle.cfs_clean.specs.Laws.{CleanStoresStand}

-- ---- a crash leaves one disk alone

words-alone : (regions : List (Seen WordStep)) → All IsSure regions → (images : List (List ℕ)) →
    IsEachImage IsImage regions images → images ≡ map words_of regions
words-alone [] sure [] each = refl
words-alone [] sure (image ∷ images) each = absurd each
words-alone (seen ∷ rest) sure [] each = absurd each
words-alone (seen ∷ rest) sure (image ∷ images) each =
    ap₂ (λ (row : List ℕ) (rows : List (List ℕ)). row ∷ rows)
    (All-head IsSure seen rest sure image each.0)
    (words-alone rest (All-tail IsSure seen rest sure) images each.1)

contents-alone : (blocks : List (Seen BlockStep)) → All IsSureBlock blocks →
    (contents : List Content) → IsEachImage IsBlockImage blocks contents →
    contents ≡ map content_of blocks
contents-alone [] sure [] each = refl
contents-alone [] sure (image ∷ images) each = absurd each
contents-alone (seen ∷ rest) sure [] each = absurd each
contents-alone (seen ∷ rest) sure (image ∷ images) each =
    ap₂ (λ (content : Content) (contents : List Content). content ∷ contents)
    (All-head IsSureBlock seen rest sure image each.0)
    (contents-alone rest (All-tail IsSureBlock seen rest sure) images each.1)

-- ---- all of it

sound-words : (words : Words) → damage_of (survey_checks words) ≡ None →
    AreSound words (recovered_tree words).nodes
unfolding survey_checks
sound-words words sound =
    let nodes : List Node = (recovered_tree words).nodes in
    let sizes : List Check = sizes_checks (size_at 0) words.sizes nodes in
    let tags : List Check =
    tags_checks (block_at (length words.slots / 16) 0) nodes words.tags in
    let slots : List Check = slots_checks (slot_at 0) nodes (is_mapped words.tags) words.slots in
    let first = sound_parts (namespace_checks words) (sizes ++ (tags ++ slots)) sound in
    let second = sound_parts sizes (tags ++ slots) first.1 in
    let third = sound_parts tags slots second.1 in
    record { sizes = second.0; tags = third.0; slots = third.1 }

pub clean-stands : CleanStoresStand
clean-stands regions blocks numbers sure clean =
    let words : Words = words_held regions blocks in
    let nodes : List Node = (recovered_tree words).nodes in
    let next : ℕ = (recovered_tree words).next in
    let reads : Reads words nodes next regions blocks = record {
      tree = clean.tree;
      sound = sound-words words clean.sound;
      read = are-read sure.store words refl;
    } in
    record {
      are = are-files nodes next clean.tree;
      stay = record {
        front = refl;
        each = λ file among. record {
          recovers = refl;
          ready = are-ready words nodes next regions blocks reads clean.past file among;
        };
      };
      words = λ images each. subst (AreWordsOf (disk_in regions blocks))
          (sym (words-alone regions sure.sure images each))
          record { front = refl; sizes = λ node. refl; slots = refl };
      blocks_are = λ contents each. contents-alone blocks sure.blocks_sure contents each;
      distinct = store-distinct sure.store sure.alone sure.blocks_alone;
    }
