use Rattle.std.proofs.Common.{ℕ, ◌∙◌, List, [], ◌∷◌, ◌++◌, map, take, ap, refl, arith, sym}
use Rattle.std.proofs.lemmas.List.{length-map}
use Rattle.cfs_pmem.specs.Images.{Seen}
use Rattle.cfs_block.specs.BlockImages.{BlockStep, IsBlockImage}
use Rattle.cfs_store_words.specs.Rows.{tag_at, tag_in}
use Rattle.cfs_store_words.proofs.Calls.{lacked, leaves-after, went-well}
use Rattle.cfs_store_words.proofs.Lists.{tag-more}
use Rattle.cfs_store_words.proofs.blocks.read_tags.Goals as goal

pub returns-in_err-tags-clause-cause : goal.returns-in_err-tags-clause-cause
returns-in_err-tags-clause-cause g c = lacked _ _ _ c.from_residual.ensures.1 refl

pub returns-in_err-tag-clause-leaves : goal.returns-in_err-tag-clause-leaves
returns-in_err-tag-clause-leaves g c =
    leaves-after IsBlockImage c.loop-place.invariant.leaves c.read_tag.ensures.leaves

pub returns-in_err-push-clause-leaves : goal.returns-in_err-push-clause-leaves
returns-in_err-push-clause-leaves g c =
    leaves-after IsBlockImage c.loop-place.invariant.leaves c.read_tag.ensures.leaves

pub loop-place-preserved : goal.loop-place-preserved
loop-place-preserved g c =
    let inv = c.loop-place.invariant in
    let olds : List (Seen BlockStep) = map g.B.Block.seen c.args.blocks.now in
    record {
      leaves = leaves-after IsBlockImage inv.leaves c.read_tag.ensures.leaves;
      counts = c.in_ok-tag.ensures.cause.passed ∙ inv.counts;
      numbers = c.read_tag.ensures.numbers ∙ inv.numbers;
      tags = c.in_ok-push.ensures.items
          ∙ (ap (λ (tags : List ℕ). tags ++ c.in_ok-tag.tag ∷ []) inv.tags
          ∙ (ap (λ (tag : ℕ). map tag_in (take c.loop-place.place olds) ++ tag ∷ [])
          (c.in_ok-tag.ensures.tag
          ∙ ap (λ (seens : List (Seen BlockStep)). tag_at seens c.loop-place.place)
          inv.leaves.same)
          ∙ sym (tag-more olds c.loop-place.place
          (omega (
            arith,
            c.loop-place-test.true,
            length-map c.args.blocks.now g.B.Block.seen,
          )))));
    }

pub returns-clause-cause : goal.returns-clause-cause
returns-clause-cause g c = went-well _ _ _ c.loop-place.invariant.counts
