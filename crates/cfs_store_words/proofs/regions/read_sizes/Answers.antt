use Rattle.std.proofs.Common.{ℕ, ◌+◌, ◌∙◌, List, [], ◌∷◌, ◌++◌, map, ap, refl, arith, sym}
use Rattle.std.proofs.lemmas.List.{length-map}
use Rattle.cfs_pmem.specs.Images.{IsImage, Seen, WordStep}
use Rattle.cfs_store_words.specs.Rows.{first_word, row_at, rows_from}
use Rattle.cfs_store_words.proofs.Calls.{lacked, leaves-after, went-well}
use Rattle.cfs_store_words.proofs.Lists.{row-more}
use Rattle.cfs_store_words.proofs.regions.read_sizes.Goals as goal

pub returns-in_err-sizes-clause-cause : goal.returns-in_err-sizes-clause-cause
returns-in_err-sizes-clause-cause g c = lacked _ _ _ c.from_residual.ensures.1 refl

pub returns-in_err-size-clause-leaves : goal.returns-in_err-size-clause-leaves
returns-in_err-size-clause-leaves g c =
    leaves-after IsImage c.loop-k.invariant.leaves c.read_word.ensures.leaves

pub returns-in_err-push-clause-leaves : goal.returns-in_err-push-clause-leaves
returns-in_err-push-clause-leaves g c =
    leaves-after IsImage c.loop-k.invariant.leaves c.read_word.ensures.leaves

pub loop-k-preserved : goal.loop-k-preserved
loop-k-preserved g c =
    let inv = c.loop-k.invariant in
    let olds : List (Seen WordStep) = map g.R.Region.seen c.args.regions.now in
    record {
      leaves = leaves-after IsImage inv.leaves c.read_word.ensures.leaves;
      counts = c.in_ok-size.ensures.cause.passed ∙ inv.counts;
      sizes = c.in_ok-push.ensures.items
          ∙ (ap (λ (sizes : List ℕ). sizes ++ c.in_ok-size.size ∷ []) inv.sizes
          ∙ (ap (λ (size : ℕ). map first_word (rows_from 67 c.loop-k.k olds) ++ size ∷ [])
          (c.in_ok-size.ensures.word
          ∙ ap (λ (seens : List (Seen WordStep)). first_word (row_at seens (67 + c.loop-k.k)))
          inv.leaves.same)
          ∙ sym (row-more first_word olds 67 c.loop-k.k
          (omega (
            arith,
            c.loop-k-test.true,
            c.requires.places,
            length-map c.args.regions.now g.R.Region.seen,
          )))));
    }

pub returns-clause-cause : goal.returns-clause-cause
returns-clause-cause g c = went-well _ _ _ c.loop-k.invariant.counts
