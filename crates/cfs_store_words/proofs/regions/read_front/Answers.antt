use Rattle.std.proofs.Common.{◌∙◌, ◌<◌, List, get_or, length, map, ap, arith}
use Rattle.std.proofs.lemmas.List.{length-set}
use Rattle.cfs_pmem.specs.Images.{IsImage, Seen, WordStep}
use Rattle.cfs_store_words.specs.Rows.{row_at}
use Rattle.cfs_store_words.proofs.Calls.{leaves-after, same-cause}
use Rattle.cfs_store_words.proofs.Lists.{front-more}
use Rattle.cfs_store_words.proofs.regions.read_front.Goals as goal

pub returns-in_err-words-clause-leaves : goal.returns-in_err-words-clause-leaves
returns-in_err-words-clause-leaves g c =
    leaves-after IsImage c.loop-at.invariant.leaves c.read_word.ensures.leaves

pub loop-at-preserved : goal.loop-at-preserved
loop-at-preserved g c =
    let inv = c.loop-at.invariant in
    let olds : List (Seen WordStep) = map g.R.Region.seen c.args.regions.now in
    let less : c.loop-at.at < length c.loop-at.words = omega (
      arith,
      c.loop-at-test.true,
      inv.size,
    ) in
    record {
      leaves = leaves-after IsImage inv.leaves c.read_word.ensures.leaves;
      counts = c.in_ok-words.ensures.cause.passed ∙ inv.counts;
      size = length-set c.loop-at.words c.loop-at.at c.in_ok-words.field-0 ∙ inv.size;
      read = front-more c.loop-at.words (row_at olds c.args.place) c.loop-at.at
          c.in_ok-words.field-0 less (omega (arith, less, inv.size, c.requires.within)) inv.read
          (c.in_ok-words.ensures.word
          ∙ ap (λ (seens : List (Seen WordStep)).
          get_or (row_at seens c.args.place) c.loop-at.at 0) inv.leaves.same);
    }

pub returns-clause-cause : goal.returns-clause-cause
returns-clause-cause g c = same-cause _ _ tt c.loop-at.invariant.counts
