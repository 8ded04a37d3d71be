use Rattle.std.proofs.Common.{ℕ, ◌+◌, ◌≡◌, ◌∙◌, List, [], ◌∷◌, ◌++◌, map, take, ap, refl}
use Rattle.std.proofs.Common.{arith, sym}
use Rattle.std.proofs.lemmas.List.{length-map, length-replicate}
use Rattle.cfs_pmem.specs.Images.{IsImage, Seen, WordStep}
use Rattle.cfs_store_words.specs.Rows.{row_at, rows_from}
use Rattle.cfs_store_words.proofs.Calls.{lacked, leaves-after, went-well}
use Rattle.cfs_store_words.proofs.Lists.{row-more}
use Rattle.cfs_store_words.proofs.regions.read_fronts.Goals as goal

pub returns-in_err-rows-clause-cause : goal.returns-in_err-rows-clause-cause
returns-in_err-rows-clause-cause g c = lacked _ _ _ c.from_residual.ensures.1 refl

pub returns-in_err-read_front-clause-leaves : goal.returns-in_err-read_front-clause-leaves
returns-in_err-read_front-clause-leaves g c =
    leaves-after IsImage c.loop-k.invariant.leaves c.read_front.ensures.leaves

pub returns-in_err-push-clause-leaves : goal.returns-in_err-push-clause-leaves
returns-in_err-push-clause-leaves g c =
    leaves-after IsImage c.loop-k.invariant.leaves c.read_front.ensures.leaves

pub loop-k-preserved : goal.loop-k-preserved
loop-k-preserved g c =
    let inv = c.loop-k.invariant in
    let olds : List (Seen WordStep) = map g.R.Region.seen c.args.regions.now in
    let place : ℕ = c.args.first + c.loop-k.k in
    let front : c.read_front.new.words ≡ take g.row.N (row_at olds place) =
    c.in_ok-read_front.ensures.words
    ∙ (ap (λ (n : ℕ). take n (row_at (map g.R.Region.seen c.loop-k.regions) place))
    (length-replicate g.row.N 0)
    ∙ ap (λ (seens : List (Seen WordStep)). take g.row.N (row_at seens place))
    inv.leaves.same) in
    record {
      leaves = leaves-after IsImage inv.leaves c.read_front.ensures.leaves;
      counts = c.in_ok-read_front.ensures.cause.passed ∙ inv.counts;
      rows = c.in_ok-push.ensures.items
          ∙ (ap (λ (rows : List (List ℕ)). rows ++ c.read_front.new.words ∷ []) inv.rows
          ∙ (ap (λ (row : List ℕ).
          map (take g.row.N) (rows_from c.args.first c.loop-k.k olds) ++ row ∷ []) front
          ∙ sym (row-more (take g.row.N) olds c.args.first c.loop-k.k
          (omega (
            arith,
            c.loop-k-test.true,
            c.requires.places,
            length-map c.args.regions.now g.R.Region.seen,
          )))));
    }

pub returns-clause-cause : goal.returns-clause-cause
returns-clause-cause g c = went-well _ _ _ c.loop-k.invariant.counts
