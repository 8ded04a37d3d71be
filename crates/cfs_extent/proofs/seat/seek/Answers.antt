use Rattle.std.proofs.Common.{arith}
use Rattle.cfs_extent.proofs.RunLemmas.{end_of_runs, few_before, next_start-push, no_run, numbers_of-push}
use Rattle.cfs_extent.proofs.seat.seek.Goals as goal

pub end-requires : goal.end-requires
end-requires c = end_of_runs 0 _ _ no_run c.requires c.loop-index-test.true

pub overflow_add-before : goal.overflow_add-before
overflow_add-before c =
    omega (
      arith,
      few_before c.args.runs.now c.loop-index.index c.requires,
      c.loop-index.invariant.0,
      end_of_runs 0 _ _ no_run c.requires c.loop-index-test.true,
    )

pub loop-index-preserved : goal.loop-index-preserved
loop-index-preserved c = (
  omega (arith, numbers_of-push _ _ no_run c.loop-index-test.true, c.loop-index.invariant.0),
  omega (arith, next_start-push 0 _ _ no_run c.loop-index-test.true, c.end.ensures, c.if-block-end.false),
)
