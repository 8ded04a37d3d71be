use Rattle.std.proofs.Common.{take}
use Rattle.std.proofs.lemmas.List.{take_more}
use Rattle.cfs_core.proofs.KeptRuns.{runs-are-good}
use Rattle.cfs_core.proofs.Runs.{IsRun-snoc, after_all-snoc}
use Rattle.cfs_events.proofs.run.run_events.Goals as goal

pub loop-at-preserved : goal.loop-at-preserved
loop-at-preserved c =
    rw (
      take_more c.args.events.now c.loop-at.at c.index-events-at.result c.loop-at-test.true,
      ← c.index-events-at.is,
    ) (record {
      run = IsRun-snoc _ _ _ c.loop-at.invariant.run
          (rw c.loop-at.invariant.now at c.in-Ok.ensures.0);
      now = rw (after_all-snoc, ← c.loop-at.invariant.now) c.in-Ok.ensures.1;
    })

pub returns-clause-good : goal.returns-clause-good
returns-clause-good c =
    λ fresh. rw c.loop-at.invariant.now
    (runs-are-good c.args.core (take c.loop-at.at
    c.args.events.now) fresh c.loop-at.invariant.run)
