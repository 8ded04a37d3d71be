use Rattle.cfs_gen.specs.Workload.{all_callers, opened}
use Rattle.cfs_gen.proofs.Rounds.{caller_more}
use Rattle.cfs_gen.proofs.session.open_files.Goals as goal

pub callers-preserved : goal.callers-preserved
callers-preserved c =
    caller_more opened c.args.draft.now c.callers.draft c.open_both.new.draft all_callers c.callers.caller-index
    c.callers-test.true c.callers.invariant c.in_ok-open_both.ensures
