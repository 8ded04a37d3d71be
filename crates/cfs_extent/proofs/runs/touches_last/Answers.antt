use Rattle.std.proofs.Common.{arith, ◌≡◌, ◌+◌, ◌-◌, take, get_or}
use Rattle.std.proofs.lemmas.Bool.Decides.{nat_tests}
use Rattle.cfs_extent.specs.Runs.{end_of, next_start}
use Rattle.cfs_extent.proofs.RunLemmas.{end_of_runs, next_start-before, no_run}
use Rattle.cfs_extent.proofs.runs.touches_last.Goals as goal

pub end-requires : goal.end-requires
end-requires c = end_of_runs 0 _ (c.args.at - 1) no_run c.requires.runs (omega arith)

pub returns-then-at-gt0-clause-touches : goal.returns-then-at-gt0-clause-touches
returns-then-at-gt0-clause-touches c =
    let ends : next_start 0 (take c.args.at c.args.runs.now)
    ≡ end_of (get_or c.args.runs.now (c.args.at - 1) no_run) + 1
    = next_start-before 0 c.args.runs.now c.args.at no_run c.if-at-gt0.true c.requires.within in
    grind (arith, nat_tests)
