use Rattle.std.proofs.Common.{arith, ◌<◌, ◌≤◌, length}
use Rattle.std.proofs.lemmas.Bool.Decides.{nat_tests}
use Rattle.cfs_extent.proofs.Places.{all_below, lowest_at}
use Rattle.cfs_extent.proofs.runs.lowest.Goals as goal

pub returns-in_err-run-clause-none : goal.returns-in_err-run-clause-none
returns-in_err-run-clause-none c =
    let test = c.in_err-run.ensures.lookup.0 in
    let past : length c.args.runs.now ≤ c.seek-seat.result.run = grind (arith, nat_tests) in
    rw c.from_residual.ensures (all_below _ _ _ _ c.requires c.seek-seat.ensures past)

pub returns-clause-next : goal.returns-clause-next
returns-clause-next c =
    let test = c.in_ok-run.ensures.lookup.0 in
    let lt : c.seek-seat.result.run < length c.args.runs.now = grind (arith, nat_tests) in
    rw c.max.ensures
    (lowest_at _ _ _ _ c.in_ok-run.run'.now c.requires c.seek-seat.ensures lt
    c.in_ok-run.ensures.lookup.1)
