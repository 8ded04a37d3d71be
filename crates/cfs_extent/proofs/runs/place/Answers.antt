use Rattle.std.proofs.Common.{arith, ◌<◌, ◌≤◌, length}
use Rattle.std.proofs.lemmas.Bool.Decides.{nat_tests}
use Rattle.cfs_extent.proofs.Places.{absent_gap, absent_past, few_places, few_places_fit, found_at}
use Rattle.cfs_extent.proofs.runs.place.Goals as goal

pub returns-in_err-run-clause-absent : goal.returns-in_err-run-clause-absent
returns-in_err-run-clause-absent c =
    let test = c.in_err-run.ensures.lookup.0 in
    let past : length c.args.runs.now ≤ c.seek-seat.result.run = grind (arith, nat_tests) in
    rw c.from_residual.ensures (absent_past _ _ _ _ c.requires c.seek-seat.ensures past)

pub returns-then-block-run-clause-absent : goal.returns-then-block-run-clause-absent
returns-then-block-run-clause-absent c =
    let test = c.in_ok-run.ensures.lookup.0 in
    let lt : c.seek-seat.result.run < length c.args.runs.now = grind (arith, nat_tests) in
    absent_gap _ _ _ _ c.in_ok-run.run'.now c.requires c.seek-seat.ensures lt
    c.in_ok-run.ensures.lookup.1 c.if-block-run.true

pub overflow_add-result : goal.overflow_add-result
overflow_add-result c =
    let test = c.in_ok-run.ensures.lookup.0 in
    let lt : c.seek-seat.result.run < length c.args.runs.now = grind (arith, nat_tests) in
    omega (
      arith,
      few_places _ _ _ _ _ c.requires c.seek-seat.ensures lt
          c.in_ok-run.ensures.lookup.1 c.if-block-run.false,
      few_places_fit c.args.runs.now c.requires,
    )

pub returns-clause-there : goal.returns-clause-there
returns-clause-there c =
    let test = c.in_ok-run.ensures.lookup.0 in
    let lt : c.seek-seat.result.run < length c.args.runs.now = grind (arith, nat_tests) in
    found_at _ _ _ _ _ c.requires c.seek-seat.ensures lt c.in_ok-run.ensures.lookup.1
    c.if-block-run.false
