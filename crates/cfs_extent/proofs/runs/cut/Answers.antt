use Rattle.std.proofs.Common.{arith, ◌<◌, length}
use Rattle.cfs_extent.proofs.RunLemmas.{ends_past_read, end_of_read, first_read}
use Rattle.cfs_extent.proofs.SplitAt.{Cut, ended_at, later_at, many_numbers, middle_at, shorter_at, stands}
use Rattle.cfs_extent.proofs.runs.cut.Goals as goal
use Rattle.cfs_extent.proofs.runs.cut.Goals.{then-before-gt0+then-after-gt0, then-before-gt0+else-after-gt0, else-before-gt0+then-after-gt0-2, else-before-gt0+else-after-gt0-2}

pub overflow_add-after : goal.overflow_add-after
overflow_add-after c =
    let lt : c.args.at < length c.args.runs.now.items = omega arith in
    omega (
      arith,
      end_of_read _ _ _ c.requires.runs lt c.index-run.ensures,
      ends_past_read _ _ _ _ lt c.index-run.ensures c.requires.past,
    )

pub overflow_sub-after-2 : goal.overflow_sub-after-2
overflow_sub-after-2 c =
    let lt : c.args.at < length c.args.runs.now.items = omega arith in
    omega (
      arith,
      ends_past_read _ _ _ _ lt c.index-run.ensures c.requires.past,
      first_read _ _ _ _ lt c.index-run.ensures c.requires.first,
    )

pub insert_within-requires-clause-room : goal.insert_within-requires-clause-room
insert_within-requires-clause-room c =
    let lt : c.args.at < length c.args.runs.now.items = omega arith in
    omega (arith, many_numbers _ _ _ lt c.index-run.ensures c.requires.runs, c.requires.room)

cut_is : (c : goal.Joined-before-gt0) →
    Cut c.args.runs.now.items c.args.at c.args.block c.index-run.result.now c.if-before-gt0.runs.items
cut_is c =
    let lt : c.args.at < length c.args.runs.now.items = omega arith in
    let low = first_read _ _ _ _ lt c.index-run.ensures c.requires.first in
    let past = ends_past_read _ _ _ _ lt c.index-run.ensures c.requires.past in
    elim c.if-before-gt0.branch [
      | then-before-gt0+then-after-gt0 w ↦ rw (w.runs-is, w.insert_within.ensures.items)
          (middle_at _ _ _ _ lt c.index-run.ensures c.requires.runs w.if-before-gt0.true
          w.if-after-gt0.true low past)
      | then-before-gt0+else-after-gt0 w ↦ rw w.runs-is
          (shorter_at _ _ _ _ lt c.index-run.ensures c.requires.runs w.if-before-gt0.true
          (omega arith) low past)
      | else-before-gt0+then-after-gt0-2 w ↦ rw w.runs-is
          (later_at _ _ _ _ lt c.index-run.ensures c.requires.runs (omega arith) w.if-after-gt0-2.true
          low past)
      | else-before-gt0+else-after-gt0-2 w ↦ rw (w.runs-is, w.remove.ensures.items)
          (ended_at _ _ _ _ lt c.index-run.ensures c.requires.runs (omega arith) (omega arith)
          low past)
    ]

pub returns-clause-runs : goal.returns-clause-runs
returns-clause-runs c = (cut_is c).runs

pub returns-clause-there : goal.returns-clause-there
returns-clause-there c =
    let lt : c.args.at < length c.args.runs.now.items = omega arith in
    stands _ _ _ _ lt c.index-run.ensures c.requires.runs
    (first_read _ _ _ _ lt c.index-run.ensures c.requires.first)
    (ends_past_read _ _ _ _ lt c.index-run.ensures c.requires.past)

pub returns-clause-numbers : goal.returns-clause-numbers
returns-clause-numbers c = (cut_is c).numbers
