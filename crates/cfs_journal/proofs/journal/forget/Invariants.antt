use Rattle.std.proofs.Common.{◌≡◌, ◌≤◌, drop}
use Rattle.std.specs.Vec.{vec_capacity}
use Rattle.cfs_journal.proofs.journal.forget.Given as goal

abbrev pub invariant-loop : goal.invariant-loop
invariant-loop l =
    (l.changes.items ≡ drop l.counter l.fn.changes.items) × (vec_capacity l.fn.changes ≤ vec_capacity l.changes)
