use Rattle.std.proofs.Common.{◌≡◌, ◌≤◌, map}
use Rattle.cfs_gather_tests.specs.Blanks.{blanks}
use Rattle.cfs_gather_tests.proofs.kernel.blank_journal.Given as goal

abbrev pub invariant-loop-number : goal.invariant-loop-number
invariant-loop-number l = (map (λ region. region.seen) l.records.items ≡ blanks l.number) × (l.number ≤ 64)
