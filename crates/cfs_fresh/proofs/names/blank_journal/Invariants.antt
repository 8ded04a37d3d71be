use Rattle.std.proofs.Common.{◌≡◌, ◌≤◌, map}
use Rattle.cfs_journal.proofs.Blanks.{blanks}
use Rattle.cfs_fresh.proofs.names.blank_journal.Given as goal

abbrev pub invariant-loop-device : goal.invariant-loop-device
invariant-loop-device l = (map (λ region. region.seen) l.records.items ≡ blanks l.device) × (l.device ≤ 64)
