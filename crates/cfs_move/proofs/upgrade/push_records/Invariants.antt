use Rattle.std.proofs.Common.{◌≡◌, ◌++◌}
use Rattle.cfs_move.specs.Upgraded.{records_moved}
use Rattle.cfs_move.proofs.upgrade.push_records.Given as goal

abbrev pub invariant-loop-position : goal.invariant-loop-position
invariant-loop-position l = l.image.items ≡ l.initial.image.items ++ records_moved l.old l.position
