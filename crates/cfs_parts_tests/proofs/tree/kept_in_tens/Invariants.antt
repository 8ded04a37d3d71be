use Rattle.std.proofs.Common.{◌≡◌}
use Rattle.cfs_tree.proofs.Tens.{tens_from}
use Rattle.cfs_parts_tests.proofs.tree.kept_in_tens.Given as goal

abbrev pub invariant-loop-i : goal.invariant-loop-i
invariant-loop-i g l = l.tree.spans ≡ tens_from 0 l.i
