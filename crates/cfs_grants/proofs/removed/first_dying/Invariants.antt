use Rattle.std.proofs.Common.{◌≡◌, drop}
use Rattle.cfs_grants.specs.Removed.{first_dying}
use Rattle.cfs_grants.proofs.removed.first_dying.Given as goal

abbrev pub invariant-loop-rec : goal.invariant-loop-rec
invariant-loop-rec l = first_dying 0 l.grants l.rows ≡ first_dying l.rec l.grants (drop l.rec l.rows)
