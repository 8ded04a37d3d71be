use Rattle.cfs_grants.proofs.Bits.{AreBare}
use Rattle.cfs_grants.proofs.free.FreeRecords.lowest.Given as goal

abbrev pub invariant-loop-place : goal.invariant-loop-place
invariant-loop-place l = AreBare l.self.words l.place
