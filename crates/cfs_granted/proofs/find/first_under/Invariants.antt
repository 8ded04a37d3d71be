use Rattle.std.proofs.Common.{◌≡◌, drop, find}
use Rattle.cfs_granted.specs.Readers.{is_under}
use Rattle.cfs_granted.proofs.find.first_under.Given as goal

abbrev pub invariant-loop-reader : goal.invariant-loop-reader
invariant-loop-reader l =
    find (λ r. is_under l.number r) l.readers
    ≡ find (λ r. is_under l.number r) (drop l.reader-index l.readers)
