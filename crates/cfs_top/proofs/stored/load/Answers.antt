use Rattle.std.proofs.Common.{refl}
use Rattle.cfs_top.proofs.Ends.{said_writes}
use Rattle.cfs_top.proofs.stored.load.Goals as goal

pub returns-in-Err-Absent-clause-writes : goal.returns-in-Err-Absent-clause-writes
returns-in-Err-Absent-clause-writes g c =
    said_writes _ _ _ _ _ _ tt
    ((rw c.in-Err-Absent.field-0-is at c.in-Err-Absent.ensures.absent) refl, refl)
    c.say.ensures.said
