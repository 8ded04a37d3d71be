use Rattle.std.proofs.Common.{rules}
use Rattle.cfs_lock.proofs.Steps.{draws}
use Rattle.cfs_lock.proofs.lock.TreeLock.draw.Goals as goal

pub fetch_add-requires : goal.fetch_add-requires
fetch_add-requires g c = (search rules, search rules, draws g.X.Recorded.log g.X.Recorded.part _ _ _ _ _ _ c.requires.idle c.requires.booked)
