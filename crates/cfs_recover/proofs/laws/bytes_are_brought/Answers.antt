use Rattle.cfs_recover.proofs.Brought.{bytes-brought}
use Rattle.cfs_recover.proofs.laws.bytes_are_brought.Goals as goal

pub returns : goal.returns
returns c = bytes-brought
