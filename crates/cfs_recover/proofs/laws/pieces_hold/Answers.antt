use Rattle.cfs_recover.proofs.Held.{pieces-hold}
use Rattle.cfs_recover.proofs.laws.pieces_hold.Goals as goal

pub returns : goal.returns
returns c = pieces-hold
