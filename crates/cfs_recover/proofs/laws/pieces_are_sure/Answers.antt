use Rattle.cfs_recover.proofs.Sure.{pieces-sure}
use Rattle.cfs_recover.proofs.laws.pieces_are_sure.Goals as goal

pub returns : goal.returns
returns c = pieces-sure
