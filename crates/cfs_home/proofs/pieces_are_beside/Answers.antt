use Rattle.cfs_home.proofs.Calls.{pieces-beside}
use Rattle.cfs_home.proofs.pieces_are_beside.Goals as goal

pub returns : goal.returns
returns c = pieces-beside
