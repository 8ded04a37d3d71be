use Rattle.cfs_states.proofs.Behind.{home-stored}
use Rattle.cfs_states.proofs.laws.brought_home_are_stored.Goals as goal

pub returns : goal.returns
returns c = home-stored
