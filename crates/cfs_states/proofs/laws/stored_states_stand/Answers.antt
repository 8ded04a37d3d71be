use Rattle.cfs_states.proofs.Loaded.{stored-core}
use Rattle.cfs_states.proofs.laws.stored_states_stand.Goals as goal

pub returns : goal.returns
returns c = stored-core
