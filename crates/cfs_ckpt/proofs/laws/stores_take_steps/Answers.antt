use Rattle.cfs_ckpt.proofs.StoreLemmas.{stores_take_steps}
use Rattle.cfs_ckpt.proofs.laws.stores_take_steps.Goals as goal

pub returns : goal.returns
returns c = stores_take_steps
