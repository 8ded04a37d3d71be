use Rattle.cfs_ckpt.proofs.Histories.{crashes_in_a_store}
use Rattle.cfs_ckpt.proofs.laws.crashes_in_a_store.Goals as goal

pub returns : goal.returns
returns c = crashes_in_a_store
