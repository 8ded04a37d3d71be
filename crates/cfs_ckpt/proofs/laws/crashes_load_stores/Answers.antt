use Rattle.cfs_ckpt.proofs.Histories.{crashes_load_stores}
use Rattle.cfs_ckpt.proofs.laws.crashes_load_stores.Goals as goal

pub returns : goal.returns
returns c = crashes_load_stores
