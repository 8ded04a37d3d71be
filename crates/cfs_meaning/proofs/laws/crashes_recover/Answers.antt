use Rattle.cfs_meaning.proofs.SavedRuns.{crashes-recover}
use Rattle.cfs_meaning.proofs.laws.crashes_recover.Goals as goal

pub returns : goal.returns
returns c = crashes-recover
