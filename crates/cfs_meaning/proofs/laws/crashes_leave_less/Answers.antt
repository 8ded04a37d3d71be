use Rattle.cfs_meaning.proofs.ShownCrash.{crashes-leave-less}
use Rattle.cfs_meaning.proofs.laws.crashes_leave_less.Goals as goal

pub returns : goal.returns
returns c = crashes-leave-less
