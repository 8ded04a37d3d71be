use Rattle.cfs_kernel.proofs.Rows.{free_is_home}
use Rattle.cfs_kernel.proofs.queues.Queues.free.Goals as goal

pub returns-clause-home : goal.returns-clause-home
returns-clause-home g c = free_is_home c.args.self.now.grants c.args.self.now.home.items c.free_queue.result c.args.self.now.out c.free_queue.ensures.lowest
