use Rattle.cfs_active_bench.proofs.BlockWrites.{is_of_inode, staged_for, sure_for}
use Rattle.cfs_active_bench.proofs.work.stage.Goals as goal

pub returns-in-Ok-clause-file : goal.returns-in-Ok-clause-file
returns-in-Ok-clause-file c = is_of_inode _ 2 _ _ c.requires c.in-Ok.ensures.short

pub returns-in-Ok-clause-holds : goal.returns-in-Ok-clause-holds
returns-in-Ok-clause-holds c = staged_for _ _ c.requires c.in-Ok.ensures.whole

pub returns-in-Ok-clause-sure : goal.returns-in-Ok-clause-sure
returns-in-Ok-clause-sure c = sure_for _ _ c.requires c.in-Ok.ensures.sure
