use Rattle.cfs_io.proofs.Streams.{read_on, read_end}
use Rattle.cfs_io.proofs.mem_source.MemSourceSource.read.Goals as goal

pub returns-clause-bytes : goal.returns-clause-bytes
returns-clause-bytes c = (
  read_on _ _ _ c.args.self.now.at _ c.deref.ensures.value c.copy_front-count.ensures.copied,
  read_end _ _ c.args.self.now.at _ _ _ _ c.deref.ensures.value c.args.self.now.some c.copy_front-count.ensures.count c.copy_front-count.auto.to,
)
