use Rattle.std.proofs.Common.{rules, ap, ◌∙◌, Some}
use Rattle.cfs_lock.proofs.Lists.{split_front}
use Rattle.cfs_lock.proofs.Steps.{looks}
use Rattle.cfs_lock.proofs.lock.TreeLock.look.Goals as goal

pub load-requires : goal.load-requires
load-requires g c = (search rules, search rules, looks g.X.Recorded.log g.X.Recorded.part _ _ _ _ _ _ _ c.requires.waits.2)

pub exchange-requires : goal.exchange-requires
exchange-requires g c =
    let told = (c.load.ensures.2 c.requires.waits.0 c.requires.waits.2).0 (c.if-load-ticket.false ∙ c.requires.waits.1) in
    (search rules, (Some told.0, split_front _ _ _ (ap (λ m. m.1) told.2)))
