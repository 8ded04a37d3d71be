use Rattle.std.proofs.Common.{refl}
use Rattle.cfs_long.proofs.ChainLemmas.{slot_err, slot_ok}
use Rattle.cfs_long.proofs.ResultLemmas.{short_err, short_ok}
use Rattle.cfs_long.proofs.chain.stage_short.Goals as goal

pub returns-in-Ok-clause-stages : goal.returns-in-Ok-clause-stages
returns-in-Ok-clause-stages g c = short_ok _ _ refl c.in-Ok.ensures.tails c.requires (slot_ok refl c.in-Ok.ensures.writes c.in-Ok.ensures.cause)

pub returns-in-Err-clause-stages : goal.returns-in-Err-clause-stages
returns-in-Err-clause-stages g c = short_err _ _ refl c.one.ensures c.requires (slot_err refl c.in-Err.ensures.writes c.in-Err.ensures.cause)

pub returns-in-Ok-clause-sure : goal.returns-in-Ok-clause-sure
returns-in-Ok-clause-sure g c = c.in-Ok.ensures.writes.sure
