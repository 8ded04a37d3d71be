use Rattle.std.proofs.Common.{rules, ap, ◌∙◌}
use Rattle.cfs_lock.specs.Stages.{code_of}
use Rattle.cfs_lock.proofs.Seats.{idle_of, joins}
use Rattle.cfs_lock.proofs.lock.TreeLock.join.Goals as goal

pub join_seat-requires : goal.join_seat-requires
join_seat-requires g c = (
  search rules,
  search rules,
  search rules,
  search rules,
  joins g.X.Recorded.log g.X.Recorded.part _ _ _ _ _ _ c.args.pass.now.booked (idle_of c.args.other.seat.me.0.stage (c.args.other.staged ∙ ap code_of c.requires.outside.1)),
)
