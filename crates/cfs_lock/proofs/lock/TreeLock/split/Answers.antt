use Rattle.std.proofs.Common.{rules, arith, ◌<◌}
use Rattle.cfs_lock.proofs.Seats.{splits}
use Rattle.cfs_lock.proofs.lock.TreeLock.split.Goals as goal

pub split_seat-seat-requires : goal.split_seat-seat-requires
split_seat-seat-requires g c =
    let same = c.args.pass.now.remaining in
    let some_left : 0 < c.args.pass.now.seat.me.0.left = omega (arith, c.requires.some) in
    (search rules, search rules, splits g.X.Recorded.log g.X.Recorded.part _ _ _ _ some_left)
