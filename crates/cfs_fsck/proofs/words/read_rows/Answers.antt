use Rattle.std.proofs.Common.{◌+◌, ◌*◌}
use Rattle.cfs_fsck.proofs.Reading.{rows_none, rows_pushed}
use Rattle.cfs_fsck.proofs.words.read_rows.Goals as goal

pub loop-k-init : goal.loop-k-init
loop-k-init g c =
    rows_none c.args.bytes.now (λ k. c.args.first + c.args.apart * k) g.row.N _
    c.in_ok-rows.ensures.items

pub loop-k-preserved : goal.loop-k-preserved
loop-k-preserved g c =
    rows_pushed c.args.bytes.now (λ k. c.args.first + c.args.apart * k) g.row.N c.loop-k.k
    c.loop-k.rows.items c.push.new.self.items c.words_at.result c.in_ok-push.ensures.items
    c.loop-k.invariant c.words_at.ensures
