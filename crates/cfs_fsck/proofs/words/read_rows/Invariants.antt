use Rattle.std.proofs.Common.{◌≡◌, ◌+◌, ◌*◌}
use Rattle.cfs_fsck.specs.Images.{rows_at}
use Rattle.cfs_fsck.proofs.words.read_rows.Given as goal

abbrev pub invariant-loop-k : goal.invariant-loop-k
invariant-loop-k g l = l.rows.items ≡ rows_at l.bytes (λ k. l.first + l.apart * k) g.row.N l.k
