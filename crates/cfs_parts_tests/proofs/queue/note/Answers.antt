use Rattle.std.proofs.Common.{◌∙◌, Some, ap, arith, sym, slice_get}
use Rattle.cfs_queue.proofs.TestLemmas.{out_at}
use Rattle.cfs_parts_tests.proofs.queue.note.Goals as goal

pub sent-requires : goal.sent-requires
sent-requires c = (
  omega arith,
  out_at (slice_get c.args.queue.now.held c.args.slot) 0 (sym c.in-Some.ensures ∙ ap (λ p. Some p) c.if-known-eq0.true),
)
