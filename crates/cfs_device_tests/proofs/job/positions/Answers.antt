use Rattle.std.proofs.Common.{sym, subst, arith}
use Rattle.cfs_file.specs.Span.{EndFits}
use Rattle.cfs_device_tests.proofs.job.positions.Goals as goal

pub span_of-requires : goal.span_of-requires
span_of-requires c = subst (λ r. EndFits r 0) (sym c.in-Write.is) (omega (arith, c.in-Some.ensures.0, c.len.ensures))
