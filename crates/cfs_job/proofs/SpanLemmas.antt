use Rattle.std.proofs.Common.{◌≡◌}
use Rattle.std.proofs.Props.{props}
use Rattle.cfs_file.specs.declared.span.Span.{Span}

pub span_prop : (a b : Span) → IsProp (a ≡ b)
span_prop a b = hlevel props
