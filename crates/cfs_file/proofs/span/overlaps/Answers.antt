use Rattle.cfs_file.proofs.Spans.{meets-overlap}
use Rattle.cfs_file.proofs.span.overlaps.Goals as goal

pub returns-clause-positions : goal.returns-clause-positions
returns-clause-positions c = rw c.test_overlap.ensures (meets-overlap _ _)
