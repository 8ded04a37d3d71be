use Rattle.cfs_file.proofs.Spans.{reaches_over-covers}
use Rattle.cfs_file.proofs.span.covers.Goals as goal

pub returns-clause-positions : goal.returns-clause-positions
returns-clause-positions c = rw c.test_cover.ensures (reaches_over-covers _ _)
