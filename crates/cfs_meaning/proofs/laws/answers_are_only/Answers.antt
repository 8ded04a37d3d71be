use Rattle.cfs_meaning.proofs.OnlyLines.{answers-only}
use Rattle.cfs_meaning.proofs.laws.answers_are_only.Goals as goal

pub returns : goal.returns
returns c = answers-only
