use Rattle.cfs_meaning.proofs.TotalLines.{lines-have-answers}
use Rattle.cfs_meaning.proofs.laws.lines_have_answers.Goals as goal

pub returns : goal.returns
returns c = lines-have-answers
