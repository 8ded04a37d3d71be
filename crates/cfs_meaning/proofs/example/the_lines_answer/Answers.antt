use Rattle.cfs_meaning.proofs.Derived.{the-lines-answer}
use Rattle.cfs_meaning.proofs.example.the_lines_answer.Goals as goal

pub returns : goal.returns
returns c = the-lines-answer
