use Rattle.cfs_meaning.proofs.Superseded.{the-writes-answer}
use Rattle.cfs_meaning.proofs.example.the_writes_answer.Goals as goal

pub returns : goal.returns
returns c = the-writes-answer
