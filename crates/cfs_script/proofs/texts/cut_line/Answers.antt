use Rattle.cfs_script.proofs.Lines.{lines_of-cut, lines_of-last}
use Rattle.cfs_script.proofs.texts.cut_line.Goals as goal

pub returns-in-Some : goal.returns-in-Some
returns-in-Some c = lines_of-cut c.args.bytes.now c.cut.result.0.now c.in-Some.rest.now (rw c.in-Some.is at c.cut.ensures)

pub returns-in-None : goal.returns-in-None
returns-in-None c = lines_of-last c.args.bytes.now c.cut.result.0.now c.requires (rw c.in-None.is at c.cut.ensures)
