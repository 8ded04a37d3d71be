use Rattle.cfs_meaning.proofs.ShownMarks.{marks-keep-shown}
use Rattle.cfs_meaning.proofs.laws.marks_keep_shown.Goals as goal

pub returns : goal.returns
returns c = marks-keep-shown
