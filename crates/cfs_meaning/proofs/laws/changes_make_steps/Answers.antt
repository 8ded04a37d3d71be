use Rattle.cfs_meaning.proofs.Changes.{changes-make}
use Rattle.cfs_meaning.proofs.laws.changes_make_steps.Goals as goal

pub returns : goal.returns
returns c = changes-make
