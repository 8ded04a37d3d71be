use Rattle.cfs_meaning.proofs.ShownFiles.{shown-files-recover}
use Rattle.cfs_meaning.proofs.laws.shown_files_recover.Goals as goal

pub returns : goal.returns
returns c = shown-files-recover
