use Rattle.cfs_io.proofs.Folders.{OthersKept-either}
use Rattle.cfs_io.proofs.file_shelf.FileShelfShelf.save.Goals as goal

pub returns-in-Err-clause-others : goal.returns-in-Err-clause-others
returns-in-Err-clause-others g c = OthersKept-either _ _ _ _ c.in-Err.ensures.whole
