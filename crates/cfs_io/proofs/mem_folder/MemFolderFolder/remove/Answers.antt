use Rattle.std.proofs.Common.{sym, ap, ◌∙◌}
use Rattle.std.specs.FinMap.{get}
use Rattle.cfs_io.specs.Files.{files_of}
use Rattle.cfs_io.proofs.CutFolders.{get-remove_other, leaves-other}
use Rattle.cfs_io.proofs.mem_folder.MemFolderFolder.remove.Goals as goal

pub returns-clause-left : goal.returns-clause-left
returns-clause-left c = λ q other left may.
    leaves-other _ _ _ _ _ _ left
    (ap (λ files. get (files_of files.items) q) (c.counted-2.ensures.kept ∙ c.counted.ensures.kept ∙ c.in_ok-step.ensures.kept))
    (ap (λ files. get files q) (rw c.in_ok-files.ensures.made at c.without-files.ensures)
    ∙ get-remove_other _ _ q other
    ∙ ap (λ files. get (files_of files) q) (c.deref-2.ensures.value ∙ ap (λ files. files.items) c.in_ok-step.ensures.files))
    (ap (λ files. get files q) (rw c.in_ok-self.ensures.made at c.without-sure.ensures)
    ∙ get-remove_other _ _ q other
    ∙ ap (λ files. get (files_of files) q) (c.deref-3.ensures.value ∙ ap (λ files. files.items) (c.counted.ensures.sure ∙ c.in_ok-step.ensures.sure)))
    may
