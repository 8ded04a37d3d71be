use Rattle.std.proofs.Common.{sym, ap, ◌∙◌}
use Rattle.std.specs.FinMap.{get}
use Rattle.cfs_io.specs.Files.{files_of}
use Rattle.cfs_io.proofs.CutFolders.{leaves-other}
use Rattle.cfs_io.proofs.Folders.{get-put_other}
use Rattle.cfs_io.proofs.mem_folder.MemFolderFolder.fill.Goals as goal

pub returns-clause-others : goal.returns-clause-others
returns-clause-others c = λ name is q other.
    ap (λ files. get files q) (rw c.in_ok-self.ensures.made at c.with-files.ensures)
    ∙ get-put_other _ _ _ q (λ same. other (same ∙ is))
    ∙ ap (λ files. get (files_of files) q) (c.deref.ensures.value ∙ ap (λ files. files.items) c.step-step.ensures.files)

pub returns-clause-left : goal.returns-clause-left
returns-clause-left c = λ name is q other left may.
    leaves-other _ _ _ _ _ _ left
    (ap (λ files. get (files_of files.items) q) (c.counted.ensures.kept ∙ c.step-step.ensures.kept))
    (ap (λ files. get files q) (rw c.in_ok-self.ensures.made at c.with-files.ensures)
    ∙ get-put_other _ _ _ q (λ same. other (same ∙ is))
    ∙ ap (λ files. get (files_of files) q) (c.deref.ensures.value ∙ ap (λ files. files.items) c.step-step.ensures.files))
    (ap (λ files. get (files_of files.items) q) (c.counted.ensures.sure ∙ c.step-step.ensures.sure))
    may
