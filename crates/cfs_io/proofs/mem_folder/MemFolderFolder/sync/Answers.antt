use Rattle.std.proofs.Common.{sym, ap, ◌∙◌}
use Rattle.std.specs.FinMap.{get}
use Rattle.cfs_io.specs.Files.{files_of, with_or_without}
use Rattle.cfs_io.proofs.CutFolders.{get-found_at, get-found_other, leaves-other}
use Rattle.cfs_io.proofs.mem_folder.MemFolderFolder.sync.Goals as goal

pub returns-clause-synced : goal.returns-clause-synced
returns-clause-synced c = λ name is.
    ap (λ q. get (files_of c.in_ok-self.field-0.items) q) (sym is)
    ∙ ap (λ files. get files c.args.file.now.name) (rw c.in_ok-self.ensures.made at c.with_found-sure.ensures)
    ∙ get-found_at _ _ _
    ∙ c.find-found.ensures
    ∙ ap (λ files. get (files_of files) c.args.file.now.name) (c.deref.ensures.value ∙ ap (λ files. files.items) (sym c.counted.ensures.files))
    ∙ ap (λ q. get (files_of c.counted.new.self.files.items) q) is

pub returns-clause-left : goal.returns-clause-left
returns-clause-left c = λ name is q other left may.
    leaves-other _ _ _ _ _ _ left
    (ap (λ files. get (files_of files.items) q) (c.counted.ensures.kept ∙ c.in_ok-step.ensures.kept))
    (ap (λ files. get (files_of files.items) q) (c.counted.ensures.files ∙ c.in_ok-step.ensures.files))
    (ap (λ files. get files q) (rw c.in_ok-self.ensures.made at c.with_found-sure.ensures)
    ∙ get-found_other _ _ _ q (λ same. other (same ∙ is))
    ∙ ap (λ files. get (files_of files) q) (c.deref-2.ensures.value ∙ ap (λ files. files.items) c.in_ok-step.ensures.sure))
    may
