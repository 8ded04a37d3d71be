use Rattle.std.proofs.Common.{◌≡◌, List, ℕ, sym, refl, ap, ◌∙◌}
use Rattle.std.specs.FinMap.{get}
use Rattle.cfs_io.specs.Files.{Files, files_of, with_or_without}
use Rattle.cfs_io.proofs.CutFolders.{leaves-other, leaves-synced, sure-synced}
use Rattle.cfs_io.proofs.mem_folder.MemFolderFolder.sync_names.Goals as goal

pub returns-clause-sure : goal.returns-clause-sure
returns-clause-sure c = λ sure left may.
    let kept : Files = files_of c.args.self.now.kept.items in
    let whole : Files = files_of c.args.self.now.sure.items in
    let files : Files = files_of c.args.self.now.files.items in
    let now : Files = files_of c.in_ok-self.field-0.items in
    let name : List ℕ = c.args.name.now in
    let is : now ≡ with_or_without kept name (get whole name) = (rw c.in_ok-self.ensures.made at c.with_found-kept.ensures)
    ∙ ap (λ found. with_or_without (files_of c.deref-2.result.now) name found)
    (c.find-found.ensures ∙ ap (λ items. get (files_of items) name) (c.deref.ensures.value ∙ ap (λ v. v.items) c.in_ok-step.ensures.sure))
    ∙ ap (λ items. with_or_without (files_of items) name (get whole name)) (c.deref-2.ensures.value ∙ ap (λ v. v.items) c.in_ok-step.ensures.kept) in
    sure-synced kept whole files now name left is sure
    (leaves-other (get now name) (get files name) (get whole name) _ _ _ left refl
    (ap (λ v. get (files_of v.items) name) (c.counted.ensures.files ∙ c.in_ok-step.ensures.files))
    (ap (λ v. get (files_of v.items) name) (c.counted.ensures.sure ∙ c.in_ok-step.ensures.sure)) may)

pub returns-clause-left : goal.returns-clause-left
returns-clause-left c = λ q left may.
    let kept : Files = files_of c.args.self.now.kept.items in
    let whole : Files = files_of c.args.self.now.sure.items in
    let files : Files = files_of c.args.self.now.files.items in
    let now : Files = files_of c.in_ok-self.field-0.items in
    let name : List ℕ = c.args.name.now in
    let is : now ≡ with_or_without kept name (get whole name) = (rw c.in_ok-self.ensures.made at c.with_found-kept.ensures)
    ∙ ap (λ found. with_or_without (files_of c.deref-2.result.now) name found)
    (c.find-found.ensures ∙ ap (λ items. get (files_of items) name) (c.deref.ensures.value ∙ ap (λ v. v.items) c.in_ok-step.ensures.sure))
    ∙ ap (λ items. with_or_without (files_of items) name (get whole name)) (c.deref-2.ensures.value ∙ ap (λ v. v.items) c.in_ok-step.ensures.kept) in
    leaves-synced kept whole files now name q left is
    (leaves-other (get now q) (get files q) (get whole q) _ _ _ left refl
    (ap (λ v. get (files_of v.items) q) (c.counted.ensures.files ∙ c.in_ok-step.ensures.files))
    (ap (λ v. get (files_of v.items) q) (c.counted.ensures.sure ∙ c.in_ok-step.ensures.sure)) may)
