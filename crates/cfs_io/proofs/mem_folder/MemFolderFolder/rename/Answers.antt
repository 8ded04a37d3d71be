use Rattle.std.proofs.Common.{◌≡◌, List, ℕ, sym, ap, ◌∙◌, inl, inr}
use Rattle.std.specs.FinMap.{get, remove}
use Rattle.cfs_io.specs.Files.{Files, files_of, with_or_without}
use Rattle.cfs_io.proofs.CutFolders.{get-moved_at, get-moved_other, leaves-other}
use Rattle.cfs_io.proofs.mem_folder.MemFolderFolder.rename.Goals as goal

pub returns-clause-synced : goal.returns-clause-synced
returns-clause-synced c = λ sure.
    let whole : Files = files_of c.args.self.now.sure.items in
    let files : Files = files_of c.args.self.now.files.items in
    let files_now : Files = files_of c.in_ok-files.files.items in
    let whole_now : Files = files_of c.in_ok-self.field-0.items in
    let from : List ℕ = c.args.from.now in
    let to : List ℕ = c.args.to.now in
    let files_are : files_now ≡ with_or_without (remove files from) to (get files from) = (rw c.in_ok-files.ensures.made at c.moved-files.ensures)
    ∙ ap (λ items. with_or_without (remove (files_of items) from) to (get (files_of items) from))
    (c.deref-2.ensures.value ∙ ap (λ v. v.items) c.in_ok-step.ensures.files) in
    let sure_are : whole_now ≡ with_or_without (remove whole from) to (get whole from) = (rw c.in_ok-self.ensures.made at c.moved-sure.ensures)
    ∙ ap (λ items. with_or_without (remove (files_of items) from) to (get (files_of items) from))
    (c.deref-3.ensures.value ∙ ap (λ v. v.items) (c.counted.ensures.sure ∙ c.in_ok-step.ensures.sure)) in
    get-moved_at whole whole_now from to sure_are ∙ sure ∙ sym (get-moved_at files files_now from to files_are)

pub returns-clause-either : goal.returns-clause-either
returns-clause-either c = λ sure left may.
    let whole : Files = files_of c.args.self.now.sure.items in
    let files : Files = files_of c.args.self.now.files.items in
    let files_now : Files = files_of c.in_ok-files.files.items in
    let whole_now : Files = files_of c.in_ok-self.field-0.items in
    let from : List ℕ = c.args.from.now in
    let to : List ℕ = c.args.to.now in
    let files_are : files_now ≡ with_or_without (remove files from) to (get files from) = (rw c.in_ok-files.ensures.made at c.moved-files.ensures)
    ∙ ap (λ items. with_or_without (remove (files_of items) from) to (get (files_of items) from))
    (c.deref-2.ensures.value ∙ ap (λ v. v.items) c.in_ok-step.ensures.files) in
    let sure_are : whole_now ≡ with_or_without (remove whole from) to (get whole from) = (rw c.in_ok-self.ensures.made at c.moved-sure.ensures)
    ∙ ap (λ items. with_or_without (remove (files_of items) from) to (get (files_of items) from))
    (c.deref-3.ensures.value ∙ ap (λ v. v.items) (c.counted.ensures.sure ∙ c.in_ok-step.ensures.sure)) in
    elim may [
      | inl kept ↦ inl (inl (kept ∙ ap (λ v. get (files_of v.items) to) (c.counted-2.ensures.kept ∙ c.counted.ensures.kept ∙ c.in_ok-step.ensures.kept)))
      | inr now ↦ inr (now (get-moved_at whole whole_now from to sure_are ∙ sure ∙ sym (get-moved_at files files_now from to files_are)) ∙ get-moved_at files files_now from to files_are)
    ]

pub returns-clause-left : goal.returns-clause-left
returns-clause-left c = λ q from_other to_other left may.
    let whole : Files = files_of c.args.self.now.sure.items in
    let files : Files = files_of c.args.self.now.files.items in
    let files_now : Files = files_of c.in_ok-files.files.items in
    let whole_now : Files = files_of c.in_ok-self.field-0.items in
    let from : List ℕ = c.args.from.now in
    let to : List ℕ = c.args.to.now in
    let files_are : files_now ≡ with_or_without (remove files from) to (get files from) = (rw c.in_ok-files.ensures.made at c.moved-files.ensures)
    ∙ ap (λ items. with_or_without (remove (files_of items) from) to (get (files_of items) from))
    (c.deref-2.ensures.value ∙ ap (λ v. v.items) c.in_ok-step.ensures.files) in
    let sure_are : whole_now ≡ with_or_without (remove whole from) to (get whole from) = (rw c.in_ok-self.ensures.made at c.moved-sure.ensures)
    ∙ ap (λ items. with_or_without (remove (files_of items) from) to (get (files_of items) from))
    (c.deref-3.ensures.value ∙ ap (λ v. v.items) (c.counted.ensures.sure ∙ c.in_ok-step.ensures.sure)) in
    leaves-other _ _ _ _ _ _ left
    (ap (λ v. get (files_of v.items) q) (c.counted-2.ensures.kept ∙ c.counted.ensures.kept ∙ c.in_ok-step.ensures.kept))
    (get-moved_other files files_now from to q files_are from_other to_other)
    (get-moved_other whole whole_now from to q sure_are from_other to_other)
    may
