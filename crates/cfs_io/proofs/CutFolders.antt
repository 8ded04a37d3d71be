-- What a cut leaves of a folder in memory.
use Rattle.std.proofs.Common.{◌≡◌, ◌≢◌, ◌⊎◌, inl, inr, ℕ, Bool, true, false, cond, List, Some, None, refl, sym, ap, ◌∙◌}
use Rattle.std.specs.declared.option.Option.{Option}
use Rattle.std.specs.FinMap.{get, insert, remove, get-remove}
use Rattle.std.specs.Ordering.{eq_by_cmp}
use Rattle.std.specs.Cmp.Lexicographic.{nat_list_cmp_total}
use Rattle.cfs_io.specs.Files.{Files, files_of, with_or_without}
use Rattle.cfs_io.proofs.FilesByName.{names}
use Rattle.cfs_io.proofs.Folders.{get-put, get-put_other, tied, tied_self, untied}

-- what stands under another name than a removed one
pub get-remove_other : (m : Files) (k q : List ℕ) → q ≢ k → get (remove m k) q ≡ get m q
get-remove_other m k q other = get-remove nat_list_cmp_total m k q ∙ ap (λ b. cond b None (get m q)) (untied q k other)

get-removed : (m : Files) (k : List ℕ) → get (remove m k) k ≡ None
get-removed m k = get-remove nat_list_cmp_total m k k ∙ ap (λ b. cond b None (get m k)) (tied_self k)

pub get-found_at : (m : Files) (name : List ℕ) (found : Option (List ℕ)) → get (with_or_without m name found) name ≡ found
get-found_at m name None = get-removed m name
get-found_at m name (Some bytes) = get-put m name bytes

pub get-found_other : (m : Files) (name : List ℕ) (found : Option (List ℕ)) (q : List ℕ) → q ≢ name → get (with_or_without m name found) q ≡ get m q
get-found_other m name None q other = get-remove_other m name q other
get-found_other m name (Some bytes) q other = get-put_other m name bytes q other

-- a cut leaves the same where nothing changed
pub leaves-other : (k f s k' f' s' left : Option (List ℕ)) → k' ≡ k → f' ≡ f → s' ≡ s → (left ≡ k') ⊎ (s' ≡ f' → left ≡ f') → (left ≡ k) ⊎ (s ≡ f → left ≡ f)
leaves-other k f s k' f' s' left ek ef es (inl kept) = inl (kept ∙ ek)
leaves-other k f s k' f' s' left ek ef es (inr now) = inr (λ sure. now (es ∙ sure ∙ sym ef) ∙ ef)

-- a name that is made sure leaves what was sure of its file
sync_at : (m s f : Files) (name q : List ℕ) (left : Option (List ℕ)) (tie : Bool) → eq_by_cmp names q name ≡ tie → left ≡ get (with_or_without m name (get s name)) q
    → (left ≡ get m q) ⊎ (get s q ≡ get f q → left ≡ get f q)
sync_at m s f name q left true tie kept =
    let same : q ≡ name = tied q name tie in
    inr (λ sure. kept ∙ ap (get (with_or_without m name (get s name))) same ∙ get-found_at m name (get s name) ∙ ap (get s) (sym same) ∙ sure)
sync_at m s f name q left false tie kept =
    inl (kept ∙ get-found_other m name (get s name) q (λ same. let both : true ≡ false = sym (rw same (tied_self name)) ∙ tie in cc))

pub leaves-synced : (m s f n : Files) (name q : List ℕ) (left : Option (List ℕ)) → n ≡ with_or_without m name (get s name)
    → (left ≡ get n q) ⊎ (get s q ≡ get f q → left ≡ get f q) → (left ≡ get m q) ⊎ (get s q ≡ get f q → left ≡ get f q)
leaves-synced m s f n name q left is (inl kept) = sync_at m s f name q left _ refl (kept ∙ ap (λ files. get files q) is)
leaves-synced m s f n name q left is (inr now) = inr now

pub sure-synced : (m s f n : Files) (name : List ℕ) (left : Option (List ℕ)) → n ≡ with_or_without m name (get s name) → get s name ≡ get f name
    → (left ≡ get n name) ⊎ (get s name ≡ get f name → left ≡ get f name) → left ≡ get f name
sure-synced m s f n name left is sure (inl kept) = kept ∙ ap (λ files. get files name) is ∙ get-found_at m name (get s name) ∙ sure
sure-synced m s f n name left is sure (inr now) = now sure

-- a file that was moved
pub get-moved_at : (m n : Files) (from to : List ℕ) → n ≡ with_or_without (remove m from) to (get m from) → get n to ≡ get m from
get-moved_at m n from to is = ap (λ files. get files to) is ∙ get-found_at (remove m from) to (get m from)

pub get-moved_other : (m n : Files) (from to q : List ℕ) → n ≡ with_or_without (remove m from) to (get m from) → q ≢ from → q ≢ to → get n q ≡ get m q
get-moved_other m n from to q is from_other to_other =
    ap (λ files. get files q) is ∙ get-found_other (remove m from) to (get m from) q to_other ∙ get-remove_other m from q from_other
