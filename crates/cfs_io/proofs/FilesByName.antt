-- A list of files and the map that it makes.
use Rattle.std.proofs.Common.{◌≡◌, ℕ, suc, zero, ◌<◌, ◌≤◌, Bool, true, false, cond, List, [], ◌∷◌, ◌++◌, length, get_or, Some, None, refl, sym, ap, ◌∙◌, arith}
use Rattle.std.proofs.Math.ListN.{set}
use Rattle.std.specs.declared.cmp.Ordering.{Ordering}
use Rattle.std.specs.Ordering.{nat_cmp, eq_by_cmp}
use Rattle.std.specs.Str.{bytes_eq}
use Rattle.std.specs.List.{position, position_or_len}
use Rattle.std.specs.Cmp.{eq_by_cmp_equiv}
use Rattle.std.specs.Cmp.Lexicographic.{slice_cmp, nat_list_cmp_total}
use Rattle.std.specs.FinMap.{find, insert, get, get-insert, get-from_entries, from_entries_push, same_map, slice_cmp-IsAntisymmetric, nat_cmp-IsAntisymmetric}
use Rattle.std.proofs.lemmas.Slice.Eq.{bytes_eq-Decides}
use Rattle.std.proofs.lemmas.Map.Text.{is_eq-slice_cmp}
use Rattle.std.proofs.lemmas.List.Quantifiers.{position-Some}
use Rattle.std.proofs.lemmas.List.Sums.{fails_before_first}
use Rattle.std.proofs.lemmas.Bool.{ltb-false}
use Rattle.cfs_io.specs.Files.{files_of}

abbrev pub File : Type 0
File = List ℕ × List ℕ

abbrev pub names : List ℕ → List ℕ → Ordering
names = slice_cmp nat_cmp

-- whether a file has this name
abbrev pub is_named : List ℕ → File → Bool
is_named name file = bytes_eq file.0 name

pub same_test : (a b : List ℕ) → eq_by_cmp names a b ≡ bytes_eq b a
same_test a b = (eq_by_cmp_equiv nat_list_cmp_total).symm a b ∙ is_eq-slice_cmp b a

same_name : (a b : List ℕ) → bytes_eq a b ≡ true → a ≡ b
same_name a b is = (bytes_eq-Decides a b).0 is

other_name : (a b : List ℕ) → bytes_eq a b ≡ false → a ≡ b → ⊥
other_name a b is same = let named = (bytes_eq-Decides a b).1 same in cc

-- the first file of a name is the one that is found
find_first : (name : List ℕ) (files : List File) (i : ℕ) (d : File) → i < length files → is_named name (get_or files i d) ≡ true
    → ((k : ℕ) → k < i → is_named name (get_or files k d) ≡ false) → find names name files ≡ Some (get_or files i d).1
find_first name [] i d within is before = absurd (omega arith)
find_first name (f ∷ fs) zero d within is before = ap (λ b. cond b (Some f.1) (find names name fs)) (same_test name f.0 ∙ is)
find_first name (f ∷ fs) (suc i) d within is before =
    ap (λ b. cond b (Some f.1) (find names name fs)) (same_test name f.0 ∙ before 0 (omega arith))
    ∙ find_first name fs i d (omega arith) is (λ k below. before (suc k) (omega arith))

-- where no file has the name, none is found
find_none : (name : List ℕ) (files : List File) (d : File) → ((k : ℕ) → k < length files → is_named name (get_or files k d) ≡ false) → find names name files ≡ None
find_none name [] d others = refl
find_none name (f ∷ fs) d others =
    ap (λ b. cond b (Some f.1) (find names name fs)) (same_test name f.0 ∙ others 0 (omega arith))
    ∙ find_none name fs d (λ k below. others (suc k) (omega arith))

merged : {X : Type 0} (b c : Bool) (x y z : X) → c ≡ b → cond b x z ≡ cond b x (cond c y z)
merged true c x y z same = refl
merged false c x y z same = ap (λ t. cond t y z) (sym same)

swapped : {X : Type 0} (b c : Bool) (x y z : X) → (b ≡ true → c ≡ true → ⊥) → cond b x (cond c y z) ≡ cond c y (cond b x z)
swapped true true x y z apart = absurd (apart refl refl)
swapped true false x y z apart = refl
swapped false c x y z apart = refl

-- the first file of a name, replaced
find-set : (name bytes : List ℕ) (files : List File) (i : ℕ) (d : File) → i < length files → is_named name (get_or files i d) ≡ true
    → ((k : ℕ) → k < i → is_named name (get_or files k d) ≡ false) → (q : List ℕ)
    → find names q (set files i (name, bytes)) ≡ cond (eq_by_cmp names q name) (Some bytes) (find names q files)
find-set name bytes [] i d within is before q = absurd (omega arith)
find-set name bytes (f ∷ fs) zero d within is before q =
    merged (eq_by_cmp names q name) (eq_by_cmp names q f.0) (Some bytes) (Some f.1) (find names q fs) (ap (eq_by_cmp names q) (same_name f.0 name is))
find-set name bytes (f ∷ fs) (suc i) d within is before q =
    ap (cond (eq_by_cmp names q f.0) (Some f.1)) (find-set name bytes fs i d (omega arith) is (λ k below. before (suc k) (omega arith)) q)
    ∙ swapped (eq_by_cmp names q f.0) (eq_by_cmp names q name) (Some f.1) (Some bytes) (find names q fs)
    (λ here there. other_name f.0 name (before 0 (omega arith))
    (same_name f.0 q (sym (same_test q f.0) ∙ here) ∙ sym (same_name name q (sym (same_test q name) ∙ there))))

not_placed : (b : Bool) (i : ℕ) → cond b (Some i) None ≡ None → b ≡ false
not_placed true i none = cc
not_placed false i none = refl

-- no file passes a test that has no position
position-None : (p : File → Bool) (files : List File) (d : File) → position p files ≡ None → (k : ℕ) → k < length files → p (get_or files k d) ≡ false
position-None p files d none k within =
    let past : length files ≤ position_or_len p files = ltb-false _ _ (not_placed _ _ none) in
    fails_before_first p files k d (omega arith)

-- the file at the first place of a name is the map's
pub get-found : (name : List ℕ) (files : List File) (i : ℕ) (d : File) → position (is_named name) files ≡ Some i → get (files_of files) name ≡ Some (get_or files i d).1
get-found name files i d at =
    let first = position-Some (is_named name) files i d at in
    get-from_entries nat_list_cmp_total files name ∙ find_first name files i d first.0 first.1 first.2

-- with no place of a name the map has no file of it
pub get-missing : (name : List ℕ) (files : List File) → position (is_named name) files ≡ None → get (files_of files) name ≡ None
get-missing name files none =
    get-from_entries nat_list_cmp_total files name ∙ find_none name files ([], []) (position-None (is_named name) files ([], []) none)

-- to replace the file at the first place of a name is to insert it
pub files_of-set : (name bytes : List ℕ) (files : List File) (i : ℕ) → position (is_named name) files ≡ Some i → files_of (set files i (name, bytes)) ≡ insert (files_of files) name bytes
files_of-set name bytes files i at =
    let first = position-Some (is_named name) files i ([], []) at in
    same_map nat_list_cmp_total (slice_cmp-IsAntisymmetric nat_cmp-IsAntisymmetric) _ _
    (λ q. get-from_entries nat_list_cmp_total _ q ∙ find-set name bytes files i ([], []) first.0 first.1 first.2 q
    ∙ sym (get-insert nat_list_cmp_total _ name bytes q ∙ ap (cond (eq_by_cmp names q name) (Some bytes)) (get-from_entries nat_list_cmp_total files q)))

-- to add a file whose name has no place is to insert it
pub files_of-push : (name bytes : List ℕ) (files : List File) → position (is_named name) files ≡ None → files_of (files ++ (name, bytes) ∷ []) ≡ insert (files_of files) name bytes
files_of-push name bytes files none =
    from_entries_push nat_list_cmp_total (slice_cmp-IsAntisymmetric nat_cmp-IsAntisymmetric) files name bytes
    (find_none name files ([], []) (position-None (is_named name) files ([], []) none))

-- the same of copies of the name and the bytes, and of a list that was read from the same files
pub stored-set : (name bytes n b : List ℕ) (files seen : List File) (i : ℕ) → n ≡ name → b ≡ bytes → seen ≡ files → position (is_named name) seen ≡ Some i
    → files_of (set files i (n, b)) ≡ insert (files_of files) name bytes
stored-set name bytes n b files seen i copied_name copied_bytes same_files at =
    ap (λ copy. files_of (set files i (copy, b))) copied_name ∙ ap (λ copy. files_of (set files i (name, copy))) copied_bytes
    ∙ files_of-set name bytes files i (ap (position (is_named name)) (sym same_files) ∙ at)

pub stored-push : (name bytes n b : List ℕ) (files seen new : List File) → n ≡ name → b ≡ bytes → seen ≡ files → position (is_named name) seen ≡ None
    → new ≡ files ++ (n, b) ∷ [] → files_of new ≡ insert (files_of files) name bytes
stored-push name bytes n b files seen new copied_name copied_bytes same_files none pushed =
    ap files_of pushed ∙ ap (λ copy. files_of (files ++ (copy, b) ∷ [])) copied_name ∙ ap (λ copy. files_of (files ++ (name, copy) ∷ [])) copied_bytes
    ∙ files_of-push name bytes files (ap (position (is_named name)) (sym same_files) ∙ none)
