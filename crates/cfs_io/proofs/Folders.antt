-- A folder's files through the steps of a save.
use Rattle.std.proofs.Common.{◌≡◌, ◌≢◌, ◌⊎◌, inl, inr, ℕ, ◌<◌, ◌≤◌, ◌+◌, ◌==◌, ◌++◌, ◌∷◌, [], Bool, true, false, cond, not, filter, List, length, take, Some, None, Ok, Err, Result, OnOk, IfSome, IsSomeAnd, IsTrue, refl, sym, ap, subst, ◌∙◌, arith}
use Rattle.std.specs.declared.option.Option.{Option}
use Rattle.std.specs.Option.{option_map}
use Rattle.std.specs.declared.cmp.Ordering.TheVariants.{Equal}
use Rattle.std.specs.Ordering.{nat_cmp, eq_by_cmp}
use Rattle.std.specs.Str.{bytes_eq}
use Rattle.std.specs.Cmp.Lexicographic.{slice_cmp, nat_list_cmp_total}
use Rattle.std.specs.FinMap.{get, insert, remove, retain_keys, get-empty, get-insert, get-remove, get-retain_keys, same_map, slice_cmp-IsAntisymmetric, nat_cmp-IsAntisymmetric}
use Rattle.std.proofs.Math.Seq.{take_all}
use Rattle.std.proofs.lemmas.Slice.Eq.{bytes_eq-Decides}
use Rattle.cfs_pmem.specs.Faults.{Rose}
use Rattle.cfs_io.specs.Files.{Files, Finds, Misses, OthersKept, Saved, files_of}
use Rattle.cfs_io.specs.Folder.{Filled, HasOneBeside, HasSize, IsLonger, IsOf, IsWhole, Made, Moved, OthersStay, Put, ReadsFront, Removed, Replaced, SameOrSaved, is_kept_name, on_shelf}
use Rattle.cfs_io.specs.declared.save_refusal.SaveRefusal.{SaveRefusal}
use Rattle.cfs_io.specs.declared.save_refusal.SaveRefusal.TheVariants.{NamesTaken, NoMemory, Unchanged, LeftBeside, NotDurable}
use Rattle.cfs_io.specs.Saves.{LeftBy}
use Rattle.cfs_io.proofs.FilesByName.{names, same_test}

-- names that tie are equal
pub tied : (q k : List ℕ) → eq_by_cmp names q k ≡ true → q ≡ k
tied q k is = sym ((bytes_eq-Decides k q).0 (sym (same_test q k) ∙ is))

pub tied_self : (k : List ℕ) → eq_by_cmp names k k ≡ true
tied_self k = same_test k k ∙ (bytes_eq-Decides k k).1 refl

not_true : (b : Bool) → (b ≡ true → ⊥) → b ≡ false
not_true true never = absurd (never refl)
not_true false never = refl

pub untied : (q k : List ℕ) → q ≢ k → eq_by_cmp names q k ≡ false
untied q k other = not_true _ (λ is. other (tied q k is))

-- what stands under the name of a file that was put, and under another
pub get-put : (m : Files) (k v : List ℕ) → get (insert m k v) k ≡ Some v
get-put m k v = get-insert nat_list_cmp_total m k v k ∙ ap (λ b. cond b (Some v) (get m k)) (tied_self k)

pub get-put_other : (m : Files) (k v q : List ℕ) → q ≢ k → get (insert m k v) q ≡ get m q
get-put_other m k v q other = get-insert nat_list_cmp_total m k v q ∙ ap (λ b. cond b (Some v) (get m q)) (untied q k other)

-- two maps that find the same are one
same_files : (m n : Files) → ((q : List ℕ) → get m q ≡ get n q) → m ≡ n
same_files m n same = same_map nat_list_cmp_total (slice_cmp-IsAntisymmetric nat_cmp-IsAntisymmetric) m n same

drop_put : {X : Type 0} (b : Bool) (v old none : X) → cond b none (cond b v old) ≡ cond b none old
drop_put true v old none = refl
drop_put false v old none = refl

-- what was put under a name and removed is gone
remove-put : (m : Files) (k v : List ℕ) → remove (insert m k v) k ≡ remove m k
remove-put m k v = same_files _ _ (λ q. get-remove nat_list_cmp_total (insert m k v) k q
    ∙ ap (cond (eq_by_cmp names q k) None) (get-insert nat_list_cmp_total m k v q)
    ∙ drop_put (eq_by_cmp names q k) (Some v) (get m q) None
    ∙ sym (get-remove nat_list_cmp_total m k q))

none_there : (m : Files) (k q : List ℕ) (b : Bool) → get m k ≡ None → eq_by_cmp names q k ≡ b → cond b None (get m q) ≡ get m q
none_there m k q true none is = sym (ap (get m) (tied q k is) ∙ none)
none_there m k q false none is = refl

-- to remove a file that is not there changes nothing
remove-missing : (m : Files) (k : List ℕ) → get m k ≡ None → remove m k ≡ m
remove-missing m k none = same_files _ _ (λ q. get-remove nat_list_cmp_total m k q ∙ none_there m k q _ none refl)

at_others : (m n : Files) (k q : List ℕ) (b : Bool) → ((r : List ℕ) → r ≢ k → get n r ≡ get m r) → eq_by_cmp names q k ≡ b → cond b None (get n q) ≡ cond b None (get m q)
at_others m n k q true others is = refl
at_others m n k q false others is = others q (λ same. (let tied : eq_by_cmp names q k ≡ true = rw same (tied_self k) in let both : true ≡ false = sym tied ∙ is in cc))

-- files that differ at one name are the same without it
remove-others : (m n : Files) (k : List ℕ) → ((q : List ℕ) → q ≢ k → get n q ≡ get m q) → remove n k ≡ remove m k
remove-others m n k others = same_files _ _ (λ q. get-remove nat_list_cmp_total n k q ∙ at_others m n k q _ others refl ∙ sym (get-remove nat_list_cmp_total m k q))

-- a fact for success that follows from another
pub OnOk-map : {T E : Type 0} (r : Result T E) {P Q : Type 0} → (P → Q) → OnOk r P → OnOk r Q
OnOk-map (Ok x) f p = f p
OnOk-map (Err e) f p = p

-- the steps of a save up to the rename
pub Replaced-filled : (o k f s r : Option Files) (b n bytes : List ℕ) → k ≡ o → Finds o b [] → Filled k f b bytes → s ≡ f → Moved s r b n → Replaced o r b n bytes
Replaced-filled None k f s r b n bytes kept empty filled synced moved =
    let f_is : f ≡ None = (rw kept at filled) tt in
    let s_is : s ≡ None = synced ∙ f_is in
    (rw s_is at moved) bytes tt
Replaced-filled (Some m) k f s r b n bytes kept empty filled synced moved =
    let f_is : f ≡ Some (insert m b bytes) = (rw kept at filled) empty in
    let s_is : s ≡ Some (insert m b bytes) = synced ∙ f_is in
    (rw s_is at moved) bytes (get-put m b bytes) ∙ ap (λ rest. Some (insert rest n bytes)) (remove-put m b bytes)

-- what a cut may leave of the file beside is the new file
pub IsWhole-filled : (o k f s : Option Files) (b bytes : List ℕ) (left : Option (List ℕ)) → k ≡ o → Finds o b [] → Filled k f b bytes → s ≡ f → IsOf s b left → IsWhole o bytes left
IsWhole-filled None k f s b bytes left kept empty filled synced of = tt
IsWhole-filled (Some m) k f s b bytes left kept empty filled synced of =
    let f_is : f ≡ Some (insert m b bytes) = (rw kept at filled) empty in
    let s_is : s ≡ Some (insert m b bytes) = synced ∙ f_is in
    (rw s_is at of) ∙ get-put m b bytes

-- a new file beside, put in place of the old one
pub Put-replaced : (o b n s : Option Files) (beside name bytes : List ℕ) → Made o b beside → Replaced b n beside name bytes → s ≡ n → Put o s name bytes
Put-replaced None b n s beside name bytes made replaced synced = synced ∙ (rw made.1 at replaced)
Put-replaced (Some m) b n s beside name bytes made replaced synced =
    synced ∙ (rw made.1 at replaced) ∙ ap (λ rest. Some (insert rest name bytes)) (remove-put m beside [] ∙ remove-missing m beside made.0)

-- and what a cut may leave then
pub IsWhole-put : (o b n : Option Files) (beside name bytes : List ℕ) (left : Option (List ℕ)) → Made o b beside → Replaced b n beside name bytes → IsOf n name left → IsWhole o bytes left
IsWhole-put None b n beside name bytes left made replaced of = tt
IsWhole-put (Some m) b n beside name bytes left made replaced of =
    (rw (rw made.1 at replaced) at of) ∙ get-put _ name bytes

-- a new file beside, whatever was written into it
pub OthersStay-made : (o b k : Option Files) (beside : List ℕ) → Made o b beside → OthersStay b k beside → OthersStay o k beside
OthersStay-made None b k beside made others = rw made.1 at others
OthersStay-made (Some m) b None beside made others = rw made.1 at others
OthersStay-made (Some m) b (Some n) beside made others = let stay = rw made.1 at others in λ q other. stay q other ∙ get-put_other m beside [] q other

-- which is removed
pub same-removed : (o b k r : Option Files) (beside : List ℕ) → Made o b beside → OthersStay b k beside → Removed k r beside → r ≡ o
same-removed None b k r beside made others removed = let k_is : k ≡ None = rw made.1 at others in rw k_is at removed
same-removed (Some m) b None r beside made others removed = absurd (rw made.1 at others)
same-removed (Some m) b (Some n) r beside made others removed =
    removed ∙ ap Some (remove-others m n beside (OthersStay-made (Some m) b (Some n) beside made others) ∙ remove-missing m beside made.0)

-- which stays
pub HasOneBeside-made : (o b k s : Option Files) (beside : List ℕ) → is_kept_name beside ≡ true → Made o b beside → OthersStay b k beside → s ≡ k → HasOneBeside o s
HasOneBeside-made o b k s beside kept made others same =
    record { name = beside; kept = kept; is_new = made.0; others = subst (λ files. OthersStay o files beside) (sym same) (OthersStay-made o b k beside made others) }

-- the new file is empty
pub Finds-made : (o b : Option Files) (beside : List ℕ) → Made o b beside → Finds b beside []
Finds-made None b beside made = rw made.1 tt
Finds-made (Some m) b beside made = rw made.1 (get-put m beside [])

-- where the files before are told, those beside a new file are
pub IsWhole-made : (o b : Option Files) (beside bytes : List ℕ) (left : Option (List ℕ)) → Made o b beside → IsWhole b bytes left → IsWhole o bytes left
IsWhole-made None b beside bytes left made whole = tt
IsWhole-made (Some m) b beside bytes left made whole = rw made.1 at whole

-- a kept name is no other name
pub kept_apart : (b q : List ℕ) → is_kept_name b ≡ true → is_kept_name q ≡ false → b ≢ q
kept_apart b q kept not_kept same = let both : true ≡ false = sym kept ∙ ap is_kept_name same ∙ not_kept in cc

-- a count that rose after it stood, and did not fall then, rose
pub Rose-after : (a b c d : ℕ) → a ≤ b → Rose b c → c ≤ d → Rose a d
Rose-after a b c d before rose after = omega arith

alike : (q x : List ℕ) → names q x ≡ Equal → not (is_kept_name x) ≡ not (is_kept_name q)
alike q x tie = ap (λ name. not (is_kept_name name)) (sym (slice_cmp-IsAntisymmetric nat_cmp-IsAntisymmetric q x tie))

get-on_shelf : (m : Files) (name : List ℕ) → get (retain_keys m (λ q. not (is_kept_name q))) name ≡ cond (not (is_kept_name name)) (get m name) None
get-on_shelf m name = get-retain_keys m (λ q. not (is_kept_name q)) name (alike name)

-- a name that is kept for saves is no file's
pub Misses-kept : (files : Option Files) (name : List ℕ) → is_kept_name name ≡ true → Misses (on_shelf files) name
Misses-kept None name kept = tt
Misses-kept (Some m) name kept = get-on_shelf m name ∙ ap (λ b. cond (not b) (get m name) None) kept

-- the shelf has the folder's file of every other name, or none
pub Finds-shelf : (files : Option Files) (name bytes : List ℕ) → is_kept_name name ≡ false → Finds files name bytes → Finds (on_shelf files) name bytes
Finds-shelf None name bytes not_kept finds = tt
Finds-shelf (Some m) name bytes not_kept finds = get-on_shelf m name ∙ ap (λ b. cond (not b) (get m name) None) not_kept ∙ finds

pub Misses-shelf : (files : Option Files) (name : List ℕ) → is_kept_name name ≡ false → Misses files name → Misses (on_shelf files) name
Misses-shelf None name not_kept misses = tt
Misses-shelf (Some m) name not_kept misses = get-on_shelf m name ∙ ap (λ b. cond (not b) (get m name) None) not_kept ∙ misses

-- the front of a file that is no longer is the file
finds_front : (found : Option (List ℕ)) (front : List ℕ) (size most : ℕ) → IsSomeAnd found (λ bytes. length bytes ≡ size) → size ≤ most
    → IsSomeAnd found (λ bytes. front ≡ take most bytes) → found ≡ Some front
finds_front None front size most sized short read = absurd sized
finds_front (Some bytes) front size most sized short read =
    let within : length bytes ≤ most = omega arith in ap Some (sym (read ∙ take_all most bytes within))

pub Finds-front : (files seen : Option Files) (name front : List ℕ) (size most : ℕ) → HasSize files name size → size ≤ most → seen ≡ files → ReadsFront seen name most front → Finds files name front
Finds-front None seen name front size most sized short same read = tt
Finds-front (Some m) seen name front size most sized short same read = finds_front (get m name) front size most sized short (rw same at read)

longer : (found : Option (List ℕ)) (size most : ℕ) → IsSomeAnd found (λ bytes. length bytes ≡ size) → most < size → IfSome found (λ bytes. most < length bytes)
longer None size most sized more = tt
longer (Some bytes) size most sized more = omega arith

pub IsLonger-size : (files : Option Files) (name : List ℕ) (size most : ℕ) → HasSize files name size → most < size → IsLonger files name most
IsLonger-size None name size most sized more = tt
IsLonger-size (Some m) name size most sized more = longer (get m name) size most sized more

kept_tied : (m : Files) (name bytes q : List ℕ) (tie kept : Bool) → eq_by_cmp names q name ≡ tie → is_kept_name q ≡ kept → is_kept_name name ≡ false
    → cond (not kept) (cond tie (Some bytes) (get m q)) None ≡ cond tie (Some bytes) (cond (not kept) (get m q) None)
kept_tied m name bytes q true true tie kept not_kept = let both : true ≡ false = sym kept ∙ ap is_kept_name (tied q name tie) ∙ not_kept in cc
kept_tied m name bytes q true false tie kept not_kept = refl
kept_tied m name bytes q false kept tie is not_kept = refl

retain-put : (m : Files) (name bytes : List ℕ) → is_kept_name name ≡ false
    → retain_keys (insert m name bytes) (λ q. not (is_kept_name q)) ≡ insert (retain_keys m (λ q. not (is_kept_name q))) name bytes
retain-put m name bytes not_kept = same_files _ _ (λ q. get-on_shelf (insert m name bytes) q
    ∙ ap (λ found. cond (not (is_kept_name q)) found None) (get-insert nat_list_cmp_total m name bytes q)
    ∙ kept_tied m name bytes q _ _ refl refl not_kept
    ∙ ap (cond (eq_by_cmp names q name) (Some bytes)) (sym (get-on_shelf m q))
    ∙ sym (get-insert nat_list_cmp_total (retain_keys m (λ r. not (is_kept_name r))) name bytes q))

-- a front that is longer than the file is none
longer_front : (found : Option (List ℕ)) (front : List ℕ) (size most : ℕ) → IsSomeAnd found (λ bytes. length bytes ≡ size) → size ≤ most
    → IsSomeAnd found (λ bytes. front ≡ take (most + 1) bytes) → most < length front → ⊥
longer_front None front size most sized short read more = sized
longer_front (Some bytes) front size most sized short read more =
    let within : length bytes ≤ most + 1 = omega arith in
    let same : length front ≡ length bytes = ap length (read ∙ take_all (most + 1) bytes within) in
    omega arith

pub IsLonger-front : (files seen : Option Files) (name front : List ℕ) (size most : ℕ) → HasSize files name size → size ≤ most → seen ≡ files → ReadsFront seen name (most + 1) front → most < length front
    → IsLonger files name most
IsLonger-front None seen name front size most sized short same read more = tt
IsLonger-front (Some m) seen name front size most sized short same read more = absurd (longer_front (get m name) front size most sized short (rw same at read) more)

-- what the shelf has after a save
pub Saved-shelf : (old new : Option Files) (name bytes : List ℕ) → is_kept_name name ≡ false → Put old new name bytes → Saved (on_shelf old) (on_shelf new) name bytes
Saved-shelf None new name bytes not_kept put = tt
Saved-shelf (Some m) new name bytes not_kept put = rw put (retain-put m name bytes not_kept)

same_but : (m n : Files) (beside q : List ℕ) (kept : Bool) → is_kept_name beside ≡ true → is_kept_name q ≡ kept → ((r : List ℕ) → r ≢ beside → get n r ≡ get m r)
    → cond (not kept) (get n q) None ≡ cond (not kept) (get m q) None
same_but m n beside q true is kept others = refl
same_but m n beside q false is kept others = others q (λ same. kept_apart beside q is kept (sym same))

-- a file beside is no file of the shelf
pub same_shelf : (old new : Option Files) → HasOneBeside old new → on_shelf new ≡ on_shelf old
same_shelf None new one = ap on_shelf one.others
same_shelf (Some m) None one = absurd one.others
same_shelf (Some m) (Some n) one = ap Some (same_files _ _ (λ q. get-on_shelf n q ∙ same_but m n one.name q _ one.kept refl one.others ∙ sym (get-on_shelf m q)))

-- what the shelf has after a save that was refused
pub SameOrSaved-left : (refusal : SaveRefusal) (old new : Option Files) (name bytes : List ℕ) → is_kept_name name ≡ false → LeftBy refusal old new name bytes
    → SameOrSaved (on_shelf old) (on_shelf new) name bytes
SameOrSaved-left NamesTaken old new name bytes not_kept left = inl (ap on_shelf left)
SameOrSaved-left NoMemory old new name bytes not_kept left = inl (ap on_shelf left)
SameOrSaved-left Unchanged old new name bytes not_kept left = inl (ap on_shelf left)
SameOrSaved-left LeftBeside old new name bytes not_kept left = inl (same_shelf old new left)
SameOrSaved-left NotDurable old new name bytes not_kept left = inr (Saved-shelf old new name bytes not_kept left)

OthersKept-same : (files : Option Files) (name : List ℕ) → OthersKept files files name
OthersKept-same None name = tt
OthersKept-same (Some m) name = λ q other. refl

OthersKept-saved : (old new : Option Files) (name bytes : List ℕ) → Saved old new name bytes → OthersKept old new name
OthersKept-saved None new name bytes saved = tt
OthersKept-saved (Some m) None name bytes saved = absurd saved
OthersKept-saved (Some m) (Some n) name bytes saved = λ q other. ap (λ files. get files q) saved ∙ get-put_other m name bytes q other

pub OthersKept-either : (old new : Option Files) (name bytes : List ℕ) → SameOrSaved old new name bytes → OthersKept old new name
OthersKept-either old new name bytes (inl same) = subst (λ files. OthersKept old files name) (sym same) (OthersKept-same old name)
OthersKept-either old new name bytes (inr saved) = OthersKept-saved old new name bytes saved

drop_tied : (m : Files) (k name v q : List ℕ) (tie other : Bool) → eq_by_cmp names q name ≡ tie → eq_by_cmp names q k ≡ other → k ≢ name
    → cond other (Some v) (cond tie None (get m q)) ≡ cond tie None (cond other (Some v) (get m q))
drop_tied m k name v q true true tie other apart = absurd (apart (sym (tied q k other) ∙ tied q name tie))
drop_tied m k name v q true false tie other apart = refl
drop_tied m k name v q false other tie is apart = refl

remove-put_other : (m : Files) (k name v : List ℕ) → k ≢ name → insert (remove m name) k v ≡ remove (insert m k v) name
remove-put_other m k name v apart = same_files _ _ (λ q. get-insert nat_list_cmp_total (remove m name) k v q
    ∙ ap (cond (eq_by_cmp names q k) (Some v)) (get-remove nat_list_cmp_total m name q)
    ∙ drop_tied m k name v q _ _ refl refl apart
    ∙ ap (cond (eq_by_cmp names q name) None) (sym (get-insert nat_list_cmp_total m k v q))
    ∙ sym (get-remove nat_list_cmp_total (insert m k v) name q))

others_of : (name : List ℕ) (file : List ℕ × List ℕ) (files : List (List ℕ × List ℕ)) (same : Bool) → bytes_eq file.0 name ≡ same
    → files_of (filter (λ f. not (bytes_eq f.0 name)) files) ≡ remove (files_of files) name
    → files_of (cond (not same) (file ∷ filter (λ f. not (bytes_eq f.0 name)) files) (filter (λ f. not (bytes_eq f.0 name)) files)) ≡ remove (insert (files_of files) file.0 file.1) name
others_of name file files true is rest = rest ∙ sym (ap (λ k. remove (insert (files_of files) k file.1) name) ((bytes_eq-Decides file.0 name).0 is) ∙ remove-put (files_of files) name file.1)
others_of name file files false is rest = ap (λ m. insert m file.0 file.1) rest
    ∙ remove-put_other (files_of files) file.0 name file.1 (λ same. let both : true ≡ false = sym ((bytes_eq-Decides file.0 name).1 same) ∙ is in cc)

-- the files of a list without those of a name
pub files_of-others : (name : List ℕ) (files : List (List ℕ × List ℕ)) → files_of (filter (λ f. not (bytes_eq f.0 name)) files) ≡ remove (files_of files) name
files_of-others name [] = sym (remove-missing (files_of []) name (get-empty names name))
files_of-others name (file ∷ files) = others_of name file files _ refl (files_of-others name files)
