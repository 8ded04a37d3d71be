-- What a map of records tells of the files, and lists that are filtered number by number.
use Rattle.std.proofs.Common.{◌≡◌, ◌≢◌, ◌∙◌, ℕ, suc, ◌+◌, ◌-◌, ◌<◌, ◌≤◌, Bool, true, false}
use Rattle.std.proofs.Common.{Option, Some, None, List, [], ◌∷◌, ◌++◌, cond, drop, take, get_or}
use Rattle.std.proofs.Common.{set, length, arith, refl, sym, ap, ap₂, subst, inl, inr, eq-eqb}
use Rattle.std.specs.Prelude.{◌==◌, ◌&&◌, ◌||◌, ◌/◌, not, filter, is_some, nat_eq}
use Rattle.std.specs.Prelude.{if◌then◌else◌}
use Rattle.std.specs.HashMap.{get}
use Rattle.std.specs.List.{cons_option, list_any, range_with_len}
use Rattle.std.specs.Option.{option_map}
use Rattle.std.proofs.Math.Seq.{drop-cons}
use Rattle.std.proofs.lemmas.Bool.{cases_Bool, eqb-true}
use Rattle.std.proofs.lemmas.Grind.{take_at_read}
use Rattle.std.proofs.lemmas.List.{map-append, get_or-set_other, get_or-set_same, length-set}
use Rattle.std.proofs.lemmas.List.Elements.{filter-append, filter_map-append}
use Rattle.std.proofs.lemmas.List.Folds.{list_any-append}
use Rattle.cfs_dir.specs.declared.node.Node.{Node}
use Rattle.cfs_dir.specs.Namespace.{is_directory}
use Rattle.cfs_home.specs.Disks.{File}
use Rattle.cfs_slot.specs.Words.{gate_of, ino_of, is_live, mark_of}
use Rattle.cfs_replay.specs.declared.pending.Pending.{Pending}
use Rattle.cfs_survey.specs.declared.live_entry.LiveEntry.{LiveEntry}
use Rattle.cfs_survey.specs.Mapped.{BlockMap}
use Rattle.cfs_survey.proofs.FirstFaults.{range_more}
use Rattle.cfs_survey.proofs.RootLemmas.{unequal}
use Rattle.cfs_plan.specs.Files.{HasFiles, IsRecordMap, file_in, file_with, files_of}
use Rattle.cfs_plan.specs.Lists.{is_dead, is_leftover, is_stray}
use Rattle.cfs_plan.specs.Pendings.{pending_of, pendings}

-- ---- one more number

filter-one : (p : ℕ → Bool) (n : ℕ) → filter p (range_with_len 0 (n + 1))
    ≡ filter p (range_with_len 0 n) ++ cond (p n) (n ∷ []) []
filter-one p n =
    ap (filter p) (range_more 0 n n (omega arith)) ∙ filter-append p (range_with_len 0 n) (n ∷ [])

pub one-more : (p : ℕ → Bool) (n : ℕ) (xs new : List ℕ) (b : Bool) →
    xs ≡ filter p (range_with_len 0 n) → b ≡ p n → new ≡ xs ++ (if b then n ∷ [] else [])
    → new ≡ filter p (range_with_len 0 (n + 1))
one-more p n xs new b before is noted =
    noted
    ∙ ap₂ (λ ys c. ys ++ (if c then n ∷ [] else [])) before is
    ∙ sym (filter-one p n)

-- ---- tests

any-same : {X : Type 0} (p q : X → Bool) → ((x : X) → p x ≡ q x) → (xs : List X) →
    list_any p xs ≡ list_any q xs
any-same p q same [] = refl
any-same p q same (x ∷ xs) = ap₂ (λ a b. a || b) (same x) (any-same p q same xs)

pub equal-sym : (a b : ℕ) → (a == b) ≡ (b == a)
equal-sym a b = elim (cases_Bool (a == b)) [
  | inl is ↦ is ∙ sym (eq-eqb b a (sym (eqb-true a b is)))
  | inr differs ↦
      differs
      ∙ sym (unequal b a (λ same.
      (let is : (a == b) ≡ true = eq-eqb a b (sym same) in cc)))
]

known-any : (files : List File) (ino : ℕ) →
    is_some (option_map (λ file. file.node) (file_with ino files))
    ≡ list_any (λ file. file.ino == ino) files
known-any [] ino = refl
known-any (file ∷ files) ino = split (file.ino == ino) (known-any files ino)
  where
    split : (b : Bool) → is_some (option_map (λ file. file.node) (file_with ino files))
        ≡ list_any (λ file. file.ino == ino) files
        → is_some (option_map (λ file. file.node) (cond b (Some file) (file_with ino files)))
        ≡ (b || list_any (λ file. file.ino == ino) files)
    split true deeper = refl
    split false deeper = deeper

-- the map knows the inode numbers of the files
pub known : (files : List File) (records : BlockMap) → IsRecordMap files records → (ino : ℕ) →
    is_some (get nat_eq records ino) ≡ list_any (λ file. file.ino == ino) files
known files records has ino = ap is_some (has ino) ∙ known-any files ino

-- ---- slots, tags and records of no file

live-alike : (words : List ℕ) (open_is marked : Bool) (files : List File) →
    (not (gate_of words == 0)) ≡ open_is → (mark_of words == 1) ≡ marked →
    list_any (λ file. is_live file.ino words) files
    ≡ list_any (λ file. (open_is && not marked) && (ino_of words == file.ino)) files
live-alike words open_is marked files opens marks =
    any-same (λ file. is_live file.ino words)
    (λ file. (open_is && not marked) && (ino_of words == file.ino))
    (λ file. ap₂ (λ a b. (a && not b) && (ino_of words == file.ino)) opens marks) files

none-any : {X : Type 0} (xs : List X) → list_any (λ x. false) xs ≡ false
none-any [] = refl
none-any (x ∷ xs) = none-any xs

pub dead-marked : (files : List File) (words : List ℕ) → gate_of words ≢ 0 →
    mark_of words ≡ 1 → is_dead files words ≡ true
dead-marked files words opens marks =
    let is_open : (not (gate_of words == 0)) ≡ true =
    ap not (unequal (gate_of words) 0 opens) in
    ap₂ (λ a b. a && not b) is_open
    (live-alike words true true files is_open (eq-eqb (mark_of words) 1 marks)
    ∙ none-any files)

pub dead-unmarked : (files : List File) (records : BlockMap) (words : List ℕ) →
    IsRecordMap files records → gate_of words ≢ 0 → mark_of words ≢ 1 →
    not (is_some (get nat_eq records (ino_of words))) ≡ is_dead files words
dead-unmarked files records words has opens marks =
    let is_open : (not (gate_of words == 0)) ≡ true =
    ap not (unequal (gate_of words) 0 opens) in
    let unmarked : (mark_of words == 1) ≡ false = unequal (mark_of words) 1 marks in
    sym (ap₂ (λ a b. a && not b) is_open
    (live-alike words true false files is_open unmarked
    ∙ any-same (λ file. ino_of words == file.ino) (λ file. file.ino == ino_of words)
    (λ file. equal-sym (ino_of words) file.ino) files
    ∙ sym (known files records has (ino_of words))))

pub stray-tag : (files : List File) (records : BlockMap) (tag : ℕ) → IsRecordMap files records →
    tag ≢ 0 → not (is_some (get nat_eq records (tag / 65536))) ≡ is_stray files tag
stray-tag files records tag has some =
    ap not (known files records has (tag / 65536))
    ∙ sym (ap (λ b. not b && not (list_any (λ file. file.ino == tag / 65536) files))
    (unequal tag 0 some))

-- ---- maps, flags and lists, one by one

files-drop : (nodes : List Node) (k : ℕ) (d : Node) → k < length nodes →
    files_of (drop k nodes)
    ≡ cons_option (file_in (get_or nodes k d)) (files_of (drop (k + 1) nodes))
files-drop nodes k d below =
    let next : suc k ≡ k + 1 = omega arith in
    ap files_of (drop-cons nodes k d below)
    ∙ ap (λ j. cons_option (file_in (get_or nodes k d)) (files_of (drop j nodes))) next

pub with-file : (nodes : List Node) (old new : BlockMap) (k : ℕ) (node : Node) → 0 < k →
    k ≤ length nodes → node ≡ get_or nodes (k - 1) node → is_directory node.kind ≡ false →
    ((ino : ℕ) → get nat_eq new ino
    ≡ cond (nat_eq node.ino ino) (Some node.rec) (get nat_eq old ino))
    → IsRecordMap (files_of (drop k nodes)) old →
    IsRecordMap (files_of (drop (k - 1) nodes)) new
with-file nodes old new k node some most here other updated has ino =
    let next : k - 1 + 1 ≡ k = omega (arith, some) in
    let file : File = record { node = node.rec; ino = node.ino } in
    let one : file_in (get_or nodes (k - 1) node) ≡ Some file =
    ap file_in (sym here) ∙ ap (λ b. if b then None else Some file) other in
    let whole : files_of (drop (k - 1) nodes) ≡ file ∷ files_of (drop k nodes) =
    files-drop nodes (k - 1) node (omega (arith, some, most))
    ∙ ap₂ (λ o j. cons_option o (files_of (drop j nodes))) one next in
    updated ino
    ∙ ap (λ found. cond (nat_eq node.ino ino) (Some node.rec) found) (has ino)
    ∙ split (nat_eq node.ino ino) file (file_with ino (files_of (drop k nodes)))
    ∙ ap (λ files. option_map (λ file. file.node) (file_with ino files)) (sym whole)
  where
    split : (b : Bool) (file : File) (found : Option File) →
        cond b (Some file.node) (option_map (λ file. file.node) found)
        ≡ option_map (λ file. file.node) (cond b (Some file) found)
    split true file found = refl
    split false file found = refl

-- the flags of the records below a number, and of one more node
files-take : (nodes : List Node) (k : ℕ) (d : Node) → k < length nodes →
    files_of (take (k + 1) nodes)
    ≡ files_of (take k nodes) ++ cons_option (file_in (get_or nodes k d)) []
files-take nodes k d below =
    ap files_of (take_at_read nodes k d below).1
    ∙ filter_map-append file_in (take k nodes) (get_or nodes k d ∷ [])

or-false : (b : Bool) → (b || false) ≡ b
or-false true = refl
or-false false = refl

or-true : (b : Bool) → (b || true) ≡ true
or-true true = refl
or-true false = refl

pub flag-length : (node : Node) (old new : List Bool) →
    new ≡ (if is_directory node.kind then old else set old node.rec true) →
    length new ≡ length old
flag-length node old new noted = split (is_directory node.kind) noted
  where
    split : (b : Bool) → new ≡ (if b then old else set old node.rec true) →
        length new ≡ length old
    split true noted = ap length noted
    split false noted = ap length noted ∙ length-set old node.rec true

pub flag-more : (nodes : List Node) (k : ℕ) (node : Node) (old new : List Bool) →
    k < length nodes → node ≡ get_or nodes k node → node.rec < length old →
    new ≡ (if is_directory node.kind then old else set old node.rec true) →
    HasFiles (files_of (take k nodes)) old → HasFiles (files_of (take (k + 1) nodes)) new
flag-more nodes k node old new below here within noted has =
    split (is_directory node.kind) refl noted
  where
    file : File
    file = record { node = node.rec; ino = node.ino }

    test : ℕ → File → Bool
    test rec other = other.node == rec

    before : ℕ → Bool
    before rec = list_any (test rec) (files_of (take k nodes))

    whole : (b : Bool) → is_directory node.kind ≡ b → (rec : ℕ) →
        list_any (test rec) (files_of (take (k + 1) nodes))
        ≡ (before rec || list_any (test rec) (cons_option (if b then None else Some file) []))
    whole b is rec =
        ap (list_any (test rec)) (files-take nodes k node below)
        ∙ list_any-append (test rec) (files_of (take k nodes))
        (cons_option (file_in (get_or nodes k node)) [])
        ∙ ap (λ o. before rec || list_any (test rec) (cons_option o []))
        (ap file_in (sym here) ∙ ap (λ c. if c then None else Some file) is)

    split : (b : Bool) → is_directory node.kind ≡ b →
        new ≡ (if b then old else set old node.rec true) →
        HasFiles (files_of (take (k + 1) nodes)) new
    split true is noted rec inside =
        let low : rec < length old = subst (λ bs. rec < length bs) noted inside in
        ap (λ bs. get_or bs rec false) noted ∙ has rec low
        ∙ sym (whole true is rec ∙ or-false (before rec))
    split false is noted rec inside =
        let same_length : length new ≡ length old =
        ap length noted ∙ length-set old node.rec true in
        let low : rec < length old = omega (arith, inside, same_length) in
        ap (λ bs. get_or bs rec false) noted
        ∙ elim (cases_Bool (node.rec == rec)) [
          | inl own ↦
              ap (λ r. get_or (set old node.rec true) r false) (sym (eqb-true node.rec rec own))
              ∙ get_or-set_same old node.rec true false within
              ∙ sym (whole false is rec
              ∙ ap (λ b. before rec || (b || false)) own
              ∙ or-true (before rec))
          | inr other ↦
              get_or-set_other old node.rec rec true false (λ same.
              (let own : (node.rec == rec) ≡ true = eq-eqb node.rec rec (sym same) in cc))
              ∙ has rec low
              ∙ sym (whole false is rec
              ∙ ap (λ b. before rec || (b || false)) other
              ∙ or-false (before rec))
        ]

pub leftover-record : (files : List File) (flags : List Bool) (sizes : List ℕ) (rec : ℕ)
    (size : ℕ) → HasFiles files flags → rec < length flags → size ≡ get_or sizes rec 0 →
    (not (size == 0) && not (get_or flags rec false)) ≡ is_leftover files sizes rec
leftover-record files flags sizes rec size has below here =
    ap₂ (λ n b. not (n == 0) && not b) here (has rec below)

pub pendings-more : (files : List File) (entries : List LiveEntry) (k : ℕ) (d : LiveEntry)
    (old new : List Pending) (pending : Pending) → k < length entries →
    pending ≡ pending_of files (get_or entries k d) →
    old ≡ pendings files (take k entries) → new ≡ old ++ pending ∷ [] →
    new ≡ pendings files (take (k + 1) entries)
pendings-more files entries k d old new pending below is before pushed =
    pushed
    ∙ ap₂ (λ xs x. xs ++ x ∷ []) before is
    ∙ sym (map-append (pending_of files) (take k entries) (get_or entries k d ∷ []))
    ∙ sym (ap (pendings files) (take_at_read entries k d below).1)
