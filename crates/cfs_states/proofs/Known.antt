-- Blocks of a stored store by their records.
use Rattle.std.proofs.Common.{◌≡◌, ◌≢◌, ◌∙◌, ℕ, ◌/◌, ◌<◌, inl, inr}
use Rattle.std.proofs.Common.{Bool, true, false, cond, nat_eq, Option, Some, None, List, [], ◌∷◌}
use Rattle.std.proofs.Common.{map, arith, refl, sym, ap, subst, if◌then◌else◌}
use Rattle.std.specs.Prelude.{◌==◌, filter, find}
use Rattle.std.specs.HashMap.{get}
use Rattle.std.specs.List.{All, Contains}
use Rattle.std.specs.Option.{option_map, option_map_or}
use Rattle.std.proofs.lemmas.Bool.{cases_Bool, eqb-true}
use Rattle.std.proofs.lemmas.Bool.Decides.{nat_tests}
use Rattle.std.proofs.lemmas.List.Elements.{All-contains, All-head, All-tail, All-weaker}
use Rattle.cfs_file.specs.declared.sizes.TheConstants.{FILE_BLOCKS}
use Rattle.cfs_pmem.specs.Images.{Seen}
use Rattle.cfs_block.specs.BlockImages.{BlockStep, content_of}
use Rattle.cfs_core.proofs.Order.{same_or_not}
use Rattle.cfs_home.specs.Disks.{AreFiles, File}
use Rattle.cfs_medium.proofs.Has.{Has, contains-had, has-contained}
use Rattle.cfs_medium.specs.Store.{tag_of}
use Rattle.cfs_plan.specs.Files.{IsRecordMap, file_with}
use Rattle.cfs_survey.specs.Mapped.{BlockMap}
use Rattle.cfs_states.specs.Shares.{AreBelow, IsKnown, is_at, is_of, mapped_of, record_of, share_at}
use Rattle.cfs_states.specs.Shares.{share_of}
use Rattle.cfs_states.specs.Stored.{IsTagAmong, file_at, is_free}
use Rattle.cfs_states.proofs.Mapped.{IsTagBelow, find-tests, of-true, true-of}

abbrev Block : Type 0
Block = Seen BlockStep

abbrev tag : Block → ℕ
tag seen = (content_of seen).tag

-- ---- files by number

-- the file of a record
pub at-file : (files : List File) (node : ℕ) (file : File) → file_at files node ≡ Some file →
    Contains files file × (file.node ≡ node)
at-file files node file is =
    let facts = find-tests (λ f. f.node == node) files file is in
    (contains-had files file facts.0, eqb-true file.node node facts.1)

with-ino : (files : List File) (ino : ℕ) (file : File) → file_with ino files ≡ Some file →
    Contains files file × (file.ino ≡ ino)
with-ino files ino file is =
    let facts = find-tests (λ f. f.ino == ino) files file is in
    (contains-had files file facts.0, eqb-true file.ino ino facts.1)

found-by : {X : Type 0} (p : X → Bool) (xs : List X) (x : X) → Has xs x → p x ≡ true →
    (y : X) × (find p xs ≡ Some y)
found-by p [] x has is = absurd has
found-by p (z ∷ zs) x has is = elim (cases_Bool (p z)) [
  | inl here ↦ (z, rw here refl)
  | inr other ↦ elim has [
    | inl same ↦ absurd (let clash : p z ≡ true = ap p (sym same) ∙ is in cc)
    | inr more ↦ let deeper = found-by p zs x more is in (deeper.0, rw other deeper.1)
  ]
]

ino-found : (files : List File) (file : File) → Contains files file →
    (other : File) × (file_with file.ino files ≡ Some other)
ino-found files file among =
    found-by (λ f. f.ino == file.ino) files file (has-contained files file among)
    (let test : (file.ino == file.ino) ≡ true = grind (arith, nat_tests) in test)

-- the file that is found by the inode number of a file is that file
ino-same : (files : List File) (file other : File) → AreFiles files → Contains files file →
    Contains files other → other.ino ≡ file.ino → other ≡ file
ino-same files file other are among there same = elim (are file other among there) [
  | inl one ↦ one
  | inr two ↦ absurd (two.inodes same)
]

pub ino-of : (files : List File) (file : File) → AreFiles files → Contains files file →
    file_with file.ino files ≡ Some file
ino-of files file are among =
    let found = ino-found files file among in
    let facts = with-ino files file.ino found.0 found.1 in
    found.1 ∙ ap Some (ino-same files file found.0 are among facts.0 facts.1)

-- the file at its record
pub node-of : (files : List File) (file : File) → AreFiles files → Contains files file →
    file_at files file.node ≡ Some file
node-of files file are among =
    let found = found-by (λ f. f.node == file.node) files file (has-contained files file among)
    (let test : (file.node == file.node) ≡ true = grind (arith, nat_tests) in test) in
    let facts = at-file files file.node found.0 found.1 in
    found.1 ∙ ap Some (elim (are file found.0 among facts.0) [
      | inl one ↦ one
      | inr two ↦ absurd (two.nodes facts.1)
    ])

-- ---- the map of records

map-some : {X : Type 0} (f : X → ℕ) (o : Option X) (k : ℕ) → option_map f o ≡ Some k →
    (x : X) × ((o ≡ Some x) × (f x ≡ k))
map-some f None k is = absurd (cc)
map-some f (Some x) k is = (x, (refl, cc))

pub are-below : (files : List File) (count : ℕ) (records : BlockMap) → IsRecordMap files records →
    All (λ file. file.node < count) files → AreBelow count records
are-below files count records maps below ino node is =
    let found = map-some (λ f. f.node) (file_with ino files) node (sym (maps ino) ∙ is) in
    let facts = with-ino files ino found.0 found.1.0 in
    let less = All-contains (λ f. f.node < count) files found.0 below facts.0 in
    omega (arith, less, found.1.1)

-- ---- one block

free-not : (files : List File) (file : File) (at : ℕ) (seen : Block) → at < FILE_BLOCKS →
    tag seen ≡ tag_of file.ino at → is_free seen ≡ false
free-not files file at seen less is =
    let some : tag seen ≢ 0 = λ none. absurd (omega arith) in grind (arith, nat_tests)

record-is : (files : List File) (file : File) (at : ℕ) (records : BlockMap) (seen : Block) →
    AreFiles files → IsRecordMap files records → Contains files file → at < FILE_BLOCKS →
    tag seen ≡ tag_of file.ino at → record_of records seen ≡ Some file.node
record-is files file at records seen are maps among less is =
    let test : is_free seen ≡ false = free-not files file at seen less is in
    let whole : tag seen / 65536 ≡ file.ino = omega (arith, is) in
    rw test (ap (λ (i : ℕ). get nat_eq records i) whole ∙ maps file.ino
    ∙ ap (λ (o : Option File). option_map (λ f. f.node) o) (ino-of files file are among))

pub is-known : (files : List File) (records : BlockMap) (seen : Block) → AreFiles files →
    IsRecordMap files records → IsTagAmong files (tag seen) → IsKnown records seen
is-known files records seen are maps (inl none) = record {
  record_is = inl (let test : is_free seen ≡ true = grind (arith, nat_tests) in test);
}
is-known files records seen are maps (inr known) = record {
  record_is = inr (
    known.0.node,
    record-is files known.0 known.1 records seen are maps
        known.2.0 known.2.1.0 known.2.1.1,
  );
}

not-free-of : (ino : ℕ) (seen : Block) → tag seen ≡ 0 → is_of ino seen ≡ false
not-free-of ino seen none = elim (cases_Bool (is_of ino seen)) [
  | inl own ↦ absurd ((true-of ino seen own).0 none)
  | inr other ↦ other
]

-- it belongs to the record of a file where it is tagged for that file
at-is-of : (files : List File) (file : File) (records : BlockMap) (seen : Block) →
    AreFiles files → IsRecordMap files records → Contains files file →
    IsTagAmong files (tag seen) → is_at records file.node seen ≡ is_of file.ino seen
at-is-of files file records seen are maps among (inl none) =
    let test : is_free seen ≡ true = grind (arith, nat_tests) in
    ap (λ (b : Bool). option_map_or (λ other. other == file.node)
    (if b then None else get nat_eq records (tag seen / 65536)) false) test
    ∙ sym (not-free-of file.ino seen none)
at-is-of files file records seen are maps among (inr known) =
    ap (λ (o : Option ℕ). option_map_or (λ other. other == file.node) o false)
    (record-is files known.0 known.1 records seen are maps known.2.0 known.2.1.0 known.2.1.1)
    ∙ elim (are file known.0 among known.2.0) [
      | inl one ↦
          let node : (known.0.node == file.node) ≡ true =
          (let same : known.0.node ≡ file.node = ap (λ (f : File). f.node) one in
          grind (arith, nat_tests)) in
          node ∙ sym (of-true file.ino seen (λ none. tagged none)
          (whole ∙ ap (λ (f : File). f.ino) one))
      | inr two ↦
          let node : (known.0.node == file.node) ≡ false =
          (let differs : known.0.node ≢ file.node = two.nodes in grind (arith, nat_tests)) in
          node ∙ sym (other two.inodes)
    ]
  where
    less : known.1 < FILE_BLOCKS
    less = known.2.1.0

    is : tag seen ≡ tag_of known.0.ino known.1
    is = known.2.1.1

    tagged : tag seen ≢ 0
    tagged none = absurd (omega (arith, is))

    whole : tag seen / 65536 ≡ known.0.ino
    whole = omega (arith, is, less)

    other : known.0.ino ≢ file.ino → is_of file.ino seen ≡ false
    other differs = elim (cases_Bool (is_of file.ino seen)) [
      | inl own ↦ absurd (differs (sym whole ∙ (true-of file.ino seen own).1))
      | inr not_own ↦ not_own
    ]

-- ---- all blocks

filter-same : {X : Type 0} (p q : X → Bool) (xs : List X) → All (λ x. p x ≡ q x) xs →
    filter p xs ≡ filter q xs
filter-same p q [] same = refl
filter-same {X} p q (x ∷ xs) same =
    ap (λ (b : Bool). cond b (x ∷ filter p xs) (filter p xs))
    (All-head (λ x. p x ≡ q x) x xs same)
    ∙ ap (λ (l : List X). cond (q x) (x ∷ l) l)
    (filter-same p q xs (All-tail (λ x. p x ≡ q x) x xs same))

pub at-same : (files : List File) (file : File) (records : BlockMap) (blocks : List Block) →
    AreFiles files → IsRecordMap files records → Contains files file →
    All (λ seen. IsTagAmong files (tag seen)) blocks →
    filter (is_at records file.node) blocks ≡ filter (is_of file.ino) blocks
at-same files file records blocks are maps among tags =
    filter-same (is_at records file.node) (is_of file.ino) blocks
    (All-weaker (λ seen. IsTagAmong files (tag seen))
    (λ seen. is_at records file.node seen ≡ is_of file.ino seen)
    (λ seen known. at-is-of files file records seen are maps among known) blocks tags)

pub share-same : (files : List File) (file : File) (records : BlockMap) (blocks : List Block) →
    AreFiles files → IsRecordMap files records → Contains files file →
    All (λ seen. IsTagAmong files (tag seen)) blocks →
    share_at records file.node blocks ≡ share_of file.ino blocks
share-same files file records blocks are maps among tags =
    ap (map mapped_of) (at-same files file records blocks are maps among tags)

-- no block belongs to a record without a file
no-file : (files : List File) (records : BlockMap) (node : ℕ) (seen : Block) →
    IsRecordMap files records → AreFiles files → file_at files node ≡ None →
    (o : Option ℕ) → record_of records seen ≡ o → is_free seen ≡ false →
    option_map_or (λ other. other == node) o false ≡ false
no-file files records node seen maps are none None is other = refl
no-file files records node seen maps are none (Some k) is other =
    let found : get nat_eq records (tag seen / 65536) ≡ Some k = rw other at is in
    let file = map-some (λ f. f.node) (file_with (tag seen / 65536) files) k
    (sym (maps (tag seen / 65536)) ∙ found) in
    let facts = with-ino files (tag seen / 65536) file.0 file.1.0 in
    elim (same_or_not k node) [
      | inl same ↦
          let there = node-of files file.0 are facts.0 in
          let clash : file_at files node ≡ Some file.0 =
          subst (λ (n : ℕ). file_at files n ≡ Some file.0) (file.1.1 ∙ same) there in
          absurd (cc)
      | inr differs ↦ let test : (k == node) ≡ false = grind (arith, nat_tests) in test
    ]

no-file-at : (files : List File) (records : BlockMap) (node : ℕ) (seen : Block) →
    IsRecordMap files records → AreFiles files → file_at files node ≡ None →
    is_at records node seen ≡ false
no-file-at files records node seen maps are none = elim (cases_Bool (is_free seen)) [
  | inl free ↦
      ap (λ (b : Bool). option_map_or (λ other. other == node)
      (if b then None else get nat_eq records (tag seen / 65536)) false) free
  | inr other ↦
      no-file files records node seen maps are none (record_of records seen) refl other
]

pub at-nothing : (files : List File) (records : BlockMap) (node : ℕ) (blocks : List Block) →
    IsRecordMap files records → AreFiles files → file_at files node ≡ None →
    filter (is_at records node) blocks ≡ []
at-nothing files records node [] maps are none = refl
at-nothing files records node (x ∷ xs) maps are none =
    ap (λ (b : Bool). cond b (x ∷ filter (is_at records node) xs) (filter (is_at records node) xs))
    (no-file-at files records node x maps are none)
    ∙ at-nothing files records node xs maps are none

pub tags-below : (files : List File) (blocks : List Block) →
    All (λ seen. IsTagAmong files (tag seen)) blocks →
    All (λ seen. IsTagBelow FILE_BLOCKS (tag seen)) blocks
tags-below files blocks tags =
    All-weaker (λ seen. IsTagAmong files (tag seen)) (λ seen. IsTagBelow FILE_BLOCKS (tag seen))
    (λ seen known. elim known [
      | inl none ↦ inl none
      | inr own ↦ inr (own.0.ino, own.1, own.2.1)
    ]) blocks tags
