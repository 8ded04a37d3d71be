-- The files of a tree: no two have a record or an inode number in common.
use Rattle.std.proofs.Common.{◌≡◌, ◌⊎◌, ◌∙◌, ℕ, suc, ◌≤◌, Bool, true, false}
use Rattle.std.proofs.Common.{Option, Some, None, List, [], ◌∷◌, arith, refl, sym, ap, ap₂, subst}
use Rattle.std.proofs.Common.{inl, inr, eq-eqb}
use Rattle.std.specs.Prelude.{All, ◌==◌, not, if◌then◌else◌}
use Rattle.std.specs.Option.{option_map_or}
use Rattle.std.proofs.lemmas.Bool.{eqb-true}
use Rattle.std.proofs.lemmas.List.Elements.{All-contains}
use Rattle.cfs_core.proofs.Order.{same_or_not}
use Rattle.cfs_dir.specs.declared.node.Node.{Node}
use Rattle.cfs_dir.specs.Namespace.{is_directory, node_of}
use Rattle.cfs_dir.specs.Tree.{AreAscendingFrom, IsTree}
use Rattle.cfs_home.specs.Disks.{AreFiles, AreTwo, File}
use Rattle.cfs_medium.proofs.Has.{Has, contains-had, has-contained}
use Rattle.cfs_survey.specs.Tags.{is_file}
use Rattle.cfs_plan.specs.Files.{file_in, file_with, files_of, node_of as record_of}
use Rattle.cfs_plan.proofs.Members.{filter_map-has, find-has, has-filter_map, has-find}

pub all-has : {X : Type 0} (P : X → Type 0) (xs : List X) (x : X) → All P xs → Has xs x → P x
all-has P xs x all has = All-contains P xs x all (contains-had xs x has)

some-one : {X : Type 0} {x y : X} → Some x ≡ Some y → x ≡ y
some-one same = cc

same-file : (file other : File) → file.node ≡ other.node → file.ino ≡ other.ino → file ≡ other
same-file file other nodes inos = ap₂ made nodes inos
  where
    made : ℕ → ℕ → File
    made node ino = record { node = node; ino = ino }

-- the node of a file
pub record IsNodeOf (nodes : List Node) (file : File) (node : Node) : Type 0 where
  pub among : Has nodes node
  pub plain : is_directory node.kind ≡ false
  pub rec : file.node ≡ node.rec
  pub ino : file.ino ≡ node.ino

node-told : (nodes : List Node) (file : File) (node : Node) → Has nodes node →
    file_in node ≡ Some file → IsNodeOf nodes file node
node-told nodes file node among told = split (is_directory node.kind) refl told
  where
    split : (b : Bool) → is_directory node.kind ≡ b →
        (if b then None else Some record { node = node.rec; ino = node.ino }) ≡ Some file →
        IsNodeOf nodes file node
    split true is told = absurd (cc)
    split false is told =
        let same : record { node = node.rec; ino = node.ino } ≡ file = some-one told in
        record {
          among = among;
          plain = is;
          rec = sym (ap (λ (f : File). f.node) same);
          ino = sym (ap (λ (f : File). f.ino) same);
        }

pub file-node : (nodes : List Node) (file : File) → Has (files_of nodes) file →
    (node : Node) × IsNodeOf nodes file node
file-node nodes file has =
    let found = filter_map-has file_in nodes file has in
    (found.0, node-told nodes file found.0 found.1.0 found.1.1)

pub node-file : (nodes : List Node) (node : Node) → Has nodes node →
    is_directory node.kind ≡ false →
    Has (files_of nodes) (record { node = node.rec; ino = node.ino })
node-file nodes node has plain =
    has-filter_map file_in nodes node (record { node = node.rec; ino = node.ino }) has
    (ap (λ (b : Bool). if b then None else Some record { node = node.rec; ino = node.ino }) plain)

-- ---- inode numbers of files

pub file-is : (nodes : List Node) (next : ℕ) → IsTree nodes next → (file : File) →
    Has (files_of nodes) file → is_file nodes file.ino ≡ true
file-is nodes next tree file has =
    let found = file-node nodes file has in
    let node = found.0 in
    let told = found.1 in
    let finds : node_of nodes node.ino ≡ Some node =
    all-has (λ n. node_of nodes n.ino ≡ Some n) nodes node tree.number_once told.among in
    ap (is_file nodes) told.ino
    ∙ ap (λ o. option_map_or (λ node. not (is_directory node.kind)) o false) finds
    ∙ ap not told.plain

pub is-file : (nodes : List Node) (ino : ℕ) → is_file nodes ino ≡ true →
    (file : File) × (Has (files_of nodes) file × (file.ino ≡ ino))
is-file nodes ino is = split (node_of nodes ino) refl is
  where
    split : (o : Option Node) → node_of nodes ino ≡ o →
        option_map_or (λ node. not (is_directory node.kind)) o false ≡ true →
        (file : File) × (Has (files_of nodes) file × (file.ino ≡ ino))
    split None found is = absurd (cc)
    split (Some node) found is =
        let among = find-has (λ n. n.ino == ino) nodes node found in
        let plain : is_directory node.kind ≡ false = flip (is_directory node.kind) is in (
          record { node = node.rec; ino = node.ino },
          (node-file nodes node among.0 plain, eqb-true node.ino ino among.1),
        )
      where
        flip : (b : Bool) → not b ≡ true → b ≡ false
        flip true h = absurd (cc)
        flip false h = refl

-- the file that the search for its inode number finds
pub found-file : (files : List File) (ino : ℕ) (file : File) → Has files file → file.ino ≡ ino →
    Has files (record { node = record_of (file_with ino files); ino = ino })
found-file files ino file has own =
    let found = has-find (λ f. f.ino == ino) files file has (eq-eqb file.ino ino own) in
    let among = find-has (λ f. f.ino == ino) files found.0 found.1 in
    let same : found.0 ≡ record { node = record_of (file_with ino files); ino = ino } =
    same-file found.0 (record { node = record_of (file_with ino files); ino = ino })
    (sym (ap record_of found.1)) (eqb-true found.0.ino ino among.1) in
    subst (Has files) same among.0

-- ---- two files

above : (least : ℕ) (nodes : List Node) (node : Node) → AreAscendingFrom least nodes →
    Has nodes node → least ≤ node.rec
above least [] node ascending has = absurd has
above least (first ∷ rest) node ascending has = elim has [
  | inl same ↦ subst (λ (n : Node). least ≤ n.rec) (sym same) ascending.0
  | inr more ↦
      let low = above (suc first.rec) rest node ascending.1 more in
      omega (arith, low, ascending.0)
]

one-record : (least : ℕ) (nodes : List Node) (a b : Node) → AreAscendingFrom least nodes →
    Has nodes a → Has nodes b → a.rec ≡ b.rec → a ≡ b
one-record least [] a b ascending has other same = absurd has
one-record least (first ∷ rest) a b ascending has other same = elim has [
  | inl a_is ↦ elim other [
    | inl b_is ↦ a_is ∙ sym b_is
    | inr b_more ↦
        let low = above (suc first.rec) rest b ascending.1 b_more in
        let here = ap (λ (n : Node). n.rec) a_is in
        absurd (omega (arith, low, here, same))
  ]
  | inr a_more ↦ elim other [
    | inl b_is ↦
        let low = above (suc first.rec) rest a ascending.1 a_more in
        let here = ap (λ (n : Node). n.rec) b_is in
        absurd (omega (arith, low, here, same))
    | inr b_more ↦ one-record (suc first.rec) rest a b ascending.1 a_more b_more same
  ]
]

pub are-files : (nodes : List Node) (next : ℕ) → IsTree nodes next → AreFiles (files_of nodes)
are-files nodes next tree file other among others =
    let a = file-node nodes file (has-contained (files_of nodes) file among) in
    let b = file-node nodes other (has-contained (files_of nodes) other others) in
    two a.0 b.0 a.1 b.1
  where
    two : (m n : Node) → IsNodeOf nodes file m → IsNodeOf nodes other n →
        (other ≡ file) ⊎ AreTwo file other
    two m n a b = elim (same_or_not n.rec m.rec) [
      | inl same ↦
          let one = one-record 0 nodes n m tree.ascending b.among a.among same in
          let recs = b.rec ∙ ap (λ (x : Node). x.rec) one ∙ sym a.rec in
          let inos = b.ino ∙ ap (λ (x : Node). x.ino) one ∙ sym a.ino in
          inl (same-file other file recs inos)
      | inr differs ↦ inr (record {
        nodes = λ same. differs (sym b.rec ∙ same ∙ a.rec);
        inodes = λ same. differs (ap (λ (x : Node). x.rec) (one_number m n a b same));
      })
    ]
      where
        one_number : (m n : Node) → IsNodeOf nodes file m → IsNodeOf nodes other n →
            other.ino ≡ file.ino → n ≡ m
        one_number m n a b same =
            some-one
            (sym (all-has (λ x. node_of nodes x.ino ≡ Some x) nodes n tree.number_once b.among)
            ∙ ap (node_of nodes) (sym b.ino ∙ same ∙ a.ino)
            ∙ all-has (λ x. node_of nodes x.ino ≡ Some x) nodes m tree.number_once a.among)
