-- A node, a change of a tree and a whole tree as words, both ways.
use Rattle.std.specs.Prelude.{ℕ, zero, suc, ◌+◌, ◌==◌, List, [], ◌∷◌, ◌++◌, length, take, drop, replicate, get_or, Option, Some, None, if◌then◌else◌}
use Rattle.std.specs.Int.{w64, to_le_bytes}
use Rattle.std.specs.List.{flat_map}
use Rattle.byteorder.specs.Endian.{little_number}
use Rattle.cfs_dir.specs.declared.change.Change.{Change}
use Rattle.cfs_dir.specs.declared.change.Change.TheVariants as changes
use Rattle.cfs_dir.specs.declared.kind.Kind.{Kind}
use Rattle.cfs_dir.specs.declared.kind.Kind.TheVariants.{Directory, File}
use Rattle.cfs_dir.specs.declared.node.Node.{Node}
use Rattle.cfs_dir.specs.Namespace.{Namespace, node_at}
use Rattle.cfs_dir.specs.Padding.{padded}

abbrev pub kind_word : Kind → ℕ
kind_word File = 1
kind_word Directory = 2

-- the five words of a name, whose bytes are filled up to forty with zero bytes
abbrev pub name_words : List ℕ → List ℕ
name_words bytes =
    little_number 8 bytes ∷ little_number 8 (drop 8 bytes) ∷ little_number 8 (drop 16 bytes)
    ∷ little_number 8 (drop 24 bytes) ∷ little_number 8 (drop 32 bytes) ∷ []

abbrev pub node_words : Node → List ℕ
node_words node =
    node.ino ∷ node.parent ∷ kind_word node.kind ∷ node.mode ∷ node.uid ∷ node.gid
    ∷ length node.name ∷ name_words (padded node.name)

-- the name of so many bytes that stands in words
abbrev pub name_in : ℕ → List ℕ → List ℕ
name_in len words = take len (flat_map (to_le_bytes w64) words)

-- the node of a record that twelve words tell
abbrev pub node_in : ℕ → List ℕ → Node
node_in rec words = record {
  ino = get_or words 0 0;
  parent = get_or words 1 0;
  name = name_in (get_or words 6 0) (take 5 (drop 7 words));
  kind = if get_or words 2 0 == 2 then Directory else File;
  mode = get_or words 3 0;
  uid = get_or words 4 0;
  gid = get_or words 5 0;
  rec = rec;
}

-- the record that a move replaces, plus 1, or 0
abbrev pub replaced_word : Option ℕ → ℕ
replaced_word None = 0
replaced_word (Some rec) = rec + 1

abbrev pub replaced_in : ℕ → Option ℕ
replaced_in zero = None
replaced_in (suc rec) = Some rec

-- an operation, a record's number, the words of a node and a last word
abbrev pub change_row : ℕ → ℕ → List ℕ → ℕ → List ℕ
change_row operation rec node last = operation ∷ rec ∷ (node ++ last ∷ [])

abbrev pub change_words : Change → List ℕ
change_words (changes.Create node) = change_row 1 node.rec (node_words node) 0
change_words (changes.Remove rec ino) = change_row 2 rec (ino ∷ replicate 11 0) 0
change_words (changes.Move node replaced) =
    change_row 3 node.rec (node_words node) (replaced_word replaced)

-- the change that fifteen words tell
abbrev pub change_in : List ℕ → Change
change_in words =
    if get_or words 0 0 == 1 then
    changes.Create (node_in (get_or words 1 0) (take 12 (drop 2 words)))
    else if get_or words 0 0 == 3 then
    changes.Move (node_in (get_or words 1 0) (take 12 (drop 2 words)))
    (replaced_in (get_or words 14 0))
    else changes.Remove (get_or words 1 0) (get_or words 2 0)

-- the words of n records of a table, from one on: those of a free record are 0
abbrev pub row_of : Option Node → List ℕ
row_of None = replicate 12 0
row_of (Some node) = node_words node

unfoldable pub rows : ℕ → ℕ → List Node → List ℕ
rows zero rec nodes = []
rows (suc n) rec nodes = row_of (node_at nodes rec) ++ rows n (suc rec) nodes

-- a table: the next inode number, and 256 records
abbrev pub table_words : Namespace → List ℕ
table_words namespace = namespace.next ∷ rows 256 0 namespace.nodes

-- the nodes of n records that stand in words, from a record on; one without an inode number is free
unfoldable pub nodes_in : ℕ → ℕ → List ℕ → List Node
nodes_in zero rec words = []
nodes_in (suc n) rec words =
    if get_or words 0 0 == 0 then nodes_in n (suc rec) (drop 12 words)
    else node_in rec (take 12 words) ∷ nodes_in n (suc rec) (drop 12 words)

abbrev pub table_in : List ℕ → Namespace
table_in words = record { nodes = nodes_in 256 0 (drop 1 words); next = get_or words 0 0 }
