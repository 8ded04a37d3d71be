-- The words of a table tell its tree.
use Rattle.std.proofs.Common.{◌≡◌, ◌≢◌, ◌∙◌, inl, inr, ℕ, zero, suc, ◌+◌, ◌<◌, ◌≤◌, ◌==◌, Bool, true, false, if◌then◌else◌, All, List, [], ◌∷◌, ◌++◌, length, get_or, Option, Some, None, refl, sym, ap, subst, arith}
use Rattle.std.proofs.lemmas.Bool.{cases_lt}
use Rattle.std.proofs.lemmas.Bool.Decides.{nat_tests}
use Rattle.cfs_dir.specs.declared.node.Node.{Node}
use Rattle.cfs_dir.specs.Change.{IsNamed}
use Rattle.cfs_dir.specs.Name.{AreNameBytes, IsNodeName}
use Rattle.cfs_dir.specs.Namespace.{node_at, node_of}
use Rattle.cfs_dir.specs.Told.{TablesAreTold}
use Rattle.cfs_dir.specs.Tree.{AreAscendingFrom, IsRoot, IsTree}
use Rattle.cfs_dir.specs.Words.{node_in, node_words, nodes_in, row_of, rows}
use Rattle.cfs_dir.proofs.Found.{rec-least}
use Rattle.cfs_dir.proofs.Grown.{some_of}
use Rattle.cfs_dir.proofs.Members.{All-from_In, All-In, find-none_of, find-Some, In}
use Rattle.cfs_dir.proofs.Told.{node_told}

-- a node whose row tells it
record IsRow (node : Node) : Type 0 where
  some : node.ino ≢ 0
  named : IsNamed node

none_at : (rec least : ℕ) (nodes : List Node) → rec < least → AreAscendingFrom least nodes → node_at nodes rec ≡ None
none_at rec least nodes below ascending =
    find-none_of (λ (node : Node). node.rec == rec) nodes
    (λ node among. let high : least ≤ node.rec = rec-least least nodes node ascending among in grind (arith, nat_tests))

-- the rows behind a node do not see it
rows-behind : (n rec : ℕ) (node : Node) (nodes : List Node) → node.rec < rec → rows n rec (node ∷ nodes) ≡ rows n rec nodes
unfolding rows
rows-behind zero rec node nodes below = refl
rows-behind (suc n) rec node nodes below =
    let other : (node.rec == rec) ≡ false = grind (arith, nat_tests) in
    ap (λ (b : Bool). row_of (if b then Some node else node_at nodes rec) ++ rows n (suc rec) (node ∷ nodes)) other
    ∙ ap (λ (rest : List ℕ). row_of (node_at nodes rec) ++ rest) (rows-behind n (suc rec) node nodes (omega arith))

-- a free row
free-row : (n rec : ℕ) (nodes : List Node) → node_at nodes rec ≡ None →
    nodes_in (suc n) rec (rows (suc n) rec nodes) ≡ nodes_in n (suc rec) (rows n (suc rec) nodes)
unfolding rows nodes_in
free-row n rec nodes none =
    ap (λ (o : Option Node). nodes_in (suc n) rec (row_of o ++ rows n (suc rec) nodes)) none

-- and that of a node
taken-row : (n rec : ℕ) (nodes : List Node) (node : Node) → node_at nodes rec ≡ Some node → node.rec ≡ rec → IsRow node →
    nodes_in (suc n) rec (rows (suc n) rec nodes) ≡ node ∷ nodes_in n (suc rec) (rows n (suc rec) nodes)
unfolding rows nodes_in
taken-row n rec nodes node here own row =
    let some : (node.ino == 0) ≡ false = (let differs : node.ino ≢ 0 = row.some in grind (arith, nat_tests)) in
    let rest : List ℕ = rows n (suc rec) nodes in
    ap (λ (o : Option Node). nodes_in (suc n) rec (row_of o ++ rest)) here
    ∙ (ap (λ (b : Bool). if b then nodes_in n (suc rec) rest else node_in rec (node_words node) ∷ nodes_in n (suc rec) rest) some
    ∙ (ap (λ (r : ℕ). node_in r (node_words node) ∷ nodes_in n (suc rec) rest) (sym own)
    ∙ ap (λ (x : Node). x ∷ nodes_in n (suc rec) rest) (node_told node row.named)))

rows_told : (n rec : ℕ) (nodes : List Node) → AreAscendingFrom rec nodes → All (λ node. node.rec < rec + n) nodes → All IsRow nodes →
    nodes_in n rec (rows n rec nodes) ≡ nodes
unfolding rows nodes_in
rows_told zero rec [] ascending within row = refl
rows_told zero rec (node ∷ nodes) ascending within row =
    let below : node.rec < rec + 0 = within 0 node (omega arith) in
    let above : rec ≤ node.rec = ascending.0 in
    absurd (omega arith)
rows_told (suc n) rec [] ascending within row =
    free-row n rec [] refl ∙ rows_told n (suc rec) [] tt (λ k d l. absurd (omega arith)) (λ k d l. absurd (omega arith))
rows_told (suc n) rec (node ∷ nodes) ascending within row = elim (cases_lt rec node.rec) [
  | inl later ↦
      free-row n rec (node ∷ nodes) (none_at rec node.rec (node ∷ nodes) later (omega arith, ascending.1))
      ∙ rows_told n (suc rec) (node ∷ nodes) (omega arith, ascending.1)
      (λ k d l. let w : (get_or (node ∷ nodes) k d).rec < rec + suc n = within k d l in omega arith) row
  | inr reached ↦
      let own : node.rec ≡ rec = (let above : rec ≤ node.rec = ascending.0 in omega arith) in
      let test : (node.rec == rec) ≡ true = grind (arith, nat_tests) in
      let here : node_at (node ∷ nodes) rec ≡ Some node = ap (λ (b : Bool). if b then Some node else node_at nodes rec) test in
      taken-row n rec (node ∷ nodes) node here own (row 0 node (omega arith))
      ∙ ap (λ (rest : List Node). node ∷ rest)
      (ap (λ (words : List ℕ). nodes_in n (suc rec) words) (rows-behind n (suc rec) node nodes (omega arith))
      ∙ rows_told n (suc rec) nodes (subst (λ m. AreAscendingFrom (suc m) nodes) own ascending.1)
      (λ k d l. let w : (get_or nodes k d).rec < rec + suc n = within (suc k) d (omega arith) in omega arith)
      (λ k d l. row (suc k) d (omega arith)))
]

-- the root has no name
named_empty : (node : Node) → node.name ≡ [] → IsNamed node
named_empty node none = record {
  short = subst (λ (name : List ℕ). length name ≤ 40) (sym none) (omega arith);
  readable = subst AreNameBytes (sym none) (λ k d l. absurd (omega arith));
}

-- the node with the root's number is the root
root-named : (nodes : List Node) (next : ℕ) → IsTree nodes next → (node : Node) → In nodes node → node.ino ≡ 1 → IsNamed node
root-named nodes next tree node among one =
    let root = some_of (node_at nodes 0) IsRoot tree.root in
    let stands : In nodes root.0 = (find-Some (λ (n : Node). n.rec == 0) nodes root.0 root.1).0 in
    let own : node_of nodes node.ino ≡ Some node = All-In (λ n. node_of nodes n.ino ≡ Some n) nodes node tree.number_once among in
    let first : node_of nodes root.0.ino ≡ Some root.0 = All-In (λ n. node_of nodes n.ino ≡ Some n) nodes root.0 tree.number_once stands in
    let numbers : node.ino ≡ root.0.ino = one ∙ sym root.2.ino in
    let both : Some node ≡ Some root.0 = sym own ∙ (ap (λ (n : ℕ). node_of nodes n) numbers ∙ first) in
    let same : node ≡ root.0 = cc in
    named_empty node (ap (λ (n : Node). n.name) same ∙ root.2.name)

-- the nodes of a tree are told by their rows
tree-row : (nodes : List Node) (next : ℕ) → IsTree nodes next → (node : Node) → In nodes node → IsRow node
tree-row nodes next tree node among =
    let numbered : (1 ≤ node.ino) × (node.ino < next) = All-In (λ n. (1 ≤ n.ino) × (n.ino < next)) nodes node tree.numbers among in
    record {
      some = λ is. omega (arith, is, numbered.0);
      named = elim (cases_lt 1 node.ino) [
        | inl other ↦
            let name : IsNodeName node.name = All-In (λ n. n.ino ≢ 1 → IsNodeName n.name) nodes node tree.names among (λ is. omega (arith, is, other)) in
            record { short = name.0.1; readable = name.0.2 }
        | inr low ↦ root-named nodes next tree node among (omega (arith, low, numbered.0))
      ];
    }

pub table_told : TablesAreTold
table_told namespace tree =
    ap (λ (nodes : List Node). record { nodes = nodes; next = namespace.next })
    (rows_told 256 0 namespace.nodes tree.ascending tree.records
    (All-from_In IsRow namespace.nodes (λ node among. tree-row namespace.nodes namespace.next tree node among)))
