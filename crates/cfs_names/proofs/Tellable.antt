-- A node that joins a tree or moves in it has a name that its words tell.
use Rattle.std.proofs.Common.{ℕ, ◌+◌, ◌≡◌, ◌≢◌, ◌≤◌, ◌==◌, ◌∙◌, List, Some, sym, ap, subst, arith}
use Rattle.std.specs.Prelude.{All, IsSomeAnd}
use Rattle.cfs_dir.specs.declared.moved.Moved.{Moved}
use Rattle.cfs_dir.specs.declared.node.Node.{Node}
use Rattle.cfs_dir.specs.declared.change.Change.TheVariants as changes
use Rattle.cfs_dir.specs.Change.{IsNamed, changed, without_replaced}
use Rattle.cfs_dir.specs.Moved.{CanMove, replaced_of}
use Rattle.cfs_dir.specs.Name.{IsNodeName}
use Rattle.cfs_dir.specs.Namespace.{Namespace, node_at, node_of, placed, with_node, without}
use Rattle.cfs_dir.specs.Tree.{CanJoin, IsRoot, IsTree}
use Rattle.cfs_dir.proofs.Changed.{In-placed_own}
use Rattle.cfs_dir.proofs.Grown.{some_of}
use Rattle.cfs_dir.proofs.Members.{In, All-In, find-Some}
use Rattle.std.proofs.lemmas.Bool.Decides.{nat_tests}

-- a node that joins a tree is a change of it
pub joined_changed : (namespace : Namespace) (node : Node) → CanJoin namespace node → with_node namespace node ≡ changed namespace (changes.Create node)
joined_changed namespace node joins = ap (λ (n : ℕ). record { nodes = placed node namespace.nodes; next = n + 1 }) (sym joins.number)

-- a node of a tree that is not the root
named : (nodes : List Node) (next : ℕ) (node : Node) → IsTree nodes next → In nodes node → node.ino ≢ 1 → IsNamed node
named nodes next node tree member other =
    let is = All-In (λ (n : Node). n.ino ≢ 1 → IsNodeName n.name) nodes node tree.names member other in
    record { short = is.0.1; readable = is.0.2 }

pub join_named : (namespace : Namespace) (node : Node) → CanJoin namespace node → 2 ≤ node.ino → IsNamed node
join_named namespace node joins low =
    named (placed node namespace.nodes) (namespace.next + 1) node joins.whole (In-placed_own node namespace.nodes) (λ one. omega (arith, low, one))

pub move_named : (namespace : Namespace) (moved : Moved) → CanMove namespace moved → IsNamed moved.node
move_named namespace moved moves =
    let node : Node = moved.node in
    let nodes : List Node = placed node (without node.rec (without_replaced (replaced_of moved) namespace.nodes)) in
    let tree : IsTree nodes namespace.next = moves.whole in
    let member : In nodes node = In-placed_own node (without node.rec (without_replaced (replaced_of moved) namespace.nodes)) in
    let root = some_of (node_at nodes 0) IsRoot tree.root in
    let at = find-Some (λ (n : Node). n.rec == 0) nodes root.0 root.1 in
    named nodes namespace.next node tree member (λ one.
    let own : node_of nodes node.ino ≡ Some node = All-In (λ (n : Node). node_of nodes n.ino ≡ Some n) nodes node tree.number_once member in
    let of_root : node_of nodes root.0.ino ≡ Some root.0 = All-In (λ (n : Node). node_of nodes n.ino ≡ Some n) nodes root.0 tree.number_once at.0 in
    let same_ino : root.0.ino ≡ node.ino = root.2.ino ∙ sym one in
    let same : root.0 ≡ node = let both = sym of_root ∙ ap (λ ino. node_of nodes ino) same_ino ∙ own in cc in
    let zero_rec : root.0.rec ≡ 0 = grind (arith, nat_tests, at.1) in
    moves.moves (sym (ap (λ (n : Node). n.rec) same) ∙ zero_rec))
