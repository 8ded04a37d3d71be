-- The nodes of a tree, and the files that a mount makes of them.
use Rattle.std.proofs.Common.{◌≡◌, ◌≢◌, ℕ, suc, ◌≤◌, Bool, true, false, Some}
use Rattle.std.proofs.Common.{List, [], ◌∷◌, map, filter, inl, inr, refl, sym, ap, ◌∙◌, subst, cond}
use Rattle.std.proofs.Common.{arith}
use Rattle.std.specs.List.{All}
use Rattle.cfs_dir.specs.declared.node.Node.{Node}
use Rattle.cfs_dir.specs.Namespace.{node_of}
use Rattle.cfs_dir.specs.Tree.{AreAscendingFrom}
use Rattle.cfs_medium.proofs.Has.{Has, contains-had}
use Rattle.cfs_meaning.specs.Drive.{Drive}
use Rattle.cfs_meaning.specs.World.{File}
use Rattle.cfs_meaning.specs.Mounting.{mounted_file}
use Rattle.cfs_meaning.specs.Devices.{HaveOwnNumbers, OfEachFile}

-- ---- what holds of each member

pub all-has : {X : Type 0} (P : X → Type 0) (xs : List X) (x : X) → All P xs → Has xs x → P x
all-has P xs x all had =
    let there = contains-had xs x had in subst P there.2 (all there.0 x there.1)

pub has-kept : {X : Type 0} (test : X → Bool) (xs : List X) (x : X) → Has (filter test xs) x →
    Has xs x
has-kept test [] x had = had
has-kept {X} test (y ∷ xs) x had = by-test (test y) (has-kept test xs x) had
  where
    by-test : (t : Bool) → (Has (filter test xs) x → Has xs x) →
        Has (cond t (y ∷ filter test xs) (filter test xs)) x → Has (y ∷ xs) x
    by-test true rest here = elim here [
      | inl same ↦ inl same
      | inr later ↦ inr (rest later)
    ]
    by-test false rest here = inr (rest here)

-- P holds of each file of these nodes
pub each-mounted : (P : File → Type 0) (drive : Drive) (nodes : List Node) →
    ((node : Node) → Has nodes node → P (mounted_file drive node)) →
    OfEachFile P (map (mounted_file drive) nodes)
each-mounted P drive [] all = tt
each-mounted P drive (node ∷ nodes) all =
    (all node (inl refl), each-mounted P drive nodes (λ other had. all other (inr had)))

-- ---- records and numbers

least : (from : ℕ) (nodes : List Node) (node : Node) → AreAscendingFrom from nodes →
    Has nodes node → from ≤ node.rec
least from [] node ascending had = absurd had
least from (first ∷ nodes) node ascending had = elim had [
  | inl same ↦
      let equal : node.rec ≡ first.rec = ap (λ (n : Node). n.rec) same in
      let low = ascending.0 in omega (arith, low, equal)
  | inr later ↦
      let low = least (suc first.rec) nodes node ascending.1 later in
      let from_first = ascending.0 in omega (arith, low, from_first)
]

-- nodes with one record are one
pub same-record : (from : ℕ) (nodes : List Node) (one other : Node) →
    AreAscendingFrom from nodes → Has nodes one → Has nodes other → one.rec ≡ other.rec →
    one ≡ other
same-record from [] one other ascending had more same = absurd had
same-record from (first ∷ nodes) one other ascending had more same = elim had [
  | inl here ↦ elim more [
    | inl there ↦ here ∙ sym there
    | inr later ↦
        let low = least (suc first.rec) nodes other ascending.1 later in
        let equal : one.rec ≡ first.rec = ap (λ (n : Node). n.rec) here in
        absurd (omega (arith, low, equal, same))
  ]
  | inr behind ↦ elim more [
    | inl there ↦
        let low = least (suc first.rec) nodes one ascending.1 behind in
        let equal : other.rec ≡ first.rec = ap (λ (n : Node). n.rec) there in
        absurd (omega (arith, low, equal, same))
    | inr later ↦ same-record (suc first.rec) nodes one other ascending.1 behind later same
  ]
]

-- nodes with one number are one
same-number : (all : List Node) (one other : Node) → node_of all one.ino ≡ Some one →
    node_of all other.ino ≡ Some other → one.ino ≡ other.ino → one ≡ other
same-number all one other is also same =
    let both : Some one ≡ Some other = sym is ∙ ap (node_of all) same ∙ also in cc

pub own-numbers : (drive : Drive) (test : Node → Bool) (all : List Node) (from : ℕ)
    (nodes : List Node) → AreAscendingFrom from nodes →
    ((node : Node) → Has nodes node → node_of all node.ino ≡ Some node) →
    HaveOwnNumbers (map (mounted_file drive) (filter test nodes))
own-numbers drive test all from [] ascending once = tt
own-numbers drive test all from (first ∷ nodes) ascending once =
    by-test (test first)
    (own-numbers drive test all (suc first.rec) nodes ascending.1
    (λ node had. once node (inr had)))
  where
    rest : List Node
    rest = filter test nodes

    apart : (node : Node) → Has rest node → node.ino ≢ first.ino
    apart node had same =
        let later = has-kept test nodes node had in
        let one = same-number all node first (once node (inr later)) (once first (inl refl)) same in
        let equal : node.rec ≡ first.rec = ap (λ (n : Node). n.rec) one in
        let low = least (suc first.rec) nodes node ascending.1 later in
        omega (arith, low, equal)

    by-test : (t : Bool) → HaveOwnNumbers (map (mounted_file drive) rest) →
        HaveOwnNumbers (map (mounted_file drive) (cond t (first ∷ rest) rest))
    by-test true later =
        (each-mounted (λ g. g.ino ≢ first.ino) drive rest apart, later)
    by-test false later = later
