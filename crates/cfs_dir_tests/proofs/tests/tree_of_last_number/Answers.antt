use Rattle.std.proofs.Common.{ℕ, List, [], ◌∷◌, sym, ◌∙◌, ap, subst, lit≤, lit<}
use Rattle.cfs_dir.specs.declared.kind.Kind.TheVariants.{Directory}
use Rattle.cfs_dir.specs.declared.node.Node.{Node}
use Rattle.cfs_dir.specs.Tree.{IsTree}
use Rattle.cfs_dir.proofs.Listed.{IsTree-root}
use Rattle.cfs_dir_tests.proofs.tests.tree_of_last_number.Goals as goal

pub new-requires : goal.new-requires
new-requires c =
    let rooted : List ℕ → List Node = λ name.
    record { ino = 1; parent = 1; name = name; kind = Directory; mode = 493; uid = 10; gid = 10; rec = 0 } ∷ [] in
    subst (λ nodes. IsTree nodes 4294967295) (sym (c.in_ok-nodes.ensures.items ∙ ap rooted c.empty.ensures))
    (IsTree-root 493 10 10 4294967295 (lit≤ tt) (lit< tt) (lit< tt) (lit≤ tt) (lit≤ tt))
