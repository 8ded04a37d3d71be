use Rattle.std.proofs.Common.{ℕ, List, [], ◌∷◌, sym, ◌∙◌, ap, subst, lit≤}
use Rattle.cfs_dir.specs.declared.kind.Kind.TheVariants.{Directory}
use Rattle.cfs_dir.specs.declared.node.Node.{Node}
use Rattle.cfs_dir.specs.Tree.{IsTree}
use Rattle.cfs_dir.proofs.Listed.{IsTree-root}
use Rattle.cfs_dir.proofs.tree.Tree.with_root.Goals as goal

pub new-requires : goal.new-requires
new-requires c =
    let rooted : List ℕ → List Node = λ name.
    record { ino = 1; parent = 1; name = name; kind = Directory; mode = c.args.mode; uid = c.args.uid; gid = c.args.gid; rec = 0 } ∷ [] in
    subst (λ nodes. IsTree nodes 2) (sym (c.in_ok-nodes.ensures.items ∙ ap rooted c.empty.ensures))
    (IsTree-root c.args.mode c.args.uid c.args.gid 2 c.requires c.ranges.uid.fits c.ranges.gid.fits (lit≤ tt) (lit≤ tt))
