use Rattle.std.proofs.Common.{◌∙◌, ap}
use Rattle.cfs_dir.specs.Namespace.{Namespace}
use Rattle.cfs_dir.proofs.Renaming.{stands-free, stands-over}
use Rattle.cfs_dir.proofs.tree.Tree.move_node.Goals as goal
use Rattle.cfs_dir.proofs.tree.Tree.move_node.Goals.{in-Some, in_default}

pub relocate-requires-clause-stands : goal.relocate-requires-clause-stands
relocate-requires-clause-stands c = elim c.match-moved.branch [
  | in-Some w ↦ stands-over c.args.self.now c.args.moved.now w.in-Some.replaced c.match-moved.self.nodes c.requires w.in-Some.is
      (ap (λ (v : Namespace). v.nodes) (w.self-is ∙ w.remove.ensures))
  | in_default w ↦ stands-free c.args.self.now c.args.moved.now c.match-moved.self.nodes c.requires (ap (λ (v : Namespace). v.nodes) w.self-is)
]
