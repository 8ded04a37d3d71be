use Rattle.cfs_dir.proofs.Changed.{IsTable-left, seen-left, stands-within}
use Rattle.cfs_dir.proofs.tree.Tree.take_out.Goals as goal

pub take-requires : goal.take-requires
take-requires c =
    stands-within c.self.inside.nodes c.self.inside.index c.self.inside.next c.args.self.now c.args.node.now
    c.self.invariant c.self.view_is c.requires.stands

pub invariant_of-self : goal.invariant_of-self
invariant_of-self c =
    IsTable-left c.self.inside.nodes c.self.inside.index c.swap_remove.new.self c.self.inside.next c.args.next c.take.new.self c.args.self.now c.args.node.now
    c.self.invariant c.self.view_is c.requires.stands c.requires.whole c.take.ensures c.swap_remove.ensures.updates.0
    c.swap_remove.result c.swap_remove.ensures.value c.swap_remove.ensures.len

pub returns : goal.returns
returns c =
    seen-left c.self.inside.nodes c.self.inside.index c.self.inside.next c.args.next c.take.new.self c.args.self.now c.args.node.now
    c.self.invariant c.self.view_is c.take.ensures
