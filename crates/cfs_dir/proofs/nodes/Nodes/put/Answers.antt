use Rattle.cfs_dir.proofs.Numbers.{IsNumbered-kept, IsNumbered-put, seen-put}
use Rattle.cfs_dir.proofs.nodes.Nodes.put.Goals as goal

pub invariant_of-self : goal.invariant_of-self
invariant_of-self c =
    IsNumbered-kept c.self.inside.by_number c.insert.new.self c.self.inside.numbers.items c.in_err-insert.ensures.err c.self.invariant

pub invariant_of-self-2 : goal.invariant_of-self-2
invariant_of-self-2 c =
    IsNumbered-put c.self.inside.by_number c.insert.new.self c.self.inside.numbers.items c.args.self.now c.args.node.now
    c.self.invariant c.self.view_is c.requires.unused c.in_ok-insert.ensures.updates.0 c.requires.within c.requires.free

pub returns-clause-put : goal.returns-clause-put
returns-clause-put c =
    seen-put c.self.inside.by_number c.insert.new.self c.self.inside.numbers.items c.args.self.now c.args.node.now
    c.self.invariant c.self.view_is c.requires.unused c.in_ok-insert.ensures.updates.0
