use Rattle.std.proofs.Common.{sym, ◌∙◌}
use Rattle.cfs_dir.proofs.Numbers.{IsNumbered-taken, seen-none, seen-taken}
use Rattle.cfs_dir.proofs.nodes.Nodes.take.Goals as goal

pub invariant_of-self : goal.invariant_of-self
invariant_of-self c =
    IsNumbered-taken c.self.inside.by_number c.self.inside.numbers.items c.args.self.now c.args.rec c.self.invariant c.self.view_is
    c.swap_remove.new.self c.in-Some.number c.index-number.result.now c.requires (sym c.index-number.ensures ∙ c.in-Some.is) c.swap_remove.ensures.updates.0

pub returns-in-Some : goal.returns-in-Some
returns-in-Some c =
    seen-taken c.self.inside.by_number c.self.inside.numbers.items c.args.self.now c.args.rec c.self.invariant c.self.view_is
    c.swap_remove.new.self c.in-Some.number c.index-number.result.now c.requires (sym c.index-number.ensures ∙ c.in-Some.is) c.swap_remove.ensures.updates.0

pub returns-in_default : goal.returns-in_default
returns-in_default c =
    seen-none c.self.inside.by_number c.self.inside.numbers.items c.args.self.now c.args.rec c.self.invariant c.self.view_is
