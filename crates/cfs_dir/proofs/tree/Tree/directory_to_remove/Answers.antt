use Rattle.std.proofs.Common.{sym, ◌∙◌}
use Rattle.cfs_dir.proofs.Changed.{CanLeave-empty}
use Rattle.cfs_dir.proofs.tree.Tree.directory_to_remove.Goals as goal

pub returns-clause-leaves : goal.returns-clause-leaves
returns-clause-leaves c =
    let place = c.place.ensures.place in let was = c.in_ok-parent.was in let entry = c.in-Entry.is in let some = c.in-Some.is in
    CanLeave-empty c.args.self.now c.args.credential c.args.path.now c.in-Entry.parent c.in-Entry.field-1 c.in-Some.directory
    c.place.ensures.whole c.place.ensures.readable (cc) (sym c.has_child.ensures ∙ c.if-has_child.false)
