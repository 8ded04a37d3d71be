use Rattle.std.proofs.Common.{sym, ◌∙◌}
use Rattle.cfs_dir.proofs.Changed.{CanLeave-file}
use Rattle.cfs_dir.proofs.tree.Tree.file_to_unlink.Goals as goal

pub returns-clause-leaves : goal.returns-clause-leaves
returns-clause-leaves c =
    let place = c.place.ensures.place in let was = c.in_ok-directory.was in let entry = c.in-Entry.is in let some = c.in-Some.is in
    CanLeave-file c.args.self.now c.args.credential c.args.path.now c.in-Entry.directory c.in-Entry.field-1 c.in-Some.file
    c.place.ensures.whole c.place.ensures.readable (cc) (sym c.is_directory.ensures ∙ c.if-is_directory.false)
