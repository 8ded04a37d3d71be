use Rattle.std.proofs.Common.{arith, ap, refl}
use Rattle.cfs_dir.specs.Namespace.{Namespace}
use Rattle.cfs_dir.proofs.Changed.{CanJoin-new}
use Rattle.cfs_dir.proofs.tree.Tree.node_to_make.Goals as goal

pub returns-clause-joins : goal.returns-clause-joins
returns-clause-joins c =
    let place = c.place.ensures.place in let was = c.in_ok-directory.was in
    let entry = c.in-Entry-default-default-None.is in let none = c.in-Entry-default-default-None.field-2-is in
    let own = c.in-Entry-default-default-None.directory-is in let named = c.in-Entry-default-default-None.name-is in
    let next = ap (λ (namespace : Namespace). namespace.next) c.self.view_is in
    let given = c.requires.free c.in-Some.rec c.in-Some.is in
    let permissions = c.requires.permissions in
    let room = c.if-self-ge-INODE_END.false in
    CanJoin-new c.args.self.now c.args.credential c.args.path.now c.in-Entry-default-default-None.directory c.in-Entry-default-default-None.name _
    c.place.ensures.whole c.place.ensures.readable (cc) next (omega arith) refl refl (omega arith) (omega arith) (omega arith) given.0 given.1
