use Rattle.std.proofs.Common.{sym, subst, Bool}
use Rattle.cfs_conflict.specs.Conflicts.{ReadBetween, lists_of}
use Rattle.cfs_conflict.proofs.Asked.{read_between}
use Rattle.cfs_conflict.proofs.questions.is_read_between.Goals as goal

pub returns-in-Some : goal.returns-in-Some
returns-in-Some g c =
    let P : Bool → Type 0 = λ w. ReadBetween w (lists_of c.args.entries.now c.args.reads.now) c.args.first c.args.last in
    subst P (sym c.is_some.ensures)
    (read_between (lists_of c.args.entries.now c.args.reads.now) _ _ c.in-Some.span c.first_overlap_between.result (sym c.in-Some.ensures.exact) c.first_overlap_between.ensures.least)
