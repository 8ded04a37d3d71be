use Rattle.std.proofs.Common.{List, ℕ, length, sym, ap, subst, arith}
use Rattle.std.specs.Prelude.{nat_eq}
use Rattle.cfs_dir.proofs.Reading.{IsCut, IsRead, bad-name, too-many, read-next, read-end}
use Rattle.cfs_dir.proofs.path.Path.parse.Goals as goal

pub returns-then-len-ge-MOST_NAMES-clause-malformed : goal.returns-then-len-ge-MOST_NAMES-clause-malformed
returns-then-len-ge-MOST_NAMES-clause-malformed c = λ _.
    let cut : IsCut c.loop-name.rest.now c.in-Some.name.now c.in-Some.after.now =
    record { whole = c.in-Some.ensures.parts; first = c.in-Some.ensures.name; others = c.in-Some.ensures.after } in
    let len = c.len.ensures in let full = c.if-len-ge-MOST_NAMES.true in let ok = c.loop-name.names.ok in
    too-many c.args.text.now c.loop-name.names.items c.loop-name.rest.now c.in-Some.name.now c.in-Some.after.now
    (λ e. let yes = c.is_root.ensures.1 e in let no = c.if-is_root.false in cc) c.loop-name.invariant cut (omega arith)

pub returns-then-not-is_path_name-clause-malformed : goal.returns-then-not-is_path_name-clause-malformed
returns-then-not-is_path_name-clause-malformed c = λ _.
    let cut : IsCut c.loop-name.rest.now c.in-Some.name.now c.in-Some.after.now =
    record { whole = c.in-Some.ensures.parts; first = c.in-Some.ensures.name; others = c.in-Some.ensures.after } in
    bad-name c.args.text.now c.loop-name.names.items c.loop-name.rest.now c.in-Some.name.now c.in-Some.after.now
    (λ e. let yes = c.is_root.ensures.1 e in let no = c.if-is_root.false in cc) c.loop-name.invariant cut
    (λ h. let yes = c.is_path_name.ensures.1 h in let no = c.if-not-is_path_name.true in cc)

pub loop-name-preserved : goal.loop-name-preserved
loop-name-preserved c =
    let cut : IsCut c.loop-name.rest.now c.in-Some.name.now c.in-Some.after.now =
    record { whole = c.in-Some.ensures.parts; first = c.in-Some.ensures.name; others = c.in-Some.ensures.after } in
    let len = c.len.ensures in let room = c.if-len-ge-MOST_NAMES.false in let ok = c.loop-name.names.ok in
    subst (λ items. IsRead c.args.text.now items c.in-Some.after.now) (sym c.in_ok-push_name.ensures)
    (read-next c.args.text.now c.loop-name.names.items c.loop-name.rest.now c.in-Some.name.now c.in-Some.after.now
    c.loop-name.invariant cut (omega arith) (c.is_path_name.ensures.0 c.if-not-is_path_name.false))

pub returns-then-not-is_empty-clause-malformed : goal.returns-then-not-is_empty-clause-malformed
returns-then-not-is_empty-clause-malformed c = λ _ all is.
    let e = read-end c.args.text.now c.loop-name.names.items c.loop-name.rest.now
    (λ e. let yes = c.is_root.ensures.1 e in let no = c.if-is_root.false in cc) c.loop-name.invariant
    (λ h. let yes = c.in_default.ensures.begins.1 h in cc) all is in
    let hit = ap (λ (rest : List ℕ). nat_eq (length rest) 0) e.1 in
    let len = c.is_empty-2.ensures in let no = c.if-not-is_empty.true in cc
