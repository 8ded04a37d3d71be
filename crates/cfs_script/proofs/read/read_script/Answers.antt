use Rattle.std.proofs.Common.{arith}
use Rattle.std.proofs.lemmas.Result.{err_from_is_err_and}
use Rattle.cfs_script.proofs.Progress.{progress_step, progress_end, progress_only, next_refused, next_first, script_lawful}
use Rattle.cfs_script.proofs.read.read_script.Goals as goal

pub returns-in_err-line-clause-refused : goal.returns-in_err-line-clause-refused
returns-in_err-line-clause-refused c =
    let p = err_from_is_err_and c.from_residual.result c.from_residual.ensures.1 in
    let so_far = rw c.in-Some.ensures.steps at c.texts.invariant.2 in
    rw (p.1, p.2) (next_refused _ _ _ _ _ _ _ c.in_err-line.field-0.0 so_far c.in_err-line.ensures.refused)

pub returns-in_err-line-clause-first : goal.returns-in_err-line-clause-first
returns-in_err-line-clause-first c =
    let p = err_from_is_err_and c.from_residual.result c.from_residual.ensures.1 in
    let so_far = rw c.in-Some.ensures.steps at c.texts.invariant.2 in
    rw (p.1, p.2) (next_first _ _ _ _ _ _ _ c.in_err-line.field-0.0 so_far c.in_err-line.ensures.number c.in_err-line.ensures.refused)

pub texts-preserved : goal.texts-preserved
texts-preserved c =
    let so_far = rw c.in-Some.ensures.steps at c.texts.invariant.2 in
    (tt, tt, rw (c.in_ok-push_some.ensures, c.in_ok-line.ensures.seen) (progress_step _ _ _ _ _ _ _ _ so_far c.in_ok-line.ensures.found))

pub new-requires : goal.new-requires
new-requires c =
    let so_far = rw c.in-None.ensures.steps.0 at c.texts.invariant.2 in
    script_lawful _ _ _ (progress_end _ _ _ _ _ so_far)

pub returns-clause-found : goal.returns-clause-found
returns-clause-found c =
    let so_far = rw c.in-None.ensures.steps.0 at c.texts.invariant.2 in
    rw c.new.ensures (progress_end _ _ _ _ _ so_far)

pub returns-clause-only : goal.returns-clause-only
returns-clause-only c =
    let so_far = rw c.in-None.ensures.steps.0 at c.texts.invariant.2 in
    rw c.new.ensures (progress_only _ _ _ _ _ so_far)

pub returns-clause-lawful : goal.returns-clause-lawful
returns-clause-lawful c =
    let so_far = rw c.in-None.ensures.steps.0 at c.texts.invariant.2 in
    rw c.new.ensures (script_lawful _ _ _ (progress_end _ _ _ _ _ so_far))
