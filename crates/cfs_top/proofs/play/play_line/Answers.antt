use Rattle.std.proofs.Common.{◌∙◌}
use Rattle.cfs_top.proofs.Runs.{on_err, PlaysAll-line, PlaysAll-silent, PlaysFront-line, PlaysFront-none}
use Rattle.cfs_top.proofs.play.play_line.Goals as goal

pub returns-in_err-out-clause-front : goal.returns-in_err-out-clause-front
returns-in_err-out-clause-front g c = on_err _ _ (PlaysFront-none _ _ _)

pub returns-in_err-text-clause-front : goal.returns-in_err-text-clause-front
returns-in_err-text-clause-front g c = on_err _ _ (PlaysFront-none _ _ _)

pub returns-in_err-write_all-clause-front : goal.returns-in_err-write_all-clause-front
returns-in_err-write_all-clause-front g c =
    on_err _ _ (PlaysFront-line _ _ _ c.in-Some.out _ _ _ (rw c.in-Some.is at c.in_ok-out.ensures.played)
    (c.as_bytes.ensures.value ∙ c.in_ok-text.ensures) c.in_err-write_all.ensures.front)

pub returns-in_ok-write_all-clause-whole : goal.returns-in_ok-write_all-clause-whole
returns-in_ok-write_all-clause-whole g c =
    PlaysAll-line _ _ _ c.in-Some.out _ _ _ (rw c.in-Some.is at c.in_ok-out.ensures.played)
    (c.as_bytes.ensures.value ∙ c.in_ok-text.ensures) c.in_ok-write_all.ensures.whole

pub returns-in_default-clause-whole : goal.returns-in_default-clause-whole
returns-in_default-clause-whole g c = PlaysAll-silent _ _ _ _ (rw c.in_default.is at c.in_ok-out.ensures.played)
