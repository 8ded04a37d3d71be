use Rattle.std.proofs.Common.{◌≡◌, ℕ, ◌<◌, List, length, drop, get_or, false, refl, sym, ◌∙◌}
use Rattle.std.proofs.lemmas.List.{drop_more}
use Rattle.cfs_script.specs.declared.line.Line.{Line}
use Rattle.cfs_top.specs.Stage as stage
use Rattle.cfs_top.proofs.stage.are_served.Goals as goal

unserved : (lines : List Line) (i : ℕ) (line : Line) → i < length lines → line ≡ get_or lines i line → stage.is_served i line.form ≡ false →
    stage.are_served i (drop i lines) ≡ false
unserved lines i line lt is off = rw (drop_more lines i line lt, ← is, off) refl

pub returns-then-not-is_served : goal.returns-then-not-is_served
returns-then-not-is_served c =
    sym (c.lines.invariant ∙ unserved c.args.lines.now c.lines.before c.index-lines-before.result c.lines-test.true c.index-lines-before.is
    (sym c.is_served.ensures ∙ c.if-not-is_served.true))
