use Rattle.std.proofs.Common.{◌≡◌, ℕ, List, ap, subst, sym, ◌∙◌}
use Rattle.std.proofs.lemmas.List.{take_all}
use Rattle.cfs_script.specs.declared.line.Line.{Line}
use Rattle.cfs_script.specs.Printing.{lines_text, renumbered}
use Rattle.cfs_script.specs.Script.{IsScript}
use Rattle.cfs_script.proofs.Printed.{lines_more, mode_at}
use Rattle.cfs_script.proofs.Rounds.{printed_script}
use Rattle.cfs_script.proofs.print.print_script.Goals as goal

pub print_form-requires : goal.print_form-requires
print_form-requires c =
    mode_at c.lines-line-items.result.now c.lines.line-index c.line-item.result
    (rw c.lines-line-items.ensures.same c.lines-line-items.ensures.lawful) c.lines-test.true c.line-item.is

pub lines-preserved : goal.lines-preserved
lines-preserved c =
    lines_more c.lines.text.items c.print_form.new.text.items _ c.lines-line-items.result.now c.lines.line-index c.line-item.result c.lines-test.true c.line-item.is
    c.lines.invariant c.in_ok-print_form.ensures c.in_ok-push.ensures.items

pub returns-clause-again : goal.returns-clause-again
returns-clause-again c = λ command lawful.
    let items = c.lines-line-items.result.now in
    let whole : c.lines.text.items ≡ lines_text items = c.lines.invariant ∙ ap (λ (ls : List Line). lines_text ls) (take_all c.lines.line-index items c.lines-test.false) in
    let text : c.from_vec.result ≡ lines_text c.args.script.now = c.from_vec.ensures ∙ whole ∙ ap (λ (ls : List Line). lines_text ls) c.lines-line-items.ensures.same in
    subst (λ (t : List ℕ). IsScript command t (renumbered 1 c.args.script.now)) (sym text) (printed_script command c.args.script.now lawful)
