use Rattle.std.proofs.Common.{◌≡◌, sym, ◌∙◌, arith, refl}
use Rattle.cfs_words.specs.Parts.{words_of}
use Rattle.cfs_script.proofs.Forms.{form_of-takes}
use Rattle.cfs_script.proofs.Progress.{no_next, not_allowed}
use Rattle.cfs_script.proofs.read.next_line.Goals as goal

pub returns-in-Err-Outside-clause-refused : goal.returns-in-Err-Outside-clause-refused
returns-in-Err-Outside-clause-refused c =
    no_next c.args.command c.args.seen.now c.args.number c.args.text.now (sym c.is_passed_over.ensures ∙ c.if-is_passed_over.false)
    (rw c.in-Err-Outside.field-0-is at c.in-Err-Outside.ensures)

pub returns-then-not-allows-clause-refused : goal.returns-then-not-allows-clause-refused
returns-then-not-allows-clause-refused c =
    not_allowed c.args.command c.args.seen.now c.args.number c.args.text.now c.in-Ok.form (sym c.is_passed_over.ensures ∙ c.if-is_passed_over.false)
    c.in-Ok.ensures (sym c.allows.ensures ∙ c.if-not-allows.true)

pub returns-clause-found : goal.returns-clause-found
returns-clause-found c = record {
  room = omega arith;
  spelled = (sym c.is_passed_over.ensures ∙ c.if-is_passed_over.false, refl, form_of-takes (words_of c.args.text.now) c.in-Ok.form c.in-Ok.ensures);
  allowed = sym c.allows.ensures ∙ c.if-not-allows.false;
}
