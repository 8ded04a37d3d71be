use Rattle.std.proofs.Common.{◌∙◌, sym, ap, eq-eqb, get_or}
use Rattle.std.specs.Prelude.{not}
use Rattle.cfs_plan.proofs.Filters.{dead-marked, dead-unmarked}
use Rattle.cfs_plan.proofs.dead.is_dead.Goals as goal

pub returns-then-words-eq1 : goal.returns-then-words-eq1
returns-then-words-eq1 c = λ files has.
    eq-eqb (get_or c.args.words.now 1 0) 1 c.if-words-eq1.true
    ∙ sym (dead-marked files c.args.words.now c.if-words-ne0.true c.if-words-eq1.true)

pub returns-else-words-eq1 : goal.returns-else-words-eq1
returns-else-words-eq1 c = λ files has.
    ap not c.contains_key.ensures
    ∙ dead-unmarked files c.args.records.now c.args.words.now has c.if-words-ne0.true
    c.if-words-eq1.false
