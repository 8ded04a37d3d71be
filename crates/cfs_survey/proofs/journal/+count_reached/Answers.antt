use Rattle.std.proofs.Common.{◌≡◌, ◌∙◌, ◌+◌, ◌-◌, suc, sym, ap, arith}
use Rattle.cfs_survey.proofs.WalkLemmas.{walk_goes_on, walk_none, walk_stops}
use Rattle.cfs_survey.proofs.journal.+count_reached.Goals as goal

pub returns-then-most-eq0-clause-count : goal.returns-then-most-eq0-clause-count
returns-then-most-eq0-clause-count t c =
    sym (walk_none c.args.most c.args.through c.args.journal.now c.if-most-eq0.true)

pub returns-then-is_reached-clause-count : goal.returns-then-is_reached-clause-count
returns-then-is_reached-clause-count t c =
    let more : c.args.most ≡ suc (c.args.most - 1) = omega arith in
    ap (λ n. 1 + n) c.count_reached.ensures.count
    ∙ sym (walk_goes_on c.args.most (c.args.most - 1) c.args.through c.args.journal.now more
    (sym c.is_reached.ensures ∙ c.if-is_reached.true))

pub returns-clause-count : goal.returns-clause-count
returns-clause-count t c =
    sym (walk_stops c.args.most c.args.through c.args.journal.now
    (sym c.is_reached.ensures ∙ c.if-is_reached.false))
