use Rattle.std.proofs.Common.{◌≡◌, ◌∙◌, set, subst, sym, true}
use Rattle.cfs_file.specs.declared.span.Span.{Span}
use Rattle.cfs_tracker.specs.Passed.{has_stretch}
use Rattle.cfs_tracker.proofs.Passing.{added-at}
use Rattle.cfs_tracker.proofs.passed.add.Goals as goal

pub returns-in-Some : goal.returns-in-Some
returns-in-Some c = λ span h.
    added-at c.args.stretches.now c.in-Some.at c.args.added span _
    (sym c.seat.ensures ∙ c.in-Some.is)
    (subst (λ (s : Span). has_stretch (set c.args.stretches.now c.in-Some.at s) span ≡ true)
    c.joined.ensures h)
