use Rattle.std.proofs.Common.{ap, ◌∙◌, subst}
use Rattle.cfs_lock.specs.declared.view.Stage.TheVariants.{Waits}
use Rattle.cfs_lock.specs.Views.{Finds}
use Rattle.cfs_lock.proofs.Steps.{finds_any}
use Rattle.cfs_lock.proofs.lock.TreeLock.take.Goals as goal

pub returns-in-Some-look-clause-found : goal.returns-in-Some-look-clause-found
returns-in-Some-look-clause-found g c =
    let drawn = c.draw-ticket.ensures.drawn in
    finds_any g.X.Recorded.log g.X.Recorded.part c.args.seat.now.me.0 (Waits drawn.0) c.in-Some-look.value
    (subst (λ v. Finds g.X.Recorded.log g.X.Recorded.part v c.in-Some-look.value) (ap (λ m. m.0) (c.loop.invariant.1 ∙ drawn.2)) c.in-Some-look.ensures.found)
