use Rattle.std.proofs.Common.{arith, ◌≡◌, ℕ, ◌+◌, ◌≤◌, length, ap, ◌∙◌, subst}
use Rattle.cfs_lock.specs.declared.pass.Pass.{Pass}
use Rattle.cfs_lock.specs.Passes.{IsNewElse, knows}
use Rattle.cfs_lock.specs.Stages.{code_of}
use Rattle.cfs_lock.specs.Views.{Finds}
use Rattle.cfs_lock.proofs.Seats.{ends, idle_of}
use Rattle.cfs_lock.proofs.lock.TreeLock.close.Goals as goal

-- the pass keeps as many numbers as were given
keeps_given : {X : Type 0} (pass : Pass X) → pass.held ≡ pass.given → pass.seat.me.0.bound ≤ length pass.seat.me.0.books + pass.seat.me.0.left
keeps_given pass same = omega (arith, pass.counted, pass.remaining, pass.giving)

pub unreachable-requires : goal.unreachable-requires
unreachable-requires g c =
    let pass = c.args.pass in
    let last = ends g.X.Recorded.log g.X.Recorded.part _ _ _ _ _ _ _ c.close_with-closed.ensures.values.2 (idle_of pass.seat.me.0.stage (pass.staged ∙ ap code_of c.requires.outside)) pass.booked
    (keeps_given pass c.if-pass.false) c.take-value.ensures.value in
    let is = last.1 in cc c.in-None.is

pub returns-clause-all : goal.returns-clause-all
returns-clause-all g c =
    let pass = c.args.pass in
    let last = ends g.X.Recorded.log g.X.Recorded.part _ _ _ _ _ _ _ c.close_with-closed.ensures.values.2 (idle_of pass.seat.me.0.stage (pass.staged ∙ ap code_of c.requires.outside)) pass.booked
    (keeps_given pass c.if-pass.false) c.take-value.ensures.value in
    ap (λ (n : ℕ). length pass.seat.me.0.books + n) pass.remaining ∙ last.4

pub returns-clause-found : goal.returns-clause-found
returns-clause-found g c =
    let pass = c.args.pass in
    let last = ends g.X.Recorded.log g.X.Recorded.part _ _ _ _ _ _ _ c.close_with-closed.ensures.values.2 (idle_of pass.seat.me.0.stage (pass.staged ∙ ap code_of c.requires.outside)) pass.booked
    (keeps_given pass c.if-pass.false) c.take-value.ensures.value in
    let same : last.0 ≡ c.in-Some.value = cc (last.1, c.in-Some.is) in
    subst (λ value. Finds g.X.Recorded.log g.X.Recorded.part (knows pass) value) same last.2

pub returns-clause-others : goal.returns-clause-others
returns-clause-others g c =
    let pass = c.args.pass in
    let last = ends g.X.Recorded.log g.X.Recorded.part _ _ _ _ _ _ _ c.close_with-closed.ensures.values.2 (idle_of pass.seat.me.0.stage (pass.staged ∙ ap code_of c.requires.outside)) pass.booked
    (keeps_given pass c.if-pass.false) c.take-value.ensures.value in
    let same : last.0 ≡ c.in-Some.value = cc (last.1, c.in-Some.is) in
    subst (λ value. IsNewElse g.X.Recorded.log g.X.Recorded.part (knows pass) value) same last.3
