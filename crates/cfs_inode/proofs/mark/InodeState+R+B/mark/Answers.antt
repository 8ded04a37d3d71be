use Rattle.std.proofs.Common.{◌∙◌, ap, arith, [], ◌∷◌, map, None, Some, true, false, refl, subst}
use Rattle.std.proofs.Common.{sym}
use Rattle.cfs_core.specs.declared.event.Event.TheVariants as events
use Rattle.cfs_slot.specs.Regions.{of_live, tails_of_live}
use Rattle.cfs_tracker.specs.View.{view_of}
use Rattle.cfs_inode.specs.View.{Held, StateView, held_of, state_view}
use Rattle.cfs_inode.specs.Makes.{CallMakes}
use Rattle.cfs_inode.specs.Marking.{with_marked}
use Rattle.cfs_inode.proofs.Heads.{heads-err, heads-ok, sets-err, sets-ok}
use Rattle.cfs_inode.proofs.Marks.{mark-made}
use Rattle.cfs_inode.proofs.MarkTells.{held-now, state-marked, state-waiting}
use Rattle.cfs_inode.proofs.Resting.{rests}
use Rattle.cfs_inode.proofs.States.{state-same}
use Rattle.cfs_inode.proofs.mark.InodeState+R+B.mark.Goals as goal

pub returns-in_default-clause-marks : goal.returns-in_default-clause-marks
returns-in_default-clause-marks g c = (
  state-waiting g.R.Region.seen g.B.Block.seen c.args.self.now c.args.place None
      c.in_default.ensures.slots,
  (
    refl,
    state-same g.R.Region.seen g.B.Block.seen c.args.self.now c.take_waiting.new.self
        c.in_default.ensures.unchanged,
  ),
)

pub returns-in_default-clause-makes : goal.returns-in_default-clause-makes
returns-in_default-clause-makes g c = λ marking.
    let old = state_view g.R.Region.seen g.B.Block.seen c.args.self.now in
    let asked = g.P.Power.asked c.args.power.now in
    subst (λ (s : StateView). CallMakes [] asked old asked s)
    (sym (state-same g.R.Region.seen g.B.Block.seen c.args.self.now c.take_waiting.new.self
    c.in_default.ensures.unchanged))
    (rests old asked)

pub returns-in-Ok-clause-marks : goal.returns-in-Ok-clause-marks
returns-in-Ok-clause-marks g c =
    let seen = g.R.Region.seen in
    let live = c.in-Some.live in
    let now = c.mark_noop.new.self in
    let old = state_view seen g.B.Block.seen c.args.self.now in
    let tails = map seen (tails_of_live live) in (
      held_of seen live,
      seen (of_live now) ∷ tails,
      state-waiting seen g.B.Block.seen c.args.self.now c.args.place (Some live)
          c.in-Some.ensures.slots,
      (
        heads-ok (seen (of_live live)) (seen (of_live now)) tails tails tt refl c.in-Ok.ensures.set,
        state-marked seen g.B.Block.seen c.args.self.now c.marked.new.self
            (view_of c.take_waiting.new.self) c.args.place now true c.marked.ensures.view
            c.in-Some.ensures.taken
            ∙ ap (λ (held : Held). with_marked c.args.place held true old)
            (held-now seen live now c.in-Ok.ensures.place c.in-Ok.ensures.tails),
      ),
    )

pub returns-in-Ok-clause-makes : goal.returns-in-Ok-clause-makes
unfolding returns-in-Ok-clause-marks
returns-in-Ok-clause-makes g c = λ marking.
    let seen = g.R.Region.seen in
    let live = c.in-Some.live in
    let did = returns-in-Ok-clause-marks g c in
    let old = state_view seen g.B.Block.seen c.args.self.now in
    let asked_old = g.P.Power.asked c.args.power.now in
    let asked_new = g.P.Power.asked c.mark_noop.new.power in
    subst (λ (s : StateView). CallMakes (events.Mark c.args.place c.args.by true ∷ []) asked_old old
    asked_new s) (sym did.3.1)
    (mark-made old c.args.place c.args.by did.0 true g.R.Region.obeys_power asked_old asked_new
    (seen (of_live live)) (seen (of_live c.mark_noop.new.self)) (map seen (tails_of_live live))
    did.2 refl (omega (arith, live.size)) (sets-ok tt c.in-Ok.ensures.set) marking)

pub returns-in-Err-clause-marks : goal.returns-in-Err-clause-marks
returns-in-Err-clause-marks g c =
    let seen = g.R.Region.seen in
    let live = c.in-Some.live in
    let now = c.mark_noop.new.self in
    let old = state_view seen g.B.Block.seen c.args.self.now in
    let tails = map seen (tails_of_live live) in (
      held_of seen live,
      seen (of_live now) ∷ tails,
      state-waiting seen g.B.Block.seen c.args.self.now c.args.place (Some live)
          c.in-Some.ensures.slots,
      (
        heads-err (seen (of_live live)) (seen (of_live now)) tails tails c.in-Err.field-0
            refl c.in-Err.ensures.set,
        state-marked seen g.B.Block.seen c.args.self.now c.marked-in-Err.new.self
            (view_of c.take_waiting.new.self) c.args.place now false c.marked-in-Err.ensures.view
            c.in-Some.ensures.taken
            ∙ ap (λ (held : Held). with_marked c.args.place held false old)
            (held-now seen live now c.in-Err.ensures.place c.in-Err.ensures.tails),
      ),
    )

pub returns-in-Err-clause-makes : goal.returns-in-Err-clause-makes
unfolding returns-in-Err-clause-marks
returns-in-Err-clause-makes g c = λ marking.
    let seen = g.R.Region.seen in
    let live = c.in-Some.live in
    let did = returns-in-Err-clause-marks g c in
    let old = state_view seen g.B.Block.seen c.args.self.now in
    let asked_old = g.P.Power.asked c.args.power.now in
    let asked_new = g.P.Power.asked c.mark_noop.new.power in
    subst (λ (s : StateView). CallMakes (events.Mark c.args.place c.args.by false ∷ []) asked_old
    old asked_new s) (sym did.3.1)
    (mark-made old c.args.place c.args.by did.0 false g.R.Region.obeys_power asked_old asked_new
    (seen (of_live live)) (seen (of_live c.mark_noop.new.self)) (map seen (tails_of_live live))
    did.2 refl (omega (arith, live.size)) (sets-err c.in-Err.field-0 c.in-Err.ensures.set) marking)
