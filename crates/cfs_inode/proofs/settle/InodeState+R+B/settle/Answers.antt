use Rattle.std.proofs.Common.{◌≡◌, ◌∙◌, [], ◌∷◌, map, None, Some, refl, subst, sym, true}
use Rattle.std.specs.Prelude.{is_some}
use Rattle.cfs_core.specs.declared.event.Event.TheVariants as events
use Rattle.cfs_slot.specs.Regions.{head_of, of_doubt, of_slots, tails_of_doubt}
use Rattle.cfs_tracker.specs.Settle.{doubt_slots}
use Rattle.cfs_tracker.specs.View.{TrackerView, view_of}
use Rattle.cfs_inode.specs.View.{StateView, seens_of, state_view}
use Rattle.cfs_inode.specs.Makes.{CallMakes}
use Rattle.cfs_inode.proofs.Heads.{slots-err, slots-ok}
use Rattle.cfs_inode.proofs.Resting.{rests}
use Rattle.cfs_inode.proofs.Settlings.{settle-done, settle-failed}
use Rattle.cfs_inode.proofs.States.{some-taken, state-doubt, state-same, state-settled}
use Rattle.cfs_inode.proofs.States.{state-unsettled, taken-out, view-settling}
use Rattle.cfs_inode.proofs.settle.InodeState+R+B.settle.Goals as goal

pub returns-in_default-clause-settles : goal.returns-in_default-clause-settles
returns-in_default-clause-settles g c = (
  state-doubt g.R.Region.seen g.B.Block.seen c.args.self.now None c.in_default.ensures.slots,
  (
    refl,
    state-same g.R.Region.seen g.B.Block.seen c.args.self.now c.take_doubt.new.self
        (c.in_default.ensures.taken
        ∙ view-settling (view_of c.args.self.now.tracker) c.in_default.ensures.slots),
  ),
)

pub returns-in_default-clause-makes : goal.returns-in_default-clause-makes
returns-in_default-clause-makes g c =
    let did = returns-in_default-clause-settles g c in
    let old = state_view g.R.Region.seen g.B.Block.seen c.args.self.now in
    let asked = g.P.Power.asked c.args.power.now in
    subst (λ (s : StateView). CallMakes [] asked old asked s) (sym did.1.1) (rests old asked)

pub settled-requires-clause-doubt : goal.settled-requires-clause-doubt
settled-requires-clause-doubt g c =
    subst (λ (v : TrackerView _ _ _). is_some v.doubt ≡ true) (sym c.in-Some.ensures.taken)
    (some-taken (view_of c.args.self.now.tracker).doubt c.in-Some.doubt c.in-Some.ensures.slots)

pub settled-requires-clause-out : goal.settled-requires-clause-out
settled-requires-clause-out g c =
    subst (λ (v : TrackerView _ _ _). doubt_slots v.doubt ≡ None) (sym c.in-Some.ensures.taken)
    (taken-out (view_of c.args.self.now.tracker).doubt)

pub put_doubt-requires-clause-doubt : goal.put_doubt-requires-clause-doubt
put_doubt-requires-clause-doubt g c =
    subst (λ (v : TrackerView _ _ _). is_some v.doubt ≡ true) (sym c.in-Some.ensures.taken)
    (some-taken (view_of c.args.self.now.tracker).doubt c.in-Some.doubt c.in-Some.ensures.slots)

pub put_doubt-requires-clause-out : goal.put_doubt-requires-clause-out
put_doubt-requires-clause-out g c =
    subst (λ (v : TrackerView _ _ _). doubt_slots v.doubt ≡ None) (sym c.in-Some.ensures.taken)
    (taken-out (view_of c.args.self.now.tracker).doubt)

pub returns-in-Ok-clause-settles : goal.returns-in-Ok-clause-settles
returns-in-Ok-clause-settles g c = (
  seens_of g.R.Region.seen c.in-Some.doubt,
  state-doubt g.R.Region.seen g.B.Block.seen c.args.self.now (Some c.in-Some.doubt)
      c.in-Some.ensures.slots,
  (
    slots-ok g.R.Region.seen (of_doubt c.in-Some.doubt)
        (head_of (of_doubt c.in-Some.doubt) (of_slots c.in-Ok.slots))
        (tails_of_doubt c.in-Some.doubt) (of_slots c.in-Ok.slots) c.in-Ok.slots
        c.in-Ok.ensures.set c.in-Ok.ensures.slots,
    state-settled g.R.Region.seen g.B.Block.seen c.args.self.now c.settled.new.self
        (view_of c.take_doubt.new.self) c.settled.ensures.view c.in-Some.ensures.taken,
  ),
)

pub returns-in-Ok-clause-makes : goal.returns-in-Ok-clause-makes
returns-in-Ok-clause-makes g c =
    let did = returns-in-Ok-clause-settles g c in
    let old = state_view g.R.Region.seen g.B.Block.seen c.args.self.now in
    let asked_old = g.P.Power.asked c.args.power.now in
    let asked_new = g.P.Power.asked c.settle.new.power in
    subst (λ (s : StateView). CallMakes (events.Settle ∷ []) asked_old old asked_new s)
    (sym did.2.1)
    (settle-done old did.0 g.R.Region.obeys_power asked_old asked_new
    (map g.R.Region.seen (of_slots c.in-Ok.slots)) did.1 did.2.0)

pub returns-in-Err-clause-settles : goal.returns-in-Err-clause-settles
returns-in-Err-clause-settles g c = (
  seens_of g.R.Region.seen c.in-Some.doubt,
  seens_of g.R.Region.seen c.in-Err.doubt,
  state-doubt g.R.Region.seen g.B.Block.seen c.args.self.now (Some c.in-Some.doubt)
      c.in-Some.ensures.slots,
  (
    slots-err g.R.Region.seen (of_doubt c.in-Some.doubt) (of_doubt c.in-Err.doubt)
        (tails_of_doubt c.in-Some.doubt) (of_doubt c.in-Err.doubt ∷ tails_of_doubt c.in-Err.doubt)
        c.in-Err.doubt c.in-Err.ensures.set c.in-Err.ensures.slots,
    state-unsettled g.R.Region.seen g.B.Block.seen c.args.self.now c.put_doubt.new.self
        (view_of c.take_doubt.new.self) c.in-Err.doubt c.put_doubt.ensures.view
        c.in-Some.ensures.taken,
  ),
)

pub returns-in-Err-clause-makes : goal.returns-in-Err-clause-makes
returns-in-Err-clause-makes g c =
    let did = returns-in-Err-clause-settles g c in
    let old = state_view g.R.Region.seen g.B.Block.seen c.args.self.now in
    let asked_old = g.P.Power.asked c.args.power.now in
    let asked_new = g.P.Power.asked c.settle.new.power in
    subst (λ (s : StateView). CallMakes [] asked_old old asked_new s) (sym did.3.1)
    (settle-failed old did.0 g.R.Region.obeys_power asked_old asked_new did.1 did.2 did.3.0)
