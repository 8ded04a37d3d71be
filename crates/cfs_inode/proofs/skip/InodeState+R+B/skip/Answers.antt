use Rattle.std.proofs.Common.{◌≡◌, ◌∙◌, ap, ℕ, [], ◌∷◌, map, None, Some, refl, subst, sym, true}
use Rattle.cfs_core.specs.declared.event.Event.TheVariants as events
use Rattle.cfs_slot.specs.Reads.{regions_of}
use Rattle.cfs_slot.specs.Regions.{head_of, of_live, of_slots, tails_of_live}
use Rattle.cfs_tracker.specs.Skip.{is_closing}
use Rattle.cfs_tracker.specs.View.{TrackerView, entry_at, view_of}
use Rattle.cfs_inode.specs.View.{Held, StateView, held_of, state_view}
use Rattle.cfs_inode.specs.Ends.{with_noop}
use Rattle.cfs_inode.specs.Makes.{CallMakes}
use Rattle.cfs_inode.proofs.Heads.{slots-err, slots-ok}
use Rattle.cfs_inode.proofs.Resting.{rests}
use Rattle.cfs_inode.proofs.Skips.{skip-done, skip-failed, taken-closing}
use Rattle.cfs_inode.proofs.States.{state-noop, state-same, state-skipped, state-unclosed}
use Rattle.cfs_inode.proofs.skip.InodeState+R+B.skip.Goals as goal

pub returns-in_default-clause-skips : goal.returns-in_default-clause-skips
returns-in_default-clause-skips g c = (
  state-noop g.R.Region.seen g.B.Block.seen c.args.self.now c.args.place None
      c.in_default.ensures.slots,
  (
    refl,
    state-same g.R.Region.seen g.B.Block.seen c.args.self.now c.take_covered.new.self
        c.in_default.ensures.unchanged,
  ),
)

pub returns-in_default-clause-makes : goal.returns-in_default-clause-makes
returns-in_default-clause-makes g c =
    let old = state_view g.R.Region.seen g.B.Block.seen c.args.self.now in
    let asked = g.P.Power.asked c.args.power.now in
    subst (λ (s : StateView). CallMakes [] asked old asked s)
    (sym (state-same g.R.Region.seen g.B.Block.seen c.args.self.now c.take_covered.new.self
    c.in_default.ensures.unchanged))
    (rests old asked)

pub skipped-requires : goal.skipped-requires
skipped-requires g c =
    subst (λ (v : TrackerView _ _ _). is_closing (entry_at v.entries c.args.place) ≡ true)
    (sym c.in-Some.ensures.taken)
    (taken-closing (view_of c.args.self.now.tracker).entries c.args.place c.in-Some.live
    (sym c.in-Some.ensures.slots))

pub put_covered-requires : goal.put_covered-requires
put_covered-requires g c =
    subst (λ (v : TrackerView _ _ _). is_closing (entry_at v.entries c.args.place) ≡ true)
    (sym c.in-Some.ensures.taken)
    (taken-closing (view_of c.args.self.now.tracker).entries c.args.place c.in-Some.live
    (sym c.in-Some.ensures.slots))

pub returns-in-Ok-clause-skips : goal.returns-in-Ok-clause-skips
returns-in-Ok-clause-skips g c = (
  held_of g.R.Region.seen c.in-Some.live,
  state-noop g.R.Region.seen g.B.Block.seen c.args.self.now c.args.place (Some c.in-Some.live)
      c.in-Some.ensures.slots,
  (
    slots-ok g.R.Region.seen (of_live c.in-Some.live)
        (head_of (of_live c.in-Some.live) (of_slots c.in-Ok.slots))
        (tails_of_live c.in-Some.live) (of_slots c.in-Ok.slots) c.in-Ok.slots
        c.in-Ok.ensures.set c.in-Ok.ensures.slots,
    state-skipped g.R.Region.seen g.B.Block.seen c.args.self.now c.skipped.new.self
        (view_of c.take_covered.new.self) c.args.place c.skipped.ensures.view
        c.in-Some.ensures.taken,
  ),
)

pub returns-in-Ok-clause-makes : goal.returns-in-Ok-clause-makes
returns-in-Ok-clause-makes g c =
    let did = returns-in-Ok-clause-skips g c in
    let old = state_view g.R.Region.seen g.B.Block.seen c.args.self.now in
    let asked_old = g.P.Power.asked c.args.power.now in
    let asked_new = g.P.Power.asked c.close_gate.new.power in
    subst (λ (s : StateView). CallMakes (events.Skip c.args.place ∷ []) asked_old old asked_new s)
    (sym did.2.1)
    (skip-done old c.args.place did.0 g.R.Region.obeys_power asked_old asked_new
    (map g.R.Region.seen (of_slots c.in-Ok.slots)) did.1 did.2.0)

pub returns-in-Err-clause-skips : goal.returns-in-Err-clause-skips
returns-in-Err-clause-skips g c =
    let was = held_of g.R.Region.seen c.in-Some.live in
    let slots = map g.R.Region.seen (regions_of c.in-Err.live) in
    let same : held_of g.R.Region.seen c.in-Err.live ≡ record was { slots = slots } =
    ap (λ (place : ℕ). record was { place = place; slots = slots }) c.in-Err.ensures.place in (
      was,
      slots,
      state-noop g.R.Region.seen g.B.Block.seen c.args.self.now c.args.place
          (Some c.in-Some.live) c.in-Some.ensures.slots,
      (
        slots-err g.R.Region.seen (of_live c.in-Some.live) (of_live c.in-Err.live)
            (tails_of_live c.in-Some.live) (regions_of c.in-Err.live) c.in-Err.live
            c.in-Err.ensures.set c.in-Err.ensures.slots,
        state-unclosed g.R.Region.seen g.B.Block.seen c.args.self.now c.put_covered.new.self
            (view_of c.take_covered.new.self) c.args.place c.in-Err.live
            c.put_covered.ensures.view c.in-Some.ensures.taken
            ∙ ap (λ (held : Held). with_noop c.args.place held
            (state_view g.R.Region.seen g.B.Block.seen c.args.self.now)) same,
      ),
    )

pub returns-in-Err-clause-makes : goal.returns-in-Err-clause-makes
returns-in-Err-clause-makes g c =
    let did = returns-in-Err-clause-skips g c in
    let old = state_view g.R.Region.seen g.B.Block.seen c.args.self.now in
    let asked_old = g.P.Power.asked c.args.power.now in
    let asked_new = g.P.Power.asked c.close_gate.new.power in
    subst (λ (s : StateView). CallMakes [] asked_old old asked_new s)
    (sym did.3.1)
    (skip-failed old c.args.place did.0 g.R.Region.obeys_power asked_old asked_new did.1
    did.2 did.3.0)
