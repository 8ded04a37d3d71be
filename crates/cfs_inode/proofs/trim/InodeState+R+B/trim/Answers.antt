use Rattle.std.proofs.Common.{◌≡◌, ◌∙◌, arith, ℕ, [], ◌∷◌, Option, None, Some, true, false, refl}
use Rattle.std.proofs.Common.{subst, sym}
use Rattle.cfs_core.specs.declared.event.Event.TheVariants as events
use Rattle.cfs_block.specs.BlockOps.{SetsTag}
use Rattle.cfs_tracker.specs.Cells.{cell_at, moving}
use Rattle.cfs_tracker.specs.Trim.{is_moving}
use Rattle.cfs_tracker.specs.View.{TrackerView, view_of}
use Rattle.cfs_tracker.specs.declared.cell.Cell.TheVariants as kinds
use Rattle.cfs_inode.specs.Makes.{CallMakes}
use Rattle.cfs_inode.specs.Marking.{answer_for}
use Rattle.cfs_inode.specs.Trims.{failed, freed, nothing, trim_events}
use Rattle.cfs_inode.specs.View.{StateView, state_view}
use Rattle.cfs_inode.proofs.Resting.{rests}
use Rattle.cfs_inode.proofs.Trimmings.{moving-here, past-low, tags-err, tags-ok, trim-held}
use Rattle.cfs_inode.proofs.Trimmings.{trim-made, untagged-sure}
use Rattle.cfs_inode.proofs.TrimTells.{state-block, state-cell, state-past, state-trim}
use Rattle.cfs_inode.proofs.trim.InodeState+R+B.trim.Goals as goal

pub returns-in_default-clause-trims : goal.returns-in_default-clause-trims
returns-in_default-clause-trims g c = (
  state-trim g.R.Region.seen g.B.Block.seen c.args.self.now None c.in_default.ensures.block,
  (refl, refl),
)

pub returns-in_default-clause-makes : goal.returns-in_default-clause-makes
returns-in_default-clause-makes g c =
    let old = state_view g.R.Region.seen g.B.Block.seen c.args.self.now in
    let asked = g.P.Power.asked c.args.power.now in
    subst (λ (o : Option ℕ). CallMakes (trim_events o nothing) asked old asked old)
    (sym (state-trim g.R.Region.seen g.B.Block.seen c.args.self.now None
    c.in_default.ensures.block))
    (rests old asked)

pub take_block-requires : goal.take_block-requires
take_block-requires g c =
    past-low (view_of c.args.self.now.tracker) c.in-Some.block c.in-Some.ensures.past

pub unreachable-requires : goal.unreachable-requires
unreachable-requires g c =
    let held = trim-held (view_of c.args.self.now.tracker) c.in-Some.block
    (sym c.in-Some.ensures.block) in
    let none : Some held.0 ≡ None = sym held.1 ∙ sym c.in_default-take_block.ensures.block in
    cc

pub trimmed-requires-clause-moving : goal.trimmed-requires-clause-moving
trimmed-requires-clause-moving g c =
    let view = view_of c.args.self.now.tracker in
    subst (λ (v : TrackerView _ _ _). is_moving (cell_at v.cells c.in-Some.block) ≡ true)
    (sym c.in-Some-take_block.ensures.view)
    (moving-here view.cells c.in-Some.block c.in-Some-take_block.home
    (omega (
      arith,
      past-low view c.in-Some.block c.in-Some.ensures.past,
      c.args.self.now.tracker.covers_file,
    )) (sym c.in-Some-take_block.ensures.block))

pub trimmed-requires-in-Err-clause-moving : goal.trimmed-requires-in-Err-clause-moving
trimmed-requires-in-Err-clause-moving g c =
    let view = view_of c.args.self.now.tracker in
    subst (λ (v : TrackerView _ _ _). is_moving (cell_at v.cells c.in-Some.block) ≡ true)
    (sym c.in-Some-take_block.ensures.view)
    (moving-here view.cells c.in-Some.block c.in-Some-take_block.home
    (omega (
      arith,
      past-low view c.in-Some.block c.in-Some.ensures.past,
      c.args.self.now.tracker.covers_file,
    )) (sym c.in-Some-take_block.ensures.block))

pub new-requires : goal.new-requires
new-requires g c =
    untagged-sure (g.B.Block.seen c.in-Some-take_block.home) (g.B.Block.seen c.retag.new.block)
    c.in-Ok.ensures.set.ok c.in-Ok.ensures.set.sure

pub returns-in-Ok-clause-trims : goal.returns-in-Ok-clause-trims
returns-in-Ok-clause-trims g c =
    let seen = g.B.Block.seen in (
      c.in-Some.block,
      seen c.in-Some-take_block.home,
      state-trim g.R.Region.seen seen c.args.self.now (Some c.in-Some.block)
          c.in-Some.ensures.block,
      (
        state-block g.R.Region.seen seen c.args.self.now c.in-Some.block
            (Some c.in-Some-take_block.home) c.in-Some-take_block.ensures.block,
        (
          subst (λ b. SetsTag g.B.Block.obeys_power g.B.Block.keeps_refused 0 (answer_for true)
              (g.P.Power.asked c.args.power.now) (seen c.in-Some-take_block.home)
              (g.P.Power.asked c.retag.new.power) (seen b)) (sym c.new.ensures)
              (tags-ok tt c.in-Ok.ensures.set),
          state-cell g.R.Region.seen seen c.args.self.now c.trimmed.new.self
              (view_of c.take_block.new.self) c.in-Some.block
              (moving (cell_at (view_of c.args.self.now.tracker).cells c.in-Some.block)) kinds.Hole
              c.trimmed.ensures.view c.in-Some-take_block.ensures.view,
        ),
      ),
    )

pub returns-in-Ok-clause-makes : goal.returns-in-Ok-clause-makes
unfolding returns-in-Ok-clause-trims
returns-in-Ok-clause-makes g c =
    let seen = g.B.Block.seen in
    let did = returns-in-Ok-clause-trims g c in
    let old = state_view g.R.Region.seen seen c.args.self.now in
    let asked_old = g.P.Power.asked c.args.power.now in
    let asked_new = g.P.Power.asked c.retag.new.power in
    subst (λ (o : Option ℕ). CallMakes (trim_events o (freed (seen c.new.result.block))) asked_old
    old asked_new (state_view g.R.Region.seen seen (record c.args.self.now {
      tracker = c.trimmed.new.self;
    }))) (sym did.2)
    (subst (λ (s : StateView). CallMakes (events.Trim did.0 true ∷ []) asked_old old asked_new s)
    (sym did.3.1.1)
    (trim-made old did.0 did.1 (seen c.new.result.block) true g.B.Block.obeys_power
    g.B.Block.keeps_refused asked_old asked_new
    (state-past g.R.Region.seen seen c.args.self.now c.in-Some.block c.in-Some.ensures.past)
    did.3.0 did.3.1.0))

pub returns-in-Err-clause-trims : goal.returns-in-Err-clause-trims
returns-in-Err-clause-trims g c =
    let seen = g.B.Block.seen in (
      c.in-Some.block,
      seen c.in-Some-take_block.home,
      seen c.retag.new.block,
      state-trim g.R.Region.seen seen c.args.self.now (Some c.in-Some.block)
          c.in-Some.ensures.block,
      (
        state-block g.R.Region.seen seen c.args.self.now c.in-Some.block
            (Some c.in-Some-take_block.home) c.in-Some-take_block.ensures.block,
        (
          tags-err c.in-Err.field-0 c.in-Err.ensures.set,
          state-cell g.R.Region.seen seen c.args.self.now c.trimmed-in-Err.new.self
              (view_of c.take_block.new.self) c.in-Some.block
              (moving (cell_at (view_of c.args.self.now.tracker).cells c.in-Some.block))
              (kinds.Unsure c.retag.new.block)
              c.trimmed-in-Err.ensures.view c.in-Some-take_block.ensures.view,
        ),
      ),
    )

pub returns-in-Err-clause-makes : goal.returns-in-Err-clause-makes
unfolding returns-in-Err-clause-trims
returns-in-Err-clause-makes g c =
    let seen = g.B.Block.seen in
    let did = returns-in-Err-clause-trims g c in
    let old = state_view g.R.Region.seen seen c.args.self.now in
    let asked_old = g.P.Power.asked c.args.power.now in
    let asked_new = g.P.Power.asked c.retag.new.power in
    subst (λ (o : Option ℕ). CallMakes (trim_events o failed) asked_old old asked_new
    (state_view g.R.Region.seen seen (record c.args.self.now {
      tracker = c.trimmed-in-Err.new.self;
    }))) (sym did.3)
    (subst (λ (s : StateView). CallMakes (events.Trim did.0 false ∷ []) asked_old old asked_new s)
    (sym did.4.1.1)
    (trim-made old did.0 did.1 did.2 false g.B.Block.obeys_power g.B.Block.keeps_refused asked_old
    asked_new (state-past g.R.Region.seen seen c.args.self.now c.in-Some.block
    c.in-Some.ensures.past) did.4.0 did.4.1.0))
