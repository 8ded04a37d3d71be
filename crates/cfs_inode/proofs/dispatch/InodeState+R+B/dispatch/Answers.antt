use Rattle.std.proofs.Common.{◌∙◌, ap, [], ◌∷◌, refl, subst, sym, rules}
use Rattle.cfs_job.specs.Jobs.{job_view}
use Rattle.cfs_job.specs.Views.{JobView}
use Rattle.cfs_tracker.specs.View.{view_of}
use Rattle.cfs_core.specs.declared.event.Event.TheVariants as events
use Rattle.cfs_inode.specs.Dispatching.{lent_of}
use Rattle.cfs_inode.specs.Jobs.{IsGiven}
use Rattle.cfs_inode.specs.Makes.{Makes}
use Rattle.cfs_inode.specs.Stands.{Together}
use Rattle.cfs_inode.specs.View.{StateView, held_of, seens_of, state_view}
use Rattle.cfs_inode.proofs.Dispatches.{dispatch-made}
use Rattle.cfs_inode.proofs.Givings.{handed, state-dispatched}
use Rattle.cfs_inode.proofs.JobTells.{all-are-still, all-still-told, step-told}
use Rattle.cfs_inode.proofs.Resting.{rests}
use Rattle.cfs_inode.proofs.dispatch.InodeState+R+B.dispatch.Goals as goal

pub dispatch-taken-requires-clause-still : goal.dispatch-taken-requires-clause-still
dispatch-taken-requires-clause-still g c =
    all-are-still (view_of c.args.self.now.tracker).cells c.in-Takes.first c.in-Takes.second
    (sym (all-still-told g.B.Block.seen (view_of c.args.self.now.tracker).cells)
    ∙ c.requires.ready.still)

pub new-requires : goal.new-requires
new-requires g c =
    let out = handed g.R.Region.seen g.B.Block.seen g.B.Block.number c.args.self.now c.args.place
    c.in-Takes.first c.in-Takes.second c.dispatch-taken.result.slots c.span-span.result
    c.lent_of-first.result c.lent_of-second.result c.requires.ready (sym c.in-Takes.ensures)
    c.dispatch-taken.ensures.slots c.span-span.ensures
    (c.lent_of-first.ensures ∙ ap lent_of c.dispatch-taken.ensures.first)
    (c.lent_of-second.ensures ∙ ap lent_of c.dispatch-taken.ensures.second) in
    (search rules, (search rules, (out.spans, (out.touches, out.opened))))

pub returns-in-Takes-clause-dispatches : goal.returns-in-Takes-clause-dispatches
returns-in-Takes-clause-dispatches g c =
    let old = state_view g.R.Region.seen g.B.Block.seen c.args.self.now in
    let out = handed g.R.Region.seen g.B.Block.seen g.B.Block.number c.args.self.now c.args.place
    c.in-Takes.first c.in-Takes.second c.dispatch-taken.result.slots c.span-span.result
    c.lent_of-first.result c.lent_of-second.result c.requires.ready (sym c.in-Takes.ensures)
    c.dispatch-taken.ensures.slots c.span-span.ensures
    (c.lent_of-first.ensures ∙ ap lent_of c.dispatch-taken.ensures.first)
    (c.lent_of-second.ensures ∙ ap lent_of c.dispatch-taken.ensures.second) in
    record {
      first = c.in-Takes.first;
      second = c.in-Takes.second;
      entry = out.taking_is.entry;
      step = step-told (held_of g.R.Region.seen) (seens_of g.R.Region.seen) g.B.Block.seen
          (view_of c.args.self.now.tracker) c.args.place ∙ sym c.in-Takes.ensures;
      given = subst (λ (job : JobView). IsGiven old c.args.place c.in-Takes.first
          c.in-Takes.second out.taking_is.entry job) (sym c.new.ensures) out.given;
      view = state-dispatched g.R.Region.seen g.B.Block.seen c.args.self.now
          c.dispatch-taken.new.self c.args.place c.in-Takes.first c.in-Takes.second
          c.dispatch-taken.ensures.view;
    }

pub returns-in-Takes-clause-makes : goal.returns-in-Takes-clause-makes
returns-in-Takes-clause-makes g c =
    let old = state_view g.R.Region.seen g.B.Block.seen c.args.self.now in
    let job = job_view g.R.Region.seen g.B.Block.seen g.B.Block.number c.new.result in
    let out = handed g.R.Region.seen g.B.Block.seen g.B.Block.number c.args.self.now c.args.place
    c.in-Takes.first c.in-Takes.second c.dispatch-taken.result.slots c.span-span.result
    c.lent_of-first.result c.lent_of-second.result c.requires.ready (sym c.in-Takes.ensures)
    c.dispatch-taken.ensures.slots c.span-span.ensures
    (c.lent_of-first.ensures ∙ ap lent_of c.dispatch-taken.ensures.first)
    (c.lent_of-second.ensures ∙ ap lent_of c.dispatch-taken.ensures.second) in
    let given = subst (λ (job : JobView). IsGiven old c.args.place c.in-Takes.first
    c.in-Takes.second out.taking_is.entry job) (sym c.new.ensures) out.given in
    λ asked jobs.
    subst (λ (s : StateView). Makes old.ino (Together old jobs)
    (events.Dispatch c.args.place ∷ []) asked asked (Together s (job ∷ jobs)))
    (sym (state-dispatched g.R.Region.seen g.B.Block.seen c.args.self.now
    c.dispatch-taken.new.self c.args.place c.in-Takes.first c.in-Takes.second
    c.dispatch-taken.ensures.view))
    (dispatch-made old c.args.place c.in-Takes.first c.in-Takes.second job out.taking_is out.blocks
    given asked jobs)

pub returns-in-NotYet-clause-dispatches : goal.returns-in-NotYet-clause-dispatches
returns-in-NotYet-clause-dispatches g c = (
  step-told (held_of g.R.Region.seen) (seens_of g.R.Region.seen) g.B.Block.seen
      (view_of c.args.self.now.tracker) c.args.place ∙ sym c.in-NotYet.ensures,
  refl,
)

pub returns-in-NotYet-clause-makes : goal.returns-in-NotYet-clause-makes
returns-in-NotYet-clause-makes g c = λ asked.
    rests (state_view g.R.Region.seen g.B.Block.seen c.args.self.now) asked

pub returns-in-NotWaiting-clause-dispatches : goal.returns-in-NotWaiting-clause-dispatches
returns-in-NotWaiting-clause-dispatches g c = (
  step-told (held_of g.R.Region.seen) (seens_of g.R.Region.seen) g.B.Block.seen
      (view_of c.args.self.now.tracker) c.args.place ∙ sym c.in-NotWaiting.ensures,
  refl,
)

pub returns-in-NotWaiting-clause-makes : goal.returns-in-NotWaiting-clause-makes
returns-in-NotWaiting-clause-makes g c = λ asked.
    rests (state_view g.R.Region.seen g.B.Block.seen c.args.self.now) asked
