use Rattle.std.proofs.Common.{◌∙◌, [], ◌∷◌, ◌++◌, ap, arith, map, refl, rules}
use Rattle.std.specs.Prelude.{vec_capacity, vec_len}
use Rattle.std.proofs.lemmas.List.{map-append}
use Rattle.cfs_block.specs.MemoryBlocks.{number_of, seen_of}
use Rattle.cfs_core.specs.declared.event.Event.TheVariants as events
use Rattle.cfs_job.specs.Jobs.{job_view}
use Rattle.cfs_inode.specs.View.{state_view}
use Rattle.cfs_active.specs.Memory.{words_seen}
use Rattle.cfs_active.specs.View.{ActiveView, active_view}
use Rattle.cfs_active.proofs.Keepings.{keeps-taken}
use Rattle.cfs_active.proofs.Knowns.{known-as, ready-known, stays-known}
use Rattle.cfs_active.proofs.Sendings.{pushed, sent-behind}
use Rattle.cfs_active.proofs.active.ActiveInode.dispatch.Goals as goal

pub dispatch-requires : goal.dispatch-requires
dispatch-requires c = search (
  rules,
  ready-known (active_view c.args.self.now).state
      (active_view c.args.self.now).jobs c.args.place c.args.self.now.known,
)

pub returns-in-Ok-clause-sends : goal.returns-in-Ok-clause-sends
returns-in-Ok-clause-sends c =
    let view = job_view words_seen seen_of number_of in record {
      job = view c.in-Taken.job;
      taken = c.in-Taken.ensures.dispatches;
      left_is = c.left-left.ensures;
      jobs_are = ap (λ js. map view js) c.in-Ok.ensures.items
          ∙ map-append view c.args.self.now.jobs.items (c.in-Taken.job ∷ []);
    }

pub returns-in-Ok-clause-makes : goal.returns-in-Ok-clause-makes
returns-in-Ok-clause-makes c =
    let view = job_view words_seen seen_of number_of in
    let old = active_view c.args.self.now in
    let new : ActiveView = record {
      state = state_view words_seen seen_of c.dispatch.new.self;
      jobs = map view c.push.new.self.items;
    } in
    sent-behind c.args.place old new (view c.in-Taken.job)
    (ap (λ js. map view js) c.in-Ok.ensures.items
    ∙ map-append view c.args.self.now.jobs.items (c.in-Taken.job ∷ []))
    c.in-Taken.ensures.makes

pub invariant_of-self : goal.invariant_of-self
invariant_of-self c =
    let view = job_view words_seen seen_of number_of in
    let old = active_view c.args.self.now in
    let jobs = c.args.self.now.jobs in
    let new : ActiveView = record {
      state = state_view words_seen seen_of c.dispatch.new.self;
      jobs = map view c.push.new.self.items;
    } in
    let longer = pushed c.push.result c.push.new.self.items
    (jobs.items ++ c.in-Taken.job ∷ []) jobs.items (vec_capacity jobs) (vec_len jobs)
    c.push.ensures.items c.push.ensures.full (omega (arith, c.requires.room)) in record {
      known = stays-known (events.Dispatch c.args.place ∷ []) [] [] old new
          (keeps-taken c.args.place (view c.in-Taken.job) old.state new.state
          c.in-Taken.ensures.dispatches)
          (sent-behind c.args.place old new (view c.in-Taken.job)
          (ap (λ js. map view js) longer ∙ map-append view jobs.items (c.in-Taken.job ∷ []))
          c.in-Taken.ensures.makes [])
          c.args.self.now.known;
    }

pub invariant_of-self-in-NotYet-1 : goal.invariant_of-self-in-NotYet-1
invariant_of-self-in-NotYet-1 c =
    let old = active_view c.args.self.now in record {
      known = known-as old.state (state_view words_seen seen_of c.dispatch.new.self) old.jobs
          old.jobs c.in-NotYet.ensures.dispatches.1 refl c.args.self.now.known;
    }

pub invariant_of-self-in-NotWaiting : goal.invariant_of-self-in-NotWaiting
invariant_of-self-in-NotWaiting c =
    let old = active_view c.args.self.now in record {
      known = known-as old.state (state_view words_seen seen_of c.dispatch.new.self) old.jobs
          old.jobs c.in-NotWaiting.ensures.dispatches.1 refl c.args.self.now.known;
    }

pub returns-in-NotYet-clause-makes : goal.returns-in-NotYet-clause-makes
returns-in-NotYet-clause-makes c = λ asked.
    c.in-NotYet.ensures.makes asked (active_view c.args.self.now).jobs

pub returns-in-NotWaiting-clause-makes : goal.returns-in-NotWaiting-clause-makes
returns-in-NotWaiting-clause-makes c = λ asked.
    c.in-NotWaiting.ensures.makes asked (active_view c.args.self.now).jobs
