use Rattle.std.proofs.Common.{◌≡◌, ◌∙◌, ℕ, [], ◌∷◌, Some, ap, map, refl, rules, subst, sym}
use Rattle.std.specs.List.{position}
use Rattle.cfs_block.specs.MemoryBlocks.{number_of, seen_of}
use Rattle.cfs_core.specs.declared.event.Event.TheVariants as events
use Rattle.cfs_core.specs.declared.event.SizeEnd.TheVariants as sizes
use Rattle.cfs_job.specs.Jobs.{job_view}
use Rattle.cfs_tracker.specs.Finish.{as_far}
use Rattle.cfs_inode.specs.View.{state_view}
use Rattle.cfs_inode.proofs.Resting.{rests}
use Rattle.cfs_active.specs.Find.{is_job_of}
use Rattle.cfs_active.specs.Makes.{ActiveMakes}
use Rattle.cfs_active.specs.Memory.{words_seen}
use Rattle.cfs_active.specs.View.{ActiveView, active_view}
use Rattle.cfs_active.proofs.Endings.{taken-from}
use Rattle.cfs_active.proofs.Finding.{found, missed, removed-are}
use Rattle.cfs_active.proofs.Keepings.{keeps-same}
use Rattle.cfs_active.proofs.Knowns.{out-known, stays-known}
use Rattle.cfs_active.proofs.active.ActiveInode.put_back.Goals as goal

pub returns-in_default-clause-puts : goal.returns-in_default-clause-puts
returns-in_default-clause-puts c = (
  missed words_seen seen_of number_of c.args.self.now.jobs.items c.args.place
      (ap (λ js. position (λ job. is_job_of c.args.place job) js) (sym c.deref.ensures.value)
      ∙ sym c.in_default.ensures),
  refl,
)

pub returns-in_default-clause-makes : goal.returns-in_default-clause-makes
returns-in_default-clause-makes c = λ asked.
    rests (active_view c.args.self.now).state asked (active_view c.args.self.now).jobs

pub put_back-requires : goal.put_back-requires
put_back-requires c =
    let old = active_view c.args.self.now in
    let is : position (λ job. is_job_of c.args.place job) c.args.self.now.jobs.items
    ≡ Some c.in-Some.at =
    ap (λ js. position (λ job. is_job_of c.args.place job) js) (sym c.deref.ensures.value)
    ∙ sym c.in-Some.ensures in
    let was = found words_seen seen_of number_of c.args.self.now.jobs.items c.args.place
    c.in-Some.at c.remove-back.result is c.remove-back.ensures.value in
    search (
      rules,
      out-known old.state old.jobs was.before was.job was.behind was.jobs_are
          c.args.self.now.known,
    )

pub invariant_of-self : goal.invariant_of-self
invariant_of-self c =
    let old = active_view c.args.self.now in
    let items = c.args.self.now.jobs.items in
    let is : position (λ job. is_job_of c.args.place job) items ≡ Some c.in-Some.at =
    ap (λ js. position (λ job. is_job_of c.args.place job) js) (sym c.deref.ensures.value)
    ∙ sym c.in-Some.ensures in
    let was = found words_seen seen_of number_of items c.args.place c.in-Some.at
    c.remove-back.result is c.remove-back.ensures.value in
    let new : ActiveView = record {
      state = state_view words_seen seen_of c.put_back.new.self;
      jobs = map (job_view words_seen seen_of number_of) c.remove-back.new.self.items;
    } in
    let made = events.Finish was.job.place (as_far old.state.tracker was.job.place sizes.AsBefore)
    ∷ [] in record {
      known = stays-known made [] [] old new
          (keeps-same old.state _ new.state c.put_back.ensures.view refl refl refl)
          (taken-from made [] [] old new was.before was.job was.behind was.jobs_are
          (removed-are words_seen seen_of number_of items c.remove-back.new.self.items
          c.in-Some.at c.remove-back.ensures.by_index.2) (c.put_back.ensures.makes []))
          c.args.self.now.known;
    }

pub returns-clause-puts : goal.returns-clause-puts
returns-clause-puts c =
    let items = c.args.self.now.jobs.items in
    let is : position (λ job. is_job_of c.args.place job) items ≡ Some c.in-Some.at =
    ap (λ js. position (λ job. is_job_of c.args.place job) js) (sym c.deref.ensures.value)
    ∙ sym c.in-Some.ensures in (
      record {
        was = found words_seen seen_of number_of items c.args.place c.in-Some.at
            c.remove-back.result is c.remove-back.ensures.value;
        jobs_are = removed-are words_seen seen_of number_of items c.remove-back.new.self.items
            c.in-Some.at c.remove-back.ensures.by_index.2;
      },
      c.put_back.ensures.view,
    )

pub returns-clause-makes : goal.returns-clause-makes
returns-clause-makes c =
    let old = active_view c.args.self.now in
    let items = c.args.self.now.jobs.items in
    let is : position (λ job. is_job_of c.args.place job) items ≡ Some c.in-Some.at =
    ap (λ js. position (λ job. is_job_of c.args.place job) js) (sym c.deref.ensures.value)
    ∙ sym c.in-Some.ensures in
    let was = found words_seen seen_of number_of items c.args.place c.in-Some.at
    c.remove-back.result is c.remove-back.ensures.value in
    let new : ActiveView = record {
      state = state_view words_seen seen_of c.put_back.new.self;
      jobs = map (job_view words_seen seen_of number_of) c.remove-back.new.self.items;
    } in
    λ asked.
    subst (λ (p : ℕ). ActiveMakes
    (events.Finish p (as_far old.state.tracker p sizes.AsBefore) ∷ []) asked old asked new)
    was.place_is
    (taken-from
    (events.Finish was.job.place (as_far old.state.tracker was.job.place sizes.AsBefore) ∷ [])
    asked asked old new was.before was.job was.behind was.jobs_are
    (removed-are words_seen seen_of number_of items c.remove-back.new.self.items c.in-Some.at
    c.remove-back.ensures.by_index.2) (c.put_back.ensures.makes asked))
