use Rattle.std.proofs.Common.{◌≡◌, ◌∙◌, Ok, Err, Some, ap, map, refl, set, sym, true, false}
use Rattle.std.specs.Prelude.{is_ok}
use Rattle.std.specs.List.{position}
use Rattle.cfs_block.specs.MemoryBlocks.{number_of, seen_of}
use Rattle.cfs_job.specs.Jobs.{job_view}
use Rattle.cfs_job.specs.Steps.{next_turn}
use Rattle.cfs_inode.specs.JobSteps.{turn_events}
use Rattle.cfs_inode.proofs.JobSteps.{job-steps}
use Rattle.cfs_inode.proofs.Resting.{rests}
use Rattle.cfs_active.specs.Applies.{Steps}
use Rattle.cfs_active.specs.Find.{is_job_of}
use Rattle.cfs_active.specs.Memory.{words_seen}
use Rattle.cfs_active.specs.View.{ActiveView, active_view}
use Rattle.cfs_active.proofs.Endings.{changed-in}
use Rattle.cfs_active.proofs.Finding.{found, is-inside, missed, set-are}
use Rattle.cfs_active.proofs.Keepings.{keeps-all}
use Rattle.cfs_active.proofs.Knowns.{stays-known}
use Rattle.cfs_active.proofs.active.ActiveInode.apply.Goals as goal

pub returns-in_default : goal.returns-in_default
returns-in_default g c =
    let old = active_view c.args.self.now in (
      (
        missed words_seen seen_of number_of c.args.self.now.jobs.items c.args.place
            (ap (λ js. position (λ job. is_job_of c.args.place job) js) (sym c.deref.ensures.value)
            ∙ sym c.in_default.ensures),
        refl,
        refl,
      ),
      rests old.state (g.P.Power.asked c.args.power.now) old.jobs,
    )

pub invariant_of-self : goal.invariant_of-self
invariant_of-self g c =
    let old = active_view c.args.self.now in
    let items = c.args.self.now.jobs.items in
    let view = job_view words_seen seen_of number_of in
    let is : position (λ job. is_job_of c.args.place job) items ≡ Some c.in-Some.at =
    ap (λ js. position (λ job. is_job_of c.args.place job) js) (sym c.deref.ensures.value)
    ∙ sym c.in-Some.ensures in
    let was = found words_seen seen_of number_of items c.args.place c.in-Some.at
    c.index_mut-job.result.now is c.index_mut-job.ensures.value in
    let now = view c.apply_step.new.self in
    let new : ActiveView = record old {
      jobs = map view (set items c.in-Some.at c.apply_step.new.self);
    } in
    let asked_old = g.P.Power.asked c.args.power.now in
    let asked_new = g.P.Power.asked c.apply_step.new.power in
    let are = set-are words_seen seen_of number_of items c.in-Some.at c.apply_step.new.self
    (is-inside items c.args.place c.in-Some.at c.index_mut-job.result.now is) in
    let made = turn_events (next_turn was.job) (is_ok c.apply_step.result) was.job now in
    let makes = changed-in made asked_old asked_new old new was.before was.job now was.behind
    was.jobs_are are refl
    (λ jobs. job-steps true true true (next_turn was.job) c.apply_step.result asked_old asked_new was.job
    now c.stands.ensures.full_first c.stands.ensures.full_second c.apply_step.ensures.makes c.apply_step.ensures.notes old.state
    jobs) in
    record {
      known = stays-known made asked_old asked_new old new (keeps-all old.state) makes
          c.args.self.now.known;
    }

pub invariant_of-self-in-Err : goal.invariant_of-self-in-Err
invariant_of-self-in-Err g c =
    let old = active_view c.args.self.now in
    let items = c.args.self.now.jobs.items in
    let view = job_view words_seen seen_of number_of in
    let is : position (λ job. is_job_of c.args.place job) items ≡ Some c.in-Some.at =
    ap (λ js. position (λ job. is_job_of c.args.place job) js) (sym c.deref.ensures.value)
    ∙ sym c.in-Some.ensures in
    let was = found words_seen seen_of number_of items c.args.place c.in-Some.at
    c.index_mut-job.result.now is c.index_mut-job.ensures.value in
    let now = view c.apply_step.new.self in
    let new : ActiveView = record old {
      jobs = map view (set items c.in-Some.at c.apply_step.new.self);
    } in
    let asked_old = g.P.Power.asked c.args.power.now in
    let asked_new = g.P.Power.asked c.apply_step.new.power in
    let are = set-are words_seen seen_of number_of items c.in-Some.at c.apply_step.new.self
    (is-inside items c.args.place c.in-Some.at c.index_mut-job.result.now is) in
    let made = turn_events (next_turn was.job) (is_ok c.apply_step.result) was.job now in
    let makes = changed-in made asked_old asked_new old new was.before was.job now was.behind
    was.jobs_are are refl
    (λ jobs. job-steps true true true (next_turn was.job) c.apply_step.result asked_old asked_new was.job
    now c.stands.ensures.full_first c.stands.ensures.full_second c.apply_step.ensures.makes c.apply_step.ensures.notes old.state
    jobs) in
    record {
      known = stays-known made asked_old asked_new old new (keeps-all old.state) makes
          c.args.self.now.known;
    }

pub returns-in-Ok : goal.returns-in-Ok
returns-in-Ok g c =
    let old = active_view c.args.self.now in
    let items = c.args.self.now.jobs.items in
    let view = job_view words_seen seen_of number_of in
    let is : position (λ job. is_job_of c.args.place job) items ≡ Some c.in-Some.at =
    ap (λ js. position (λ job. is_job_of c.args.place job) js) (sym c.deref.ensures.value)
    ∙ sym c.in-Some.ensures in
    let was = found words_seen seen_of number_of items c.args.place c.in-Some.at
    c.index_mut-job.result.now is c.index_mut-job.ensures.value in
    let now = view c.apply_step.new.self in
    let new : ActiveView = record old {
      jobs = map view (set items c.in-Some.at c.apply_step.new.self);
    } in
    let asked_old = g.P.Power.asked c.args.power.now in
    let asked_new = g.P.Power.asked c.apply_step.new.power in
    let are = set-are words_seen seen_of number_of items c.in-Some.at c.apply_step.new.self
    (is-inside items c.args.place c.in-Some.at c.index_mut-job.result.now is) in
    let made = turn_events (next_turn was.job) true was.job now in
    let makes = changed-in made asked_old asked_new old new was.before was.job now was.behind
    was.jobs_are are refl
    (λ jobs. job-steps true true true (next_turn was.job) (Ok tt) asked_old asked_new was.job
    now c.stands.ensures.full_first c.stands.ensures.full_second c.in-Ok.ensures.makes c.in-Ok.ensures.notes old.state
    jobs) in
    let steps : Steps true true true c.args.place (Ok tt) asked_old old asked_new new =
    record {
      was = was;
      now = now;
      turn = c.in-Ok.ensures.makes;
      notes = c.in-Ok.ensures.notes;
      jobs_are = are;
      state_is = refl;
    } in
    ((steps, c.left.ensures), makes)

pub returns-in-Err : goal.returns-in-Err
returns-in-Err g c =
    let old = active_view c.args.self.now in
    let items = c.args.self.now.jobs.items in
    let view = job_view words_seen seen_of number_of in
    let is : position (λ job. is_job_of c.args.place job) items ≡ Some c.in-Some.at =
    ap (λ js. position (λ job. is_job_of c.args.place job) js) (sym c.deref.ensures.value)
    ∙ sym c.in-Some.ensures in
    let was = found words_seen seen_of number_of items c.args.place c.in-Some.at
    c.index_mut-job.result.now is c.index_mut-job.ensures.value in
    let now = view c.apply_step.new.self in
    let new : ActiveView = record old {
      jobs = map view (set items c.in-Some.at c.apply_step.new.self);
    } in
    let asked_old = g.P.Power.asked c.args.power.now in
    let asked_new = g.P.Power.asked c.apply_step.new.power in
    let are = set-are words_seen seen_of number_of items c.in-Some.at c.apply_step.new.self
    (is-inside items c.args.place c.in-Some.at c.index_mut-job.result.now is) in
    let made = turn_events (next_turn was.job) false was.job now in
    let makes = changed-in made asked_old asked_new old new was.before was.job now was.behind
    was.jobs_are are refl
    (λ jobs. job-steps true true true (next_turn was.job) (Err c.in-Err.field-0) asked_old asked_new was.job
    now c.stands.ensures.full_first c.stands.ensures.full_second c.in-Err.ensures.makes c.in-Err.ensures.notes old.state
    jobs) in
    let steps : Steps true true true c.args.place (Err c.in-Err.field-0) asked_old old asked_new new =
    record {
      was = was;
      now = now;
      turn = c.in-Err.ensures.makes;
      notes = c.in-Err.ensures.notes;
      jobs_are = are;
      state_is = refl;
    } in
    ((c.in-Err.field-0, steps), makes)
