use Rattle.std.proofs.Common.{◌≡◌, ◌∙◌, [], ◌∷◌, Some, ap, arith, map, refl, rules}
use Rattle.std.proofs.Common.{sym, true}
use Rattle.std.specs.List.{position}
use Rattle.cfs_block.specs.MemoryBlocks.{number_of, seen_of}
use Rattle.cfs_core.specs.declared.event.End.TheVariants as ends
use Rattle.cfs_core.specs.declared.event.Event.TheVariants as events
use Rattle.cfs_job.specs.Jobs.{job_view}
use Rattle.cfs_job.specs.Steps.{steps_left}
use Rattle.cfs_inode.specs.Finishing.{end_at, finish_end}
use Rattle.cfs_inode.specs.View.{state_view}
use Rattle.cfs_inode.proofs.Resting.{rests}
use Rattle.cfs_active.specs.Find.{is_job_of}
use Rattle.cfs_active.specs.Memory.{words_seen}
use Rattle.cfs_active.specs.View.{ActiveView, active_view}
use Rattle.cfs_active.proofs.Endings.{ended-known, taken-from}
use Rattle.cfs_active.proofs.Finding.{found, is-inside, missed, removed-are, same-at}
use Rattle.cfs_active.proofs.Knowns.{out-known, sized-known}
use Rattle.cfs_active.proofs.active.ActiveInode.finish.Goals as goal

pub returns-in_default : goal.returns-in_default
returns-in_default g c =
    let old = active_view c.args.self.now in (
      (
        missed words_seen seen_of number_of c.args.self.now.jobs.items c.args.place
            (ap (λ js. position (λ job. is_job_of c.args.place job) js) (sym c.deref.ensures.value)
            ∙ sym c.in_default.ensures),
        refl,
        refl,
      ),
      rests old.state (g.P.Power.asked c.args.power.now) old.jobs,
    )

pub returns-then-left-gt0 : goal.returns-then-left-gt0
returns-then-left-gt0 g c =
    let old = active_view c.args.self.now in
    let is : position (λ job. is_job_of c.args.place job) c.args.self.now.jobs.items
    ≡ Some c.in-Some.at =
    ap (λ js. position (λ job. is_job_of c.args.place job) js) (sym c.deref.ensures.value)
    ∙ sym c.in-Some.ensures in (
      (
        record {
          was = found words_seen seen_of number_of c.args.self.now.jobs.items c.args.place
              c.in-Some.at c.index.result.now is c.index.ensures;
          left_is = c.left-left.ensures;
          some = c.if-left-gt0.true;
          same = refl;
        },
        refl,
      ),
      rests old.state (g.P.Power.asked c.args.power.now) old.jobs,
    )

pub finish-requires : goal.finish-requires
finish-requires g c =
    let old = active_view c.args.self.now in
    let is : position (λ job. is_job_of c.args.place job) c.args.self.now.jobs.items
    ≡ Some c.in-Some.at =
    ap (λ js. position (λ job. is_job_of c.args.place job) js) (sym c.deref.ensures.value)
    ∙ sym c.in-Some.ensures in
    let was = found words_seen seen_of number_of c.args.self.now.jobs.items c.args.place
    c.in-Some.at c.remove-job.result is c.remove-job.ensures.value in
    let out = out-known old.state old.jobs was.before was.job was.behind was.jobs_are
    c.args.self.now.known in
    let sized = sized-known old.state old.jobs c.args.self.now.known in
    (search rules, (search rules, (search rules, (search rules, (out, sized)))))

pub invariant_of-self : goal.invariant_of-self
invariant_of-self g c =
    let old = active_view c.args.self.now in
    let items = c.args.self.now.jobs.items in
    let view = job_view words_seen seen_of number_of in
    let is : position (λ job. is_job_of c.args.place job) items ≡ Some c.in-Some.at =
    ap (λ js. position (λ job. is_job_of c.args.place job) js) (sym c.deref.ensures.value)
    ∙ sym c.in-Some.ensures in
    let was = found words_seen seen_of number_of items c.args.place c.in-Some.at
    c.remove-job.result is c.remove-job.ensures.value in
    let new : ActiveView = record {
      state = state_view words_seen seen_of c.finish.new.self;
      jobs = map view c.remove-job.new.self.items;
    } in
    let same = same-at items c.in-Some.at c.index.result.now c.remove-job.result
    (is-inside items c.args.place c.in-Some.at c.remove-job.result is) c.index.ensures
    c.remove-job.ensures.value in
    let left : c.left-left.result ≡ steps_left (view c.remove-job.result) =
    c.left-left.ensures ∙ ap (λ j. steps_left (view j)) same in
    let none : steps_left (view c.remove-job.result) ≡ 0 =
    omega (arith, left, c.if-left-gt0.false) in record {
      known = ended-known true (finish_end words_seen seen_of number_of c.finish.result)
          (g.P.Power.asked c.args.power.now) (g.P.Power.asked c.finish.new.power) old new
          was.before was.job was.behind was.jobs_are
          (removed-are words_seen seen_of number_of items c.remove-job.new.self.items
          c.in-Some.at c.remove-job.ensures.by_index.2) none c.finish.ensures.finishes
          c.finish.ensures.makes c.args.self.now.known;
    }

pub returns-in-Retired : goal.returns-in-Retired
returns-in-Retired g c =
    let old = active_view c.args.self.now in
    let items = c.args.self.now.jobs.items in
    let is : position (λ job. is_job_of c.args.place job) items ≡ Some c.in-Some.at =
    ap (λ js. position (λ job. is_job_of c.args.place job) js) (sym c.deref.ensures.value)
    ∙ sym c.in-Some.ensures in
    let was = found words_seen seen_of number_of items c.args.place c.in-Some.at
    c.remove-job.result is c.remove-job.ensures.value in
    let new : ActiveView = record {
      state = state_view words_seen seen_of c.finish.new.self;
      jobs = map (job_view words_seen seen_of number_of) c.remove-job.new.self.items;
    } in
    let are = removed-are words_seen seen_of number_of items c.remove-job.new.self.items
    c.in-Some.at c.remove-job.ensures.by_index.2 in
    let did = c.in-Retired.ensures.finishes in
    let made = events.Finish was.job.place ends.Retired ∷ [] in (
      (record { was = was; jobs_are = are }, did),
      taken-from made (g.P.Power.asked c.args.power.now) (g.P.Power.asked c.finish.new.power) old
          new was.before was.job was.behind was.jobs_are are c.in-Retired.ensures.makes,
    )

pub returns-in-More : goal.returns-in-More
returns-in-More g c =
    let old = active_view c.args.self.now in
    let items = c.args.self.now.jobs.items in
    let is : position (λ job. is_job_of c.args.place job) items ≡ Some c.in-Some.at =
    ap (λ js. position (λ job. is_job_of c.args.place job) js) (sym c.deref.ensures.value)
    ∙ sym c.in-Some.ensures in
    let was = found words_seen seen_of number_of items c.args.place c.in-Some.at
    c.remove-job.result is c.remove-job.ensures.value in
    let new : ActiveView = record {
      state = state_view words_seen seen_of c.finish.new.self;
      jobs = map (job_view words_seen seen_of number_of) c.remove-job.new.self.items;
    } in
    let are = removed-are words_seen seen_of number_of items c.remove-job.new.self.items
    c.in-Some.at c.remove-job.ensures.by_index.2 in
    let did = c.in-More.ensures.finishes in
    let made = events.Finish was.job.place ends.More ∷ [] in (
      (record { was = was; jobs_are = are }, did),
      taken-from made (g.P.Power.asked c.args.power.now) (g.P.Power.asked c.finish.new.power) old
          new was.before was.job was.behind was.jobs_are are c.in-More.ensures.makes,
    )

pub returns-in-Failed : goal.returns-in-Failed
returns-in-Failed g c =
    let old = active_view c.args.self.now in
    let items = c.args.self.now.jobs.items in
    let is : position (λ job. is_job_of c.args.place job) items ≡ Some c.in-Some.at =
    ap (λ js. position (λ job. is_job_of c.args.place job) js) (sym c.deref.ensures.value)
    ∙ sym c.in-Some.ensures in
    let was = found words_seen seen_of number_of items c.args.place c.in-Some.at
    c.remove-job.result is c.remove-job.ensures.value in
    let new : ActiveView = record {
      state = state_view words_seen seen_of c.finish.new.self;
      jobs = map (job_view words_seen seen_of number_of) c.remove-job.new.self.items;
    } in
    let are = removed-are words_seen seen_of number_of items c.remove-job.new.self.items
    c.in-Some.at c.remove-job.ensures.by_index.2 in
    let did = c.in-Failed.ensures.finishes in
    let made = events.Finish was.job.place (end_at did.0 old.state was.job) ∷ [] in (
      (record { was = was; jobs_are = are }, did),
      taken-from made (g.P.Power.asked c.args.power.now) (g.P.Power.asked c.finish.new.power) old
          new was.before was.job was.behind was.jobs_are are (c.in-Failed.ensures.makes did.0 did.1 did.2),
    )

pub unreachable-requires : goal.unreachable-requires
unreachable-requires g c =
    let items = c.args.self.now.jobs.items in
    let view = job_view words_seen seen_of number_of in
    let is : position (λ job. is_job_of c.args.place job) items ≡ Some c.in-Some.at =
    ap (λ js. position (λ job. is_job_of c.args.place job) js) (sym c.deref.ensures.value)
    ∙ sym c.in-Some.ensures in
    let same = same-at items c.in-Some.at c.index.result.now c.remove-job.result
    (is-inside items c.args.place c.in-Some.at c.remove-job.result is) c.index.ensures
    c.remove-job.ensures.value in
    let left : c.left-left.result ≡ steps_left (view c.remove-job.result) =
    c.left-left.ensures ∙ ap (λ j. steps_left (view j)) same in
    omega (arith, left, c.if-left-gt0.false, c.in-Unfinished.ensures.finishes.0)
