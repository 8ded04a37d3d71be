-- What each call of a state with its jobs leaves of the grants, and of the blocks that are lent.
use Rattle.std.proofs.Common.{◌≡◌, ℕ, Bool, true, false, List, Result, Ok, Err, ap, length}
use Rattle.std.proofs.lemmas.Bool.{or_left, or_right}
use Rattle.cfs_job.specs.Steps.{next_turn}
use Rattle.cfs_job.specs.Views.{JobView}
use Rattle.cfs_pmem.specs.declared.fault.DeviceFault.{DeviceFault}
use Rattle.cfs_pmem.specs.declared.trace.Asked.{Asked}
use Rattle.cfs_pmem.specs.Images.{words_of}
use Rattle.cfs_tracker.specs.Finish.{home}
use Rattle.cfs_inode.specs.declared.dispatch_answer.DispatchAnswer.{DispatchAnswer}
use Rattle.cfs_inode.specs.declared.dispatch_answer.DispatchAnswer.TheVariants as sends
use Rattle.cfs_inode.specs.Backs.{tile_back}
use Rattle.cfs_inode.specs.Finishing.{FailsAt, Failing, closing, failing, going_on, keeping}
use Rattle.cfs_inode.specs.Finishing.{retiring, writing}
use Rattle.cfs_inode.specs.View.{StateView}
use Rattle.cfs_active.specs.declared.apply_answer.ApplyAnswer.{ApplyAnswer}
use Rattle.cfs_active.specs.declared.apply_answer.ApplyAnswer.TheVariants as steps
use Rattle.cfs_active.specs.Applies.{ApplyMakes, Steps}
use Rattle.cfs_active.specs.Ends.{End, EndMakes, PutsBack, TakesBack, failed, more, not_out}
use Rattle.cfs_active.specs.Ends.{retired, unfinished}
use Rattle.cfs_active.specs.Sends.{Sends}
use Rattle.cfs_active.specs.View.{ActiveView}
use Rattle.cfs_granted.specs.Granted.{does_doubt_pass}
use Rattle.cfs_granted.specs.Lending.{IsWithJobs, holds, is_tile}
use Rattle.cfs_granted.proofs.Grantings.{Granting, granting-finish, granting-is, granting-put_back}
use Rattle.cfs_granted.proofs.Grantings.{do_entries_pass, granting-taken}
use Rattle.cfs_granted.proofs.Lendings.{LendsNone, back-lent, given-lent, stays-lent, step-held}
use Rattle.cfs_granted.proofs.Lendings.{stepped-lent, tile-held}

-- both of a file: what was pending is under grants that pass the test yet, and what is lent is with
-- jobs
pub record Passes (test : ℕ → Bool) (old new : ActiveView) : Type 0 where
  pub reads : new.state.tracker.reads ≡ old.state.tracker.reads
  pub entries : do_entries_pass test old.state.tracker.entries ≡ true →
      do_entries_pass test new.state.tracker.entries ≡ true
  pub doubt : does_doubt_pass test old.state.tracker.doubt ≡ true →
      does_doubt_pass test new.state.tracker.doubt ≡ true
  pub word : length (words_of new.state.size) ≡ length (words_of old.state.size)
  pub lent : IsWithJobs old → IsWithJobs new

passes-of : (test : ℕ → Bool) (lends : ℕ → Type 0) (old new : ActiveView) →
    Granting test lends old.state new.state → (IsWithJobs old → IsWithJobs new) →
    Passes test old new
passes-of test lends old new granting lent = record {
  reads = granting.reads;
  entries = granting.entries;
  doubt = granting.doubt;
  word = granting.word;
  lent = lent;
}

-- the jobs are the same
pub passes-by : (test : ℕ → Bool) (old new : ActiveView) → new.jobs ≡ old.jobs →
    Granting test LendsNone old.state new.state → Passes test old new
passes-by test old new same granting =
    passes-of test LendsNone old new granting (stays-lent test old new same granting)

-- all is as it was
pub passes-same : (test : ℕ → Bool) (old new : ActiveView) → new ≡ old → Passes test old new
passes-same test old new same =
    passes-by test old new (ap (λ (a : ActiveView). a.jobs) same)
    (granting-is test LendsNone old.state new.state (ap (λ (a : ActiveView). a.state) same))

pub passes-sends : (test : ℕ → Bool) (place : ℕ) (answer : DispatchAnswer ℕ)
    (old new : ActiveView) → Sends place answer old new → Passes test old new
passes-sends test place (sends.Taken left) old new did =
    let given = did.taken.given in
    let granting = granting-taken test (λ block. holds block did.job ≡ true) place did.job
    old.state new.state did.taken
    (λ block is. or_left (is_tile block did.job.first) (is_tile block did.job.second)
    (tile-held old.state.tracker.cells did.taken.first did.job.first block given.first_is is))
    (λ block is. or_right (is_tile block did.job.first) (is_tile block did.job.second)
    (tile-held old.state.tracker.cells did.taken.second did.job.second block given.second_is is)) in
    passes-of test (λ block. holds block did.job ≡ true) old new granting
    (given-lent test old new did.job did.jobs_are granting)
passes-sends test place (sends.NotYet before) old new did =
    passes-by test old new did.1 (granting-is test LendsNone old.state new.state did.0.1)
passes-sends test place sends.NotWaiting old new did =
    passes-by test old new did.1 (granting-is test LendsNone old.state new.state did.0.1)

steps-pass : (test : ℕ → Bool) (slots blocks keeps : Bool) (place : ℕ)
    (result : Result (Unit {0}) DeviceFault) (asked_old : List Asked) (old : ActiveView)
    (asked_new : List Asked) (new : ActiveView) →
    Steps slots blocks keeps place result asked_old old asked_new new → Passes test old new
steps-pass test slots blocks keeps place result asked_old old asked_new new did =
    passes-of test LendsNone old new (granting-is test LendsNone old.state new.state did.state_is)
    (stepped-lent old new did.was.before did.was.job did.now did.was.behind did.was.jobs_are
    did.jobs_are did.state_is
    (step-held slots blocks keeps (next_turn did.was.job) result asked_old did.was.job asked_new
    did.now did.turn))

pub passes-apply : (test : ℕ → Bool) (slots blocks keeps : Bool) (place : ℕ)
    (answer : ApplyAnswer) (asked_old : List Asked) (old : ActiveView) (asked_new : List Asked)
    (new : ActiveView) → ApplyMakes slots blocks keeps place answer asked_old old asked_new new →
    Passes test old new
passes-apply test slots blocks keeps place (steps.Made left) asked_old old asked_new new did =
    steps-pass test slots blocks keeps place (Ok tt) asked_old old asked_new new did.0.0
passes-apply test slots blocks keeps place steps.Failed asked_old old asked_new new did =
    steps-pass test slots blocks keeps place (Err did.0.0) asked_old old asked_new new did.0.1
passes-apply test slots blocks keeps place steps.NotOut asked_old old asked_new new did =
    passes-same test old new did.0.2

-- a job is taken back, and its blocks are home
taken-passes : (test : ℕ → Bool) (place : ℕ) (old new : ActiveView) →
    (back : TakesBack place old new) → Granting test LendsNone old.state new.state →
    new.state.tracker.cells ≡ home (tile_back back.was.job.second)
    (home (tile_back back.was.job.first) old.state.tracker.cells) → Passes test old new
taken-passes test place old new back granting cells =
    passes-of test LendsNone old new granting
    (back-lent old new back.was.before back.was.job back.was.behind back.was.jobs_are
    back.jobs_are cells)

cells-of : (state mid : StateView) → state ≡ mid → state.tracker.cells ≡ mid.tracker.cells
cells-of state mid same = ap (λ (s : StateView). s.tracker.cells) same

failing-cells : (obeys : Bool) (at : Failing) (asked_old : List Asked) (old : StateView)
    (job : JobView) (asked_new : List Asked) (new : StateView) →
    FailsAt obeys at asked_old old job asked_new new →
    new.tracker.cells ≡ home (tile_back job.second) (home (tile_back job.first) old.tracker.cells)
failing-cells obeys writing asked_old old job asked_new new did = cells-of new _ did.2
failing-cells obeys keeping asked_old old job asked_new new did = cells-of new _ did.2
failing-cells obeys closing asked_old old job asked_new new did = cells-of new _ did.3

pub passes-end : (test : ℕ → Bool) (obeys : Bool) (place : ℕ) (end : End)
    (asked_old : List Asked) (old : ActiveView) (asked_new : List Asked) (new : ActiveView) →
    EndMakes obeys place end asked_old old asked_new new → Passes test old new
passes-end test obeys place (retired slots) asked_old old asked_new new did =
    taken-passes test place old new did.0.0
    (granting-finish test LendsNone obeys (retiring slots) asked_old old.state did.0.0.was.job
    asked_new new.state did.0.1) (cells-of new.state _ did.0.1.3)
passes-end test obeys place more asked_old old asked_new new did =
    taken-passes test place old new did.0.0
    (granting-finish test LendsNone obeys going_on asked_old old.state did.0.0.was.job asked_new
    new.state did.0.1) (cells-of new.state _ did.0.1.3)
passes-end test obeys place (unfinished left) asked_old old asked_new new did =
    passes-same test old new did.0.0.same
passes-end test obeys place failed asked_old old asked_new new did =
    taken-passes test place old new did.0.0
    (granting-finish test LendsNone obeys failing asked_old old.state did.0.0.was.job asked_new
    new.state did.0.1)
    (failing-cells obeys did.0.1.0 asked_old old.state did.0.0.was.job asked_new new.state
    did.0.1.2)
passes-end test obeys place not_out asked_old old asked_new new did =
    passes-same test old new did.0.2

pub passes-puts : (test : ℕ → Bool) (place : ℕ) (answer : Bool) (old new : ActiveView) →
    PutsBack place answer old new → Passes test old new
passes-puts test place true old new did =
    taken-passes test place old new did.0
    (granting-put_back test LendsNone old.state new.state did.0.was.job did.1)
    (cells-of new.state _ did.1)
passes-puts test place false old new did = passes-same test old new did.1
