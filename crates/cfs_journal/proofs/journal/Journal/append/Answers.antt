use Rattle.std.specs.Result.{is_err}
use Rattle.std.proofs.Common.{◌≡◌, ◌∙◌, ◌+◌, ◌%◌, inl, inr, Bool, List, ℕ, length, Some, Result, Ok, Err, ap, arith, map, subst, sym}
use Rattle.cfs_dir.specs.declared.change.Change.{Change}
use Rattle.cfs_pmem.proofs.AllMomentLemmas.{all_after, all_begun, all_weaker}
use Rattle.cfs_pmem.specs.Faults.{HasCause}
use Rattle.cfs_pmem.specs.Objects.{seen_at}
use Rattle.cfs_pmem.specs.WordOps.{DoesWords}
use Rattle.cfs_journal.specs.declared.append_refusal.AppendRefusal.{AppendRefusal}
use Rattle.cfs_journal.specs.declared.append_refusal.AppendRefusal.TheVariants as refusals
use Rattle.cfs_journal.specs.Journals.{faults_at}
use Rattle.cfs_journal.specs.Records.{record_ops}
use Rattle.cfs_journal.specs.Standing.{Gives}
use Rattle.cfs_journal.proofs.AppendLemmas.{both_done, caused, front_at, on_err, second_stops}
use Rattle.cfs_journal.proofs.Standings.{held_of, others_after}
use Rattle.cfs_journal.proofs.Walks.{gives}
use Rattle.cfs_journal.proofs.journal.Journal.append.Goals as goal

-- what a test of a result says
is_failed : {T E : Type 0} {tested answer : Bool} (result : Result T E) → tested ≡ is_err result → tested ≡ answer → is_err result ≡ answer
is_failed result value is = sym value ∙ is

-- what a journal gives whose number and changes are the same
same_gives : {through after : ℕ} {changes later : List Change} (change : Change) (images : List (List ℕ)) → after ≡ through → later ≡ changes
    → Gives after later (Some change) images → Gives through changes (Some change) images
same_gives {through = through} {later = later} change images same_number same_changes h =
    subst (λ cs. Gives through cs (Some change) images) same_changes (subst (λ n. Gives n later (Some change) images) same_number h)

pub returns-then-is_full-clause-moments : goal.returns-then-is_full-clause-moments
returns-then-is_full-clause-moments g c =
    all_begun (g.P.Power.asked c.args.power.now) (map g.R.Region.seen c.args.self.now.records.items) c.args.self.now.standing.distinct
    (λ images all. inl (gives (held_of c.args.self.now.standing images all)))

pub returns-then-is_err-clause-moments : goal.returns-then-is_err-clause-moments
returns-then-is_err-clause-moments g c = all_weaker (λ images h. inl h) c.settle.ensures.moments

pub returns-then-is_err-2-clause-moments : goal.returns-then-is_err-2-clause-moments
returns-then-is_err-2-clause-moments g c =
    all_after (all_weaker (λ images h. inl h) c.settle.ensures.moments)
    (all_weaker (λ images h. inr (same_gives c.args.change.now images c.settle.ensures.through c.settle.ensures.changes h)) c.write_next.ensures.moments)

pub returns-clause-moments : goal.returns-clause-moments
returns-clause-moments g c =
    all_after (all_weaker (λ images h. inl h) c.settle.ensures.moments)
    (all_weaker (λ images h. inr (same_gives c.args.change.now images c.settle.ensures.through c.settle.ensures.changes h)) c.write_next.ensures.moments)

pub returns-then-is_err-clause-does : goal.returns-then-is_err-clause-does
returns-then-is_err-clause-does g c = λ obeys other. record {
  ok = tt;
  err = inl (on_err c.settle.result (is_failed c.settle.result c.is_err.ensures.value c.if-is_err.true) c.settle.ensures.doubtful, front_at c.settle.result (is_failed c.settle.result c.is_err.ensures.value c.if-is_err.true) (c.settle.ensures.does obeys));
}

pub returns-then-is_err-2-clause-does : goal.returns-then-is_err-2-clause-does
returns-then-is_err-2-clause-does g c = λ obeys other.
    let old = c.args.self.now in
    let mid = c.settle.new.self in
    let see = g.R.Region.seen in
    let sum : mid.through + length mid.changes.items ≡ old.through + length old.changes.items = omega (arith, c.settle.ensures.through, ap (λ (cs : List Change). length cs) c.settle.ensures.changes) in
    let same : (mid.through + length mid.changes.items) % 64 ≡ (old.through + length old.changes.items) % 64 = ap (λ (n : ℕ). n % 64) sum in
    let written = subst (λ n. DoesWords (record_ops n c.args.change.now) c.write_next.result (g.P.Power.asked c.settle.new.power) (seen_at (map see mid.records.items) ((old.through + length old.changes.items) % 64)) (g.P.Power.asked c.write_next.new.power) (seen_at (map see c.write_next.new.self.records.items) ((old.through + length old.changes.items) % 64)))
    (ap (λ (n : ℕ). n + 1) sum)
    (subst (λ k. DoesWords (record_ops (mid.through + length mid.changes.items + 1) c.args.change.now) c.write_next.result (g.P.Power.asked c.settle.new.power) (seen_at (map see mid.records.items) k) (g.P.Power.asked c.write_next.new.power) (seen_at (map see c.write_next.new.self.records.items) k)) same (c.write_next.ensures.does obeys)) in
    let failed = is_failed c.write_next.result c.is_err-2.ensures.value c.if-is_err-2.true in
    record {
      ok = tt;
      err = inr (
        on_err c.write_next.result failed c.write_next.ensures.doubtful,
        second_stops (old.through + length old.changes.items + 1) c.args.change.now old.doubt c.settle.result c.write_next.result (is_failed c.settle.result c.is_err.ensures.value c.if-is_err.false) failed (c.settle.ensures.does obeys) written,
      );
    }

pub returns-then-is_err-2-clause-others : goal.returns-then-is_err-2-clause-others
returns-then-is_err-2-clause-others g c =
    let old = c.args.self.now in
    let mid = c.settle.new.self in
    let see = g.R.Region.seen in
    let sum : mid.through + length mid.changes.items ≡ old.through + length old.changes.items = omega (arith, c.settle.ensures.through, ap (λ (cs : List Change). length cs) c.settle.ensures.changes) in
    let same : (mid.through + length mid.changes.items) % 64 ≡ (old.through + length old.changes.items) % 64 = ap (λ (n : ℕ). n % 64) sum in
    others_after (map see old.records.items) (map see mid.records.items) (map see c.write_next.new.self.records.items)
    ((old.through + length old.changes.items) % 64) ((mid.through + length mid.changes.items) % 64) same c.settle.ensures.others c.write_next.ensures.others

pub returns-then-is_err-2-clause-cause : goal.returns-then-is_err-2-clause-cause
returns-then-is_err-2-clause-cause g c = λ other.
    let old = c.args.self.now in
    let mid = c.settle.new.self in
    let see = g.R.Region.seen in
    let sum : mid.through + length mid.changes.items ≡ old.through + length old.changes.items = omega (arith, c.settle.ensures.through, ap (λ (cs : List Change). length cs) c.settle.ensures.changes) in
    let same : (mid.through + length mid.changes.items) % 64 ≡ (old.through + length old.changes.items) % 64 = ap (λ (n : ℕ). n % 64) sum in
    let failed : Result ℕ AppendRefusal = Err refusals.Failed in
    caused c.settle.result c.write_next.result failed (is_failed c.settle.result c.is_err.ensures.value c.if-is_err.false) (is_failed c.write_next.result c.is_err-2.ensures.value c.if-is_err-2.true) c.settle.ensures.cause
    (subst (λ k. HasCause (faults_at g.R.Region.faults k mid.records.items) (faults_at g.R.Region.faults k c.write_next.new.self.records.items) c.write_next.result) same c.write_next.ensures.cause)

pub returns-clause-does : goal.returns-clause-does
returns-clause-does g c = λ obeys other.
    let old = c.args.self.now in
    let mid = c.settle.new.self in
    let see = g.R.Region.seen in
    let sum : mid.through + length mid.changes.items ≡ old.through + length old.changes.items = omega (arith, c.settle.ensures.through, ap (λ (cs : List Change). length cs) c.settle.ensures.changes) in
    let same : (mid.through + length mid.changes.items) % 64 ≡ (old.through + length old.changes.items) % 64 = ap (λ (n : ℕ). n % 64) sum in
    let written = subst (λ n. DoesWords (record_ops n c.args.change.now) c.write_next.result (g.P.Power.asked c.settle.new.power) (seen_at (map see mid.records.items) ((old.through + length old.changes.items) % 64)) (g.P.Power.asked c.write_next.new.power) (seen_at (map see c.write_next.new.self.records.items) ((old.through + length old.changes.items) % 64)))
    (ap (λ (n : ℕ). n + 1) sum)
    (subst (λ k. DoesWords (record_ops (mid.through + length mid.changes.items + 1) c.args.change.now) c.write_next.result (g.P.Power.asked c.settle.new.power) (seen_at (map see mid.records.items) k) (g.P.Power.asked c.write_next.new.power) (seen_at (map see c.write_next.new.self.records.items) k)) same (c.write_next.ensures.does obeys)) in
    record {
      ok = both_done (old.through + length old.changes.items + 1) c.args.change.now old.doubt c.settle.result c.write_next.result (is_failed c.settle.result c.is_err.ensures.value c.if-is_err.false) (is_failed c.write_next.result c.is_err-2.ensures.value c.if-is_err-2.false) (c.settle.ensures.does obeys) written;
      err = tt;
    }

pub returns-clause-others : goal.returns-clause-others
returns-clause-others g c =
    let old = c.args.self.now in
    let mid = c.settle.new.self in
    let see = g.R.Region.seen in
    let sum : mid.through + length mid.changes.items ≡ old.through + length old.changes.items = omega (arith, c.settle.ensures.through, ap (λ (cs : List Change). length cs) c.settle.ensures.changes) in
    let same : (mid.through + length mid.changes.items) % 64 ≡ (old.through + length old.changes.items) % 64 = ap (λ (n : ℕ). n % 64) sum in
    others_after (map see old.records.items) (map see mid.records.items) (map see c.write_next.new.self.records.items)
    ((old.through + length old.changes.items) % 64) ((mid.through + length mid.changes.items) % 64) same c.settle.ensures.others c.write_next.ensures.others

pub returns-clause-cause : goal.returns-clause-cause
returns-clause-cause g c = λ other.
    let old = c.args.self.now in
    let mid = c.settle.new.self in
    let see = g.R.Region.seen in
    let sum : mid.through + length mid.changes.items ≡ old.through + length old.changes.items = omega (arith, c.settle.ensures.through, ap (λ (cs : List Change). length cs) c.settle.ensures.changes) in
    let same : (mid.through + length mid.changes.items) % 64 ≡ (old.through + length old.changes.items) % 64 = ap (λ (n : ℕ). n % 64) sum in
    let number : Result ℕ AppendRefusal = Ok c.last.result in
    caused c.settle.result c.write_next.result number (is_failed c.settle.result c.is_err.ensures.value c.if-is_err.false) (is_failed c.write_next.result c.is_err-2.ensures.value c.if-is_err-2.false) c.settle.ensures.cause
    (subst (λ k. HasCause (faults_at g.R.Region.faults k mid.records.items) (faults_at g.R.Region.faults k c.write_next.new.self.records.items) c.write_next.result) same c.write_next.ensures.cause)
