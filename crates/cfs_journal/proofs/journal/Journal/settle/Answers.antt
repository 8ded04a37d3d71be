use Rattle.std.proofs.Common.{◌≡◌, ◌∙◌, ◌+◌, ◌<◌, ◌%◌, ℕ, ap, arith, length, map, not, subst, None, Result, Ok}
use Rattle.std.proofs.lemmas.Result.{err_from_is_err_and}
use Rattle.std.proofs.lemmas.List.{length-map}
use Rattle.cfs_pmem.specs.declared.fault.DeviceFault.{DeviceFault}
use Rattle.cfs_pmem.specs.WordOps.{DoesWords}
use Rattle.cfs_pmem.proofs.AllMomentLemmas.{all_begun}
use Rattle.cfs_pmem.proofs.CallLemmas.{does_front}
use Rattle.cfs_pmem.proofs.MomentLemmas.{at_end}
use Rattle.cfs_journal.specs.Appends.{closing_ops}
use Rattle.cfs_journal.specs.Standing.{place}
use Rattle.cfs_journal.proofs.Walks.{gives}
use Rattle.cfs_journal.proofs.Standings.{at_place, cause_again, cause_at, closed_next, closing_is, doubt_less, held_of, next_closing, next_here, next_moments, next_stands, others_stay, words_here}
use Rattle.cfs_journal.proofs.journal.Journal.settle.Goals as goal

pub returns-then-is_none-clause-moments : goal.returns-then-is_none-clause-moments
returns-then-is_none-clause-moments g c =
    all_begun (g.P.Power.asked c.args.power.now) (map g.R.Region.seen c.args.self.now.records.items) c.args.self.now.standing.distinct
    (λ images all. gives (held_of c.args.self.now.standing images all))

pub invariant_of-self : goal.invariant_of-self
invariant_of-self g c =
    let see = g.R.Region.seen in
    let items = c.args.self.now.records.items in
    let s = c.args.self.now.standing in
    let at : ℕ = c.last.result % 64 in
    let less : length c.args.self.now.changes.items < 64 = doubt_less s (c.is_none.ensures ∙ ap not c.if-is_none.false) in
    let here : at ≡ place c.args.self.now.through (length c.args.self.now.changes.items) = ap (λ (n : ℕ). n % 64) c.last.ensures in
    let size = words_here see items at c.index_mut.result.now s (omega arith) c.index_mut.ensures.value in
    record {
      standing = next_stands see items at c.index_mut.result.now c.set_word.new.region s less here c.index_mut.ensures.value s.told_doubt
          (c.set_word.ensures.set.size ∙ size) c.set_word.ensures.set.moments
          (λ image possible. next_closing c.args.self.now.through (c.args.self.now.through + length c.args.self.now.changes.items + 1) at c.args.self.now.doubt
          (see c.index_mut.result.now) (omega arith) size (next_here see items at c.index_mut.result.now s less here c.index_mut.ensures.value) image
          (at_end c.set_word.ensures.set.moments image possible));
      room = c.args.self.now.room;
    }

pub returns-in_err-set_word-clause-moments : goal.returns-in_err-set_word-clause-moments
returns-in_err-set_word-clause-moments g c =
    let see = g.R.Region.seen in
    let items = c.args.self.now.records.items in
    let s = c.args.self.now.standing in
    let at : ℕ = c.last.result % 64 in
    let less : length c.args.self.now.changes.items < 64 = doubt_less s (c.is_none.ensures ∙ ap not c.if-is_none.false) in
    let here : at ≡ place c.args.self.now.through (length c.args.self.now.changes.items) = ap (λ (n : ℕ). n % 64) c.last.ensures in
    next_moments see items at c.index_mut.result.now c.set_word.new.region s less here c.index_mut.ensures.value s.told_doubt
    (next_closing c.args.self.now.through (c.args.self.now.through + length c.args.self.now.changes.items + 1) at c.args.self.now.doubt
    (see c.index_mut.result.now) (omega arith) (words_here see items at c.index_mut.result.now s (omega arith) c.index_mut.ensures.value)
    (next_here see items at c.index_mut.result.now s less here c.index_mut.ensures.value))
    c.set_word.ensures.set.moments

pub invariant_of-self-2 : goal.invariant_of-self-2
invariant_of-self-2 g c =
    let see = g.R.Region.seen in
    let items = c.args.self.now.records.items in
    let s = c.args.self.now.standing in
    let at : ℕ = c.last.result % 64 in
    let less : length c.args.self.now.changes.items < 64 = doubt_less s (c.is_none.ensures ∙ ap not c.if-is_none.false) in
    let here : at ≡ place c.args.self.now.through (length c.args.self.now.changes.items) = ap (λ (n : ℕ). n % 64) c.last.ensures in
    let size = words_here see items at c.index_mut.result.now s (omega arith) c.index_mut.ensures.value in
    record {
      standing = next_stands see items at c.index_mut.result.now c.set_word.new.region s less here c.index_mut.ensures.value (λ change is. cc)
          (c.set_word.ensures.set.size ∙ size) c.set_word.ensures.set.moments
          (closed_next c.args.self.now.through (c.args.self.now.through + length c.args.self.now.changes.items + 1) at None
          (see c.index_mut.result.now) (omega arith) size c.in_ok-set_word.ensures.set.ok c.in_ok-set_word.ensures.set.sure);
      room = c.args.self.now.room;
    }

pub returns-clause-moments : goal.returns-clause-moments
returns-clause-moments g c =
    let see = g.R.Region.seen in
    let items = c.args.self.now.records.items in
    let s = c.args.self.now.standing in
    let at : ℕ = c.last.result % 64 in
    let less : length c.args.self.now.changes.items < 64 = doubt_less s (c.is_none.ensures ∙ ap not c.if-is_none.false) in
    let here : at ≡ place c.args.self.now.through (length c.args.self.now.changes.items) = ap (λ (n : ℕ). n % 64) c.last.ensures in
    next_moments see items at c.index_mut.result.now c.set_word.new.region s less here c.index_mut.ensures.value s.told_doubt
    (next_closing c.args.self.now.through (c.args.self.now.through + length c.args.self.now.changes.items + 1) at c.args.self.now.doubt
    (see c.index_mut.result.now) (omega arith) (words_here see items at c.index_mut.result.now s (omega arith) c.index_mut.ensures.value)
    (next_here see items at c.index_mut.result.now s less here c.index_mut.ensures.value))
    c.set_word.ensures.set.moments

pub returns-in_err-set_word-clause-does : goal.returns-in_err-set_word-clause-does
returns-in_err-set_word-clause-does g c = λ obeys.
    let see = g.R.Region.seen in
    let items = c.args.self.now.records.items in
    let s = c.args.self.now.standing in
    let at : ℕ = c.last.result % 64 in
    let p : ℕ = place c.args.self.now.through (length c.args.self.now.changes.items) in
    let here : at ≡ p = ap (λ (n : ℕ). n % 64) c.last.ensures in
    let within : at < length items = omega (arith, here, s.size, length-map items see) in
    let e = err_from_is_err_and c.from_residual.result c.from_residual.ensures.1 in
    let doubtful = c.is_none.ensures ∙ ap not c.if-is_none.false in
    at_place (λ x y. DoesWords (closing_ops c.args.self.now.doubt) c.from_residual.result (g.P.Power.asked c.args.power.now) x (g.P.Power.asked c.set_word.new.power) y)
    see items at p c.index_mut.result.now c.set_word.new.region here within c.index_mut.ensures.value
    (subst (λ ops. DoesWords ops c.from_residual.result (g.P.Power.asked c.args.power.now) (see c.index_mut.result.now) (g.P.Power.asked c.set_word.new.power) (see c.set_word.new.region))
    (closing_is c.args.self.now.doubt doubtful) (does_front e.0 e.1 (c.in_err-set_word.ensures.set.does obeys).front))

pub returns-in_err-set_word-clause-others : goal.returns-in_err-set_word-clause-others
returns-in_err-set_word-clause-others g c =
    let see = g.R.Region.seen in
    let items = c.args.self.now.records.items in
    let s = c.args.self.now.standing in
    let at : ℕ = c.last.result % 64 in
    let p : ℕ = place c.args.self.now.through (length c.args.self.now.changes.items) in
    let here : at ≡ p = ap (λ (n : ℕ). n % 64) c.last.ensures in
    let within : at < length items = omega (arith, here, s.size, length-map items see) in
    others_stay see items at p c.set_word.new.region here within

pub returns-in_err-set_word-clause-cause : goal.returns-in_err-set_word-clause-cause
returns-in_err-set_word-clause-cause g c =
    let see = g.R.Region.seen in
    let items = c.args.self.now.records.items in
    let s = c.args.self.now.standing in
    let at : ℕ = c.last.result % 64 in
    let p : ℕ = place c.args.self.now.through (length c.args.self.now.changes.items) in
    let here : at ≡ p = ap (λ (n : ℕ). n % 64) c.last.ensures in
    let within : at < length items = omega (arith, here, s.size, length-map items see) in
    let e = err_from_is_err_and c.from_residual.result c.from_residual.ensures.1 in
    cause_again e.0 c.in_err-set_word.field-0.0 e.1
    (cause_at g.R.Region.faults items at p c.index_mut.result.now c.set_word.new.region here within c.index_mut.ensures.value c.in_err-set_word.ensures.cause)

pub returns-clause-does : goal.returns-clause-does
returns-clause-does g c = λ obeys.
    let see = g.R.Region.seen in
    let items = c.args.self.now.records.items in
    let s = c.args.self.now.standing in
    let at : ℕ = c.last.result % 64 in
    let p : ℕ = place c.args.self.now.through (length c.args.self.now.changes.items) in
    let here : at ≡ p = ap (λ (n : ℕ). n % 64) c.last.ensures in
    let within : at < length items = omega (arith, here, s.size, length-map items see) in
    let doubtful = c.is_none.ensures ∙ ap not c.if-is_none.false in
    let closed : Result (Unit {0}) DeviceFault = Ok tt in
    at_place (λ x y. DoesWords (closing_ops c.args.self.now.doubt) closed (g.P.Power.asked c.args.power.now) x (g.P.Power.asked c.set_word.new.power) y)
    see items at p c.index_mut.result.now c.set_word.new.region here within c.index_mut.ensures.value
    (subst (λ ops. DoesWords ops closed (g.P.Power.asked c.args.power.now) (see c.index_mut.result.now) (g.P.Power.asked c.set_word.new.power) (see c.set_word.new.region))
    (closing_is c.args.self.now.doubt doubtful) (c.in_ok-set_word.ensures.set.does obeys))

pub returns-clause-others : goal.returns-clause-others
returns-clause-others g c =
    let see = g.R.Region.seen in
    let items = c.args.self.now.records.items in
    let s = c.args.self.now.standing in
    let at : ℕ = c.last.result % 64 in
    let p : ℕ = place c.args.self.now.through (length c.args.self.now.changes.items) in
    let here : at ≡ p = ap (λ (n : ℕ). n % 64) c.last.ensures in
    let within : at < length items = omega (arith, here, s.size, length-map items see) in
    others_stay see items at p c.set_word.new.region here within

pub returns-clause-cause : goal.returns-clause-cause
returns-clause-cause g c =
    let see = g.R.Region.seen in
    let items = c.args.self.now.records.items in
    let s = c.args.self.now.standing in
    let at : ℕ = c.last.result % 64 in
    let p : ℕ = place c.args.self.now.through (length c.args.self.now.changes.items) in
    let here : at ≡ p = ap (λ (n : ℕ). n % 64) c.last.ensures in
    let within : at < length items = omega (arith, here, s.size, length-map items see) in
    cause_at g.R.Region.faults items at p c.index_mut.result.now c.set_word.new.region here within c.index_mut.ensures.value c.in_ok-set_word.ensures.cause
