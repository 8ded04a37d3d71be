use Rattle.std.proofs.Math.ListN.{set}
use Rattle.std.specs.Vec.{vec_capacity, vec_len}
use Rattle.std.proofs.lemmas.List.{length-map}
use Rattle.std.specs.Result.{is_ok}
use Rattle.std.proofs.Common.{Bool, true, if◌then◌else◌, ◌≡◌, ◌∙◌, ◌+◌, ◌<◌, ◌%◌, ℕ, List, ◌++◌, ◌∷◌, [], None, Some, Result, Ok, Err, ap, arith, length, map, subst, sym}
use Rattle.cfs_dir.specs.declared.change.Change.{Change}
use Rattle.cfs_dir.specs.Change.{IsTellable}
use Rattle.cfs_pmem.specs.Images.{IsImage}
use Rattle.cfs_pmem.specs.Moments.{Moments}
use Rattle.cfs_pmem.specs.WordOps.{DoesWords}
use Rattle.cfs_pmem.specs.declared.fault.DeviceFault.{DeviceFault}
use Rattle.cfs_pmem.proofs.MomentLemmas.{at_end}
use Rattle.cfs_journal.specs.Records.{record_ops, record_words, IsRecordFrom}
use Rattle.cfs_journal.specs.Standing.{place, Standing}
use Rattle.cfs_journal.proofs.Standings.{at_place, cause_at, next_grown, next_here, next_moments, next_stands, next_writing, others_stay, words_here}
use Rattle.cfs_journal.proofs.journal.Journal.write_next.Goals as goal

some_injective : {x y : Change} → Some x ≡ Some y → x ≡ y
some_injective is = cc

pub invariant_of-self : goal.invariant_of-self
invariant_of-self g c =
    let see = g.R.Region.seen in
    let items = c.args.self.now.records.items in
    let through : ℕ = c.args.self.now.through in
    let changes : List Change = c.args.self.now.changes.items in
    let at : ℕ = c.last-last.result % 64 in
    let s : Standing through changes None (map see items) = subst (λ d. Standing through changes d (map see items)) c.requires.settled c.args.self.now.standing in
    let here : at ≡ place through (length changes) = ap (λ (n : ℕ). n % 64) c.last-last.ensures in
    let number : c.last-last.result + 1 ≡ through + length changes + 1 = ap (λ (n : ℕ). n + 1) c.last-last.ensures in
    let size = words_here see items at c.index_mut.result.now s (omega arith) c.index_mut.ensures.value in
    let spare : vec_len c.args.self.now.changes < vec_capacity c.args.self.now.changes = omega (arith, c.args.self.now.room, c.requires.room) in
    let ok : is_ok c.push.result ≡ true = c.push.ensures.succeeds spare in
    let items_are : c.push.new.self.items ≡ changes ++ c.args.change.now ∷ [] =
    c.push.ensures.items ∙ ap (λ (b : Bool). if b then changes ++ c.args.change.now ∷ [] else changes) ok in
    let capacity = c.push.ensures.capacity in
    let moments = subst (λ n. Moments IsImage (IsRecordFrom (see c.index_mut.result.now) n c.args.change.now) (g.P.Power.asked c.args.power.now) (see c.index_mut.result.now)
    (g.P.Power.asked c.write_record.new.power) (see c.write_record.new.region)) number c.write_record.ensures.written.moments in
    record {
      standing = subst (λ d. Standing through c.push.new.self.items d (map see (set items at c.write_record.new.region))) (sym c.requires.settled)
          (subst (λ cs. Standing through cs None (map see (set items at c.write_record.new.region))) (sym items_are)
          (next_grown see items at c.index_mut.result.now c.write_record.new.region c.args.change.now s c.requires.room here c.index_mut.ensures.value c.requires.tellable
          c.write_record.ensures.written.size moments c.in-Ok.ensures.written.sure
          (c.in-Ok.ensures.written.ok ∙ ap (λ (n : ℕ). record_words n c.args.change.now) number)));
      room = omega (arith, c.args.self.now.room, capacity);
    }

pub invariant_of-self-in-Err : goal.invariant_of-self-in-Err
invariant_of-self-in-Err g c =
    let see = g.R.Region.seen in
    let items = c.args.self.now.records.items in
    let through : ℕ = c.args.self.now.through in
    let changes : List Change = c.args.self.now.changes.items in
    let at : ℕ = c.last-last.result % 64 in
    let s : Standing through changes None (map see items) = subst (λ d. Standing through changes d (map see items)) c.requires.settled c.args.self.now.standing in
    let here : at ≡ place through (length changes) = ap (λ (n : ℕ). n % 64) c.last-last.ensures in
    let number : c.last-last.result + 1 ≡ through + length changes + 1 = ap (λ (n : ℕ). n + 1) c.last-last.ensures in
    let size = words_here see items at c.index_mut.result.now s (omega arith) c.index_mut.ensures.value in
    let writing = next_writing through (through + length changes + 1) at c.args.change.now (see c.index_mut.result.now)
    (next_here see items at c.index_mut.result.now s c.requires.room here c.index_mut.ensures.value) in
    let moments = subst (λ n. Moments IsImage (IsRecordFrom (see c.index_mut.result.now) n c.args.change.now) (g.P.Power.asked c.args.power.now) (see c.index_mut.result.now)
    (g.P.Power.asked c.write_record.new.power) (see c.write_record.new.region)) number c.write_record.ensures.written.moments in
    record {
      standing = next_stands see items at c.index_mut.result.now c.write_record.new.region s c.requires.room here c.index_mut.ensures.value
          (λ x is. subst IsTellable (some_injective is) c.requires.tellable) c.write_record.ensures.written.size moments
          (λ image possible. writing image (at_end moments image possible));
      room = c.args.self.now.room;
    }

pub returns-in-Ok-push-clause-moments : goal.returns-in-Ok-push-clause-moments
returns-in-Ok-push-clause-moments g c =
    let see = g.R.Region.seen in
    let items = c.args.self.now.records.items in
    let through : ℕ = c.args.self.now.through in
    let changes : List Change = c.args.self.now.changes.items in
    let at : ℕ = c.last-last.result % 64 in
    let s : Standing through changes None (map see items) = subst (λ d. Standing through changes d (map see items)) c.requires.settled c.args.self.now.standing in
    let here : at ≡ place through (length changes) = ap (λ (n : ℕ). n % 64) c.last-last.ensures in
    let number : c.last-last.result + 1 ≡ through + length changes + 1 = ap (λ (n : ℕ). n + 1) c.last-last.ensures in
    let size = words_here see items at c.index_mut.result.now s (omega arith) c.index_mut.ensures.value in
    next_moments see items at c.index_mut.result.now c.write_record.new.region s c.requires.room here c.index_mut.ensures.value
    (λ x is. subst IsTellable (some_injective is) c.requires.tellable)
    (next_writing through (through + length changes + 1) at c.args.change.now (see c.index_mut.result.now)
    (next_here see items at c.index_mut.result.now s c.requires.room here c.index_mut.ensures.value))
    (subst (λ n. Moments IsImage (IsRecordFrom (see c.index_mut.result.now) n c.args.change.now) (g.P.Power.asked c.args.power.now) (see c.index_mut.result.now)
    (g.P.Power.asked c.write_record.new.power) (see c.write_record.new.region)) number c.write_record.ensures.written.moments)

pub returns-in-Err-clause-moments : goal.returns-in-Err-clause-moments
returns-in-Err-clause-moments g c =
    let see = g.R.Region.seen in
    let items = c.args.self.now.records.items in
    let through : ℕ = c.args.self.now.through in
    let changes : List Change = c.args.self.now.changes.items in
    let at : ℕ = c.last-last.result % 64 in
    let s : Standing through changes None (map see items) = subst (λ d. Standing through changes d (map see items)) c.requires.settled c.args.self.now.standing in
    let here : at ≡ place through (length changes) = ap (λ (n : ℕ). n % 64) c.last-last.ensures in
    let number : c.last-last.result + 1 ≡ through + length changes + 1 = ap (λ (n : ℕ). n + 1) c.last-last.ensures in
    let size = words_here see items at c.index_mut.result.now s (omega arith) c.index_mut.ensures.value in
    next_moments see items at c.index_mut.result.now c.write_record.new.region s c.requires.room here c.index_mut.ensures.value
    (λ x is. subst IsTellable (some_injective is) c.requires.tellable)
    (next_writing through (through + length changes + 1) at c.args.change.now (see c.index_mut.result.now)
    (next_here see items at c.index_mut.result.now s c.requires.room here c.index_mut.ensures.value))
    (subst (λ n. Moments IsImage (IsRecordFrom (see c.index_mut.result.now) n c.args.change.now) (g.P.Power.asked c.args.power.now) (see c.index_mut.result.now)
    (g.P.Power.asked c.write_record.new.power) (see c.write_record.new.region)) number c.write_record.ensures.written.moments)

pub returns-in-Ok-push-clause-does : goal.returns-in-Ok-push-clause-does
returns-in-Ok-push-clause-does g c = λ obeys.
    let see = g.R.Region.seen in
    let items = c.args.self.now.records.items in
    let s = c.args.self.now.standing in
    let at : ℕ = c.last-last.result % 64 in
    let p : ℕ = place c.args.self.now.through (length c.args.self.now.changes.items) in
    let here : at ≡ p = ap (λ (n : ℕ). n % 64) c.last-last.ensures in
    let within : at < length items = omega (arith, here, s.size, length-map items see) in
    let number : c.last-last.result + 1 ≡ c.args.self.now.through + length c.args.self.now.changes.items + 1 = ap (λ (n : ℕ). n + 1) c.last-last.ensures in
    let written : Result (Unit {0}) DeviceFault = Ok tt in
    at_place (λ x y. DoesWords (record_ops (c.args.self.now.through + length c.args.self.now.changes.items + 1) c.args.change.now) written (g.P.Power.asked c.args.power.now) x (g.P.Power.asked c.write_record.new.power) y)
    see items at p c.index_mut.result.now c.write_record.new.region here within c.index_mut.ensures.value
    (subst (λ n. DoesWords (record_ops n c.args.change.now) written (g.P.Power.asked c.args.power.now) (see c.index_mut.result.now) (g.P.Power.asked c.write_record.new.power) (see c.write_record.new.region))
    number (c.in-Ok.ensures.written.does obeys))

pub returns-in-Ok-push-clause-others : goal.returns-in-Ok-push-clause-others
returns-in-Ok-push-clause-others g c =
    let see = g.R.Region.seen in
    let items = c.args.self.now.records.items in
    let s = c.args.self.now.standing in
    let at : ℕ = c.last-last.result % 64 in
    let p : ℕ = place c.args.self.now.through (length c.args.self.now.changes.items) in
    let here : at ≡ p = ap (λ (n : ℕ). n % 64) c.last-last.ensures in
    let within : at < length items = omega (arith, here, s.size, length-map items see) in
    others_stay see items at p c.write_record.new.region here within

pub returns-in-Ok-push-clause-cause : goal.returns-in-Ok-push-clause-cause
returns-in-Ok-push-clause-cause g c =
    let see = g.R.Region.seen in
    let items = c.args.self.now.records.items in
    let s = c.args.self.now.standing in
    let at : ℕ = c.last-last.result % 64 in
    let p : ℕ = place c.args.self.now.through (length c.args.self.now.changes.items) in
    let here : at ≡ p = ap (λ (n : ℕ). n % 64) c.last-last.ensures in
    let within : at < length items = omega (arith, here, s.size, length-map items see) in
    cause_at g.R.Region.faults items at p c.index_mut.result.now c.write_record.new.region here within c.index_mut.ensures.value c.in-Ok.ensures.cause

pub returns-in-Err-clause-does : goal.returns-in-Err-clause-does
returns-in-Err-clause-does g c = λ obeys.
    let see = g.R.Region.seen in
    let items = c.args.self.now.records.items in
    let s = c.args.self.now.standing in
    let at : ℕ = c.last-last.result % 64 in
    let p : ℕ = place c.args.self.now.through (length c.args.self.now.changes.items) in
    let here : at ≡ p = ap (λ (n : ℕ). n % 64) c.last-last.ensures in
    let within : at < length items = omega (arith, here, s.size, length-map items see) in
    let number : c.last-last.result + 1 ≡ c.args.self.now.through + length c.args.self.now.changes.items + 1 = ap (λ (n : ℕ). n + 1) c.last-last.ensures in
    let written : Result (Unit {0}) DeviceFault = Err c.in-Err.fault in
    at_place (λ x y. DoesWords (record_ops (c.args.self.now.through + length c.args.self.now.changes.items + 1) c.args.change.now) written (g.P.Power.asked c.args.power.now) x (g.P.Power.asked c.write_record.new.power) y)
    see items at p c.index_mut.result.now c.write_record.new.region here within c.index_mut.ensures.value
    (subst (λ n. DoesWords (record_ops n c.args.change.now) written (g.P.Power.asked c.args.power.now) (see c.index_mut.result.now) (g.P.Power.asked c.write_record.new.power) (see c.write_record.new.region))
    number (c.in-Err.ensures.written.does obeys))

pub returns-in-Err-clause-others : goal.returns-in-Err-clause-others
returns-in-Err-clause-others g c =
    let see = g.R.Region.seen in
    let items = c.args.self.now.records.items in
    let s = c.args.self.now.standing in
    let at : ℕ = c.last-last.result % 64 in
    let p : ℕ = place c.args.self.now.through (length c.args.self.now.changes.items) in
    let here : at ≡ p = ap (λ (n : ℕ). n % 64) c.last-last.ensures in
    let within : at < length items = omega (arith, here, s.size, length-map items see) in
    others_stay see items at p c.write_record.new.region here within

pub returns-in-Err-clause-cause : goal.returns-in-Err-clause-cause
returns-in-Err-clause-cause g c =
    let see = g.R.Region.seen in
    let items = c.args.self.now.records.items in
    let s = c.args.self.now.standing in
    let at : ℕ = c.last-last.result % 64 in
    let p : ℕ = place c.args.self.now.through (length c.args.self.now.changes.items) in
    let here : at ≡ p = ap (λ (n : ℕ). n % 64) c.last-last.ensures in
    let within : at < length items = omega (arith, here, s.size, length-map items see) in
    cause_at g.R.Region.faults items at p c.index_mut.result.now c.write_record.new.region here within c.index_mut.ensures.value c.in-Err.ensures.cause
