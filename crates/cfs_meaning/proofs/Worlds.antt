-- Laws of worlds: what holds of the world before a part of a line holds behind it, and the part
-- ends only as it may.
use Rattle.std.proofs.Common.{◌≡◌, ◌∙◌, ℕ, Bool, true, false, Option, Some, None, List, refl, ap}
use Rattle.std.specs.Prelude.{Result, Ok, Err, is_none, if◌then◌else◌}
use Rattle.cfs_core.specs.declared.event.Event.{Event}
use Rattle.cfs_core.specs.May.{may}
use Rattle.cfs_core.specs.After.{after}
use Rattle.cfs_dir.specs.declared.posix.Posix.TheVariants as posix
use Rattle.cfs_requests.specs.declared.name_refusal.NameRefusal.{NameRefusal}
use Rattle.cfs_requests.specs.declared.name_refusal.NameRefusal.TheVariants as refusals
use Rattle.cfs_requests.specs.Steps.{NameAnswer, NameRequest}
use Rattle.cfs_print.specs.declared.printed.Printed.{Printed}
use Rattle.cfs_print.specs.declared.printed.Printed.TheVariants.{NoNumber, NoRecord}
use Rattle.cfs_meaning.specs.Drive.{Op, attempt}
use Rattle.cfs_meaning.specs.NameSteps.{Order, changes_of, refusal_of, step_of}
use Rattle.cfs_meaning.specs.World.{Descriptor, World, core_in, with_core, with_descriptors}
use Rattle.cfs_meaning.specs.Names.{ask, free_record, log_step, refusal_answer, step_in, store_change}
use Rattle.cfs_meaning.specs.Inode.{Comes, comes, run_job, skip}
use Rattle.cfs_meaning.specs.Files.{Defers, Helps, defers, fails, fails_first, faults, helps_first, is_behind, is_out_itself, serves, skips, works, works_on}
use Rattle.cfs_meaning.specs.Ways.{Changes, changes, Ends, Fault, Gives, Halt, Mends, Now, Repeats, Says, Shrugs, Then, Tries, Waits, Way, breaks, breaks_later, counts, each, ends, follows, give, gives, halts, known, mends, now, rests, says, shrugs, tried, waits, well, whole, ◌>>=◌, ◌>>◌}
use Rattle.cfs_meaning.proofs.Keeping.{Any, Base, IsQuiet, IsSaid, keep-each, keep-known}
use Rattle.cfs_meaning.proofs.Kept.{IsOfLine, Law, Requests}
use Rattle.cfs_meaning.proofs.KeptNames.{kept-store}

-- What holds of worlds, what a try of operations may say, and how a part may end.
pub record Fact : Type 1 where
  pub Holds : World → Type 0
  pub MayBe : Bool → Type 0
  pub MayEnd : Halt → Type 0
  pub tries : (ops : List Op) (world : World) → Holds world →
      MayBe (attempt ops world.drive).whole
      × Holds (record world { drive = (attempt ops world.drive).drive })
  pub quiet : (old new : World) → IsQuiet old new → Holds old → Holds new
  pub fault : MayBe false → MayEnd Fault
  pub waits : (place : ℕ) → MayEnd (Waits place)
  pub says : (answer : Printed) → IsSaid answer → MayEnd (Says answer)

abbrev pub EndsAs : (fact : Fact) → {A : Type 0} → (A → Type 0) → Result A Halt → Type 0
EndsAs fact R (Ok a) = R a
EndsAs fact R (Err halt) = fact.MayEnd halt

-- a part keeps it, and its value has R
pub record Holding (fact : Fact) {A : Type 0} (R : A → Type 0) (way : Way A) : Type 0 where
  pub by : (old : World) (end : Result A Halt) (new : World) → fact.Holds old → way old end new →
      EndsAs fact R end × fact.Holds new

-- ---- each way of joining parts

pub then-by : {fact : Fact} {A B : Type 0} {R : A → Type 0} {S : B → Type 0} {first : Way A}
    {next : A → Way B} → Holding fact R first → ((a : A) → R a → Holding fact S (next a)) →
    (old : World) (end : Result B Halt) (new : World) → fact.Holds old →
    Then first next old end new → EndsAs fact S end × fact.Holds new
then-by one more old end new holds (ends way) = one.by _ _ _ holds way
then-by one more old end new holds (follows way rest) =
    let kept = one.by _ _ _ holds way in (more _ kept.0).by _ _ _ kept.1 rest

pub gives-by : (fact : Fact) {A : Type 0} (R : A → Type 0) {a : A} → R a →
    (old : World) (end : Result A Halt) (new : World) → fact.Holds old → Gives a old end new →
    EndsAs fact R end × fact.Holds new
gives-by fact R r old end new holds gives = (r, holds)

pub ends-by : (fact : Fact) {A : Type 0} (R : A → Type 0) {halt : Halt} → fact.MayEnd halt →
    (old : World) (end : Result A Halt) (new : World) → fact.Holds old → Ends halt old end new →
    EndsAs fact R end × fact.Holds new
ends-by fact R may old end new holds halts = (may, holds)

pub now-by : (fact : Fact) (old : World) (end : Result World Halt) (new : World) →
    fact.Holds old →
    Now old end new → EndsAs fact Any end × fact.Holds new
now-by fact old end new holds now = (tt, holds)

pub changes-by : (fact : Fact) {change : World → World} →
    ((world : World) → IsQuiet world (change world)) →
    (old : World) (end : Result (Unit {0}) Halt) (new : World) → fact.Holds old →
    Changes change old end new → EndsAs fact Any end × fact.Holds new
changes-by fact quiet old end new holds changes = (tt, fact.quiet _ _ (quiet old) holds)

pub tries-by : (fact : Fact) {ops : List Op} (old : World) (end : Result Bool Halt) (new : World) →
    fact.Holds old → Tries ops old end new → EndsAs fact fact.MayBe end × fact.Holds new
tries-by fact {ops} old end new holds tried = fact.tries ops old holds

pub repeats-by : {fact : Fact} {turn : Way Bool} → Holding fact Any turn →
    (old : World) (end : Result ℕ Halt) (new : World) → fact.Holds old →
    Repeats turn old end new → EndsAs fact Any end × fact.Holds new
repeats-by kept old end new holds (breaks way) = kept.by _ _ _ holds way
repeats-by kept old end new holds (rests way) = (tt, (kept.by _ _ _ holds way).1)
repeats-by kept old end new holds (counts way more) =
    (tt, (repeats-by kept _ _ _ (kept.by _ _ _ holds way).1 more).1)
repeats-by kept old end new holds (breaks_later way more) =
    repeats-by kept _ _ _ (kept.by _ _ _ holds way).1 more

pub mends-by : {fact : Fact} {A : Type 0} {R : A → Type 0} {way : Way A} {mend : Way (Unit {0})} →
    Holding fact R way → Holding fact Any mend →
    (old : World) (end : Result A Halt) (new : World) → fact.Holds old →
    Mends way mend old end new → EndsAs fact R end × fact.Holds new
mends-by one other old end new holds (well way) = one.by _ _ _ holds way
mends-by one other old end new holds (waits way) = one.by _ _ _ holds way
mends-by one other old end new holds (says way) = one.by _ _ _ holds way
mends-by one other old end new holds (mends way mend) =
    let kept = one.by _ _ _ holds way in (kept.0, (other.by _ _ _ kept.1 mend).1)

pub shrugs-by : {fact : Fact} {way : Way (Unit {0})} → Holding fact Any way →
    (old : World) (end : Result (Unit {0}) Halt) (new : World) → fact.Holds old →
    Shrugs way old end new → EndsAs fact Any end × fact.Holds new
shrugs-by kept old end new holds (whole way) = kept.by _ _ _ holds way
shrugs-by kept old end new holds (shrugs way) = (tt, (kept.by _ _ _ holds way).1)

abbrev pub base_of : Fact → Base
base_of fact = record {
  Means = λ {A} R way. Holding fact R way;
  MayBe = fact.MayBe;
  MayEnd = fact.MayEnd;
  fault = fact.fault;
  waits = fact.waits;
  says = fact.says;
  follow = λ {A} {B} {R} {S} {first} {next} one more. record { by = then-by one more };
  giving = λ {A} {R} {a} r. record { by = gives-by fact R r };
  ending = λ {A} {R} {halt} may. record { by = ends-by fact R may };
  nothing = λ {A} {R}. record { by = λ old end new holds way. absurd way };
  looking = record { by = now-by fact };
  changing = λ {change} quiet. record { by = changes-by fact quiet };
  trying = λ {ops}. record { by = tries-by fact };
  repeating = λ {turn} kept. record { by = repeats-by kept };
  mending = λ {A} {R} {way} {mend} one other. record { by = mends-by one other };
  shrugging = λ {way} kept. record { by = shrugs-by kept };
}

-- Beside that: what events keep, in the line of a number.
pub record WorldLaw : Type 1 where
  pub fact : Fact
  pub line : ℕ
  pub comes : (ino : ℕ) (e : Event) (world : World) → IsOfLine line e →
      may (core_in world ino) e ≡ true → fact.Holds world →
      fact.Holds (with_core ino (after (core_in world ino) e) world)

-- Beside that: what requests on names keep, and descriptors that are opened.
pub record NameLaw (law : WorldLaw) : Type 0 where
  pub asks : (c : ℕ) (request : NameRequest) (rec : Option ℕ) (step : NameAnswer × Order)
      (world : World) → step_of world.names.now c request rec ≡ Some step →
      law.fact.Holds world → law.fact.Holds (log_step c law.line request rec step world)
  pub opens : (c : ℕ) (change : List Descriptor → List Descriptor) (world : World) →
      law.fact.Holds world → law.fact.Holds (with_descriptors c change world)

pub comes-by : (law : WorldLaw) {ino : ℕ} {e : Event} → IsOfLine law.line e →
    (old : World) (end : Result (Unit {0}) Halt) (new : World) → law.fact.Holds old →
    Comes ino e old end new → EndsAs law.fact Any end × law.fact.Holds new
comes-by law {ino} {e} own old end new holds (comes may_be) =
    (tt, law.comes ino e old own may_be holds)

-- ---- a request on names: what its step was found by stays until it is logged

-- the tree and the grants
abbrev same_names : Order → Fact
same_names order = record {
  Holds = λ w. w.names.now ≡ order;
  MayBe = Any;
  MayEnd = Any;
  tries = λ ops world holds. (tt, holds);
  quiet = λ old new quiet holds. quiet.order ∙ holds;
  fault = λ may. tt;
  waits = λ place. tt;
  says = λ answer given. tt;
}

abbrev both : Fact → Fact → Fact
both one other = record {
  Holds = λ w. one.Holds w × other.Holds w;
  MayBe = λ b. one.MayBe b × other.MayBe b;
  MayEnd = λ halt. one.MayEnd halt × other.MayEnd halt;
  tries = λ ops world holds.
      let a = one.tries ops world holds.0 in
      let b = other.tries ops world holds.1 in
      ((a.0, b.0), (a.1, b.1));
  quiet = λ old new quiet holds.
      (one.quiet old new quiet holds.0, other.quiet old new quiet holds.1);
  fault = λ may. (one.fault may.0, other.fault may.1);
  waits = λ place. (one.waits place, other.waits place);
  says = λ answer given. (one.says answer given, other.says answer given);
}

-- how a part ends: with its value Q holds of it and the world behind it
abbrev pub EndsIn : (fact : Fact) → {A : Type 0} → (A → World → Type 0) → Result A Halt → World →
    Type 0
EndsIn fact Q (Ok a) world = Q a world
EndsIn fact Q (Err halt) world = fact.MayEnd halt × fact.Holds world

-- from a world with two laws to one where Q holds
record Leads (one other : Fact) {A : Type 0} (Q : A → World → Type 0) (way : Way A) : Type 0 where
  by : (old : World) (end : Result A Halt) (new : World) → one.Holds old → other.Holds old →
      way old end new → EndsIn one Q end new

lead-by : {one other : Fact} {A B : Type 0} {R : A → Type 0} {Q : B → World → Type 0}
    {first : Way A} {next : A → Way B} → Holding (both one other) R first →
    ((a : A) → R a → Leads one other Q (next a)) →
    (old : World) (end : Result B Halt) (new : World) → one.Holds old → other.Holds old →
    Then first next old end new → EndsIn one Q end new
lead-by first more old end new holds also (ends way) =
    let kept = first.by _ _ _ (holds, also) way in (kept.0.0, kept.1.0)
lead-by first more old end new holds also (follows way rest) =
    let kept = first.by _ _ _ (holds, also) way in (more _ kept.0).by _ _ _ kept.1.0 kept.1.1 rest

lead-then : {one other : Fact} {A B : Type 0} {R : A → Type 0} {Q : B → World → Type 0}
    {first : Way A} {next : A → Way B} → Holding (both one other) R first →
    ((a : A) → R a → Leads one other Q (next a)) → Leads one other Q (first >>= next)
lead-then first more = record { by = lead-by first more }

-- what holds where a request was logged that a world with the law took
abbrev pub Logs : (law : WorldLaw) → ℕ → NameRequest → (NameAnswer → World → Type 0) → Type 0
Logs law c request Q =
    (rec : Option ℕ) (step : NameAnswer × Order) (world : World) →
    step_of world.names.now c request rec ≡ Some step → law.fact.Holds world →
    Q step.0 (log_step c law.line request rec step world)

-- the step is logged where its tree and grants still stand
log-then-by : (law : WorldLaw) (order : Order) (c : ℕ) (request : NameRequest)
    (Q : NameAnswer → World → Type 0) → Logs law c request Q →
    (rec : Option ℕ) (step : NameAnswer × Order) → step_of order c request rec ≡ Some step →
    (old : World) (end : Result NameAnswer Halt) (new : World) → law.fact.Holds old →
    (same_names order).Holds old →
    Then (Changes (log_step c law.line request rec step)) (λ u. give step.0) old end new →
    EndsIn law.fact Q end new
log-then-by law order c request Q logs rec step is old end new holds same (ends way) =
    elim way [ ]
log-then-by law order c request Q logs rec step is old end new holds same (follows changes gives) =
    logs rec step old (ap (λ (n : Order). step_of n c request rec) same ∙ is) holds

pub refusal-given : (w : World) (refusal : Option NameRefusal) → IsSaid (refusal_answer w refusal)
refusal-given w None = tt
refusal-given w (Some (refusals.Words error)) = tt
refusal-given w (Some (refusals.Tree posix.TooManyFiles)) = no-room (is_none (free_record w))
  where
    no-room : (test : Bool) → IsSaid (if test then NoRecord else NoNumber)
    no-room true = tt
    no-room false = tt
refusal-given w (Some (refusals.Tree error)) = tt

ask-from : (law : WorldLaw) (c : ℕ) (request : NameRequest) (Q : NameAnswer → World → Type 0) →
    Logs law c request Q → (w : World) → Leads law.fact (same_names w.names.now) Q
    (known (step_in w c request (free_record w))
    (refusal_answer w (refusal_of w.names.now request (free_record w)))
    >>= (λ step. each (changes_of w.names.now request (free_record w)) store_change
    >>= (λ u. Changes (log_step c law.line request (free_record w) step) >> give step.0)))
ask-from law c request Q logs w =
    let two : Base = base_of (both law.fact (same_names w.names.now)) in
    lead-then (keep-known {base = two} (step_in w c request (free_record w)) _
    (refusal-given w (refusal_of w.names.now request (free_record w)))).means (λ step is.
    lead-then (keep-each {base = two} _ (kept-store two)).means (λ u a.
    record {
      by = log-then-by law w.names.now c request Q logs (free_record w) step is;
    }))

pub ask-ends : (law : WorldLaw) (c : ℕ) (request : NameRequest) (Q : NameAnswer → World → Type 0) →
    Logs law c request Q → (old : World) (end : Result NameAnswer Halt) (new : World) →
    law.fact.Holds old → ask c law.line request old end new → EndsIn law.fact Q end new
ask-ends law c request Q logs old end new holds (ends way) = elim way [ ]
ask-ends law c request Q logs old end new holds (follows now rest) =
    (ask-from law c request Q logs old).by old end new holds refl rest

pub ask-by : (law : WorldLaw) (c : ℕ) (request : NameRequest) →
    Logs law c request (λ reply. law.fact.Holds) →
    (old : World) (end : Result NameAnswer Halt) (new : World) → law.fact.Holds old →
    ask c law.line request old end new → EndsAs law.fact Any end × law.fact.Holds new
ask-by law c request logs old (Ok reply) new holds way =
    (tt, ask-ends law c request (λ answer. law.fact.Holds) logs old (Ok reply) new holds way)
ask-by law c request logs old (Err halt) new holds way =
    ask-ends law c request (λ answer. law.fact.Holds) logs old (Err halt) new holds way

-- ---- helping, and reads that wait

pub helps-by : (fact : Fact) {ino : ℕ} → ((place : ℕ) → Holding fact Any (skip ino place)) →
    ((place : ℕ) → Holding fact Any (run_job ino place)) → {place : ℕ} (old : World)
    (end : Result (Unit {0}) Halt) (new : World) →
    fact.Holds old → Helps ino place old end new → EndsAs fact Any end × fact.Holds new
helps-by fact skipped done {place} old end new holds (skips is way) =
    (skipped place).by _ _ _ holds way
helps-by fact skipped done {place} old end new holds (is_out_itself is) = (fact.waits place, holds)
helps-by fact skipped done old end new holds (is_behind {q = q} is stuck) = (fact.waits q, holds)
helps-by fact skipped done old end new holds (helps_first is free first rest) =
    helps-by fact skipped done _ _ _ (helps-by fact skipped done _ _ _ holds first).1 rest
helps-by fact skipped done old end new holds (fails_first is free first) =
    helps-by fact skipped done _ _ _ holds first
helps-by fact skipped done {place} old end new holds (works is job) =
    (tt, ((done place).by _ _ _ holds job).1)
helps-by fact skipped done {place} old end new holds (works_on is job rest) =
    helps-by fact skipped done _ _ _ ((done place).by _ _ _ holds job).1 rest
helps-by fact skipped done {place} old end new holds (fails is job) =
    (done place).by _ _ _ holds job

pub defers-by : (fact : Fact) {ino place : ℕ} {way : Way (List ℕ)} {move : World → World} →
    Holding fact Any way → ((w : World) → IsQuiet w (move w)) →
    (old : World) (end : Result (List ℕ) Halt) (new : World) → fact.Holds old →
    Defers ino place way move old end new → EndsAs fact Any end × fact.Holds new
defers-by fact {move} kept quiet old end new holds (serves {new = mid} {bytes = bytes} done) =
    (tt, fact.quiet mid (move mid) (quiet mid) (kept.by old (Ok bytes) mid holds done).1)
defers-by fact {move} kept quiet old end new holds (defers {new = mid} {q = q} way) = (
  fact.says _ tt,
  fact.quiet mid (move mid) (quiet mid) (kept.by old (Err (Waits q)) mid holds way).1,
)
defers-by fact kept quiet old end new holds (faults fault) = kept.by _ _ _ holds fault

-- ---- the law of all parts

abbrev pub law_of : WorldLaw → Law
law_of law = record {
  base = base_of law.fact;
  line = law.line;
  comes = λ ino e own. record { by = comes-by law own };
  helps = λ ino skipped jobs place. record { by = helps-by law.fact skipped jobs };
  defers = λ ino place way move kept quiet. record { by = defers-by law.fact kept quiet };
}

moved-by : (fact : Fact) {change : World → World} →
    ((world : World) → fact.Holds world → fact.Holds (change world)) →
    (old : World) (end : Result (Unit {0}) Halt) (new : World) → fact.Holds old →
    Changes change old end new → EndsAs fact Any end × fact.Holds new
moved-by fact kept old end new holds changes = (tt, kept old holds)

-- a change that keeps what holds
pub moves : (fact : Fact) {change : World → World} →
    ((world : World) → fact.Holds world → fact.Holds (change world)) →
    Holding fact Any (Changes change)
moves fact kept = record { by = moved-by fact kept }

pub requests_of : (law : WorldLaw) → NameLaw law → Requests (law_of law)
requests_of law names = record {
  asks = λ c request. record { by = ask-by law c request (names.asks c request) };
  opens = λ c change. moves law.fact (names.opens c change);
}
