-- Parts of lines that come to an end from each world where something holds.
use Rattle.std.proofs.Common.{◌≡◌, ℕ, zero, suc, ◌<◌, Bool, true, false, List, [], ◌∷◌, Option}
use Rattle.std.proofs.Common.{Some, None, refl, arith}
use Rattle.std.specs.Prelude.{Result, Ok, Err}
use Rattle.cfs_core.specs.declared.event.Event.{Event}
use Rattle.cfs_core.specs.May.{may}
use Rattle.cfs_core.specs.After.{after}
use Rattle.cfs_print.specs.declared.printed.Printed.{Printed}
use Rattle.cfs_meaning.specs.Drive.{Op, attempt}
use Rattle.cfs_meaning.specs.World.{World, core_in, with_core}
use Rattle.cfs_meaning.specs.Inode.{comes, event}
use Rattle.cfs_meaning.specs.Ways.{Changes, Halt, Now, Repeats, Shrugs, Then, Tries, Way, breaks}
use Rattle.cfs_meaning.specs.Ways.{breaks_later, changes, counts, each, end_with, ends}
use Rattle.cfs_meaning.specs.Ways.{follows, give, gives, halts, known, now, only_if, refuse_if}
use Rattle.cfs_meaning.specs.Ways.{rests, shrugs, steps, tried, unless_fault, when, whole, ◌>>=◌}

-- what holds behind a part: with its value, or where it ended the line
abbrev pub IfEnds : {A : Type 0} → (A → World → Type 0) → (World → Type 0) → Result A Halt → World →
    Type 0
IfEnds Q E (Ok a) world = Q a world
IfEnds Q E (Err halt) world = E world

-- From each world where P holds the part comes to an end.
pub record Total {A : Type 0} (P : World → Type 0) (Q : A → World → Type 0) (E : World → Type 0)
    (way : Way A) : Type 0 where
  pub by : (old : World) → P old →
      (end : Result A Halt) × (new : World) × way old end new × IfEnds Q E end new

-- ---- one after another

then-by : {A B : Type 0} {Q : A → World → Type 0} {S : B → World → Type 0} {E : World → Type 0}
    {first : Way A} {next : A → Way B} → ((a : A) → Total (Q a) S E (next a)) → (old : World)
    (end : Result A Halt) (mid : World) → first old end mid → IfEnds Q E end mid →
    (e : Result B Halt) × (new : World) × Then first next old e new × IfEnds S E e new
then-by more old (Ok a) mid way holds =
    let rest = (more a).by mid holds in (rest.0, rest.1, follows way rest.2, rest.3)
then-by more old (Err halt) mid way holds = (Err halt, mid, ends way, holds)

pub total-then : {A B : Type 0} {P : World → Type 0} {Q : A → World → Type 0}
    {S : B → World → Type 0} {E : World → Type 0} {first : Way A} {next : A → Way B} →
    Total P Q E first → ((a : A) → Total (Q a) S E (next a)) → Total P S E (first >>= next)
total-then one more = record {
  by = λ old holds. let x = one.by old holds in then-by more old x.0 x.1 x.2 x.3;
}

pub weaker-ends : {A : Type 0} {Q S : A → World → Type 0} {E F : World → Type 0} →
    ((a : A) (w : World) → Q a w → S a w) → ((w : World) → E w → F w) → (end : Result A Halt)
    (new : World) → IfEnds Q E end new → IfEnds S F end new
weaker-ends value left (Ok a) new holds = value a new holds
weaker-ends value left (Err halt) new holds = left new holds

pub total-weaker : {A : Type 0} {P R : World → Type 0} {Q S : A → World → Type 0}
    {E F : World → Type 0} {way : Way A} → ((w : World) → R w → P w) →
    ((a : A) (w : World) → Q a w → S a w) → ((w : World) → E w → F w) → Total P Q E way →
    Total R S F way
total-weaker before value left one = record {
  by = λ old holds.
      let x = one.by old (before old holds) in
      (x.0, x.1, x.2, weaker-ends value left x.0 x.1 x.3);
}

-- ---- single parts

pub total-give : {A : Type 0} {P : World → Type 0} {Q : A → World → Type 0} {E : World → Type 0}
    {a : A} → ((w : World) → P w → Q a w) → Total P Q E (give a)
total-give {a = a} kept = record { by = λ old holds. (Ok a, old, gives, kept old holds) }

pub total-end : {A : Type 0} {P : World → Type 0} {Q : A → World → Type 0} {E : World → Type 0}
    {halt : Halt} → ((w : World) → P w → E w) → Total P Q E (end_with {A = A} halt)
total-end {halt = halt} kept = record { by = λ old holds. (Err halt, old, halts, kept old holds) }

-- what follows a look at the world
look-by : {A : Type 0} {P : World → Type 0} {S : A → World → Type 0} {E : World → Type 0}
    {next : World → Way A} → ((x : World) → Total (λ w. (w ≡ x) × P w) S E (next x)) →
    (old : World) → P old →
    (end : Result A Halt) × (new : World) × Then Now next old end new × IfEnds S E end new
look-by more old holds =
    let rest = (more old).by old (refl, holds) in (rest.0, rest.1, follows now rest.2, rest.3)

pub total-look : {A : Type 0} {P : World → Type 0} {S : A → World → Type 0} {E : World → Type 0}
    {next : World → Way A} → ((x : World) → Total (λ w. (w ≡ x) × P w) S E (next x)) →
    Total P S E (Now >>= next)
total-look more = record { by = look-by more }

pub total-changes : {P : World → Type 0} {Q : (Unit {0}) → World → Type 0} {E : World → Type 0}
    {change : World → World} → ((w : World) → P w → Q tt (change w)) → Total P Q E (Changes change)
total-changes {change = change} kept = record {
  by = λ old holds. (Ok tt, change old, changes, kept old holds);
}

abbrev pub with_attempt : List Op → World → World
with_attempt ops world = record world { drive = (attempt ops world.drive).drive }

pub total-tries : {P : World → Type 0} {Q : Bool → World → Type 0} {E : World → Type 0}
    {ops : List Op} →
    ((w : World) → P w → Q (attempt ops w.drive).whole (with_attempt ops w)) →
    Total P Q E (Tries ops)
total-tries {ops = ops} kept = record {
  by = λ old holds.
      (Ok (attempt ops old.drive).whole, with_attempt ops old, tried, kept old holds);
}

pub total-unless : {P : World → Type 0} {Q : (Unit {0}) → World → Type 0} {E : World → Type 0}
    (kept : Bool) → ((w : World) → P w → Q tt w) → ((w : World) → P w → E w) →
    Total P Q E (unless_fault kept)
total-unless true good bad = total-give good
total-unless false good bad = total-end bad

-- operations that leave what holds as it is
pub total-steps : {P : World → Type 0} {E : World → Type 0} {ops : List Op} →
    ((w : World) → P w → P (with_attempt ops w)) → ((w : World) → P w → E w) →
    Total P (λ u. P) E (steps ops)
total-steps {P = P} kept ill =
    total-then {Q = λ b w. P w} (total-tries kept) (λ b.
    total-unless b (λ w holds. holds) ill)

pub total-event : {P : World → Type 0} {Q : (Unit {0}) → World → Type 0} {E : World → Type 0}
    {ino : ℕ} {e : Event} → ((w : World) → P w → may (core_in w ino) e ≡ true) →
    ((w : World) → P w → Q tt (with_core ino (after (core_in w ino) e) w)) →
    Total P Q E (event ino e)
total-event {ino = ino} {e = e} may_be kept = record {
  by = λ old holds. (
    Ok tt,
    with_core ino (after (core_in old ino) e) old,
    comes (may_be old holds),
    kept old holds,
  );
}

-- ---- cases

pub total-only : {P : World → Type 0} {E : World → Type 0} (test : Bool) →
    ((w : World) → P w → test ≡ true) → Total P (λ u. P) E (only_if test)
total-only true is = total-give (λ w holds. holds)
total-only false is = record { by = λ old holds. absurd (let wrong = is old holds in cc) }

pub total-when : {P : World → Type 0} {Q : (Unit {0}) → World → Type 0} {E : World → Type 0}
    (test : Bool) {way : Way (Unit {0})} → (test ≡ true → Total P Q E way) →
    (test ≡ false → (w : World) → P w → Q tt w) → Total P Q E (when test way)
total-when true one other = one refl
total-when false one other = total-give (other refl)

pub total-refuse : {P : World → Type 0} {E : World → Type 0} (test : Bool) (answer : Printed) →
    ((w : World) → P w → E w) →
    Total P (λ u w. (test ≡ false) × P w) E (refuse_if test answer)
total-refuse true answer ill = total-end ill
total-refuse false answer ill = total-give (λ w holds. (refl, holds))

pub total-known : {A : Type 0} {P : World → Type 0} {E : World → Type 0} (option : Option A)
    (answer : Printed) → ((w : World) → P w → E w) →
    Total P (λ a w. (option ≡ Some a) × P w) E (known option answer)
total-known None answer ill = total-end ill
total-known (Some a) answer ill = total-give (λ w holds. (refl, holds))

pub total-each : {A : Type 0} {P : World → Type 0} {E : World → Type 0} (items : List A)
    {way : A → Way (Unit {0})} → ((a : A) → Total P (λ u. P) E (way a)) →
    Total P (λ u. P) E (each items way)
total-each [] one = total-give (λ w holds. holds)
total-each (a ∷ rest) one = total-then (one a) (λ u. total-each rest one)

-- ---- after a fault

shrugs-by : {P : World → Type 0} {way : Way (Unit {0})} (old : World)
    (end : Result (Unit {0}) Halt) (new : World) → way old end new →
    IfEnds (λ u. P) P end new →
    (e : Result (Unit {0}) Halt) × (w : World) × Shrugs way old e w × IfEnds (λ u. P) P e w
shrugs-by old (Ok u) new way holds = (Ok tt, new, whole way, holds)
shrugs-by old (Err halt) new way holds = (Ok tt, new, shrugs way, holds)

pub total-shrugs : {P : World → Type 0} {way : Way (Unit {0})} → Total P (λ u. P) P way →
    Total P (λ u. P) P (Shrugs way)
total-shrugs one = record {
  by = λ old holds. let x = one.by old holds in shrugs-by old x.0 x.1 x.2 x.3;
}

-- ---- again and again

-- Behind a turn that is not the last a number is less than before it.
abbrev pub Falls : (World → ℕ) → (World → Type 0) → ℕ → Bool → World → Type 0
Falls measure P n more world = P world × (more ≡ true → measure world < n)

more-turns : {P : World → Type 0} {E : World → Type 0} {turn : Way Bool} (old mid : World) →
    turn old (Ok true) mid →
    (end : Result ℕ Halt) (new : World) → Repeats turn mid end new → IfEnds (λ k. P) E end new →
    (e : Result ℕ Halt) × (w : World) × Repeats turn old e w × IfEnds (λ k. P) E e w
more-turns old mid way (Ok n) new rest holds = (Ok (suc n), new, counts way rest, holds)
more-turns old mid way (Err halt) new rest holds = (Err halt, new, breaks_later way rest, holds)

turns-by : {P : World → Type 0} {E : World → Type 0} (measure : World → ℕ) {turn : Way Bool} →
    ((n : ℕ) → Total (λ w. P w × (measure w ≡ n)) (Falls measure P n) E turn) → (bound : ℕ)
    (old : World) → P old → measure old < bound →
    (end : Result ℕ Halt) × (new : World) × Repeats turn old end new × IfEnds (λ k. P) E end new
turns-by measure one zero old holds low = absurd (omega arith)
turns-by {P} {E} measure {turn} one (suc bound) old holds low =
    let x = (one (measure old)).by old (holds, refl) in
    on-end x.0 x.1 x.2 x.3 (λ mid kept less. turns-by measure one bound mid kept less)
  where
    on-end : (end : Result Bool Halt) (mid : World) → turn old end mid →
        IfEnds (Falls measure P (measure old)) E end mid →
        ((w : World) → P w → measure w < bound →
        (e : Result ℕ Halt) × (new : World) × Repeats turn w e new × IfEnds (λ k. P) E e new) →
        (e : Result ℕ Halt) × (new : World) × Repeats turn old e new × IfEnds (λ k. P) E e new
    on-end (Err halt) mid way ended again = (Err halt, mid, breaks way, ended)
    on-end (Ok false) mid way ended again = (Ok 0, mid, rests way, ended.0)
    on-end (Ok true) mid way ended again =
        let less = ended.1 refl in
        let more = again mid ended.0 (omega (arith, less, low)) in
        more-turns {P = P} {E = E} old mid way more.0 more.1 more.2 more.3

pub total-repeats : {P : World → Type 0} {E : World → Type 0} (measure : World → ℕ)
    {turn : Way Bool} →
    ((n : ℕ) → Total (λ w. P w × (measure w ≡ n)) (Falls measure P n) E turn) →
    Total P (λ k. P) E (Repeats turn)
total-repeats measure one = record {
  by = λ old holds. turns-by measure one (suc (measure old)) old holds (omega arith);
}
