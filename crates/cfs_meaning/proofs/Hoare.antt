-- What holds behind a part of a line, where something holds before it.
use Rattle.std.proofs.Common.{◌≡◌, ℕ, Bool, true, false, List, Option, Some, None, refl}
use Rattle.std.specs.Prelude.{Result, Ok, Err}
use Rattle.cfs_core.specs.declared.event.Event.{Event}
use Rattle.cfs_core.specs.May.{may}
use Rattle.cfs_core.specs.After.{after}
use Rattle.cfs_print.specs.declared.printed.Printed.{Printed}
use Rattle.cfs_meaning.specs.Drive.{Op, attempt}
use Rattle.cfs_meaning.specs.World.{World, core_in, with_core}
use Rattle.cfs_meaning.specs.Inode.{Comes, comes, event}
use Rattle.cfs_meaning.specs.Ways.{Changes, Ends, Gives, Halt, Now, Then, Tries, Way, changes}
use Rattle.cfs_meaning.specs.Ways.{end_with, ends, follows, give, gives, halts, known, now}
use Rattle.cfs_meaning.specs.Ways.{refuse_if, tried, unless_fault, ◌>>=◌}
use Rattle.cfs_meaning.proofs.Total.{IfEnds, weaker-ends, with_attempt}

-- Where P holds before the part, Q holds behind it of its value and the world, and E where it
-- ended the line.
pub record Leaves {A : Type 0} (P : World → Type 0) (Q : A → World → Type 0) (E : World → Type 0)
    (way : Way A) : Type 0 where
  pub by : (old : World) (end : Result A Halt) (new : World) → P old → way old end new →
      IfEnds Q E end new

-- ---- one after another

then-by : {A B : Type 0} {P : World → Type 0} {Q : A → World → Type 0} {S : B → World → Type 0}
    {E : World → Type 0} {first : Way A} {next : A → Way B} → Leaves P Q E first →
    ((a : A) → Leaves (Q a) S E (next a)) → (old : World) (end : Result B Halt) (new : World) →
    P old → Then first next old end new → IfEnds S E end new
then-by one more old end new holds (ends {halt = halt} way) = one.by old (Err halt) new holds way
then-by one more old end new holds (follows {mid = mid} {a = a} way rest) =
    (more a).by mid end new (one.by old (Ok a) mid holds way) rest

pub leave-then : {A B : Type 0} {P : World → Type 0} {Q : A → World → Type 0}
    {S : B → World → Type 0} {E : World → Type 0} {first : Way A} {next : A → Way B} →
    Leaves P Q E first → ((a : A) → Leaves (Q a) S E (next a)) → Leaves P S E (first >>= next)
leave-then one more = record { by = then-by one more }

-- ---- single parts

gives-by : {A : Type 0} {P : World → Type 0} (Q : A → World → Type 0) (E : World → Type 0) {a : A} →
    ((w : World) → P w → Q a w) → (old : World) (end : Result A Halt) (new : World) → P old →
    Gives a old end new → IfEnds Q E end new
gives-by Q E kept old end new holds gives = kept old holds

pub leave-give : {A : Type 0} {P : World → Type 0} {Q : A → World → Type 0} {E : World → Type 0}
    {a : A} → ((w : World) → P w → Q a w) → Leaves P Q E (give a)
leave-give {Q = Q} {E = E} kept = record { by = gives-by Q E kept }

ends-by : {A : Type 0} {P : World → Type 0} (Q : A → World → Type 0) (E : World → Type 0)
    {halt : Halt} → ((w : World) → P w → E w) → (old : World) (end : Result A Halt)
    (new : World) → P old → Ends halt old end new → IfEnds Q E end new
ends-by Q E kept old end new holds halts = kept old holds

pub leave-end : {A : Type 0} {P : World → Type 0} {Q : A → World → Type 0} {E : World → Type 0}
    {halt : Halt} → ((w : World) → P w → E w) → Leaves P Q E (end_with {A = A} halt)
leave-end {Q = Q} {E = E} kept = record { by = ends-by Q E kept }

look-by : {A : Type 0} {P : World → Type 0} {S : A → World → Type 0} {E : World → Type 0}
    {next : World → Way A} → ((x : World) → Leaves (λ w. (w ≡ x) × P w) S E (next x)) →
    (old : World) (end : Result A Halt) (new : World) → P old → Then Now next old end new →
    IfEnds S E end new
look-by more old end new holds (ends way) = elim way [ ]
look-by more old end new holds (follows now rest) = (more old).by old end new (refl, holds) rest

pub leave-look : {A : Type 0} {P : World → Type 0} {S : A → World → Type 0} {E : World → Type 0}
    {next : World → Way A} → ((x : World) → Leaves (λ w. (w ≡ x) × P w) S E (next x)) →
    Leaves P S E (Now >>= next)
leave-look more = record { by = look-by more }

changes-by : {P : World → Type 0} (Q : (Unit {0}) → World → Type 0) (E : World → Type 0)
    {change : World → World} → ((w : World) → P w → Q tt (change w)) → (old : World)
    (end : Result (Unit {0}) Halt) (new : World) → P old → Changes change old end new →
    IfEnds Q E end new
changes-by Q E kept old end new holds changes = kept old holds

pub leave-changes : {P : World → Type 0} {Q : (Unit {0}) → World → Type 0} {E : World → Type 0}
    {change : World → World} → ((w : World) → P w → Q tt (change w)) →
    Leaves P Q E (Changes change)
leave-changes {Q = Q} {E = E} kept = record { by = changes-by Q E kept }

tries-by : {P : World → Type 0} (Q : Bool → World → Type 0) (E : World → Type 0) {ops : List Op} →
    ((w : World) → P w → Q (attempt ops w.drive).whole (with_attempt ops w)) → (old : World)
    (end : Result Bool Halt) (new : World) → P old → Tries ops old end new → IfEnds Q E end new
tries-by Q E kept old end new holds tried = kept old holds

pub leave-tries : {P : World → Type 0} {Q : Bool → World → Type 0} {E : World → Type 0}
    {ops : List Op} →
    ((w : World) → P w → Q (attempt ops w.drive).whole (with_attempt ops w)) →
    Leaves P Q E (Tries ops)
leave-tries {Q = Q} {E = E} kept = record { by = tries-by Q E kept }

event-by : {P : World → Type 0} (Q : (Unit {0}) → World → Type 0) (E : World → Type 0) {ino : ℕ}
    {e : Event} → ((w : World) → P w → may (core_in w ino) e ≡ true →
    Q tt (with_core ino (after (core_in w ino) e) w)) → (old : World)
    (end : Result (Unit {0}) Halt) (new : World) → P old → Comes ino e old end new →
    IfEnds Q E end new
event-by Q E kept old end new holds (comes may_be) = kept old holds may_be

pub leave-event : {P : World → Type 0} {Q : (Unit {0}) → World → Type 0} {E : World → Type 0}
    {ino : ℕ} {e : Event} → ((w : World) → P w → may (core_in w ino) e ≡ true →
    Q tt (with_core ino (after (core_in w ino) e) w)) → Leaves P Q E (event ino e)
leave-event {Q = Q} {E = E} kept = record { by = event-by Q E kept }

-- ---- cases

pub leave-unless : {P : World → Type 0} {Q : (Unit {0}) → World → Type 0} {E : World → Type 0}
    (kept : Bool) → ((w : World) → P w → Q tt w) → ((w : World) → P w → E w) →
    Leaves P Q E (unless_fault kept)
leave-unless true good bad = leave-give good
leave-unless false good bad = leave-end bad

pub leave-refuse : {P : World → Type 0} {E : World → Type 0} (test : Bool) (answer : Printed) →
    ((w : World) → P w → E w) →
    Leaves P (λ u w. (test ≡ false) × P w) E (refuse_if test answer)
leave-refuse true answer ill = leave-end ill
leave-refuse false answer ill = leave-give (λ w holds. (refl, holds))

pub leave-known : {A : Type 0} {P : World → Type 0} {E : World → Type 0} (option : Option A)
    (answer : Printed) → ((w : World) → P w → E w) →
    Leaves P (λ a w. (option ≡ Some a) × P w) E (known option answer)
leave-known None answer ill = leave-end ill
leave-known (Some a) answer ill = leave-give (λ w holds. (refl, holds))

pub leave-weaker : {A : Type 0} {P R : World → Type 0} {Q S : A → World → Type 0}
    {E F : World → Type 0} {way : Way A} → ((w : World) → R w → P w) →
    ((a : A) (w : World) → Q a w → S a w) → ((w : World) → E w → F w) → Leaves P Q E way →
    Leaves R S F way
leave-weaker before value left one = record {
  by = λ old end new holds way.
      weaker-ends value left end new (one.by old end new (before old holds) way);
}
