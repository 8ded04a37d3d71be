-- Each part of a line has one end, and leaves one world.
use Rattle.std.proofs.Common.{◌≡◌, ◌∙◌, ℕ, suc, Bool, true, false, List, refl, sym, ap, subst}
use Rattle.std.specs.Prelude.{Result, Ok, Err}
use Rattle.cfs_meaning.specs.Drive.{Op}
use Rattle.cfs_meaning.specs.World.{World}
use Rattle.cfs_meaning.specs.Ways.{Changes, changes, Ends, Fault, Gives, Halt, Mends, Now, Repeats, Says, Shrugs, Then, Tries, Waits, Way, breaks, breaks_later, counts, ends, follows, gives, halts, mends, now, rests, says, shrugs, tried, waits, well, whole}
use Rattle.cfs_meaning.proofs.Keeping.{Any, Base}

-- one end and one world, and each value has R
pub record Single {A : Type 0} (R : A → Type 0) (way : Way A) : Type 0 where
  pub only : (old : World) (one other : Result A Halt) (new also : World) → way old one new →
      way old other also → (one ≡ other) × (new ≡ also)
  pub value : (old : World) (end : Result A Halt) (new : World) → way old end new → (a : A) →
      end ≡ Ok a → R a

-- ---- ends

-- the same end of what goes on
abbrev pub ended : {A B : Type 0} → Result A Halt → Result B Halt
ended (Ok a) = Err Fault
ended (Err halt) = Err halt

abbrev pub is_ended : {A : Type 0} → Result A Halt → Bool
is_ended (Ok a) = false
is_ended (Err halt) = true

clash : {C : Type 0} → true ≡ false → C
clash is = absurd (cc)

pub err-ok : {A C : Type 0} (halt : Halt) (a : A) → Err halt ≡ Ok a → C
err-ok halt a is = clash (ap is_ended is)

pub ok-err : {A C : Type 0} (a : A) (halt : Halt) → Ok a ≡ Err halt → C
ok-err a halt is = clash (sym (ap is_ended is))

abbrev value_or : {A : Type 0} → A → Result A Halt → A
value_or a (Ok b) = b
value_or a (Err halt) = a

-- ---- one after another

pub then-only : {A B : Type 0} {R : A → Type 0} {S : B → Type 0} {first : Way A}
    {next : A → Way B} →
    Single R first → ((a : A) → R a → Single S (next a)) →
    (old : World) (one other : Result B Halt) (new also : World) →
    Then first next old one new → Then first next old other also → (one ≡ other) × (new ≡ also)
then-only first more old one other new also (ends {halt = h} way) (ends {halt = k} way') =
    let same = first.only old (Err h) (Err k) new also way way' in (ap ended same.0, same.1)
then-only first more old one other new also (ends {halt = h} way)
    (follows {mid = mid} {a = a} way' rest) =
    let same = first.only old (Err h) (Ok a) new mid way way' in err-ok h a same.0
then-only first more old one other new also (follows {mid = mid} {a = a} way rest)
    (ends {halt = k} way') =
    let same = first.only old (Ok a) (Err k) mid also way way' in ok-err a k same.0
then-only {next = next} first more old one other new also (follows {mid = mid} {a = a} way rest)
    (follows {mid = mid'} {a = b} way' rest') =
    let same = first.only old (Ok a) (Ok b) mid mid' way way' in
    let value : a ≡ b = ap (value_or a) same.0 in
    let there : next a mid other also =
    subst (λ v. next v mid other also) (sym value)
    (subst (λ w. next b w other also) (sym same.1) rest') in
    (more a (first.value old (Ok a) mid way a refl)).only mid one other new also rest there

pub then-value : {A B : Type 0} {R : A → Type 0} {S : B → Type 0} {first : Way A}
    {next : A → Way B} →
    Single R first → ((a : A) → R a → Single S (next a)) →
    (old : World) (end : Result B Halt) (new : World) → Then first next old end new → (b : B) →
    end ≡ Ok b → S b
then-value first more old end new (ends {halt = h} way) b is = err-ok h b is
then-value first more old end new (follows {mid = mid} {a = a} way rest) b is =
    (more a (first.value old (Ok a) mid way a refl)).value mid end new rest b is

-- ---- single parts

pub gives-only : {A : Type 0} {a : A} (old : World) (one other : Result A Halt) (new also : World) →
    Gives a old one new → Gives a old other also → (one ≡ other) × (new ≡ also)
gives-only old one other new also gives gives = (refl, refl)

pub gives-value : {A : Type 0} (R : A → Type 0) {a : A} → R a → (old : World) (end : Result A Halt)
    (new : World) → Gives a old end new → (b : A) → end ≡ Ok b → R b
gives-value R {a = a} r old end new gives b is = subst R (ap (value_or a) is) r

pub ends-only : {A : Type 0} {halt : Halt} (old : World) (one other : Result A Halt)
    (new also : World) → Ends halt old one new → Ends halt old other also →
    (one ≡ other) × (new ≡ also)
ends-only old one other new also halts halts = (refl, refl)

pub ends-value : {A : Type 0} (R : A → Type 0) {halt : Halt} (old : World) (end : Result A Halt)
    (new : World) → Ends halt old end new → (b : A) → end ≡ Ok b → R b
ends-value R {halt = halt} old end new halts b is = err-ok halt b is

pub now-only : (old : World) (one other : Result World Halt) (new also : World) → Now old one new →
    Now old other also → (one ≡ other) × (new ≡ also)
now-only old one other new also now now = (refl, refl)

pub changes-only : {change : World → World} (old : World) (one other : Result (Unit {0}) Halt)
    (new also : World) → Changes change old one new → Changes change old other also →
    (one ≡ other) × (new ≡ also)
changes-only old one other new also changes changes = (refl, refl)

pub tries-only : {ops : List Op} (old : World) (one other : Result Bool Halt) (new also : World) →
    Tries ops old one new → Tries ops old other also → (one ≡ other) × (new ≡ also)
tries-only old one other new also tried tried = (refl, refl)

-- ---- again

abbrev one_more : Result ℕ Halt → Result ℕ Halt
one_more (Ok n) = Ok (suc n)
one_more (Err halt) = Err halt

abbrev pub turned : Bool → Result Bool Halt
turned b = Ok b

pub turn-clash : {C : Type 0} → turned true ≡ turned false → C
turn-clash is = clash (ap (value_or true) is)

pub repeats-only : {turn : Way Bool} → Single Any turn → (old : World) (one other : Result ℕ Halt)
    (new also : World) → Repeats turn old one new → Repeats turn old other also →
    (one ≡ other) × (new ≡ also)
repeats-only t old one other new also (breaks {halt = h} way) (breaks {halt = k} way') =
    let same = t.only old (Err h) (Err k) new also way way' in (ap ended same.0, same.1)
repeats-only t old one other new also (breaks {halt = h} way) (rests way') =
    err-ok h false (t.only old (Err h) (Ok false) new also way way').0
repeats-only t old one other new also (breaks {halt = h} way) (counts {mid = mid} way' more) =
    err-ok h true (t.only old (Err h) (Ok true) new mid way way').0
repeats-only t old one other new also (breaks {halt = h} way) (breaks_later {mid = mid} way' more) =
    err-ok h true (t.only old (Err h) (Ok true) new mid way way').0
repeats-only t old one other new also (rests way) (breaks {halt = k} way') =
    ok-err false k (t.only old (Ok false) (Err k) new also way way').0
repeats-only t old one other new also (rests way) (rests way') =
    (refl, (t.only old (Ok false) (Ok false) new also way way').1)
repeats-only t old one other new also (rests way) (counts {mid = mid} way' more) =
    turn-clash (sym (t.only old (Ok false) (Ok true) new mid way way').0)
repeats-only t old one other new also (rests way) (breaks_later {mid = mid} way' more) =
    turn-clash (sym (t.only old (Ok false) (Ok true) new mid way way').0)
repeats-only t old one other new also (counts {mid = mid} way more) (breaks {halt = k} way') =
    ok-err true k (t.only old (Ok true) (Err k) mid also way way').0
repeats-only t old one other new also (counts {mid = mid} way more) (rests way') =
    turn-clash (t.only old (Ok true) (Ok false) mid also way way').0
repeats-only {turn} t old one other new also (counts {mid = mid} {n = n} way more)
    (counts {mid = mid'} {n = m} way' more') =
    let same = (t.only old (Ok true) (Ok true) mid mid' way way').1 in
    let there : Repeats turn mid (Ok m) also =
    subst (λ w. Repeats turn w (Ok m) also) (sym same) more' in
    let rest = repeats-only t mid (Ok n) (Ok m) new also more there in (ap one_more rest.0, rest.1)
repeats-only {turn} t old one other new also (counts {mid = mid} {n = n} way more)
    (breaks_later {mid = mid'} {halt = k} way' more') =
    let same = (t.only old (Ok true) (Ok true) mid mid' way way').1 in
    let there : Repeats turn mid (Err k) also =
    subst (λ w. Repeats turn w (Err k) also) (sym same) more' in
    ok-err n k (repeats-only t mid (Ok n) (Err k) new also more there).0
repeats-only t old one other new also (breaks_later {mid = mid} way more) (breaks {halt = k} way') =
    ok-err true k (t.only old (Ok true) (Err k) mid also way way').0
repeats-only t old one other new also (breaks_later {mid = mid} way more) (rests way') =
    turn-clash (t.only old (Ok true) (Ok false) mid also way way').0
repeats-only {turn} t old one other new also (breaks_later {mid = mid} {halt = h} way more)
    (counts {mid = mid'} {n = m} way' more') =
    let same = (t.only old (Ok true) (Ok true) mid mid' way way').1 in
    let there : Repeats turn mid (Ok m) also =
    subst (λ w. Repeats turn w (Ok m) also) (sym same) more' in
    err-ok h m (repeats-only t mid (Err h) (Ok m) new also more there).0
repeats-only {turn} t old one other new also (breaks_later {mid = mid} {halt = h} way more)
    (breaks_later {mid = mid'} {halt = k} way' more') =
    let same = (t.only old (Ok true) (Ok true) mid mid' way way').1 in
    let there : Repeats turn mid (Err k) also =
    subst (λ w. Repeats turn w (Err k) also) (sym same) more' in
    repeats-only t mid (Err h) (Err k) new also more there

-- ---- after a fault

-- what a part with its mend comes to, by the part's end
abbrev Mended : {A : Type 0} → Way (Unit {0}) → Result A Halt → World → Result A Halt → World →
    Type 0
Mended mend (Ok a) mid end new = (end ≡ Ok a) × (new ≡ mid)
Mended mend (Err Fault) mid end new = (end ≡ Err Fault) × mend mid (Ok tt) new
Mended mend (Err (Waits place)) mid end new = (end ≡ Err (Waits place)) × (new ≡ mid)
Mended mend (Err (Says answer)) mid end new = (end ≡ Err (Says answer)) × (new ≡ mid)

record MendsSo {A : Type 0} (way : Way A) (mend : Way (Unit {0})) (old : World)
    (end : Result A Halt) (new : World) : Type 0 where
  first : Result A Halt
  mid : World
  goes : way old first mid
  mended : Mended mend first mid end new

mends-so : {A : Type 0} {way : Way A} {mend : Way (Unit {0})} (old : World) (end : Result A Halt)
    (new : World) → Mends way mend old end new → MendsSo way mend old end new
mends-so old end new (well {a = a} way) =
    record { first = Ok a; mid = new; goes = way; mended = (refl, refl) }
mends-so old end new (waits {place = place} way) =
    record { first = Err (Waits place); mid = new; goes = way; mended = (refl, refl) }
mends-so old end new (says {answer = answer} way) =
    record { first = Err (Says answer); mid = new; goes = way; mended = (refl, refl) }
mends-so old end new (mends {mid = mid} way after) =
    record { first = Err Fault; mid = mid; goes = way; mended = (refl, after) }

mended-only : {A : Type 0} {mend : Way (Unit {0})} → Single Any mend → (first : Result A Halt)
    (mid : World) (one other : Result A Halt) (new also : World) → Mended mend first mid one new →
    Mended mend first mid other also → (one ≡ other) × (new ≡ also)
mended-only m (Ok a) mid one other new also x y = (x.0 ∙ sym y.0, x.1 ∙ sym y.1)
mended-only m (Err Fault) mid one other new also x y =
    (x.0 ∙ sym y.0, (m.only mid (Ok tt) (Ok tt) new also x.1 y.1).1)
mended-only m (Err (Waits place)) mid one other new also x y = (x.0 ∙ sym y.0, x.1 ∙ sym y.1)
mended-only m (Err (Says answer)) mid one other new also x y = (x.0 ∙ sym y.0, x.1 ∙ sym y.1)

pub mends-only : {A : Type 0} {R : A → Type 0} {way : Way A} {mend : Way (Unit {0})} →
    Single R way →
    Single Any mend → (old : World) (one other : Result A Halt) (new also : World) →
    Mends way mend old one new → Mends way mend old other also → (one ≡ other) × (new ≡ also)
mends-only {mend = mend} w m old one other new also d e =
    let x = mends-so old one new d in
    let y = mends-so old other also e in
    let same = w.only old x.first y.first x.mid y.mid x.goes y.goes in
    let there : Mended mend x.first x.mid other also =
    subst (λ f. Mended mend f x.mid other also) (sym same.0)
    (subst (λ u. Mended mend y.first u other also) (sym same.1) y.mended) in
    mended-only m x.first x.mid one other new also x.mended there

mended-value : {A : Type 0} {R : A → Type 0} (mend : Way (Unit {0})) (first : Result A Halt)
    (mid : World) (end : Result A Halt) (new : World) → ((a : A) → first ≡ Ok a → R a) →
    Mended mend first mid end new → (b : A) → end ≡ Ok b → R b
mended-value mend (Ok a) mid end new value x b is = value b (sym x.0 ∙ is)
mended-value mend (Err Fault) mid end new value x b is = err-ok Fault b (sym x.0 ∙ is)
mended-value mend (Err (Waits place)) mid end new value x b is =
    err-ok (Waits place) b (sym x.0 ∙ is)
mended-value mend (Err (Says answer)) mid end new value x b is =
    err-ok (Says answer) b (sym x.0 ∙ is)

pub mends-value : {A : Type 0} {R : A → Type 0} {way : Way A} {mend : Way (Unit {0})} →
    Single R way →
    (old : World) (end : Result A Halt) (new : World) → Mends way mend old end new → (b : A) →
    end ≡ Ok b → R b
mends-value {mend = mend} w old end new d b is =
    let x = mends-so old end new d in
    mended-value mend x.first x.mid end new (w.value old x.first x.mid x.goes) x.mended b is

pub shrugs-only : {way : Way (Unit {0})} → Single Any way → (old : World)
    (one other : Result (Unit {0}) Halt) (new also : World) → Shrugs way old one new →
    Shrugs way old other also → (one ≡ other) × (new ≡ also)
shrugs-only w old one other new also (whole way) (whole way') =
    (refl, (w.only old (Ok tt) (Ok tt) new also way way').1)
shrugs-only w old one other new also (whole way) (shrugs {halt = k} way') =
    ok-err tt k (w.only old (Ok tt) (Err k) new also way way').0
shrugs-only w old one other new also (shrugs {halt = h} way) (whole way') =
    err-ok h tt (w.only old (Err h) (Ok tt) new also way way').0
shrugs-only w old one other new also (shrugs {halt = h} way) (shrugs {halt = k} way') =
    (refl, (w.only old (Err h) (Err k) new also way way').1)

-- ---- the law of ways

abbrev pub single_base : Base
single_base = record {
  Means = λ {A} R way. Single R way;
  MayBe = Any;
  MayEnd = Any;
  fault = λ may. tt;
  waits = λ place. tt;
  says = λ answer said. tt;
  follow = λ {A} {B} {R} {S} {first} {next} one more.
      record { only = then-only one more; value = then-value one more };
  giving = λ {A} {R} {a} r. record { only = gives-only; value = gives-value R r };
  ending = λ {A} {R} {halt} may. record { only = ends-only; value = ends-value R };
  nothing = λ {A} {R}. record {
    only = λ old one other new also way. absurd way;
    value = λ old end new way. absurd way;
  };
  looking = record { only = now-only; value = λ old end new way b is. tt };
  changing = λ {change} quiet.
      record { only = changes-only; value = λ old end new way b is. tt };
  trying = λ {ops}. record { only = tries-only; value = λ old end new way b is. tt };
  repeating = λ {turn} kept.
      record { only = repeats-only kept; value = λ old end new way b is. tt };
  mending = λ {A} {R} {way} {mend} one other.
      record { only = mends-only one other; value = mends-value one };
  shrugging = λ {way} kept.
      record { only = shrugs-only kept; value = λ old end new way b is. tt };
}
