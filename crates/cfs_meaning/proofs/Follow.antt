-- How a body follows the parts of a line: for each statement that went well, and for the one that
-- did not.
use Rattle.std.proofs.Common.{◌≡◌, Option, Some, None, sym, subst}
use Rattle.std.specs.Prelude.{Result, Ok, Err}
use Rattle.cfs_print.specs.declared.printed.Printed.{Printed}
use Rattle.cfs_meaning.specs.World.{World}
use Rattle.cfs_meaning.specs.Means.{Means}
use Rattle.cfs_meaning.specs.Ways.{Changes, Halt, Now, Says, Way, changes, end_with, ends, follows}
use Rattle.cfs_meaning.specs.Ways.{give, gives, halts, known, now, ◌>>=◌}

-- ---- one after another

pub means_ends : {A B Real : Type 0} {Shows : Real → World → Type 0} {old new : Real} {halt : Halt}
    {first : Way A} {next : A → Way B} → Means Shows old (Err halt) new first →
    Means Shows old (Err halt) new (first >>= next)
means_ends m = record {
  by = λ before shows. let x = m.by before shows in (x.0, ends x.1, x.2);
}

pub means_follows : {A B Real : Type 0} {Shows : Real → World → Type 0} {old mid new : Real}
    {a : A} {end : Result B Halt} {first : Way A} {next : A → Way B} →
    Means Shows old (Ok a) mid first → Means Shows mid end new (next a) →
    Means Shows old end new (first >>= next)
means_follows m n = record {
  by = λ before shows.
      let x = m.by before shows in
      let y = n.by x.0 x.2 in
      (y.0, follows x.1 y.1, y.2);
}

-- ---- single parts

pub means_gives : {A Real : Type 0} {Shows : Real → World → Type 0} {old : Real} {a : A} →
    Means Shows old (Ok a) old (give a)
means_gives = record { by = λ before shows. (before, gives, shows) }

pub means_halts : {A Real : Type 0} {Shows : Real → World → Type 0} {old : Real} {halt : Halt} →
    Means {A = A} Shows old (Err halt) old (end_with halt)
means_halts = record { by = λ before shows. (before, halts, shows) }

-- what is looked up in the world is x
pub means_looks : {A X Real : Type 0} {Shows : Real → World → Type 0} {old new : Real}
    {end : Result A Halt} (look : World → X) (next : X → Way A) (x : X) →
    ((w : World) → Shows old w → look w ≡ x) → Means Shows old end new (next x) →
    Means Shows old end new (Now >>= (λ w. next (look w)))
means_looks {end = end} look next x is m = record {
  by = λ before shows.
      let y = m.by before shows in (
        y.0,
        follows now (subst (λ v. next v before end y.0) (sym (is before shows)) y.1),
        y.2,
      );
}

pub means_changes : {Real : Type 0} {Shows : Real → World → Type 0} {old new : Real}
    {change : World → World} → ((w : World) → Shows old w → Shows new (change w)) →
    Means Shows old (Ok tt) new (Changes change)
means_changes kept = record {
  by = λ before shows. (_, changes, kept before shows);
}

-- ---- tests

pub means_known : {A Real : Type 0} {Shows : Real → World → Type 0} {old : Real}
    (answer : Printed) (option : Option A) (a : A) → option ≡ Some a →
    Means Shows old (Ok a) old (known option answer)
means_known {Shows = Shows} {old = old} answer option a is =
    subst (λ o. Means Shows old (Ok a) old (known o answer)) (sym is) means_gives

pub means_unknown : {A Real : Type 0} {Shows : Real → World → Type 0} {old : Real}
    {answer : Printed} (option : Option A) → option ≡ None →
    Means {A = A} Shows old (Err (Says answer)) old (known option answer)
means_unknown {A = A} {Shows = Shows} {old = old} {answer = answer} option is =
    subst (λ o. Means {A = A} Shows old (Err (Says answer)) old (known o answer)) (sym is)
    means_halts
