-- How a line is put together of parts that are done one after another, each of which may end the
-- line.
use Rattle.std.specs.Prelude.{ℕ, suc, Bool, true, false, List, [], ◌∷◌, Option, Some, None, Result}
use Rattle.std.specs.Prelude.{Ok, Err}
use Rattle.cfs_print.specs.declared.printed.Printed.{Printed}
pub use Rattle.cfs_meaning.specs.declared.halt.Halt.{Halt}
pub use Rattle.cfs_meaning.specs.declared.halt.Halt.TheVariants.{Fault, Waits, Says}
use Rattle.cfs_meaning.specs.Drive.{Op, attempt}
use Rattle.cfs_meaning.specs.World.{World}

-- A part of a line: from which world it comes to which, with a value for what follows, or with the
-- line's end.
abbrev pub Way : Type 0 → Type 1
Way A = World → Result A Halt → World → Type 0

-- first the one, and then, unless that ended the line, the other
pub data Then {A B : Type 0} (first : Way A) (next : A → Way B)
    : World → Result B Halt → World → Type 0 where
  ends : {old new : World} {halt : Halt} → first old (Err halt) new →
      Then first next old (Err halt) new
  follows : {old mid new : World} {a : A} {end : Result B Halt} → first old (Ok a) mid →
      next a mid end new → Then first next old end new

infixl 10 ◌>>=◌
abbrev pub ◌>>=◌ : {A B : Type 0} → Way A → (A → Way B) → Way B
first >>= next = Then first next

infixl 10 ◌>>◌
abbrev pub ◌>>◌ : {A B : Type 0} → Way A → Way B → Way B
first >> next = Then first (λ a. next)

-- ---- single parts

pub data Gives {A : Type 0} (a : A) : World → Result A Halt → World → Type 0 where
  gives : {world : World} → Gives a world (Ok a) world

abbrev pub give : {A : Type 0} → A → Way A
give a = Gives a

abbrev pub done : Way (Unit {0})
done = Gives tt

pub data Ends {A : Type 0} (halt : Halt) : World → Result A Halt → World → Type 0 where
  halts : {world : World} → Ends halt world (Err halt) world

abbrev pub end_with : {A : Type 0} → Halt → Way A
end_with halt = Ends halt

abbrev pub say : {A : Type 0} → Printed → Way A
say answer = Ends (Says answer)

-- what never comes
abbrev pub never : {A : Type 0} → Way A
never old end new = ⊥

abbrev pub only_if : Bool → Way (Unit {0})
only_if true = done
only_if false = never

-- the world as it stands
pub data Now : World → Result World Halt → World → Type 0 where
  now : {world : World} → Now world (Ok world) world

pub data Changes (change : World → World) : World → Result (Unit {0}) Halt → World → Type 0 where
  changes : {world : World} → Changes change world (Ok tt) (change world)

-- operations of devices; the value says whether all were done
pub data Tries (ops : List Op) : World → Result Bool Halt → World → Type 0 where
  tried : {world : World} → Tries ops world (Ok (attempt ops world.drive).whole)
      (record world { drive = (attempt ops world.drive).drive })

-- ends the line unless that holds
abbrev pub unless_fault : Bool → Way (Unit {0})
unless_fault true = done
unless_fault false = end_with Fault

-- operations of devices that end the line where one is refused
abbrev pub steps : List Op → Way (Unit {0})
steps ops = Tries ops >>= unless_fault

-- ---- cases

abbrev pub when : Bool → Way (Unit {0}) → Way (Unit {0})
when true way = way
when false way = done

-- the one or the other
abbrev pub choose : {A : Type 0} → Bool → Way A → Way A → Way A
choose true one other = one
choose false one other = other

-- the line has its answer where a test is met
abbrev pub refuse_if : Bool → Printed → Way (Unit {0})
refuse_if true answer = say answer
refuse_if false answer = done

-- the value that is there, or else the answer
abbrev pub known : {A : Type 0} → Option A → Printed → Way A
known None answer = say answer
known (Some a) answer = give a

-- the same for each item, in order
abbrev pub each : {A : Type 0} → List A → (A → Way (Unit {0})) → Way (Unit {0})
each [] way = done
each (a ∷ rest) way = way a >> each rest way

-- ---- again, and after a fault

-- Again and again, as long as the value is true; it counts how often.
pub data Repeats (turn : Way Bool) : World → Result ℕ Halt → World → Type 0 where
  breaks : {old new : World} {halt : Halt} → turn old (Err halt) new →
      Repeats turn old (Err halt) new
  rests : {old new : World} → turn old (Ok false) new → Repeats turn old (Ok 0) new
  counts : {old mid new : World} {n : ℕ} → turn old (Ok true) mid → Repeats turn mid (Ok n) new →
      Repeats turn old (Ok (suc n)) new
  breaks_later : {old mid new : World} {halt : Halt} → turn old (Ok true) mid →
      Repeats turn mid (Err halt) new → Repeats turn old (Err halt) new

-- a part, and after a fault in it another one
pub data Mends {A : Type 0} (way : Way A) (mend : Way (Unit {0}))
    : World → Result A Halt → World → Type 0 where
  well : {old new : World} {a : A} → way old (Ok a) new → Mends way mend old (Ok a) new
  waits : {old new : World} {place : ℕ} → way old (Err (Waits place)) new →
      Mends way mend old (Err (Waits place)) new
  says : {old new : World} {answer : Printed} → way old (Err (Says answer)) new →
      Mends way mend old (Err (Says answer)) new
  mends : {old mid new : World} → way old (Err Fault) mid → mend mid (Ok tt) new →
      Mends way mend old (Err Fault) new

-- a part that is tried once, however it ends
pub data Shrugs (way : Way (Unit {0})) : World → Result (Unit {0}) Halt → World → Type 0 where
  whole : {old new : World} → way old (Ok tt) new → Shrugs way old (Ok tt) new
  shrugs : {old new : World} {halt : Halt} → way old (Err halt) new → Shrugs way old (Ok tt) new
