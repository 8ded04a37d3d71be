-- What a line keeps: a law that holds of the world before each part of a line holds behind it, and
-- lets the part end only as it may.
use Rattle.std.proofs.Common.{◌≡◌, ℕ, Bool, true, false, List, [], ◌∷◌, length, Option, Some, None, refl}
use Rattle.cfs_core.specs.declared.inode_core.Core.{Core}
use Rattle.cfs_grants.specs.declared.grant.Grant.{Grant}
use Rattle.cfs_print.specs.declared.printed.Printed.{Printed}
use Rattle.cfs_print.specs.declared.printed.Printed.TheVariants as answers
use Rattle.cfs_meaning.specs.Drive.{Op}
use Rattle.cfs_meaning.specs.World.{File, World, empty_core}
use Rattle.cfs_meaning.specs.Laws.{OfEachCore}
use Rattle.cfs_meaning.specs.Granted.{OfEachOpen}
use Rattle.cfs_meaning.specs.Stock.{AreMappedOnce}
use Rattle.cfs_meaning.specs.Ways.{Changes, Fault, Halt, Mends, Now, Repeats, Says, Shrugs, Tries, Waits, Way, choose, each, end_with, give, known, never, only_if, refuse_if, say, steps, unless_fault, when, ◌>>=◌}

-- no core is one that a crash left
abbrev pub AreUncrashed : List File → Type 0
AreUncrashed [] = Unit {0}
AreUncrashed (f ∷ files) = (f.core.crashed ≡ false) × AreUncrashed files

-- A change that is no operation of a device, no event of a core and no request on names: a core
-- stays, or its file begins empty, and no descriptor is opened.
pub record IsQuiet (old new : World) : Type 1 where
  pub drive : new.drive ≡ old.drive
  pub phase : new.phase ≡ old.phase
  pub cores : (P : ℕ → Core → Type 0) → ((ino : ℕ) → P ino empty_core) →
      OfEachCore P old.files → OfEachCore P new.files
  pub base : new.names.base ≡ old.names.base
  pub log : new.names.log ≡ old.names.log
  pub order : new.names.now ≡ old.names.now
  pub queues : length new.queues ≡ length old.queues
  pub opened : (P : ℕ → ℕ → Grant → Type 0) → OfEachOpen P old.callers → OfEachOpen P new.callers
  pub uncrashed : AreUncrashed old.files → AreUncrashed new.files
  pub mapped : AreMappedOnce old → AreMappedOnce new

-- what a line may say before its end: no bytes, and nothing of faults and of the power
abbrev pub IsSaid : Printed → Type 0
IsSaid answers.Faulty = ⊥
IsSaid answers.Stopped = ⊥
IsSaid (answers.Got ino place bytes) = ⊥
IsSaid other = Unit {0}

-- whatever the value is
abbrev pub Any : {A : Type 0} → A → Type 0
Any a = Unit {0}

-- What is known of ways, and that each way of joining parts keeps to it; what a try of operations
-- may say, and how a part may end. `Means R way`: the way is so, and its value has R.
pub record Base : Type 1 where
  pub Means : {A : Type 0} → (A → Type 0) → Way A → Type 0
  pub MayBe : Bool → Type 0
  pub MayEnd : Halt → Type 0
  pub fault : MayBe false → MayEnd Fault
  pub waits : (place : ℕ) → MayEnd (Waits place)
  pub says : (answer : Printed) → IsSaid answer → MayEnd (Says answer)
  pub follow : {A B : Type 0} {R : A → Type 0} {S : B → Type 0} {first : Way A}
      {next : A → Way B} → Means R first → ((a : A) → R a → Means S (next a)) →
      Means S (first >>= next)
  pub giving : {A : Type 0} {R : A → Type 0} {a : A} → R a → Means R (give a)
  pub ending : {A : Type 0} {R : A → Type 0} {halt : Halt} → MayEnd halt →
      Means R (end_with {A = A} halt)
  pub nothing : {A : Type 0} {R : A → Type 0} → Means R (never {A = A})
  pub looking : Means Any Now
  pub changing : {change : World → World} → ((world : World) → IsQuiet world (change world)) →
      Means Any (Changes change)
  pub trying : {ops : List Op} → Means MayBe (Tries ops)
  pub repeating : {turn : Way Bool} → Means Any turn → Means Any (Repeats turn)
  pub mending : {A : Type 0} {R : A → Type 0} {way : Way A} {mend : Way (Unit {0})} →
      Means R way → Means Any mend → Means R (Mends way mend)
  pub shrugging : {way : Way (Unit {0})} → Means Any way → Means Any (Shrugs way)

-- the part is so, and its value has R
pub record Keeps (base : Base) {A : Type 0} (R : A → Type 0) (way : Way A) : Type 0 where
  pub means : base.Means R way

-- ---- one after another

pub keep-then : {base : Base} {A B : Type 0} {R : A → Type 0} {S : B → Type 0} {first : Way A}
    {next : A → Way B} → Keeps base R first → ((a : A) → R a → Keeps base S (next a)) →
    Keeps base S (first >>= next)
keep-then {base} one more = record { means = base.follow one.means (λ a r. (more a r).means) }

-- ---- single parts

pub keep-give : {base : Base} {A : Type 0} {R : A → Type 0} {a : A} → R a → Keeps base R (give a)
keep-give {base} r = record { means = base.giving r }

pub keep-end : {base : Base} {A : Type 0} {R : A → Type 0} {halt : Halt} → base.MayEnd halt →
    Keeps base R (end_with halt)
keep-end {base} may = record { means = base.ending may }

pub keep-say : {base : Base} {A : Type 0} {R : A → Type 0} {answer : Printed} → IsSaid answer →
    Keeps base R (say answer)
keep-say {base} {answer} given = keep-end (base.says answer given)

pub keep-never : {base : Base} {A : Type 0} {R : A → Type 0} → Keeps base R never
keep-never {base} = record { means = base.nothing }

pub keep-only : {base : Base} (test : Bool) → Keeps base Any (only_if test)
keep-only true = keep-give tt
keep-only false = keep-never

pub keep-now : {base : Base} → Keeps base Any Now
keep-now {base} = record { means = base.looking }

-- what follows a look at the world
pub keep-look : {base : Base} {A : Type 0} {S : A → Type 0} {next : World → Way A} →
    ((world : World) → Keeps base S (next world)) → Keeps base S (Now >>= next)
keep-look more = keep-then keep-now (λ world any. more world)

pub keep-changes : {base : Base} {change : World → World} →
    ((world : World) → IsQuiet world (change world)) → Keeps base Any (Changes change)
keep-changes {base} quiet = record { means = base.changing quiet }

pub keep-tries : {base : Base} {ops : List Op} → Keeps base base.MayBe (Tries ops)
keep-tries {base} = record { means = base.trying }

pub keep-unless : {base : Base} (kept : Bool) → base.MayBe kept → Keeps base Any (unless_fault kept)
keep-unless true may = keep-give tt
keep-unless {base} false may = keep-end (base.fault may)

pub keep-steps : {base : Base} {ops : List Op} → Keeps base Any (steps ops)
keep-steps = keep-then keep-tries keep-unless

-- ---- cases

pub keep-when : {base : Base} (test : Bool) {way : Way (Unit {0})} → Keeps base Any way →
    Keeps base Any (when test way)
keep-when true kept = kept
keep-when false kept = keep-give tt

pub keep-choose : {base : Base} {A : Type 0} {R : A → Type 0} (test : Bool) {one other : Way A} →
    Keeps base R one → Keeps base R other → Keeps base R (choose test one other)
keep-choose true one other = one
keep-choose false one other = other

pub keep-refuse : {base : Base} (test : Bool) (answer : Printed) → IsSaid answer →
    Keeps base Any (refuse_if test answer)
keep-refuse true answer given = keep-say given
keep-refuse false answer given = keep-give tt

pub keep-known : {base : Base} {A : Type 0} (option : Option A) (answer : Printed) →
    IsSaid answer → Keeps base (λ a. option ≡ Some a) (known option answer)
keep-known None answer given = keep-say given
keep-known (Some a) answer given = keep-give refl

pub keep-each : {base : Base} {A : Type 0} (items : List A) {way : A → Way (Unit {0})} →
    ((a : A) → Keeps base Any (way a)) → Keeps base Any (each items way)
keep-each [] kept = keep-give tt
keep-each (a ∷ rest) kept = keep-then (kept a) (λ u any. keep-each rest kept)

-- ---- again, and after a fault

pub keep-repeats : {base : Base} {turn : Way Bool} → Keeps base Any turn →
    Keeps base Any (Repeats turn)
keep-repeats {base} kept = record { means = base.repeating kept.means }

pub keep-mends : {base : Base} {A : Type 0} {R : A → Type 0} {way : Way A} {mend : Way (Unit {0})} →
    Keeps base R way → Keeps base Any mend → Keeps base R (Mends way mend)
keep-mends {base} one other = record { means = base.mending one.means other.means }

pub keep-shrugs : {base : Base} {way : Way (Unit {0})} → Keeps base Any way →
    Keeps base Any (Shrugs way)
keep-shrugs {base} kept = record { means = base.shrugging kept.means }
