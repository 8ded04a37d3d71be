-- Parts of lines that come to an end, whatever the line is.
use Rattle.std.proofs.Common.{◌≡◌, ℕ, Bool, Option, refl}
use Rattle.std.specs.Prelude.{Ok}
use Rattle.cfs_print.specs.declared.printed.Printed.{Printed}
use Rattle.cfs_meaning.specs.World.{Down, Failed, Phase, Up, World}
use Rattle.cfs_meaning.specs.Workers.{there}
use Rattle.cfs_meaning.specs.Play.{told, up, while_up}
use Rattle.cfs_meaning.specs.Ways.{Now, Way, known, now, refuse_if, ◌>>=◌}
use Rattle.cfs_meaning.proofs.Keeping.{AreUncrashed}
use Rattle.cfs_meaning.proofs.Total.{Total, total-end, total-give, total-known, total-look}
use Rattle.cfs_meaning.proofs.Total.{total-refuse, total-then, total-weaker}
use Rattle.cfs_meaning.proofs.TotalNames.{Ever, True}

abbrev pub Sound : World → Type 0
Sound world = AreUncrashed world.files

pub total-phase : {P : World → Type 0} (phase : Phase) {way : Way Printed} → Total P Ever True way →
    Total P Ever True (while_up phase way)
total-phase Up one = one
total-phase Down one = total-end (λ w holds. tt)
total-phase Failed one = total-end (λ w holds. tt)

pub total-up : {P : World → Type 0} {way : Way Printed} → Total P Ever True way →
    Total P Ever True (up way)
total-up {P = P} one =
    total-then {Q = Ever}
    (total-look (λ x. total-phase x.phase
    (total-weaker {P = P} (λ w holds. holds.1) (λ a w q. tt) (λ w e. tt) one)))
    (λ answer. total-give (λ w holds. tt))

pub total-told : {P : World → Type 0} {way : Way Printed} → Total P Ever True way →
    Total P Ever True (told way)
total-told one = total-then {Q = Ever} one (λ answer. total-give (λ w holds. tt))

-- what follows a look at what does not matter
pub total-any : {A : Type 0} {P : World → Type 0} {S : A → World → Type 0} {next : World → Way A} →
    ((x : World) → Total P S True (next x)) →
    Total P S True (Now >>= next)
total-any {P = P} more =
    total-look (λ x.
    total-weaker {P = P} (λ w holds. holds.1) (λ a w q. q) (λ w e. e) (more x))

-- a value that is looked up, and a test
pub any-known : {A : Type 0} {P : World → Type 0} (option : Option A) (answer : Printed) →
    Total P (λ a. P) True (known option answer)
any-known {P = P} option answer =
    total-weaker {P = P} {E = True} (λ w holds. holds) (λ a w q. q.1) (λ w e. e)
    (total-known option answer (λ w holds. tt))

pub any-refuse : {P : World → Type 0} (test : Bool) (answer : Printed) →
    Total P (λ u. P) True (refuse_if test answer)
any-refuse {P = P} test answer =
    total-weaker {P = P} {E = True} (λ w holds. holds) (λ u w q. q.1) (λ w e. e)
    (total-refuse test answer (λ w holds. tt))

pub total-there : {P : World → Type 0} (ino : ℕ) → Total P (λ u. P) True (there ino)
total-there ino = total-any (λ x. any-refuse _ _)

pub total-now : {P : World → Type 0} → Total P (λ x w. (w ≡ x) × P w) True Now
total-now = record { by = λ old holds. (Ok old, old, now, (refl, holds)) }
