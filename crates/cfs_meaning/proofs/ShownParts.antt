-- Parts of lines that keep a world shown by its devices.
use Rattle.std.proofs.Common.{◌≡◌, ℕ, ◌+◌, Bool, true, false, Option, Some, None, length, refl, sym}
use Rattle.std.proofs.Common.{subst}
use Rattle.std.proofs.Common.{if◌then◌else◌}
use Rattle.cfs_print.specs.declared.printed.Printed.{Printed}
use Rattle.cfs_file.specs.declared.entry.Entry.{Entry}
use Rattle.cfs_file.specs.declared.request.Request.{Request}
use Rattle.cfs_core.specs.declared.event.Event.TheVariants as events
use Rattle.cfs_medium.proofs.QuietEvents.{quiet-events-show}
use Rattle.cfs_medium.proofs.ReadEvents.{reads-may-come}
use Rattle.cfs_meaning.specs.World.{Descriptor, Down, Failed, Phase, Up, World, core_in, file_in}
use Rattle.cfs_meaning.specs.World.{with_descriptor, with_file}
use Rattle.cfs_meaning.specs.Inode.{admit_read, dispatch, with_passed}
use Rattle.cfs_meaning.specs.Files.{at_position, has_no_power, moved_by}
use Rattle.cfs_meaning.specs.Devices.{IsShown}
use Rattle.cfs_meaning.specs.Play.{told, up, while_up}
use Rattle.cfs_meaning.specs.Ways.{Now, Way, give, known, refuse_if, ◌>>=◌}
use Rattle.cfs_meaning.proofs.Hoare.{Leaves, leave-changes, leave-end, leave-event, leave-give}
use Rattle.cfs_meaning.proofs.Hoare.{leave-known, leave-look, leave-refuse, leave-then}
use Rattle.cfs_meaning.proofs.Hoare.{leave-weaker}
use Rattle.cfs_meaning.proofs.ShownFiles.{event-shown, file-shown, still-within}
use Rattle.cfs_meaning.proofs.ShownNeeds.{passed-equipped}

-- the part keeps a world shown, however it ends
abbrev pub Keeps : {A : Type 0} → Way A → Type 0
Keeps way = Leaves IsShown (λ a. IsShown) IsShown way

-- what follows a look at the world, where it does not matter
pub any-look : {A : Type 0} {next : World → Way A} → ((x : World) → Keeps (next x)) →
    Keeps (Now >>= next)
any-look more =
    leave-look (λ x.
    leave-weaker {P = IsShown} (λ w holds. holds.1) (λ a w q. q) (λ w e. e) (more x))

pub any-known : {A : Type 0} (option : Option A) (answer : Printed) →
    Keeps (known option answer)
any-known option answer =
    leave-weaker {P = IsShown} (λ w holds. holds) (λ a w q. q.1) (λ w e. e)
    (leave-known option answer (λ w holds. holds))

pub any-refuse : (test : Bool) (answer : Printed) →
    Keeps (refuse_if test answer)
any-refuse test answer =
    leave-weaker {P = IsShown} (λ w holds. holds) (λ a w q. q.1) (λ w e. e)
    (leave-refuse test answer (λ w holds. holds))

pub any-give : {A : Type 0} {a : A} → Keeps (give a)
any-give = leave-give (λ w holds. holds)

pub keep-phase : (phase : Phase) {way : Way Printed} → Keeps way → Keeps (while_up phase way)
keep-phase Up one = one
keep-phase Down one = leave-end (λ w holds. holds)
keep-phase Failed one = leave-end (λ w holds. holds)

pub keep-up : {way : Way Printed} → Keeps way → Keeps (up way)
keep-up one = leave-then (any-look (λ x. keep-phase x.phase one)) (λ answer. any-give)

pub keep-told : {way : Way Printed} → Keeps way → Keeps (told way)
keep-told one = leave-then one (λ answer. any-give)

-- ---- changes of neither devices nor files

pub same-shown : (old new : World) → new.drive ≡ old.drive → new.files ≡ old.files →
    new.names ≡ old.names → IsShown old → IsShown new
same-shown old new drive files names shown =
    subst (λ n. IsShown (record new { names = n })) (sym names)
    (subst (λ f. IsShown (record new { names = old.names; files = f })) (sym files)
    (subst (λ d. IsShown (record new { names = old.names; files = old.files; drive = d }))
    (sym drive) (record {
      files = shown.files;
      apart = shown.apart;
      placed = shown.placed;
      equipped = shown.equipped;
      numbers = shown.numbers;
      even = shown.even;
      tree = shown.tree;
    })))

-- ---- a job is given out

pub passed-shown : (ino place n : ℕ) (world : World) → IsShown world →
    IsShown (with_file (with_passed place n (file_in world ino)) world)
passed-shown ino place n world shown =
    file-shown world ino (with_passed place n (file_in world ino))
    (still-within (core_in world ino) (with_passed place n (file_in world ino)).passed
    (file_in world ino)) (λ old. old)
    (passed-equipped (file_in world ino) (with_passed place n (file_in world ino)).passed) shown

pub keep-dispatch : (ino place : ℕ) → Keeps (dispatch ino place)
keep-dispatch ino place =
    leave-then (leave-event (λ w shown may_be.
    event-shown w ino (events.Dispatch place) may_be refl
    (λ i core devices shows allowed.
    quiet-events-show i core (events.Dispatch place) devices shows refl allowed) shown)) (λ u.
    leave-changes (λ w shown. passed-shown ino place 0 w shown))

-- ---- a read comes

pub keep-read : (d : Descriptor) (c line : ℕ) (request : Request) →
    Keeps (admit_read d c line request)
keep-read d c line request =
    any-look (λ x.
    leave-then (leave-event (λ w shown may_be.
    event-shown w d.grant.ino (events.AdmitRead (entry x)) may_be refl
    (λ i core devices shows allowed. reads-may-come i core (entry x) devices shows allowed) shown))
    (λ u.
    leave-then (leave-changes (λ w shown. same-shown w _ refl refl refl shown)) (λ v. any-give)))
  where
    entry : World → Entry
    entry x = record {
      ino = d.grant.ino;
      place = length (core_in x d.grant.ino).log + 1;
      caller = c;
      line = line;
      request = request;
    }

-- ---- positions

pub moved-shown : (option : Option Descriptor) (c to : ℕ) (world : World) → IsShown world →
    IsShown (moved_by option c to world)
moved-shown None c to world shown = shown
moved-shown (Some d) c to world shown = unless-off (has_no_power world.drive)
  where
    unless-off : (off : Bool) →
        IsShown (if off then world else with_descriptor c (at_position to d) world)
    unless-off true = shown
    unless-off false = same-shown world _ refl refl refl shown
