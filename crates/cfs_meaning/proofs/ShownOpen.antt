-- What is done to a file's devices ends no core.
use Rattle.std.proofs.Common.{◌≡◌, ℕ, zero, suc, Bool, true, false, Option, Some, None, List, []}
use Rattle.std.proofs.Common.{◌∷◌, replicate, refl, ap, ◌∙◌}
use Rattle.std.specs.Prelude.{Result, Ok, Err, unwrap_or}
use Rattle.cfs_file.specs.declared.request.Request.{Request}
use Rattle.cfs_core.specs.declared.doubt.Doubt.{Doubt}
use Rattle.cfs_core.specs.declared.event.Event.{Event}
use Rattle.cfs_core.specs.declared.event.SizeEnd.{SizeEnd}
use Rattle.cfs_core.specs.declared.state.Lease.{Lease}
use Rattle.cfs_core.specs.After.{after}
use Rattle.cfs_meaning.specs.Drive.{Op}
use Rattle.cfs_meaning.specs.World.{Descriptor, File, World, core_in, file_in, find_file, new_file}
use Rattle.cfs_meaning.specs.World.{with_file}
use Rattle.cfs_meaning.specs.Devices.{NoneHasEnded}
use Rattle.cfs_meaning.specs.Inode.{admit_read, apply, back, back_unless, close_or_apply, come_back}
use Rattle.cfs_meaning.specs.Inode.{dispatch, drop_read, serve}
use Rattle.cfs_meaning.specs.Inode.{event, finish, finish_with, flush_block, next_step}
use Rattle.cfs_meaning.specs.Inode.{retire, set_size, settle, settle_doubt, skip, trim}
use Rattle.cfs_meaning.specs.Inode.{trim_at, try_to_close, with_passed, without_block, without_held}
use Rattle.cfs_meaning.specs.Inode.{write_block}
use Rattle.cfs_meaning.specs.Ways.{Changes, Fault, Halt, Mends, Now, Repeats, Says, Shrugs, Tries}
use Rattle.cfs_meaning.specs.Ways.{Waits, Way}
use Rattle.cfs_meaning.specs.Ways.{breaks, breaks_later, counts, each, end_with, give, mends}
use Rattle.cfs_meaning.specs.Ways.{rests, says, shrugs, steps, whole}
use Rattle.cfs_meaning.specs.Ways.{unless_fault, waits, well, when, ◌>>=◌}
use Rattle.cfs_meaning.proofs.Hoare.{Leaves, leave-changes, leave-end, leave-event, leave-give}
use Rattle.cfs_meaning.proofs.Hoare.{leave-look, leave-then, leave-tries, leave-unless}
use Rattle.cfs_meaning.proofs.Hoare.{leave-weaker}
use Rattle.cfs_meaning.proofs.ShownFiles.{each-replaced, found-in}
use Rattle.cfs_meaning.proofs.Total.{IfEnds}

-- ---- ways of joining parts

-- what is known of one end twice over
both-ends : {A : Type 0} (P Q : A → World → Type 0) (E F : World → Type 0) (end : Result A Halt)
    (new : World) → IfEnds P E end new → IfEnds Q F end new →
    IfEnds (λ a w. P a w × Q a w) (λ w. E w × F w) end new
both-ends P Q E F (Ok a) new one other = (one, other)
both-ends P Q E F (Err halt) new one other = (one, other)

pub leave-both : {A : Type 0} {P R : World → Type 0} {Q S : A → World → Type 0}
    {E F : World → Type 0} {way : Way A} → Leaves P Q E way → Leaves R S F way →
    Leaves (λ w. P w × R w) (λ a w. Q a w × S a w) (λ w. E w × F w) way
leave-both {Q = Q} {S = S} {E = E} {F = F} one other = record {
  by = λ old end new holds way.
      both-ends Q S E F end new (one.by old end new holds.0 way) (other.by old end new holds.1 way);
}

-- again and again
repeated : {P E : World → Type 0} {turn : Way Bool} → Leaves P (λ more. P) E turn → (old : World)
    (end : Result ℕ Halt) (new : World) → P old → Repeats turn old end new →
    IfEnds (λ n. P) E end new
repeated one old end new holds (breaks {halt = halt} way) = one.by old (Err halt) new holds way
repeated one old end new holds (rests way) = one.by old (Ok false) new holds way
repeated one old end new holds (counts {mid = mid} {n = n} way rest) =
    repeated one mid (Ok n) new (one.by old (Ok true) mid holds way) rest
repeated one old end new holds (breaks_later {mid = mid} {halt = halt} way rest) =
    repeated one mid (Err halt) new (one.by old (Ok true) mid holds way) rest

pub leave-repeats : {P E : World → Type 0} {turn : Way Bool} → Leaves P (λ more. P) E turn →
    Leaves P (λ n. P) E (Repeats turn)
leave-repeats one = record { by = repeated one }

mended : {A : Type 0} {P E F : World → Type 0} {Q : A → World → Type 0} {way : Way A}
    {mend : Way (Unit {0})} → Leaves P Q E way → Leaves E (λ u. F) F mend →
    ((w : World) → E w → F w) → (old : World) (end : Result A Halt) (new : World) → P old →
    Mends way mend old end new → IfEnds Q F end new
mended one other left old end new holds (well {a = a} way) = one.by old (Ok a) new holds way
mended one other left old end new holds (waits {place = place} way) =
    left new (one.by old (Err (Waits place)) new holds way)
mended one other left old end new holds (says {answer = answer} way) =
    left new (one.by old (Err (Says answer)) new holds way)
mended one other left old end new holds (mends {mid = mid} way mend) =
    other.by mid (Ok tt) new (one.by old (Err Fault) mid holds way) mend

pub leave-mends : {A : Type 0} {P E F : World → Type 0} {Q : A → World → Type 0} {way : Way A}
    {mend : Way (Unit {0})} → Leaves P Q E way → Leaves E (λ u. F) F mend →
    ((w : World) → E w → F w) → Leaves P Q F (Mends way mend)
leave-mends one other left = record { by = mended one other left }

-- so many times
pub leave-replicate : {A : Type 0} {P E : World → Type 0} (n : ℕ) (a : A)
    (way : A → Way (Unit {0})) → Leaves P (λ u. P) E (way a) →
    Leaves P (λ u. P) E (each (replicate n a) way)
leave-replicate zero a way one = leave-give (λ w holds. holds)
leave-replicate {P = P} (suc n) a way one =
    leave-then {Q = λ u. P} one (λ u. leave-replicate n a way one)

-- each of several
pub leave-each : {A : Type 0} {P E : World → Type 0} (items : List A) (way : A → Way (Unit {0})) →
    ((a : A) → Leaves P (λ u. P) E (way a)) → Leaves P (λ u. P) E (each items way)
leave-each [] way one = leave-give (λ w holds. holds)
leave-each {P = P} (a ∷ items) way one =
    leave-then {Q = λ u. P} (one a) (λ u. leave-each items way one)

-- tried once, however it ends
shrugged : {P : World → Type 0} (E : World → Type 0) {way : Way (Unit {0})} →
    Leaves P (λ u. P) P way → (old : World) (end : Result (Unit {0}) Halt) (new : World) → P old →
    Shrugs way old end new → IfEnds (λ u. P) E end new
shrugged E one old end new holds (whole way) = one.by old (Ok tt) new holds way
shrugged E one old end new holds (shrugs {halt = halt} way) = one.by old (Err halt) new holds way

pub leave-shrugs : {P E : World → Type 0} {way : Way (Unit {0})} → Leaves P (λ u. P) P way →
    Leaves P (λ u. P) E (Shrugs way)
leave-shrugs {E = E} one = record { by = shrugged E one }

-- ---- files that have not ended

pub open-file : (w : World) (ino : ℕ) → NoneHasEnded w → (file_in w ino).ended ≡ false
open-file w ino open_ = by-find (find_file w ino) refl
  where
    by-find : (o : Option File) → find_file w ino ≡ o →
        (unwrap_or (find_file w ino) (new_file 0 0)).ended ≡ false
    by-find None is = ap (λ o. (unwrap_or o (new_file 0 0)).ended) is
    by-find (Some f) is =
        ap (λ o. (unwrap_or o (new_file 0 0)).ended) is
        ∙ found-in (λ g. g.ended ≡ false) w ino f is open_

pub open-with : (w : World) (new : File) → new.ended ≡ false → NoneHasEnded w →
    NoneHasEnded (with_file new w)
open-with w new here open_ = each-replaced (λ g. g.ended ≡ false) new w.files here open_

-- the part ends none
abbrev pub Opens : {A : Type 0} → Way A → Type 0
Opens way = Leaves NoneHasEnded (λ a. NoneHasEnded) NoneHasEnded way

open-then : {A B : Type 0} {first : Way A} {next : A → Way B} → Opens first →
    ((a : A) → Opens (next a)) → Opens (first >>= next)
open-then one more = leave-then one more

open-look : {A : Type 0} {next : World → Way A} → ((x : World) → Opens (next x)) →
    Opens (Now >>= next)
open-look more =
    leave-look (λ x.
    leave-weaker {P = NoneHasEnded} (λ w holds. holds.1) (λ a w q. q) (λ w e. e) (more x))

open-tries : {ops : List Op} → Opens (Tries ops)
open-tries = leave-tries (λ w open_. open_)

open-unless : (kept : Bool) → Opens (unless_fault kept)
open-unless kept = leave-unless kept (λ w open_. open_) (λ w open_. open_)

open-steps : {ops : List Op} → Opens (steps ops)
open-steps = open-then open-tries open-unless

open-event : {ino : ℕ} {e : Event} → Opens (event ino e)
open-event {ino} {e} =
    leave-event (λ w open_ may_be.
    open-with w (record (file_in w ino) { core = after (core_in w ino) e }) (open-file w ino open_)
    open_)

open-give : {A : Type 0} {a : A} → Opens (give a)
open-give = leave-give (λ w open_. open_)

open-fault : {A : Type 0} {halt : Halt} → Opens (end_with {A = A} halt)
open-fault = leave-end (λ w open_. open_)

open-back : (ino gate : ℕ) → Opens (Changes (come_back ino gate))
open-back ino gate =
    leave-changes (λ w open_.
    open-with w (without_held gate (file_in w ino)) (open-file w ino open_) open_)

-- ---- parts

open-close : (ino gate : ℕ) → Opens (try_to_close ino gate)
open-close ino gate = open-look (λ w. open-tries)

pub open-skip : (ino place : ℕ) → Opens (skip ino place)
open-skip ino place =
    open-then (open-close ino place) (λ closed.
    open-then (open-unless closed) (λ u.
    open-then open-event (λ u. open-back ino place)))

open-doubt : (ino : ℕ) (doubt : Option Doubt) → Opens (settle_doubt ino doubt)
open-doubt ino None = open-give
open-doubt ino (Some doubt) =
    open-then (open-close ino doubt.entry.place) (λ closed.
    open-then (open-unless closed) (λ u.
    open-then open-event (λ u. open-back ino doubt.entry.place)))

pub open-settle : (ino : ℕ) → Opens (settle ino)
open-settle ino = open-look (λ w. open-doubt ino _)

pub open-dispatch : (ino place : ℕ) → Opens (dispatch ino place)
open-dispatch ino place =
    open-then open-event (λ u.
    leave-changes (λ w open_.
    open-with w (with_passed place 0 (file_in w ino)) (open-file w ino open_) open_))

open-write : (ino place k : ℕ) → Opens (write_block ino place k)
open-write ino place k =
    open-look (λ w.
    open-then open-steps (λ u.
    open-then open-tries (λ whole.
    open-look (λ behind.
    open-then open-event (λ u. open-unless whole)))))

open-flush : (ino place k : ℕ) → Opens (flush_block ino place k)
open-flush ino place k =
    open-look (λ w.
    open-then open-tries (λ kept.
    open-then open-event (λ u. open-unless kept)))

open-next : (ino place : ℕ) (one other : Option Lease) → Opens (next_step ino place one other)
open-next ino place (Some lease) other = open-write ino place lease.block
open-next ino place None (Some lease) = open-flush ino place lease.block
open-next ino place None None = open-give

pub open-apply : (ino place : ℕ) → Opens (apply ino place)
open-apply ino place = open-look (λ w. open-next ino place _ _)

pub open-put-back : (ino place : ℕ) (size : SizeEnd) → Opens (back ino place size)
open-put-back ino place size = open-look (λ w. open-event)

open-back-unless : (kept : Bool) (ino place : ℕ) (size : SizeEnd) →
    Opens (back_unless kept ino place size)
open-back-unless true ino place size = open-give
open-back-unless false ino place size =
    open-then (open-put-back ino place size) (λ u. open-fault)

open-size : (ino place rec size : ℕ) → Opens (set_size ino place rec size)
open-size ino place rec size =
    open-then open-tries (λ written.
    open-then (open-back-unless written ino place _) (λ u.
    open-then open-tries (λ kept. open-back-unless kept ino place _)))

open-end : (closed : Bool) (ino place : ℕ) → Opens (close_or_apply closed ino place)
open-end true ino place = open-then open-event (λ u. open-back ino place)
open-end false ino place = open-then open-event (λ u. open-fault)

open-when : (test : Bool) {way : Way (Unit {0})} → Opens way → Opens (when test way)
open-when true one = one
open-when false one = open-give

open-retire : (ino place : ℕ) → Opens (retire ino place)
open-retire ino place =
    open-look (λ w.
    open-then (open-when _ (open-size ino place _ _)) (λ u.
    open-then (open-close ino place) (λ closed. open-end closed ino place)))

open-finish-with : (more : Bool) (ino place : ℕ) → Opens (finish_with more ino place)
open-finish-with true ino place = open-then open-event (λ u. open-give)
open-finish-with false ino place = open-then (open-retire ino place) (λ u. open-give)

pub open-finish : (ino place : ℕ) → Opens (finish ino place)
open-finish ino place = open-look (λ w. open-finish-with _ ino place)

open-trim-at : (ino : ℕ) (k : Option ℕ) → Opens (trim_at ino k)
open-trim-at ino None = open-give
open-trim-at ino (Some k) =
    open-look (λ w.
    open-then open-tries (λ kept.
    open-then open-event (λ u.
    open-then (open-unless kept) (λ u.
    open-then (leave-changes (λ v open_.
    open-with v (without_block k (file_in v ino)) (open-file v ino open_) open_)) (λ u.
    open-give)))))

pub open-trim : (ino : ℕ) → Opens (trim ino)
open-trim ino = open-look (λ w. open-trim-at ino _)

-- ---- reads

pub open-read : (d : Descriptor) (c line : ℕ) (request : Request) →
    Opens (admit_read d c line request)
open-read d c line request =
    open-look (λ w.
    open-then open-event (λ u.
    open-then (leave-changes (λ v open_. open_)) (λ t. open-give)))

pub open-serve : (ino place : ℕ) → Opens (serve ino place)
open-serve ino place =
    open-look (λ w.
    open-then open-steps (λ u.
    open-then open-event (λ v. open-give)))

pub open-drop : (ino place : ℕ) → Opens (drop_read ino place)
open-drop ino place = open-event
