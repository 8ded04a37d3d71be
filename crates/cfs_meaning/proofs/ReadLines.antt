-- Reads are right.
use Rattle.std.proofs.Common.{◌≡◌, ◌⊎◌, inl, inr, ℕ, ◌+◌, ◌-◌, ◌<◌, Bool, true, false, Option, Some, None, List, [], ◌∷◌, length, map, refl, sym, ap, ◌∙◌, subst, cond, arith, if◌then◌else◌}
use Rattle.std.specs.Prelude.{Result, Ok, Err, ◌==◌, ◌&&◌, find, unwrap_or, get_or}
use Rattle.std.proofs.lemmas.Bool.{cases_lt, eq-eqb, eqb-true}
use Rattle.std.proofs.lemmas.List.{get_or_past}
use Rattle.std.proofs.lemmas.Option.{slice_get-get_or}
use Rattle.cfs_file.specs.declared.entry.Entry.{Entry}
use Rattle.cfs_file.specs.declared.request.Request.TheVariants as requests
use Rattle.cfs_core.specs.declared.event.Event.TheVariants as events
use Rattle.cfs_core.specs.declared.inode_core.Core.{Core}
use Rattle.cfs_core.specs.declared.track.Track.{Track}
use Rattle.cfs_core.specs.Words.{blank, is_unserved, track}
use Rattle.cfs_core.specs.May.{case, is_in_phase, may}
use Rattle.cfs_core.specs.After.{after}
use Rattle.cfs_core_laws.specs.Reached.{IsReached}
use Rattle.cfs_core_laws.proofs.Doubts.{in-step}
use Rattle.cfs_core_laws.proofs.Whole.{whole}
use Rattle.cfs_core.proofs.Order.{first_of_and}
use Rattle.cfs_core.proofs.Goods.{good-kept}
use Rattle.cfs_file.specs.declared.request.Request.{Request}
use Rattle.cfs_core.specs.May.{is_sync_at}
use Rattle.cfs_print.specs.declared.printed.Printed.{Printed}
use Rattle.cfs_print.specs.declared.printed.Printed.TheVariants as answers
use Rattle.cfs_meaning.specs.World.{Descriptor, Down, Failed, File, Phase, Up, World, core_in, descriptor_in, file_in, new_file, replaces, with_core, with_descriptor}
use Rattle.cfs_meaning.specs.Inode.{comes, serve}
use Rattle.cfs_meaning.specs.Files.{Defers, at_position, defers, faults, has_no_power, length_at, move_by, moved_by, read_or_sync, say_served, serve_helped, serve_posted, serves}
use Rattle.cfs_script.specs.declared.form.Form.{Form}
use Rattle.cfs_script.specs.declared.form.Form.TheVariants as forms
use Rattle.cfs_print.specs.declared.out_line.OutLine.{OutLine}
use Rattle.cfs_meaning.specs.Play.{answer_of, does, printed, steps_so, up, while_up}
use Rattle.cfs_meaning.specs.Laws.{AreReached, IsReadAt, OfEachCore, ReadsAreRight, is_reading}
use Rattle.cfs_meaning.specs.Ways.{Fault, Halt, Says, Waits, Way, ends, follows, gives, mends, now, says, waits, well, ◌>>=◌}
use Rattle.cfs_meaning.proofs.Keeping.{Any, IsSaid, Keeps, keep-refuse, keep-repeats, keep-steps}
use Rattle.cfs_meaning.proofs.KeptInode.{kept-read}
use Rattle.cfs_meaning.proofs.KeptFiles.{kept-clear, kept-opened, kept-to-read}
use Rattle.cfs_meaning.proofs.KeptLines.{IsGivenIfAny, is_plain, kept-plain}
use Rattle.cfs_meaning.proofs.Kept.{Law}
use Rattle.cfs_meaning.proofs.Worlds.{EndsAs, NameLaw, WorldLaw, law_of, requests_of}
use Rattle.cfs_meaning.proofs.Quiet as quiet
use Rattle.cfs_meaning.proofs.Reached.{empty-reached, reached_law}

abbrev its_law : ℕ → Law
its_law line = law_of (reached_law line)

-- ---- of one core

either-blank : (test : Bool) (t : Track) → t ≡ blank → (if test then blank else t) ≡ blank
either-blank true t is = refl
either-blank false t is = is

not-blank : (t : Track) → is_unserved t.state ≡ true → t ≡ blank → ⊥
not-blank t is blank_is =
    let wrong : false ≡ true = sym (ap (λ (x : Track). is_unserved x.state) blank_is) ∙ is in
    absurd (cc)

-- a place that is unserved is one of the tracks
within : (tracks : List Track) (place : ℕ) → is_unserved (track tracks place).state ≡ true →
    place - 1 < length tracks
within tracks place is = elim (cases_lt (place - 1) (length tracks)) [
  | inl low ↦ low
  | inr past ↦ absurd (not-blank (track tracks place) is
      (either-blank (place == 0) _ (get_or_past tracks (place - 1) blank past)))
]

no_entry : Entry
no_entry = record { ino = 0; place = 0; caller = 0; line = 0; request = requests.Sync }

second_of_and : (a b : Bool) → (a && b) ≡ true → b ≡ true
second_of_and true b h = h
second_of_and false b h = absurd (cc)

may-be-unserved : (core : Core) (place : ℕ) (bytes : List ℕ) →
    may core (events.Serve place (Some bytes)) ≡ true →
    is_unserved (track core.tracks place).state ≡ true
may-be-unserved core place bytes may_be =
    first_of_and (is_unserved (track core.tracks place).state) _
    (second_of_and (is_in_phase core.crashed (events.Serve place (Some bytes)))
    (case core (events.Serve place (Some bytes))) may_be)

-- what may be served is right
served-right : (core : Core) (place : ℕ) (bytes : List ℕ) → IsReached core →
    may core (events.Serve place (Some bytes)) ≡ true →
    IsReadAt place bytes (after core (events.Serve place (Some bytes)))
served-right core place bytes reached may_be =
    let known = whole reached in
    let good = good-kept core known.kept in
    let same = (in-step core known.kept known.doubted).tracks in
    let open_now : is_unserved (track core.tracks place).state ≡ true =
    may-be-unserved core place bytes may_be in
    let low : place - 1 < length core.log =
    omega (arith, within core.tracks place open_now, same) in
    let here = slice_get-get_or core.log (place - 1) no_entry low in
    record {
      entry = get_or core.log (place - 1) no_entry;
      logged = here;
      right = good.served place bytes _ may_be here;
    }

-- ---- of the files

only-here : (Q : Core → Type 0) (ino : ℕ) (new g : File) (test : Bool) → (g.ino == new.ino) ≡ test →
    new.ino ≡ ino → (new.ended ≡ false → Q new.core) →
    quiet.Has (λ k core. k ≡ ino → Q core) (if test then new else g)
only-here Q ino new g true is own right = λ up same. right up
only-here Q ino new g false is own right = λ up same.
    let wrong : true ≡ false = sym (eq-eqb g.ino new.ino (same ∙ sym own)) ∙ is in absurd (cc)

-- where a file stands in place of each one with its inode number, what holds of its core holds of
-- each of that number
only-new : (Q : Core → Type 0) (ino : ℕ) (new : File) (files : List File) → new.ino ≡ ino →
    (new.ended ≡ false → Q new.core) →
    OfEachCore (λ k core. k ≡ ino → Q core) (map (replaces new) files)
only-new Q ino new [] own right = tt
only-new Q ino new (g ∷ files) own right =
    (only-here Q ino new g (g.ino == new.ino) refl own right, only-new Q ino new files own right)

-- the file that is looked up has the number, or it is none
IsFound : ℕ → File → File → Type 0
IsFound ino other f = (f.ino ≡ ino) ⊎ (f ≡ other)

pick : (ino : ℕ) (other f : File) (later : Option File) (test : Bool) → (f.ino == ino) ≡ test →
    IsFound ino other (unwrap_or later other) →
    IsFound ino other (unwrap_or (cond test (Some f) later) other)
unfolding IsFound
pick ino other f later true is rest = inl (eqb-true f.ino ino is)
pick ino other f later false is rest = rest

looked-up : (ino : ℕ) (files : List File) (other : File) →
    IsFound ino other (unwrap_or (find (λ (f : File). f.ino == ino) files) other)
unfolding IsFound
looked-up ino [] other = inr refl
looked-up ino (f ∷ files) other =
    pick ino other f (find (λ (g : File). g.ino == ino) files) (f.ino == ino) refl
    (looked-up ino files other)

-- a file of which a place may be served is there
found-own : (world : World) (ino place : ℕ) (bytes : List ℕ) →
    may (core_in world ino) (events.Serve place (Some bytes)) ≡ true →
    (file_in world ino).ino ≡ ino
unfolding IsFound
found-own world ino place bytes may_be = elim (looked-up ino world.files (new_file 0 0)) [
  | inl own ↦ own
  | inr none ↦ absurd (no-place (file_in world ino) none
      (within (core_in world ino).tracks place
      (may-be-unserved (core_in world ino) place bytes may_be)))
]
  where
    no-place : (f : File) → f ≡ new_file 0 0 → place - 1 < length f.core.tracks → ⊥
    no-place f is low =
        let none : length f.core.tracks ≡ 0 = ap (λ (g : File). length g.core.tracks) is in
        omega (arith, none, low)

-- ---- of the lines

-- what a part gives are the bytes of that place
abbrev IsRead : ℕ → ℕ → List ℕ → World → Type 0
IsRead ino place bytes world =
    OfEachCore (λ k core. k ≡ ino → IsReadAt place bytes core) world.files

abbrev IfRead : ℕ → ℕ → Result (List ℕ) Halt → World → Type 0
IfRead ino place (Ok bytes) world = IsRead ino place bytes world
IfRead ino place (Err halt) world = Unit {0}

event-right : (ino place : ℕ) (bytes : List ℕ) (here : World) → AreReached here →
    may (core_in here ino) (events.Serve place (Some bytes)) ≡ true →
    IsRead ino place bytes
    (with_core ino (after (core_in here ino) (events.Serve place (Some bytes))) here)
event-right ino place bytes here reached may_be =
    only-new (IsReadAt place bytes) ino _ here.files (found-own here ino place bytes may_be)
    (λ up. served-right (core_in here ino) place bytes
    (quiet.file-has (λ k core. IsReached core) here ino (λ k. empty-reached) reached up) may_be)

serve-right : (line ino place : ℕ) (old : World) (end : Result (List ℕ) Halt) (new : World) →
    AreReached old → serve ino place old end new → IfRead ino place end new
serve-right line ino place old end new reached (ends way) = tt
serve-right line ino place old end new reached (follows now (ends way)) = tt
serve-right line ino place old end new reached (follows now (follows stepped (ends way))) = tt
serve-right line ino place old end new reached
    (follows now (follows {mid = here} stepped (follows (comes may_be) gives))) =
    event-right ino place _ here
    ((keep-steps {base = (its_law line).base}).means.by old (Ok tt) here reached stepped).1 may_be

helped-right : (line ino place : ℕ) (old : World) (end : Result (List ℕ) Halt) (new : World) →
    AreReached old → serve_helped ino place old end new → IfRead ino place end new
helped-right line ino place old end new reached
    (well (follows {mid = mid} {end = done} cleared way)) =
    serve-right line ino place mid done new
    ((keep-repeats (kept-clear (its_law line) ino place)).means.by old _ mid reached cleared).1 way
helped-right line ino place old end new reached (waits way) = tt
helped-right line ino place old end new reached (says way) = tt
helped-right line ino place old end new reached (mends way mend) = tt

move-files : (c : ℕ) (d : Descriptor) (moves : Bool) (place : ℕ) (world : World) →
    (move_by c d moves place world).files ≡ world.files
move-files c d false place world = refl
move-files c d true place world = moved-files (descriptor_in world c d.fd)
  where
    unless-off : (off : Bool) (o : Descriptor) →
        (if off then world
        else with_descriptor c (at_position (d.position + length_at world d.grant.ino place) o)
        world).files ≡ world.files
    unless-off true o = refl
    unless-off false o = refl

    moved-files : (option : Option Descriptor) →
        (moved_by option c (d.position + length_at world d.grant.ino place) world).files
        ≡ world.files
    moved-files None = refl
    moved-files (Some o) = unless-off (has_no_power world.drive) o

defer-right : (line ino place : ℕ) (move : World → World) →
    ((world : World) → (move world).files ≡ world.files) →
    (old : World) (end : Result (List ℕ) Halt) (new : World) → AreReached old →
    Defers ino place (serve_helped ino place) move old end new → IfRead ino place end new
defer-right line ino place move same old end new reached (serves {new = mid} {bytes = bytes} way) =
    subst (OfEachCore (λ k core. k ≡ ino → IsReadAt place bytes core)) (sym (same mid))
    (helped-right line ino place old (Ok bytes) mid reached way)
defer-right line ino place move same old end new reached (defers way) = tt
defer-right line ino place move same old end new reached (faults way) = tt

-- ---- of what is printed

abbrev IfGot : Printed → World → Type 0
IfGot (answers.Got ino place bytes) world = IsRead ino place bytes world
IfGot other world = Unit {0}

abbrev IfGives : Result Printed Halt → World → Type 0
IfGives (Ok answer) world = IfGot answer world
IfGives (Err halt) world = Unit {0}

-- what the way gives is read right
IsRight : Way Printed → Type 0
IsRight way = (old : World) (end : Result Printed Halt) (new : World) → AreReached old →
    way old end new → IfGives end new

say-right : (ino place : ℕ) (bytes : List ℕ) (old : World) (end : Result Printed Halt)
    (new : World) → IsRead ino place bytes old → say_served ino place bytes old end new →
    IfGives end new
say-right ino place bytes old end new right (ends way) = tt
say-right ino place bytes old end new right (follows now gives) =
    either (is_sync_at (core_in old ino).log place)
  where
    either : (sync : Bool) → IfGot (if sync then answers.Placed ino place
        else answers.Got ino place bytes) old
    either true = tt
    either false = right

read-right : (line : ℕ) (d : Descriptor) (c : ℕ) (request : Request) (moves : Bool) →
    IsRight (read_or_sync d c line request moves)
unfolding IsRight
read-right line d c request moves old end new reached (ends way) = tt
read-right line d c request moves old end new reached (follows admitted (ends way)) = tt
read-right line d c request moves old end new reached
    (follows {mid = one} {a = place} admitted (follows {mid = two} {a = bytes} served said)) =
    say-right d.grant.ino place bytes two end new
    (defer-right line d.grant.ino place (move_by c d moves place) (move-files c d moves place)
    one (Ok bytes) two
    ((kept-read (its_law line) d c request).means.by old _ one reached admitted).1 served) said

posted-right : (line : ℕ) (d : Descriptor) (place : ℕ) → IsRight (serve_posted d place)
unfolding IsRight
posted-right line d place old end new reached (ends way) = tt
posted-right line d place old end new reached (follows now (ends way)) = tt
posted-right line d place old end new reached (follows now (follows refused (ends way))) = tt
posted-right line d place old end new reached
    (follows now (follows {mid = one} refused (follows {mid = two} {a = bytes} served said))) =
    say-right d.grant.ino place bytes two end new
    (helped-right line d.grant.ino place one (Ok bytes) two
    ((keep-refuse {base = (its_law line).base} _ _ tt).means.by old _ one reached refused).1 served)
    said

then-right : (line : ℕ) {A : Type 0} (first : Way A) (next : A → Way Printed) →
    Keeps (its_law line).base Any first → ((a : A) → IsRight (next a)) →
    IsRight (first >>= next)
unfolding IsRight
then-right line first next kept right old end new reached (ends way) = tt
then-right line first next kept right old end new reached (follows {mid = mid} {a = a} way rest) =
    right a mid end new (kept.means.by old _ mid reached way).1 rest

-- ---- of whole lines

abbrev IfPrints : Result (Option Printed) Halt → World → Type 0
IfPrints (Ok None) world = Unit {0}
IfPrints (Ok (Some answer)) world = IfGot answer world
IfPrints (Err halt) world = Unit {0}

while-right : (phase : Phase) (way : Way Printed) → phase ≡ Up → IsRight way →
    IsRight (while_up phase way)
while-right Up way is right = right
while-right Down way is right = absurd (cc)
while-right Failed way is right = absurd (cc)

up-right : (way : Way Printed) → IsRight way → (old : World) (end : Result (Option Printed) Halt)
    (new : World) → AreReached old → old.phase ≡ Up → up way old end new → IfPrints end new
unfolding IsRight
up-right way right old end new reached mounted (ends way_now) = tt
up-right way right old end new reached mounted
    (follows {mid = mid} {a = answer} (follows now rest) gives) =
    while-right old.phase way mounted right old (Ok answer) mid reached rest

form-right : (line : ℕ) (form : Form) → is_reading form ≡ true → (old : World)
    (end : Result (Option Printed) Halt) (new : World) → AreReached old → old.phase ≡ Up →
    does line form old end new → IfPrints end new
form-right line (forms.Read c fd n) reads =
    up-right _ (then-right line _ _ (kept-to-read (its_law line) c fd)
    (λ d. read-right line d c _ true))
form-right line (forms.Pread c fd offset n) reads =
    up-right _ (then-right line _ _ (kept-to-read (its_law line) c fd)
    (λ d. read-right line d c _ false))
form-right line (forms.Serve c fd place) reads =
    up-right _ (then-right line _ _ (kept-opened (its_law line) c fd)
    (λ d. posted-right line d place))
form-right line (forms.Fsync c fd) reads =
    up-right _ (then-right line _ _ (kept-opened (its_law line) c fd)
    (λ d. read-right line d c _ false))
form-right line form reads = absurd (cc)

reading-plain : (form : Form) → is_reading form ≡ true → is_plain form ≡ true
reading-plain (forms.Read c fd n) reads = refl
reading-plain (forms.Pread c fd offset n) reads = refl
reading-plain (forms.Serve c fd place) reads = refl
reading-plain (forms.Fsync c fd) reads = refl
reading-plain form reads = absurd (cc)

-- ---- of what a line prints

-- what a line says before its end is no bytes
abbrev IsSaidHalt : Halt → Type 0
IsSaidHalt (Says answer) = IsSaid answer
IsSaidHalt other = Unit {0}

abbrev said_law : ℕ → WorldLaw
said_law line = record {
  fact = record {
    Holds = Any;
    MayBe = Any;
    MayEnd = IsSaidHalt;
    tries = λ ops world holds. (tt, tt);
    quiet = λ old new q holds. tt;
    fault = λ may. tt;
    waits = λ place. tt;
    says = λ answer said. said;
  };
  line = line;
  comes = λ ino e world own may_be holds. tt;
}

said-names : (line : ℕ) → NameLaw (said_law line)
said-names line = record {
  asks = λ c request rec step world is holds. tt;
  opens = λ c change world holds. tt;
}

abbrev is_got : Printed → Bool
is_got (answers.Got ino place bytes) = true
is_got other = false

clash : {A : Type 0} → (true ≡ false) → A
clash is = absurd (cc)

halt-no-got : (ino place : ℕ) (bytes : List ℕ) (halt : Halt) → IsSaidHalt halt →
    answer_of halt ≡ answers.Got ino place bytes → ⊥
halt-no-got ino place bytes Fault said is = clash (sym (ap is_got is))
halt-no-got ino place bytes (Waits p) said is = clash (sym (ap is_got is))
halt-no-got ino place bytes (Says answer) said is = subst IsSaid is said

got-shown : (ino place : ℕ) (bytes : List ℕ) (world : World) (off : Bool) (answer : Printed) →
    (if off then answers.Stopped else answer) ≡ answers.Got ino place bytes →
    IfGot answer world → IsRead ino place bytes world
got-shown ino place bytes world true answer is got = clash (sym (ap is_got is))
got-shown ino place bytes world false answer is got =
    let shown : IfGot (answers.Got ino place bytes) world = subst (λ x. IfGot x world) is got in
    shown

halt-shown : (ino place : ℕ) (bytes : List ℕ) (off : Bool) (halt : Halt) → IsSaidHalt halt →
    (if off then answers.Stopped else answer_of halt) ≡ answers.Got ino place bytes → ⊥
halt-shown ino place bytes true halt said is = clash (sym (ap is_got is))
halt-shown ino place bytes false halt said is = halt-no-got ino place bytes halt said is

-- the answer of the first line
abbrev answer_in : List OutLine → Printed
answer_in [] = answers.Faulty
answer_in (out ∷ outs) = out.answer

printed-right : (number : ℕ) (world : World) (end : Result (Option Printed) Halt)
    (at ino place : ℕ) (bytes : List ℕ) → IfPrints end world →
    EndsAs (said_law number).fact IsGivenIfAny end →
    printed number world end
    ≡ record { number = at; answer = answers.Got ino place bytes } ∷ [] →
    IsRead ino place bytes world
printed-right number world (Ok None) at ino place bytes got ended is =
    clash (sym (ap (λ outs. is_got (answer_in outs)) is))
printed-right number world (Ok (Some answer)) at ino place bytes got ended is =
    got-shown ino place bytes world (has_no_power world.drive) answer (ap answer_in is) got
printed-right number world (Err halt) at ino place bytes got ended is =
    absurd (halt-shown ino place bytes (has_no_power world.drive) halt ended (ap answer_in is))

pub reads-right : ReadsAreRight
reads-right old new line out number ino place bytes mounted reached reads (steps_so end way) is =
    printed-right line.number new end number ino place bytes
    (form-right line.number line.form reads old end new reached mounted way)
    ((kept-plain (law_of (said_law line.number))
    (requests_of (said_law line.number) (said-names line.number)) line.form
    (reading-plain line.form reads)).means.by old end new tt way).0 is
