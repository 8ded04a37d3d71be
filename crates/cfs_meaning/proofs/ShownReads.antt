-- Lines that only read keep a world shown by its devices.
use Rattle.std.proofs.Common.{◌≡◌, ℕ, zero, suc, ◌+◌, ◌-◌, Bool, true, false, ◌&&◌, ◌||◌, Option}
use Rattle.std.proofs.Common.{Some, None, List, [], ◌∷◌, ◌++◌, length, map, get_or, refl, sym, ap}
use Rattle.std.proofs.Common.{◌∙◌, subst, inl, inr, if◌then◌else◌}
use Rattle.std.specs.Prelude.{Result, Ok, Err, ◌==◌, find, unwrap_or}
use Rattle.std.specs.List.{flat_map, list_any, range_with_len}
use Rattle.std.specs.Option.{option_to_list}
use Rattle.std.proofs.lemmas.Bool.{cases_lt}
use Rattle.std.proofs.lemmas.List.{get_or_past}
use Rattle.std.proofs.lemmas.List.Folds.{list_any-append}
use Rattle.cfs_file.specs.declared.entry.Entry.{Entry}
use Rattle.cfs_file.specs.declared.request.Request.{Request}
use Rattle.cfs_file.specs.Span.{meets}
use Rattle.cfs_core.specs.declared.event.Event.TheVariants as events
use Rattle.cfs_core.specs.declared.inode_core.Core.{Core}
use Rattle.cfs_core.specs.declared.state.State.{State}
use Rattle.cfs_core.specs.declared.track.Track.{Track}
use Rattle.cfs_core.specs.After.{after, query_track}
use Rattle.cfs_core.specs.May.{is_sync_at, span_now}
use Rattle.cfs_core.specs.Medium.{reads}
use Rattle.cfs_core.specs.Words.{blank, blocks_needed, has_block, is_live, positions, track}
use Rattle.cfs_core.proofs.Alive.{block_lives}
use Rattle.cfs_core.proofs.Apart.{any_none}
use Rattle.cfs_block.specs.BlockOps.{get_bytes}
use Rattle.cfs_medium.proofs.QuietEvents.{quiet-events-show}
use Rattle.cfs_medium.proofs.ReadEvents.{reads-may-come}
use Rattle.cfs_print.specs.declared.printed.Printed.{Printed}
use Rattle.cfs_meaning.specs.Drive.{Block, Op}
use Rattle.cfs_meaning.specs.World.{Descriptor, Down, Failed, File, Phase, Up, World, block_of}
use Rattle.cfs_meaning.specs.World.{core_in, descriptor_in, file_in, find_file, new_file, with_core}
use Rattle.cfs_meaning.specs.Inode.{Ready, admit_read, drop_read, first_of, holder, serve}
use Rattle.cfs_meaning.specs.Inode.{serve_verdict}
use Rattle.cfs_meaning.specs.Files.{Defers, clear_way, defers, faults, in_the_way, move_by, opened}
use Rattle.cfs_meaning.specs.Files.{opened_to_read, read_or_sync, say_served, serve_helped}
use Rattle.cfs_meaning.specs.Files.{serve_posted, serves}
use Rattle.cfs_meaning.specs.Devices.{IsShown, NothingLive}
use Rattle.cfs_meaning.specs.Play.{up, while_up}
use Rattle.cfs_meaning.specs.Ways.{Fault, Halt, Mends, Repeats, Says, Waits, Way, breaks}
use Rattle.cfs_meaning.specs.Ways.{breaks_later, counts, mends, rests, says, steps, waits, well}
use Rattle.cfs_meaning.specs.Ways.{◌>>=◌}
use Rattle.cfs_meaning.proofs.Hoare.{Leaves, leave-changes, leave-end, leave-event, leave-give}
use Rattle.cfs_meaning.proofs.Hoare.{leave-known, leave-look, leave-refuse, leave-then, leave-tries}
use Rattle.cfs_meaning.proofs.Hoare.{leave-unless, leave-weaker}
use Rattle.cfs_meaning.proofs.ShownFiles.{asked-shown, event-shown, files-map, none-replaced}
use Rattle.cfs_meaning.proofs.ShownJobs.{AreReads, IsAskedOf, reads-only}
use Rattle.cfs_meaning.proofs.ShownParts.{Keeps, any-give, any-look, moved-shown, same-shown}
use Rattle.cfs_meaning.proofs.Total.{IfEnds, with_attempt}
use Rattle.cfs_meaning.proofs.TotalTrims.{core-given}

-- ---- nothing is in the way

none-found : (test : ℕ → Bool) (a n : ℕ) → ((p : ℕ) → test p ≡ false) →
    find test (range_with_len a n) ≡ None
none-found test a zero none = refl
none-found test a (suc n) none =
    ap (λ b. if b then Some a else find test (range_with_len (a + 1) n)) (none a)
    ∙ none-found test (a + 1) n none

none-any : (test : ℕ → Bool) (xs : List ℕ) → ((k : ℕ) → test k ≡ false) → list_any test xs ≡ false
none-any test [] none = refl
none-any test (x ∷ xs) none =
    ap (λ b. b || list_any test xs) (none x) ∙ none-any test xs none

-- no track is live
place-dead : (core : Core) → NothingLive core → (place : ℕ) →
    is_live (track core.tracks place).state ≡ false
place-dead core dead place = by-test (place == 0)
  where
    by-test : (b : Bool) →
        is_live (if b then blank else get_or core.tracks (place - 1) blank).state ≡ false
    by-test true = refl
    by-test false = elim (cases_lt (place - 1) (length core.tracks)) [
      | inl low ↦ any_none (λ t. is_live t.state) core.tracks (place - 1) dead low
      | inr past ↦ ap (λ (t : Track). is_live t.state)
          (get_or_past core.tracks (place - 1) blank past)
    ]

no-block : (s : State) (k : ℕ) → is_live s ≡ false → has_block s k ≡ false
no-block s k dead = by-test (has_block s k) refl
  where
    by-test : (b : Bool) → has_block s k ≡ b → b ≡ false
    by-test true is =
        let wrong : true ≡ false = sym (block_lives s k is) ∙ dead in absurd (cc)
    by-test false is = refl

way-free : (core : Core) (place : ℕ) → NothingLive core → serve_verdict core place ≡ Ready
way-free core place dead =
    ap (λ o. first_of o (holder core (blocks_needed (track core.tracks place).span)))
    (none-found _ 1 (place - 1) (λ p.
    ap (λ b. b && (is_sync_at core.log place
    || meets (track core.tracks p).span (track core.tracks place).span)) (place-dead core dead p)))
    ∙ ap (first_of None)
    (none-found _ 1 (length core.tracks) (λ p.
    none-any (has_block (track core.tracks p).state) (blocks_needed (track core.tracks place).span)
    (λ k. no-block (track core.tracks p).state k (place-dead core dead p))))

-- ---- a read that comes

abbrev Reading : ℕ → World → Type 0
Reading ino world = IsShown world × NothingLive (core_in world ino)

read-dead : (core : Core) (entry : Entry) → NothingLive core →
    NothingLive (after core (events.AdmitRead entry))
read-dead core entry dead =
    list_any-append (λ t. is_live t.state) core.tracks
    (query_track (span_now core entry.request) ∷ []) ∙ ap (λ b. b || false) dead

-- the core that is looked up behind a change of the core is the new one, or no file is there
core-behind : (world : World) (ino : ℕ) (core : Core) (P : Core → Type 0) → IsShown world →
    P core → P (core_in world ino) → P (core_in (with_core ino core world) ino)
core-behind world ino core P shown new old = by-find (find_file world ino) refl
  where
    by-find : (o : Option File) → find_file world ino ≡ o →
        P (core_in (with_core ino core world) ino)
    by-find (Some f) is = subst P (sym (core-given world ino core f is)) new
    by-find None is =
        let number : (file_in world ino).ino ≡ 0 = ap (λ o. (unwrap_or o (new_file 0 0)).ino) is in
        subst (λ files. P (unwrap_or (find (λ (f : File). f.ino == ino) files) (new_file 0 0)).core)
        (sym (none-replaced (record (file_in world ino) { core = core }) world.files
        (files-map _ _ (λ f placed same. placed.number (same ∙ number)) world.files shown.placed)))
        old

abbrev entry_of : Descriptor → ℕ → ℕ → Request → World → Entry
entry_of d c line request x = record {
  ino = d.grant.ino;
  place = length (core_in x d.grant.ino).log + 1;
  caller = c;
  line = line;
  request = request;
}

admit-reading : (d : Descriptor) (c line : ℕ) (request : Request) →
    Leaves (Reading d.grant.ino) (λ place. Reading d.grant.ino) IsShown
    (admit_read d c line request)
admit-reading d c line request =
    leave-look (λ x.
    leave-then {Q = λ u. Reading d.grant.ino}
    (leave-event (λ w holds may_be. (
      event-shown w d.grant.ino (events.AdmitRead (entry_of d c line request x)) may_be
          refl
          (λ i core devices shows allowed.
          reads-may-come i core (entry_of d c line request x) devices shows allowed) holds.1.0,
      core-behind w d.grant.ino
          (after (core_in w d.grant.ino) (events.AdmitRead (entry_of d c line request x)))
          NothingLive holds.1.0
          (read-dead (core_in w d.grant.ino) (entry_of d c line request x) holds.1.1) holds.1.1,
    ))) (λ u.
    leave-then {Q = λ v. Reading d.grant.ino}
    (leave-changes (λ w holds. (same-shown w _ refl refl refl holds.0, holds.1))) (λ v.
    leave-give (λ w holds. holds))))

-- ---- a read that is served

clear-reading : (ino place : ℕ) →
    Leaves (Reading ino) (λ more w. (more ≡ false) × Reading ino w) IsShown (clear_way ino place)
clear-reading ino place =
    leave-look (λ x.
    record {
      by = λ old end new holds way. by-verdict x old end new holds
          (subst (λ v. in_the_way ino place v x old end new)
          (way-free (core_in x ino) place
          (subst (λ v. NothingLive (core_in v ino)) holds.0 holds.1.1))
          way);
    })
  where
    free : (x : World) →
        Leaves (λ w. (w ≡ x) × Reading ino w) (λ more w. (more ≡ false) × Reading ino w) IsShown
        (in_the_way ino place Ready x)
    free x = leave-give (λ w holds. (refl, holds.1))

    by-verdict : (x old : World) (end : Result Bool Halt) (new : World) →
        (old ≡ x) × Reading ino old → in_the_way ino place Ready x old end new →
        IfEnds (λ more w. (more ≡ false) × Reading ino w) IsShown end new
    by-verdict x old end new holds way = (free x).by old end new holds way

-- a turn that is the last one
repeats-by : {P E : World → Type 0} {turn : Way Bool} →
    Leaves P (λ more w. (more ≡ false) × P w) E turn → (old : World) (end : Result ℕ Halt)
    (new : World) → P old → Repeats turn old end new → IfEnds (λ n. P) E end new
repeats-by one old end new holds (breaks {halt = halt} way) = one.by old (Err halt) new holds way
repeats-by one old end new holds (rests way) = (one.by old (Ok false) new holds way).1
repeats-by one old end new holds (counts {mid = mid} way rest) =
    absurd (let wrong = (one.by old (Ok true) mid holds way).0 in cc)
repeats-by one old end new holds (breaks_later {mid = mid} way rest) =
    absurd (let wrong = (one.by old (Ok true) mid holds way).0 in cc)

block-reads : (f : File) (ks : List ℕ) →
    AreReads (flat_map (λ k. map (λ b. Block b get_bytes)
    (option_to_list (block_of f k))) ks)
block-reads f [] = tt
block-reads f (k ∷ ks) = by-block (block_of f k) (block-reads f ks)
  where
    rest : List Op
    rest = flat_map (λ j. map (λ b. Block b get_bytes)
        (option_to_list (block_of f j))) ks

    by-block : (o : Option ℕ) → AreReads rest →
        AreReads (map (λ b. Block b get_bytes) (option_to_list o)
        ++ rest)
    by-block None more = more
    by-block (Some b) more = (refl, more)

asked-of : (x w : World) → IsShown x → IsAskedOf x w → IsShown w
asked-of x w shown of = subst IsShown (sym of.1) (asked-shown x of.0 shown)

steps-asked : (x : World) (P : World → Type 0) (ops : List Op) → AreReads ops → ((w : World) → P w →
    IsShown w) →
    Leaves (λ w. (w ≡ x) × P w) (λ u. IsShown) IsShown (steps ops)
steps-asked x P ops reading shows =
    leave-then {Q = λ b. IsShown}
    (leave-tries (λ w holds.
    let only = reads-only ops reading w.drive in
    asked-of w (with_attempt ops w) (shows w holds.1)
    (only.0, ap (λ d. record w { drive = d }) only.1))) (λ b.
    leave-unless b (λ w shown. shown) (λ w shown. shown))

pub served-shown : (ino place : ℕ) →
    Leaves IsShown (λ bytes. IsShown) IsShown (serve ino place)
served-shown ino place =
    leave-look (λ x.
    leave-then {Q = λ u. IsShown}
    (steps-asked x IsShown _
    (block-reads (file_in x ino) (blocks_needed (track (core_in x ino).tracks place).span))
    (λ w shown. shown)) (λ u.
    leave-then {Q = λ v. IsShown}
    (leave-event (λ w shown may_be.
    event-shown w ino (events.Serve place (Some (its_bytes x))) may_be refl
    (λ i core devices shows allowed.
    quiet-events-show i core (events.Serve place (Some (its_bytes x))) devices shows refl allowed)
    shown)) (λ v. leave-give (λ w shown. shown))))
  where
    its_bytes : World → List ℕ
    its_bytes x = map (reads (core_in x ino))
        (positions (track (core_in x ino).tracks place).span)

pub dropped-shown : (ino place : ℕ) → Leaves IsShown (λ u. IsShown) IsShown (drop_read ino place)
dropped-shown ino place =
    leave-event (λ w shown may_be.
    event-shown w ino (events.Serve place None) may_be refl
    (λ i core devices shows allowed.
    quiet-events-show i core (events.Serve place None) devices shows refl allowed) shown)

mends-by : {P E : World → Type 0} {way : Way (List ℕ)} {mend : Way (Unit {0})} →
    Leaves P (λ bytes. E) E way → Leaves E (λ u. E) E mend → (old : World)
    (end : Result (List ℕ) Halt) (new : World) → P old → Mends way mend old end new →
    IfEnds (λ bytes. E) E end new
mends-by one other old end new holds (well {a = a} way) = one.by old (Ok a) new holds way
mends-by one other old end new holds (waits {place = place} way) =
    one.by old (Err (Waits place)) new holds way
mends-by one other old end new holds (says {answer = answer} way) =
    one.by old (Err (Says answer)) new holds way
mends-by one other old end new holds (mends {mid = mid} way mend) =
    other.by mid (Ok tt) new (one.by old (Err Fault) mid holds way) mend

helped-shown : (ino place : ℕ) →
    Leaves (Reading ino) (λ bytes. IsShown) IsShown (serve_helped ino place)
helped-shown ino place = record {
  by = mends-by
      (leave-then {Q = λ n. Reading ino}
      (record { by = repeats-by (clear-reading ino place) })
      (λ n.
      leave-weaker {P = IsShown} (λ w holds. holds.0) (λ a w q. q) (λ w e. e)
      (served-shown ino place)))
      (dropped-shown ino place);
}

-- ---- lines

pub defers-by : {P E : World → Type 0} {ino place : ℕ} {way : Way (List ℕ)} {move : World → World} →
    Leaves P (λ bytes. E) E way → ((w : World) → E w → E (move w)) → (old : World)
    (end : Result (List ℕ) Halt) (new : World) → P old → Defers ino place way move old end new →
    IfEnds (λ bytes. E) E end new
defers-by one moved old end new holds (serves {new = mid} {bytes = bytes} way) =
    moved mid (one.by old (Ok bytes) mid holds way)
defers-by one moved old end new holds (defers {new = mid} {q = q} way) =
    moved mid (one.by old (Err (Waits q)) mid holds way)
defers-by one moved old end new holds (faults way) = one.by old (Err Fault) new holds way

pub moves-shown : (c : ℕ) (d : Descriptor) (moves : Bool) (place : ℕ) (w : World) → IsShown w →
    IsShown (move_by c d moves place w)
moves-shown c d false place w shown = shown
moves-shown c d true place w shown = moved-shown (descriptor_in w c d.fd) c _ w shown

pub said-shown : (ino place : ℕ) (bytes : List ℕ) → Keeps (say_served ino place bytes)
said-shown ino place bytes = any-look (λ x. any-give)

pub read-shown : (d : Descriptor) (c line : ℕ) (request : Request) (moves : Bool) →
    Leaves (Reading d.grant.ino) (λ answer. IsShown) IsShown (read_or_sync d c line request moves)
read-shown d c line request moves =
    leave-then {Q = λ place. Reading d.grant.ino} (admit-reading d c line request) (λ place.
    leave-then {Q = λ bytes. IsShown}
    (record {
      by = defers-by (helped-shown d.grant.ino place) (moves-shown c d moves place);
    }) (λ bytes. said-shown d.grant.ino place bytes))

pub posted-shown : (d : Descriptor) (place : ℕ) →
    Leaves (Reading d.grant.ino) (λ answer. IsShown) IsShown (serve_posted d place)
posted-shown d place =
    leave-look (λ x.
    leave-then {Q = λ u. Reading d.grant.ino}
    (leave-weaker {P = Reading d.grant.ino} (λ w holds. holds.1) (λ u w q. q.1) (λ w e. e)
    (leave-refuse _ _ (λ w holds. holds.0))) (λ u.
    leave-then {Q = λ bytes. IsShown} (helped-shown d.grant.ino place) (λ bytes.
    said-shown d.grant.ino place bytes)))

-- what is open is read where nothing of its file is live
abbrev pub ReadsOpen : ℕ → ℕ → World → Type 0
ReadsOpen c fd world =
    IsShown world × ((d : Descriptor) → descriptor_in world c fd ≡ Some d →
    NothingLive (core_in world d.grant.ino))

open-reading : (c fd : ℕ) →
    Leaves (ReadsOpen c fd) (λ d. Reading d.grant.ino) IsShown (opened c fd)
open-reading c fd =
    leave-look (λ x.
    leave-weaker {P = λ w. (w ≡ x) × ReadsOpen c fd w} (λ w holds. holds)
    (λ d w q. (
      q.1.1.0,
      q.1.1.1 d
          (ap (λ (v : World). descriptor_in v c fd) q.1.0 ∙ q.0),
    )) (λ w e. e)
    (leave-known (descriptor_in x c fd) _ (λ w holds. holds.1.0)))

to-reading : (c fd : ℕ) →
    Leaves (ReadsOpen c fd) (λ d. Reading d.grant.ino) IsShown (opened_to_read c fd)
to-reading c fd =
    leave-then {Q = λ d. Reading d.grant.ino} (open-reading c fd) (λ d.
    leave-then {Q = λ u. Reading d.grant.ino}
    (leave-weaker {P = Reading d.grant.ino} (λ w holds. holds) (λ u w q. q.1) (λ w e. e)
    (leave-refuse _ _ (λ w holds. holds.0))) (λ u. leave-give (λ w holds. holds)))

up-reading : (c fd : ℕ) {way : Way Printed} →
    Leaves (ReadsOpen c fd) (λ answer. IsShown) IsShown way →
    Leaves (ReadsOpen c fd) (λ answer. IsShown) IsShown (up way)
up-reading c fd {way} one =
    leave-then {Q = λ answer. IsShown}
    (leave-look (λ x.
    leave-weaker {P = ReadsOpen c fd} (λ w holds. holds.1) (λ a w q. q) (λ w e. e)
    (by-phase x.phase))) (λ answer. any-give)
  where
    by-phase : (phase : Phase) →
        Leaves (ReadsOpen c fd) (λ answer. IsShown) IsShown (while_up phase way)
    by-phase Up = one
    by-phase Down = leave-end (λ w holds. holds.0)
    by-phase Failed = leave-end (λ w holds. holds.0)

pub read-line : (c fd line : ℕ) (request : Descriptor → Request) (moves : Bool) →
    Leaves (ReadsOpen c fd) (λ answer. IsShown) IsShown
    (up (opened_to_read c fd >>= (λ d. read_or_sync d c line (request d) moves)))
read-line c fd line request moves =
    up-reading c fd (leave-then {Q = λ d. Reading d.grant.ino} (to-reading c fd) (λ d.
    read-shown d c line (request d) moves))

pub sync-line : (c fd line : ℕ) (request : Request) →
    Leaves (ReadsOpen c fd) (λ answer. IsShown) IsShown
    (up (opened c fd >>= (λ d. read_or_sync d c line request false)))
sync-line c fd line request =
    up-reading c fd (leave-then {Q = λ d. Reading d.grant.ino} (open-reading c fd) (λ d.
    read-shown d c line request false))

pub serve-line : (c fd place : ℕ) →
    Leaves (ReadsOpen c fd) (λ answer. IsShown) IsShown
    (up (opened c fd >>= (λ d. serve_posted d place)))
serve-line c fd place =
    up-reading c fd (leave-then {Q = λ d. Reading d.grant.ino} (open-reading c fd) (λ d.
    posted-shown d place))
