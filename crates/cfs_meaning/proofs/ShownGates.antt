-- A gate is closed, and its slots come back: that keeps a world shown by its devices.
use Rattle.std.proofs.Common.{◌≡◌, ◌≢◌, ◌⊎◌, ℕ, ◌+◌, ◌-◌, ◌<◌, ◌≤◌, Bool, true, false, not}
use Rattle.std.proofs.Common.{◌&&◌, ◌||◌}
use Rattle.std.proofs.Common.{Option, Some, None, List, [], ◌∷◌, length, map, filter, get_or}
use Rattle.std.proofs.Common.{set, inl, inr, refl, sym, ap, ◌∙◌, subst, cond, if◌then◌else◌, arith}
use Rattle.std.specs.Prelude.{Ok, Err, ◌==◌, find, unwrap_or}
use Rattle.std.proofs.Math.Path.{fun_ext}
use Rattle.std.proofs.lemmas.Bool.{and_parts, eq-eqb, eqb-false, eqb-true, ne_eqb}
use Rattle.std.proofs.lemmas.List.{get_or-set_same, length-set, set-set}
use Rattle.cfs_core.specs.declared.doubt.Doubt.{Doubt}
use Rattle.cfs_core.specs.declared.event.Event.TheVariants as events
use Rattle.cfs_core.specs.declared.flag.Flag.{Flag}
use Rattle.cfs_core.specs.declared.flag.Flag.TheVariants.{Off, On, Unsure}
use Rattle.cfs_core.specs.declared.inode_core.Core.{Core}
use Rattle.cfs_core.specs.declared.state.State.{State}
use Rattle.cfs_core.specs.declared.state.State.TheVariants.{Closed, Noop, Out, Unserved, Waiting}
use Rattle.cfs_core.specs.declared.track.Track.{Track}
use Rattle.cfs_core.specs.After.{after, retired, with_track}
use Rattle.cfs_core.specs.Good.{IsGood}
use Rattle.cfs_core.specs.May.{may}
use Rattle.cfs_core.specs.Words.{blank, can_be, is_live, is_noop, is_off, track}
use Rattle.cfs_core.proofs.Goods.{good-kept}
use Rattle.cfs_core.proofs.Kept.{IsKept}
use Rattle.cfs_core.proofs.Order.{is_query_state, is_query_track, some_place, track_is}
use Rattle.cfs_core_laws.specs.Reached.{IsReached}
use Rattle.cfs_core_laws.specs.Reached as reaching
use Rattle.cfs_core_laws.proofs.Whole.{whole}
use Rattle.cfs_pmem.specs.declared.trace.Asked.{Asked}
use Rattle.cfs_pmem.specs.declared.trace.Asked.TheVariants.{Step}
use Rattle.cfs_pmem.specs.Images.{Seen, WordStep, failed, kept, words_of, wrote}
use Rattle.cfs_pmem.specs.WordOps.{SetsWord, SettingStopped, persist, put}
use Rattle.cfs_pmem.proofs.AskLemmas.{asks_one}
use Rattle.cfs_pmem.proofs.WordLemmas.{set_at_persist, set_at_write, set_whole}
use Rattle.cfs_medium.specs.Shows.{Shows, doubted, holding, is_gated, logged_at}
use Rattle.cfs_medium.specs.SlotEvents.{Answer, IsBesideDoubt}
use Rattle.cfs_medium.specs.World as media
use Rattle.cfs_medium.specs.World.{head_words}
use Rattle.cfs_medium.specs.WorldCalls.{AreShut, with_slots}
use Rattle.cfs_medium.proofs.SizeSteps.{slots-come}
use Rattle.cfs_medium.proofs.SlotEvents.{holding-logged, settles-show, skips-show, track-here}
use Rattle.cfs_medium.proofs.SlotEvents.{within_place}
use Rattle.cfs_medium.proofs.SlotSteps.{gates-close}
use Rattle.cfs_meaning.specs.Drive.{Attempt, Drive, Word, attempt, is_allowed, made, noted, refused}
use Rattle.cfs_meaning.specs.Drive.{region_at}
use Rattle.cfs_meaning.specs.Steps.{gate_closed, slot, word_kept}
use Rattle.cfs_meaning.specs.World.{File, Held, World, core_in, devices_of, empty_core, file_in}
use Rattle.cfs_meaning.specs.World.{find_file, head_of, held_at, new_file, replaces, with_core}
use Rattle.cfs_meaning.specs.Devices.{IsEquipped, IsEvenRegion, IsFileShown, IsShown}
use Rattle.cfs_meaning.specs.Devices.{devices_of_file, needs_slots}
use Rattle.cfs_meaning.specs.Inode.{come_back, settle, settle_doubt, skip, try_to_close}
use Rattle.cfs_meaning.specs.Inode.{without_held}
use Rattle.cfs_meaning.specs.Ways.{unless_fault}
use Rattle.cfs_meaning.proofs.Hoare.{Leaves, leave-changes, leave-end, leave-event, leave-give}
use Rattle.cfs_meaning.proofs.Hoare.{leave-look, leave-then, leave-tries, leave-weaker}
use Rattle.cfs_meaning.proofs.Quiet.{file-has}
use Rattle.cfs_meaning.proofs.Reached.{empty-reached}
use Rattle.cfs_meaning.proofs.ShownFiles.{IsWithin, file-shown, found-in, itself-replaced}
use Rattle.cfs_meaning.proofs.ShownJobs.{AtWork}
use Rattle.cfs_meaning.proofs.ShownNeeds.{NeedsLess, less-after}
use Rattle.cfs_meaning.proofs.ShownParts.{same-shown}
use Rattle.cfs_meaning.proofs.ShownRegions.{HasHead, IsAsLong, has-head, head-shown, with_words}
use Rattle.cfs_meaning.proofs.Total.{with_attempt}
use Rattle.cfs_meaning.proofs.TotalTrims.{core-given}

-- ---- a word that is set and persisted

-- the region behind it, where both went well or one was refused
abbrev pub EndsSet : Bool → ℕ → ℕ → Seen WordStep → Seen WordStep → Type 0
EndsSet true at word old new = new ≡ kept (wrote at word old)
EndsSet false at word old new = SettingStopped at word old new

abbrev pub IsSetAt : ℕ → ℕ → ℕ → Drive → Attempt → Type 0
IsSetAt r at word drive it =
    (asked : List Asked) × (new : Seen WordStep) × (it.drive ≡ with_words r new asked drive)
    × EndsSet it.whole at word (region_at drive r) new

pub set-at : (r at word : ℕ) (drive : Drive) → r < length drive.regions →
    IsSetAt r at word drive (attempt (word_kept r at word) drive)
unfolding attempt
set-at r at word drive low = by-first (is_allowed (Word r (put at word)) drive)
  where
    old : Seen WordStep
    old = region_at drive r

    first : Drive
    first = made (Word r (put at word)) (noted (Word r (put at word)) true drive)

    again : (new : Seen WordStep → Seen WordStep) →
        set (set drive.regions r (wrote at word old)) r (new (region_at first r))
        ≡ set drive.regions r (new (wrote at word old))
    again new =
        ap (λ (s : Seen WordStep). set (set drive.regions r (wrote at word old)) r (new s))
        (get_or-set_same drive.regions r (wrote at word old) _ low)
        ∙ set-set drive.regions r (wrote at word old) (new (wrote at word old))

    by-second : (allowed : Bool) → IsSetAt r at word drive
        (if allowed then record {
          whole = true;
          drive = made (Word r persist) (noted (Word r persist) true first);
        }
        else record {
          whole = false;
          drive = refused (Word r persist) (noted (Word r persist) false first);
        })
    by-second true = (
      (noted (Word r persist) true first).asked,
      kept (wrote at word old),
      ap (λ (regions : List (Seen WordStep)). record drive {
        asked = (noted (Word r persist) true first).asked;
        regions = regions;
      }) (again (λ s. kept s)),
      refl,
    )
    by-second false = (
      (noted (Word r persist) false first).asked,
      failed (wrote at word old),
      ap (λ (regions : List (Seen WordStep)). record drive {
        asked = (noted (Word r persist) false first).asked;
        regions = regions;
      }) (again (λ s. failed s)),
      inr refl,
    )

    by-first : (allowed : Bool) → IsSetAt r at word drive
        (if allowed then (if is_allowed (Word r persist) first then record {
          whole = true;
          drive = made (Word r persist) (noted (Word r persist) true first);
        }
        else record {
          whole = false;
          drive = refused (Word r persist) (noted (Word r persist) false first);
        })
        else record {
          whole = false;
          drive = refused (Word r (put at word)) (noted (Word r (put at word)) false drive);
        })
    by-first true = by-second (is_allowed (Word r persist) first)
    by-first false =
        ((noted (Word r (put at word)) false drive).asked, failed old, refl, inl refl)

abbrev pub answer_of : Bool → Answer
answer_of true = Ok tt
answer_of false = Err tt

-- the same as a call says it
abbrev pub Sets : Bool → ℕ → ℕ → Seen WordStep → Seen WordStep → Type 0
Sets ok at word old new =
    (asked : List Asked) × SetsWord true at word (answer_of ok) [] old asked new

pub sets : (ok : Bool) (at word : ℕ) (old new : Seen WordStep) → at < length (words_of old) →
    EndsSet ok at word old new → Sets ok at word old new
sets true at word old new low is = (
  Step old.device true true ∷ Step old.device true true ∷ [],
  set_whole {T = Unit {0}} {E = Unit {0}} {asked_mid = Step old.device true true ∷ []}
      {mid = wrote at word old} tt low refl (asks_one refl) (λ o. refl) is (asks_one refl)
      (λ o. refl),
)
sets false at word old new low (inl is) = (
  Step old.device true false ∷ [],
  set_at_write {T = Unit {0}} {E = Unit {0}} tt refl low is (asks_one refl) (λ o. refl),
)
sets false at word old new low (inr is) = (
  Step old.device true false ∷ Step old.device true true ∷ [],
  set_at_persist {T = Unit {0}} {E = Unit {0}} {asked_mid = Step old.device true true ∷ []}
      {mid = wrote at word old} tt refl low refl (asks_one refl) (λ o. refl) is (asks_one refl)
      (λ o. refl),
)

pub ends-long : (ok : Bool) (at word : ℕ) (old new : Seen WordStep) → EndsSet ok at word old new →
    IsEvenRegion old → IsAsLong old new
ends-long true at word old new is even =
    subst (IsAsLong old) (sym is)
    (record { even = refl; long = length-set (words_of old) at word })
ends-long false at word old new (inl is) even =
    subst (IsAsLong old) (sym is) (record { even = even; long = refl })
ends-long false at word old new (inr is) even =
    subst (IsAsLong old) (sym is)
    (record {
      even = even ∙ sym (length-set (words_of old) at word);
      long = length-set (words_of old) at word;
    })

-- ---- a file in a world

-- a file is there whose core is not an empty one
pub found-by : (world : World) (ino : ℕ) (P : Core → Type 0) → P (core_in world ino) →
    (P empty_core → ⊥) → (f : File) × (find_file world ino ≡ Some f)
found-by world ino P holds never = by-find (find_file world ino) refl
  where
    by-find : (o : Option File) → find_file world ino ≡ o →
        (f : File) × (find_file world ino ≡ Some f)
    by-find (Some f) is = (f, is)
    by-find None is =
        absurd (never (subst (λ o. P (unwrap_or o (new_file 0 0)).core) is holds))

-- a world where a file's core is put in its own place
pub own-core : (world : World) (ino : ℕ) (drive : Drive) (f : File) →
    find_file world ino ≡ Some f → IsShown world →
    IsShown (record (with_core ino (core_in world ino) world) { drive = drive }) →
    IsShown (record world { drive = drive })
own-core world ino drive f found shown new =
    subst (λ files. IsShown (record world { drive = drive; files = files }))
    (itself-replaced ino world.files (file_in world ino) shown.numbers
    (found ∙ ap (λ g. Some g) (sym (ap (λ o. unwrap_or o (new_file 0 0)) found)))) new

pub shows-of : (world : World) (ino : ℕ) (f : File) → find_file world ino ≡ Some f →
    AtWork ino world →
    Shows (file_in world ino).ino (core_in world ino)
    (devices_of_file world.drive (file_in world ino))
shows-of world ino f found work =
    subst (λ (g : File). g.ended ≡ false → Shows g.ino g.core (devices_of_file world.drive g))
    (sym (ap (λ o. unwrap_or o (new_file 0 0)) found))
    (found-in (IsFileShown world.drive) world ino f found work.shown.files) work.goes_on

pub equipped-of : (world : World) (ino : ℕ) (f : File) → find_file world ino ≡ Some f →
    AtWork ino world → IsEquipped (file_in world ino)
equipped-of world ino f found work =
    subst (λ (g : File). g.ended ≡ false → IsEquipped g)
    (sym (ap (λ o. unwrap_or o (new_file 0 0)) found))
    (found-in (λ g. g.ended ≡ false → IsEquipped g) world ino f found work.shown.equipped)
    work.goes_on

pub reached-of : (world : World) (ino : ℕ) → AtWork ino world → IsReached (core_in world ino)
reached-of world ino work =
    file-has (λ i core. IsReached core) world ino (λ i. empty-reached) work.reached work.goes_on

-- ---- slots that come back

-- the number is that of no request that needs slots
pub record IsGone (core : Core) (gate : ℕ) : Type 0 where
  pub closed : (holding core core.doubt gate).gate ≡ Off
  pub needless : (k : ℕ) → k + 1 ≡ gate → needs_slots (get_or core.tracks k blank) ≡ false
  pub beside : IsBesideDoubt core gate

pub off-shut : (flag : Flag) (open_ : Bool) → flag ≡ Off → can_be flag open_ ≡ true → open_ ≡ false
off-shut Off true is can = absurd (cc)
off-shut Off false is can = refl
off-shut On open_ is can = absurd (cc)
off-shut Unsure open_ is can = absurd (cc)

gone-shut : (i gate : ℕ) (core : Core) (world : media.World) → Shows i core world →
    (holding core core.doubt gate).gate ≡ Off → AreShut (world.slots gate)
gone-shut i gate core world shows off slots images =
    off-shut (holding core core.doubt gate).gate (is_gated (head_words slots)) off
    (shows.slots gate slots images).gate

none-shut : AreShut []
none-shut [] images = refl
none-shut (words ∷ slots) images = absurd images

-- ---- items by their numbers

-- those with other numbers
pub find-kept : {A : Type 0} (key : A → ℕ) (gone at : ℕ) → at ≢ gone → (items : List A) →
    find (λ x. key x == at) (filter (λ x. not (key x == gone)) items)
    ≡ find (λ x. key x == at) items
find-kept key gone at apart [] = refl
find-kept {A} key gone at apart (x ∷ items) =
    by-test (key x == gone) refl (find-kept key gone at apart items)
  where
    rest : List A
    rest = filter (λ y. not (key y == gone)) items

    by-test : (b : Bool) → (key x == gone) ≡ b →
        find (λ y. key y == at) rest ≡ find (λ y. key y == at) items →
        find (λ y. key y == at) (cond (not b) (x ∷ rest) rest)
        ≡ cond (key x == at) (Some x) (find (λ y. key y == at) items)
    by-test true is later =
        later
        ∙ ap (λ b. cond b (Some x) (find (λ y. key y == at) items))
        (sym (ne_eqb (key x) at (λ same. apart (sym same ∙ eqb-true (key x) gone is))))
    by-test false is later = ap (λ o. cond (key x == at) (Some x) o) later

pub find-gone : {A : Type 0} (key : A → ℕ) (gone : ℕ) (items : List A) →
    find (λ x. key x == gone) (filter (λ x. not (key x == gone)) items) ≡ None
find-gone key gone [] = refl
find-gone {A} key gone (x ∷ items) = by-test (key x == gone) refl (find-gone key gone items)
  where
    rest : List A
    rest = filter (λ y. not (key y == gone)) items

    by-test : (b : Bool) → (key x == gone) ≡ b → find (λ y. key y == gone) rest ≡ None →
        find (λ y. key y == gone) (cond (not b) (x ∷ rest) rest) ≡ None
    by-test true is later = later
    by-test false is later =
        ap (λ b. cond b (Some x) (find (λ y. key y == gone) rest)) is ∙ later

-- what is held for other numbers
held-kept : (f : File) (gate at : ℕ) → at ≢ gate → held_at (without_held gate f) at ≡ held_at f at
held-kept f gate at apart =
    ap (λ o. unwrap_or o (record { gate = 0; queue = 0; slots = [] }))
    (find-kept (λ (h : Held). h.gate) gate at apart f.held)

held-gone : (f : File) (gate : ℕ) → (held_at (without_held gate f) gate).slots ≡ []
held-gone f gate =
    ap (λ o. (unwrap_or {T = Held} o (record { gate = 0; queue = 0; slots = [] })).slots)
    (find-gone (λ (h : Held). h.gate) gate f.held)

none-held : (h : Held) → h.slots ≡ [] → devices_of h ≡ []
none-held h none = ap (map (slot h.queue)) none

without-devices : (drive : Drive) (f : File) (gate : ℕ) →
    devices_of_file drive (without_held gate f) ≡ with_slots gate [] (devices_of_file drive f)
without-devices drive f gate =
    ap (λ (g : ℕ → List (Seen WordStep)). record (devices_of_file drive f) { slots = g })
    (fun_ext (λ at. by-test at (at == gate) refl))
  where
    by-test : (at : ℕ) (t : Bool) → (at == gate) ≡ t →
        map (region_at drive) (devices_of (held_at (without_held gate f) at))
        ≡ (if t then [] else map (region_at drive) (devices_of (held_at f at)))
    by-test at true is =
        ap (λ n. map (region_at drive) (devices_of (held_at (without_held gate f) n)))
        (eqb-true at gate is)
        ∙ ap (map (region_at drive))
        (none-held (held_at (without_held gate f) gate) (held-gone f gate))
    by-test at false is =
        ap (λ (h : Held). map (region_at drive) (devices_of h))
        (held-kept f gate at (eqb-false at gate is))

-- what is known of the core whose slots come back
pub record IsComing (world : World) (ino gate : ℕ) : Type 0 where
  pub shown : IsShown world
  pub good : IsGood (core_in world ino)
  pub gone : IsGone (core_in world ino) gate

pub back-shown : (world : World) (ino gate : ℕ) → IsComing world ino gate →
    IsShown (come_back ino gate world)
back-shown world ino gate coming =
    same-shown changed (come_back ino gate world) refl refl refl
    (file-shown world ino (without_held gate old) within shows equips coming.shown)
  where
    old : File
    old = file_in world ino

    changed : World
    changed = record world { files = map (replaces (without_held gate old)) world.files }

    held-within : (at : ℕ) (t : Bool) → (at == gate) ≡ t →
        (held_at (without_held gate old) at ≡ held_at old at)
        ⊎ ((held_at (without_held gate old) at).slots ≡ [])
    held-within at true is =
        inr (ap (λ n. (held_at (without_held gate old) n).slots) (eqb-true at gate is)
        ∙ held-gone old gate)
    held-within at false is = inl (held-kept old gate at (eqb-false at gate is))

    within : IsWithin (without_held gate old) old
    within = record {
      ino = refl;
      rec = refl;
      held = λ at. held-within at (at == gate) refl;
      blocks = λ k. inl refl;
    }

    shows : IsFileShown world.drive old → IsFileShown world.drive (without_held gate old)
    shows before up =
        let here = before up in
        let shut = gone-shut old.ino gate old.core (devices_of_file world.drive old) here
        coming.gone.closed in
        subst (Shows old.ino old.core) (sym (without-devices world.drive old gate))
        (slots-come old.ino (length old.core.log + 2) gate old.core
        (devices_of_file world.drive old) [] [] here shut none-shut coming.good (omega arith)
        (ap (λ flag. can_be flag false) coming.gone.closed)).1

    still : (at : ℕ) → at ≢ gate → 0 < length (held_at old at).slots →
        0 < length (held_at (without_held gate old) at).slots
    still at apart some =
        subst (λ (h : Held). 0 < length h.slots) (sym (held-kept old gate at apart)) some

    equips : (old.ended ≡ false → IsEquipped old) → old.ended ≡ false →
        IsEquipped (without_held gate old)
    equips before ended =
        let has = before ended in
        record {
          up = has.up;
          slots = λ k needs. still (k + 1)
              (λ same. (let wrong : true ≡ false = sym needs ∙ coming.gone.needless k same in
              absurd (cc))) (has.slots k needs);
          doubt = λ d is. still d.entry.place (coming.gone.beside d is) (has.doubt d is);
          blocks = has.blocks;
        }

-- ---- a gate is closed

-- the world behind the steps that close the gate of a request
abbrev pub IsClosing : World → ℕ → ℕ → Bool → World → Type 0
IsClosing x ino gate ok w =
    (has : HasHead x ino gate) × (asked : List Asked) × (new : Seen WordStep)
    × (w ≡ record x { drive = with_words has.r new asked x.drive })
    × EndsSet ok 0 0 (region_at x.drive has.r) new

closing : (w : World) (ino gate : ℕ) (has : HasHead w ino gate) (number : ℕ) → number ≡ has.r →
    IsClosing w ino gate (attempt (gate_closed number) w.drive).whole
    (with_attempt (gate_closed number) w)
closing w ino gate has number is =
    subst (λ n. IsClosing w ino gate (attempt (gate_closed n) w.drive).whole
    (with_attempt (gate_closed n) w)) (sym is)
    (let one = set-at has.r 0 0 w.drive has.head.word.within in
    (has, one.0, one.1, ap (λ d. record w { drive = d }) one.2, one.3))

-- where P holds before, it held of the world that the gate was closed in
pub leave-close : (P : World → Type 0) (E : World → Type 0) (ino gate : ℕ) →
    ((w : World) → P w → HasHead w ino gate) →
    Leaves P (λ ok w. (x : World) × P x × IsClosing x ino gate ok w) E (try_to_close ino gate)
leave-close P E ino gate heads =
    leave-look (λ x.
    leave-tries (λ w holds.
    let has = heads w holds.1 in (
      w,
      holds.1,
      closing w ino gate has (head_of (held_at (file_in x ino) gate))
          (ap (λ v. head_of (held_at (file_in v ino) gate)) (sym holds.0) ∙ has.number),
    )))

-- the slots of the request, by their head
pub here-is : (x : World) (ino gate : ℕ) (has : HasHead x ino gate) →
    (devices_of_file x.drive (file_in x ino)).slots gate
    ≡ region_at x.drive has.r ∷ map (region_at x.drive) has.tails
here-is x ino gate has = ap (map (region_at x.drive)) has.head.here

pub even-at : (x : World) (ino gate : ℕ) → IsShown x → (has : HasHead x ino gate) →
    IsEvenRegion (region_at x.drive has.r)
even-at x ino gate shown has = shown.even.regions has.r _ has.head.word.within

pub good-of : (x : World) (ino : ℕ) → AtWork ino x → IsGood (core_in x ino)
good-of x ino work = good-kept (core_in x ino) (whole (reached-of x ino work)).kept

-- A gate that may be open could not be closed: nothing is known that was not before.
pub unclosed-shown : (x : World) (ino gate : ℕ) (w : World) (f : File) →
    find_file x ino ≡ Some f → AtWork ino x →
    (holding (core_in x ino) (core_in x ino).doubt gate).gate ≡ Unsure →
    IsClosing x ino gate false w → IsShown w
unclosed-shown x ino gate w f found work unsure closing =
    let has = closing.0 in
    let seen = region_at x.drive has.r in
    let one = sets false 0 0 seen closing.2 has.head.word.word closing.4 in
    subst IsShown (sym closing.3)
    (own-core x ino (with_words has.r closing.2 closing.1 x.drive) f found work.shown
    (head-shown x ino gate closing.2 (core_in x ino) closing.1 f found has
    (ends-long false 0 0 seen closing.2 closing.4 (even-at x ino gate work.shown has))
    (λ up.
    (gates-close (file_in x ino).ino (length (core_in x ino).log + 2) gate (core_in x ino)
    (devices_of_file x.drive (file_in x ino)) seen closing.2
    (map (region_at x.drive) has.tails) [] one.0 (shows-of x ino f found work)
    (here-is x ino gate has) (good-of x ino work) (omega arith) unsure one.1.moments).1)
    (record {
      up = λ up. up;
      slots = λ k needs. needs;
      doubt = λ d is. is;
      blocks = λ k off. off;
    }) work.shown))

-- The gate was closed, and the event comes.
came : (x : World) (ino gate : ℕ) (w : World) (core : Core) (f : File) → find_file x ino ≡ Some f →
    AtWork ino x → (closing : IsClosing x ino gate true w) → IsReached core → IsGone core gate →
    NeedsLess (core_in x ino) core →
    ((sets : Sets true 0 0 (region_at x.drive closing.0.r) closing.2) →
    Shows (file_in x ino).ino core
    (with_slots gate (closing.2 ∷ map (region_at x.drive) closing.0.tails)
    (devices_of_file x.drive (file_in x ino)))) →
    IsComing (with_core ino core w) ino gate
came x ino gate w core f found work closing reached gone less shows =
    subst (λ v. IsComing (with_core ino core v) ino gate) (sym closing.3)
    (record {
      shown = head-shown x ino gate closing.2 core closing.1 f found has
          (ends-long true 0 0 seen closing.2 closing.4 (even-at x ino gate work.shown has))
          (λ up. shows (sets true 0 0 seen closing.2 has.head.word.word closing.4)) less
          work.shown;
      good = subst IsGood (sym given) (good-kept core (whole reached).kept);
      gone = subst (λ c. IsGone c gate) (sym given) gone;
    })
  where
    has : HasHead x ino gate
    has = closing.0

    seen : Seen WordStep
    seen = region_at x.drive has.r

    given : core_in (with_core ino core (record x {
      drive = with_words has.r closing.2 closing.1 x.drive;
    })) ino ≡ core
    given = core-given (record x { drive = with_words has.r closing.2 closing.1 x.drive }) ino core
        f found

-- ---- a no-op is skipped

pub record AtNoop (ino place : ℕ) (world : World) : Type 0 where
  pub work : AtWork ino world
  pub idle : is_noop (track (core_in world ino).tracks place).state ≡ true

-- a request that is no read has no number at or behind that of the doubt
pub beside-doubt : (core : Core) (place : ℕ) → IsKept core → (place ≡ 0 → ⊥) →
    is_query_track (track core.tracks place) ≡ false → IsBesideDoubt core place
beside-doubt core place kept some none d is same =
    let query : is_query_track (get_or core.tracks (place - 1) blank) ≡ true =
    kept.ordered.behind d (place - 1) is (omega (arith, same, some)) in
    let wrong : true ≡ false = sym query
    ∙ ap is_query_track (sym (track_is core.tracks place (place - 1) some refl)) ∙ none in
    absurd (cc)

noop-no-query : (t : Track) → is_noop t.state ≡ true → is_query_track t ≡ false
noop-no-query t noop = by-state t.state noop (is_off t.gate)
  where
    by-state : (s : State) → is_noop s ≡ true → (off : Bool) → (off && is_query_state s) ≡ false
    by-state Waiting is off = absurd (cc)
    by-state (Out job) is off = absurd (cc)
    by-state Noop is true = refl
    by-state Noop is false = refl
    by-state Unserved is off = absurd (cc)
    by-state Closed is off = absurd (cc)

-- what is retired at a place
pub retired-gone : (core : Core) (place : ℕ) (t : Track) → (place ≡ 0 → ⊥) →
    place ≤ length core.tracks → IsBesideDoubt core place →
    IsGone (with_track core place (retired t)) place
retired-gone core place t some within beside = record {
  closed =
      ap (λ h. h.gate)
      (holding-logged (with_track core place (retired t)) core.doubt place beside)
      ∙ ap (λ (u : Track). u.gate) (track-here core place (retired t) some within);
  needless = λ k is.
      ap needs_slots
      (sym (track_is (with_track core place (retired t)).tracks place k some
      (omega (arith, is)))
      ∙ track-here core place (retired t) some within);
  beside = beside;
}

noop-found : (world : World) (ino place : ℕ) →
    is_noop (track (core_in world ino).tracks place).state ≡ true →
    (f : File) × (find_file world ino ≡ Some f)
noop-found world ino place noop =
    found-by world ino (λ core. is_noop (track core.tracks place).state ≡ true) noop
    (none (place == 0))
  where
    none : (b : Bool) →
        is_noop (if b then blank else get_or [] (place - 1) blank).state ≡ true → ⊥
    none true is = absurd (cc)
    none false is = absurd (cc)

-- what is known of a no-op
record IsNoop (x : World) (ino place : ℕ) : Type 0 where
  pub file : File
  pub found : find_file x ino ≡ Some file
  pub some : place ≡ 0 → ⊥
  pub within : place ≤ length (core_in x ino).tracks
  pub beside : IsBesideDoubt (core_in x ino) place
  pub unsure : (track (core_in x ino).tracks place).gate ≡ Unsure
  pub has : HasHead x ino place

noop-known : (x : World) (ino place : ℕ) → AtNoop ino place x → IsNoop x ino place
noop-known x ino place noop =
    let core : Core = core_in x ino in
    let found = noop-found x ino place noop.idle in
    let reached = reached-of x ino noop.work in
    let equipped = equipped-of x ino found.0 found.1 noop.work in
    let some = some_place is_noop refl core.tracks place noop.idle in
    let here : track core.tracks place ≡ get_or core.tracks (place - 1) blank =
    track_is core.tracks place (place - 1) some refl in
    let unsure : (track core.tracks place).gate ≡ Unsure =
    ap (λ (t : Track). t.gate) here
    ∙ (whole reached).idle equipped.up (place - 1)
    (ap (λ (t : Track). is_noop t.state) (sym here) ∙ noop.idle) in
    let needs : needs_slots (get_or core.tracks (place - 1) blank) ≡ true =
    ap needs_slots (sym here)
    ∙ ap (λ flag. is_live (track core.tracks place).state || not (is_off flag)) unsure
    ∙ or-true (is_live (track core.tracks place).state) in
    let next : place - 1 + 1 ≡ place = omega (arith, some) in
    record {
      file = found.0;
      found = found.1;
      some = some;
      within = within_place is_noop refl core.tracks place some noop.idle;
      beside = beside-doubt core place (whole reached).kept some
          (noop-no-query (track core.tracks place) noop.idle);
      unsure = unsure;
      has = has-head x ino place found.0 found.1 noop.work.shown
          (subst (λ n. 0 < length (held_at (file_in x ino) n).slots) next
          (equipped.slots (place - 1) needs));
    }
  where
    or-true : (b : Bool) → (b || true) ≡ true
    or-true true = refl
    or-true false = refl

skip-came : (x w : World) (ino place : ℕ) → AtNoop ino place x →
    IsClosing x ino place true w → may (core_in w ino) (events.Skip place) ≡ true →
    IsComing (with_core ino (after (core_in w ino) (events.Skip place)) w) ino place
skip-came x w ino place noop closing may_be =
    let core : Core = core_in x ino in
    let known = noop-known x ino place noop in
    let same : core_in w ino ≡ core = ap (λ v. core_in v ino) closing.3 in
    let allowed : may core (events.Skip place) ≡ true =
    subst (λ c. may c (events.Skip place) ≡ true) same may_be in
    let reached = reached-of x ino noop.work in
    subst (λ c. IsComing (with_core ino (after c (events.Skip place)) w) ino place) (sym same)
    (came x ino place w (after core (events.Skip place)) known.file known.found noop.work closing
    (reaching.comes core (events.Skip place) reached allowed)
    (retired-gone core place (track core.tracks place) known.some known.within known.beside)
    (less-after core (events.Skip place) refl allowed)
    (λ set.
    (skips-show (file_in x ino).ino (length core.log + 2) place core
    (devices_of_file x.drive (file_in x ino)) (region_at x.drive closing.0.r) closing.2
    (map (region_at x.drive) closing.0.tails) true (Ok tt) [] set.0 (good-of x ino noop.work)
    (shows-of x ino known.file known.found noop.work) allowed known.beside known.unsure
    (omega arith) (here-is x ino place closing.0) set.1).ok))

pub skip-shown : (ino place : ℕ) →
    Leaves (AtNoop ino place) (λ u. IsShown) IsShown (skip ino place)
skip-shown ino place =
    leave-then {Q = λ ok w. (x : World) × AtNoop ino place x × IsClosing x ino place ok w}
    (leave-close (AtNoop ino place) IsShown ino place
    (λ w noop. (noop-known w ino place noop).has)) (λ ok.
    leave-then {Q = λ u w. (x : World) × AtNoop ino place x × IsClosing x ino place true w}
    (closed ok) (λ u.
    leave-then {Q = λ v w. IsComing w ino place}
    (leave-event (λ w holds may_be. skip-came holds.0 w ino place holds.1 holds.2 may_be)) (λ v.
    leave-changes (λ w coming. back-shown w ino place coming))))
  where
    not-closed : (w : World) →
        (x : World) × AtNoop ino place x × IsClosing x ino place false w → IsShown w
    not-closed w holds =
        let known = noop-known holds.0 ino place holds.1 in
        unclosed-shown holds.0 ino place w known.file known.found holds.1.work
        (ap (λ h. h.gate)
        (holding-logged (core_in holds.0 ino) (core_in holds.0 ino).doubt place known.beside)
        ∙ known.unsure) holds.2

    closed : (ok : Bool) →
        Leaves (λ w. (x : World) × AtNoop ino place x × IsClosing x ino place ok w)
        (λ u w. (x : World) × AtNoop ino place x × IsClosing x ino place true w) IsShown
        (unless_fault ok)
    closed true = leave-give (λ w holds. holds)
    closed false = leave-end not-closed

-- ---- a doubt is settled

pub record AtDoubt (ino : ℕ) (doubt : Doubt) (world : World) : Type 0 where
  pub work : AtWork ino world
  pub is : (core_in world ino).doubt ≡ Some doubt

query-needless : (t : Track) → is_query_track t ≡ true → needs_slots t ≡ false
query-needless t query =
    let parts = and_parts (is_off t.gate) (is_query_state t.state) query in
    ap (λ off. is_live t.state || not off) parts.0 ∙ by-state t.state parts.1
  where
    by-state : (s : State) → is_query_state s ≡ true → (is_live s || false) ≡ false
    by-state Waiting is = absurd (cc)
    by-state (Out job) is = absurd (cc)
    by-state Noop is = absurd (cc)
    by-state Unserved is = refl
    by-state Closed is = refl

record IsDoubt (x : World) (ino : ℕ) (doubt : Doubt) : Type 0 where
  pub file : File
  pub found : find_file x ino ≡ Some file
  pub unsure : doubt.gate ≡ Unsure
  pub gone : IsGone (after (core_in x ino) events.Settle) doubt.entry.place
  pub has : HasHead x ino doubt.entry.place

doubt-known : (x : World) (ino : ℕ) (doubt : Doubt) → AtDoubt ino doubt x → IsDoubt x ino doubt
doubt-known x ino doubt at =
    let core : Core = core_in x ino in
    let found = found-by x ino (λ c. c.doubt ≡ Some doubt) at.is (λ is. absurd (cc)) in
    let reached = reached-of x ino at.work in
    let equipped = equipped-of x ino found.0 found.1 at.work in
    let shows = shows-of x ino found.0 found.1 at.work in
    record {
      file = found.0;
      found = found.1;
      unsure = ((whole reached).doubted doubt at.is).2 equipped.up;
      gone = record {
        closed = (shows.shape.doubt doubt at.is).apart;
        needless = λ k is.
            query-needless (get_or core.tracks k blank)
            ((whole reached).kept.ordered.behind doubt k at.is (omega (arith, is)));
        beside = λ d is. absurd (cc);
      };
      has = has-head x ino doubt.entry.place found.0 found.1 at.work.shown
          (equipped.doubt doubt at.is);
    }

settle-came : (x w : World) (ino : ℕ) (doubt : Doubt) → AtDoubt ino doubt x →
    IsClosing x ino doubt.entry.place true w → may (core_in w ino) events.Settle ≡ true →
    IsComing (with_core ino (after (core_in w ino) events.Settle) w) ino doubt.entry.place
settle-came x w ino doubt at closing may_be =
    let core : Core = core_in x ino in
    let known = doubt-known x ino doubt at in
    let same : core_in w ino ≡ core = ap (λ v. core_in v ino) closing.3 in
    let allowed : may core events.Settle ≡ true =
    subst (λ c. may c events.Settle ≡ true) same may_be in
    let reached = reached-of x ino at.work in
    subst (λ c. IsComing (with_core ino (after c events.Settle) w) ino doubt.entry.place)
    (sym same)
    (came x ino doubt.entry.place w (after core events.Settle) known.file known.found at.work
    closing (reaching.comes core events.Settle reached allowed) known.gone
    (less-after core events.Settle refl allowed)
    (λ set.
    (settles-show (file_in x ino).ino (length core.log + 2) core doubt
    (devices_of_file x.drive (file_in x ino)) (region_at x.drive closing.0.r) closing.2
    (map (region_at x.drive) closing.0.tails) true (Ok tt) [] set.0 (good-of x ino at.work)
    (shows-of x ino known.file known.found at.work) at.is known.unsure (omega arith)
    (here-is x ino doubt.entry.place closing.0) set.1).ok))

doubt-shown : (ino : ℕ) (doubt : Doubt) →
    Leaves (AtDoubt ino doubt) (λ u. IsShown) IsShown (settle_doubt ino (Some doubt))
doubt-shown ino doubt =
    leave-then {Q = λ ok w. (x : World) × AtDoubt ino doubt x
    × IsClosing x ino doubt.entry.place ok w}
    (leave-close (AtDoubt ino doubt) IsShown ino doubt.entry.place
    (λ w at. (doubt-known w ino doubt at).has)) (λ ok.
    leave-then {Q = λ u w. (x : World) × AtDoubt ino doubt x
    × IsClosing x ino doubt.entry.place true w}
    (closed ok) (λ u.
    leave-then {Q = λ v w. IsComing w ino doubt.entry.place}
    (leave-event (λ w holds may_be. settle-came holds.0 w ino doubt holds.1 holds.2 may_be))
    (λ v.
    leave-changes (λ w coming. back-shown w ino doubt.entry.place coming))))
  where
    its-gate : (core : Core) (option : Option Doubt) → option ≡ Some doubt →
        (holding core option doubt.entry.place).gate ≡ doubt.gate
    its-gate core option is =
        ap (λ o. (holding core o doubt.entry.place).gate) is
        ∙ ap (λ b. (if b then doubted doubt
        else logged_at core.log (track core.tracks doubt.entry.place) doubt.entry.place).gate)
        (eq-eqb doubt.entry.place doubt.entry.place refl)

    not-closed : (w : World) →
        (x : World) × AtDoubt ino doubt x × IsClosing x ino doubt.entry.place false w → IsShown w
    not-closed w holds =
        let known = doubt-known holds.0 ino doubt holds.1 in
        unclosed-shown holds.0 ino doubt.entry.place w known.file known.found holds.1.work
        (its-gate (core_in holds.0 ino) (core_in holds.0 ino).doubt holds.1.is ∙ known.unsure)
        holds.2

    closed : (ok : Bool) →
        Leaves (λ w. (x : World) × AtDoubt ino doubt x
        × IsClosing x ino doubt.entry.place ok w)
        (λ u w. (x : World) × AtDoubt ino doubt x
        × IsClosing x ino doubt.entry.place true w) IsShown (unless_fault ok)
    closed true = leave-give (λ w holds. holds)
    closed false = leave-end not-closed

pub settle-shown : (ino : ℕ) → Leaves (AtWork ino) (λ u. IsShown) IsShown (settle ino)
settle-shown ino =
    leave-look (λ x.
    leave-weaker
    {P = λ w. AtWork ino w × ((core_in w ino).doubt ≡ (core_in x ino).doubt)}
    (λ w holds. (holds.1, ap (λ v. (core_in v ino).doubt) holds.0)) (λ u w q. q) (λ w e. e)
    (by-doubt (core_in x ino).doubt))
  where
    by-doubt : (doubt : Option Doubt) →
        Leaves (λ w. AtWork ino w × ((core_in w ino).doubt ≡ doubt)) (λ u. IsShown) IsShown
        (settle_doubt ino doubt)
    by-doubt None = leave-give (λ w holds. holds.0.shown)
    by-doubt (Some doubt) =
        leave-weaker {P = AtDoubt ino doubt}
        (λ w holds. record { work = holds.0; is = holds.1 }) (λ u w q. q) (λ w e. e)
        (doubt-shown ino doubt)
