-- A mark keeps a world shown by its devices.
use Rattle.std.proofs.Common.{◌≡◌, ℕ, ◌+◌, ◌-◌, ◌<◌, Bool, true, false, not, ◌&&◌, ◌||◌, Some}
use Rattle.std.proofs.Common.{List, [], ◌∷◌, length, map, get_or, inl, refl, sym, ap, ◌∙◌}
use Rattle.std.proofs.Common.{subst, arith, if◌then◌else◌}
use Rattle.std.specs.Prelude.{Result, Ok, Err, ◌==◌}
use Rattle.std.specs.List.{Contains}
use Rattle.std.proofs.lemmas.Bool.{and_parts}
use Rattle.cfs_core.specs.declared.event.Event.TheVariants as events
use Rattle.cfs_core.specs.declared.inode_core.Core.{Core}
use Rattle.cfs_core.specs.declared.state.State.{State}
use Rattle.cfs_core.specs.declared.state.State.TheVariants.{Closed, Noop, Out, Unserved, Waiting}
use Rattle.cfs_core.specs.declared.track.Track.{Track}
use Rattle.cfs_core.specs.After.{after}
use Rattle.cfs_core.specs.Good.{IsGood}
use Rattle.cfs_core.specs.May.{case, is_in_phase, may}
use Rattle.cfs_core.specs.Words.{blank, is_off, is_waiting, track}
use Rattle.cfs_core.proofs.Alive.{waiting_lives}
use Rattle.cfs_core.proofs.Goods.{good-kept}
use Rattle.cfs_core.proofs.Order.{is_query_state, is_query_track, some_place, track_is}
use Rattle.cfs_core_laws.specs.Reached.{IsReached}
use Rattle.cfs_core_laws.specs.Reached as reaching
use Rattle.cfs_core_laws.proofs.Whole.{whole}
use Rattle.cfs_pmem.specs.Images.{Seen, WordStep, words_of}
use Rattle.cfs_medium.specs.Shows.{Shows}
use Rattle.cfs_medium.specs.SlotEvents.{IsBesideDoubt}
use Rattle.cfs_medium.specs.WorldCalls.{with_slots}
use Rattle.cfs_medium.proofs.Has.{contains-had}
use Rattle.cfs_medium.proofs.SlotEvents.{marks-show}
use Rattle.cfs_meaning.specs.Admits.{HaveMarks, MarksKeepShown}
use Rattle.cfs_meaning.specs.Drive.{Drive, Op, attempt, region_at}
use Rattle.cfs_meaning.specs.Steps.{marked}
use Rattle.cfs_meaning.specs.World.{File, World, core_in, file_in, find_file, head_of}
use Rattle.cfs_meaning.specs.World.{held_at, with_core}
use Rattle.cfs_meaning.specs.Devices.{IsShown, devices_of_file, needs_slots}
use Rattle.cfs_meaning.specs.Inode.{mark}
use Rattle.cfs_meaning.specs.Ways.{Halt}
use Rattle.cfs_meaning.proofs.Hoare.{Leaves, leave-event, leave-look, leave-then, leave-tries}
use Rattle.cfs_meaning.proofs.ShownGates.{EndsSet, IsSetAt, beside-doubt, ends-long, equipped-of}
use Rattle.cfs_meaning.proofs.ShownGates.{even-at, found-by, here-is, reached-of, set-at, sets}
use Rattle.cfs_meaning.proofs.ShownGates.{shows-of}
use Rattle.cfs_meaning.proofs.ShownJobs.{AtWork}
use Rattle.cfs_meaning.proofs.ShownNeeds.{less-after}
use Rattle.cfs_meaning.proofs.ShownRegions.{HasHead, has-head, head-shown}
use Rattle.cfs_meaning.proofs.Total.{IfEnds, with_attempt}

-- a world where a mark may be made
pub record AtMark (ino : ℕ) (world : World) : Type 0 where
  pub work : AtWork ino world
  pub long : HaveMarks world ino

waiting-no-query : (t : Track) → is_waiting t.state ≡ true → is_query_track t ≡ false
waiting-no-query t waits = by-state t.state waits (is_off t.gate)
  where
    by-state : (s : State) → is_waiting s ≡ true → (off : Bool) → (off && is_query_state s) ≡ false
    by-state Waiting is true = refl
    by-state Waiting is false = refl
    by-state (Out job) is off = absurd (cc)
    by-state Noop is off = absurd (cc)
    by-state Unserved is off = absurd (cc)
    by-state Closed is off = absurd (cc)

-- what is known of an entry that may be marked
record IsMarkable (x : World) (ino place : ℕ) : Type 0 where
  pub file : File
  pub found : find_file x ino ≡ Some file
  pub beside : IsBesideDoubt (core_in x ino) place
  pub has : HasHead x ino place

none-waits : (place : ℕ) → is_waiting (track [] place).state ≡ true → ⊥
none-waits place is = by-test (place == 0) is
  where
    by-test : (b : Bool) →
        is_waiting (if b then blank else get_or [] (place - 1) blank).state ≡ true → ⊥
    by-test true e = absurd (cc)
    by-test false e = absurd (cc)

markable : (x : World) (ino place : ℕ) → AtMark ino x →
    is_waiting (track (core_in x ino).tracks place).state ≡ true → IsMarkable x ino place
markable x ino place at waits =
    let core : Core = core_in x ino in
    let found = found-by x ino (λ c. is_waiting (track c.tracks place).state ≡ true) waits
    (none-waits place) in
    let reached = reached-of x ino at.work in
    let equipped = equipped-of x ino found.0 found.1 at.work in
    let some = some_place is_waiting refl core.tracks place waits in
    let here : track core.tracks place ≡ get_or core.tracks (place - 1) blank =
    track_is core.tracks place (place - 1) some refl in
    let needs : needs_slots (get_or core.tracks (place - 1) blank) ≡ true =
    ap needs_slots (sym here)
    ∙ ap (λ b. b || not (is_off (track core.tracks place).gate))
    (waiting_lives (track core.tracks place).state waits) in
    let next : place - 1 + 1 ≡ place = omega (arith, some) in
    record {
      file = found.0;
      found = found.1;
      beside = beside-doubt core place (whole reached).kept some
          (waiting-no-query (track core.tracks place) waits);
      has = has-head x ino place found.0 found.1 at.work.shown
          (subst (λ n. 0 < length (held_at (file_in x ino) n).slots) next
          (equipped.slots (place - 1) needs));
    }

abbrev marking : World → ℕ → ℕ → List Op
marking x ino place = marked (head_of (held_at (file_in x ino) place))

case-of : (core : Core) (by place : ℕ) (ok : Bool) → may core (events.Mark place by ok) ≡ true →
    case core (events.Mark place by ok) ≡ true
case-of core by place ok may_be =
    (and_parts (is_in_phase core.crashed (events.Mark place by ok))
    (case core (events.Mark place by ok)) may_be).1

mark-came : (x : World) (ino by place : ℕ) (ok : Bool) (drive : Drive) → AtMark ino x →
    (known : IsMarkable x ino place) →
    IsSetAt known.has.r 1 1 x.drive (record { whole = ok; drive = drive }) →
    may (core_in x ino) (events.Mark place by ok) ≡ true →
    IsShown (with_core ino (after (core_in x ino) (events.Mark place by ok))
    (record x { drive = drive }))
mark-came x ino by place ok drive at known set may_be =
    subst (λ d. IsShown (with_core ino (after core (events.Mark place by ok))
    (record x { drive = d }))) (sym set.2)
    (head-shown x ino place set.1 (after core (events.Mark place by ok)) set.0 known.file
    known.found has (ends-long ok 1 1 old set.1 set.3 (even-at x ino place at.work.shown has))
    (λ up. by-end ok set.3 may_be)
    (less-after core (events.Mark place by ok) refl may_be) at.work.shown)
  where
    core : Core
    core = core_in x ino

    has : HasHead x ino place
    has = known.has

    old : Seen WordStep
    old = region_at x.drive has.r

    low : 1 < length (words_of old)
    low = at.long place has.r
        (subst (λ (list : List ℕ). Contains list has.r) (sym has.head.here)
        (contains-had (has.r ∷ has.tails) has.r (inl refl)))

    good : may core (events.Mark place by false) ≡ true →
        IsGood (after core (events.Mark place by false))
    good allowed =
        good-kept _ (whole (reaching.comes core (events.Mark place by false)
        (reached-of x ino at.work) allowed)).kept

    by-end : (b : Bool) → EndsSet b 1 1 old set.1 → may core (events.Mark place by b) ≡ true →
        Shows (file_in x ino).ino (after core (events.Mark place by b))
        (with_slots place (set.1 ∷ map (region_at x.drive) has.tails)
        (devices_of_file x.drive (file_in x ino)))
    by-end true ends allowed =
        let one = sets true 1 1 old set.1 low ends in
        (marks-show (file_in x ino).ino (length core.log + 2) place by core
        (devices_of_file x.drive (file_in x ino)) old set.1 (map (region_at x.drive) has.tails) true
        (Ok tt) [] one.0 (good allowed)
        (shows-of x ino known.file known.found at.work) allowed known.beside (omega arith)
        (here-is x ino place has) low one.1).ok
    by-end false ends allowed =
        let one = sets false 1 1 old set.1 low ends in
        (marks-show (file_in x ino).ino (length core.log + 2) place by core
        (devices_of_file x.drive (file_in x ino)) old set.1 (map (region_at x.drive) has.tails) true
        (Err tt) [] one.0 (good allowed)
        (shows-of x ino known.file known.found at.work) allowed known.beside (omega arith)
        (here-is x ino place has) low one.1).err

-- the world behind the steps that set the mark
abbrev IsMarking : World → ℕ → ℕ → Bool → World → Type 0
IsMarking x ino place ok w =
    AtMark ino x × (ok ≡ (attempt (marking x ino place) x.drive).whole)
    × (w ≡ with_attempt (marking x ino place) x)

marked-shown : (x w : World) (ino by place : ℕ) (ok : Bool) → IsMarking x ino place ok w →
    may (core_in w ino) (events.Mark place by ok) ≡ true →
    IsShown (with_core ino (after (core_in w ino) (events.Mark place by ok)) w)
marked-shown x w ino by place ok marking_so may_be =
    let same : core_in w ino ≡ core_in x ino = ap (λ v. core_in v ino) marking_so.2 in
    let allowed : may (core_in x ino) (events.Mark place by ok) ≡ true =
    subst (λ c. may c (events.Mark place by ok) ≡ true) same may_be in
    let waits = (and_parts (is_waiting (track (core_in x ino).tracks place).state) _
    (case-of (core_in x ino) by place ok allowed)).0 in
    let known = markable x ino place marking_so.0 waits in
    let ops : List Op = marking x ino place in
    let set : IsSetAt known.has.r 1 1 x.drive (attempt ops x.drive) =
    subst (λ n. IsSetAt known.has.r 1 1 x.drive (attempt (marked n) x.drive))
    (sym known.has.number)
    (set-at known.has.r 1 1 x.drive known.has.head.word.within) in
    subst (λ v. IsShown (with_core ino (after (core_in v ino) (events.Mark place by ok)) v))
    (sym marking_so.2)
    (mark-came x ino by place ok (attempt ops x.drive).drive marking_so.0 known
    (subst (λ b. IsSetAt known.has.r 1 1 x.drive
    (record { whole = b; drive = (attempt ops x.drive).drive })) (sym marking_so.1) set) allowed)

pub mark-shown : (ino by place : ℕ) → Leaves (AtMark ino) (λ u. IsShown) IsShown (mark ino by place)
mark-shown ino by place =
    leave-look (λ x.
    leave-then {Q = λ ok. IsMarking x ino place ok}
    (leave-tries (λ w holds. (
      subst (AtMark ino) holds.0 holds.1,
      ap (λ (v : World). (attempt (marking x ino place) v.drive).whole) holds.0,
      ap (with_attempt (marking x ino place)) holds.0,
    ))) (λ ok.
    leave-event (λ w marking_so may_be. marked-shown x w ino by place ok marking_so may_be)))

shown-ends : (end : Result (Unit {0}) Halt) (world : World) →
    IfEnds (λ u. IsShown) IsShown end world → IsShown world
shown-ends (Ok u) world shown = shown
shown-ends (Err halt) world shown = shown

pub marks-keep-shown : MarksKeepShown
marks-keep-shown old new ino by place end goes_on long reached shown way =
    shown-ends end new
    ((mark-shown ino by place).by old end new
    (record {
      work = record { shown = shown; reached = reached; goes_on = goes_on };
      long = long;
    }) way)
