-- Events of a core as calls on the slots of one request.
use Rattle.std.proofs.Common.{◌≡◌, ◌≢◌, inl, inr, ℕ, zero, suc, ◌+◌, ◌-◌, ◌<◌, ◌≤◌, ◌==◌, Bool, true, false, not, if◌then◌else◌, Ok, Err, OnOk, OnErr, Option, Some, None, List, [], ◌∷◌, ◌++◌, length, get_or, slice_get, is_none, arith, refl, sym, ap, subst, ◌∙◌, length-append}
use Rattle.std.proofs.Math.ListN.{set}
use Rattle.std.specs.Option.{option_map}
use Rattle.std.proofs.lemmas.Bool.{cases_lt}
use Rattle.std.proofs.lemmas.Bool.Decides.{nat_tests}
use Rattle.std.proofs.lemmas.List.{get_or_past, get_or-set_same, length-set}
use Rattle.cfs_file.specs.declared.entry.Entry.{Entry}
use Rattle.cfs_file.specs.declared.request.Request.{Request}
use Rattle.cfs_core.specs.declared.doubt.Doubt.{Doubt}
use Rattle.cfs_core.specs.declared.event.Event.TheVariants as events
use Rattle.cfs_core.specs.declared.flag.Flag.TheVariants.{Off, On, Unsure}
use Rattle.cfs_core.specs.declared.state.State.{State}
use Rattle.cfs_core.specs.declared.state.State.TheVariants.{Closed}
use Rattle.cfs_core.specs.declared.track.Track.{Track}
use Rattle.cfs_core.specs.declared.inode_core.Core.{Core}
use Rattle.cfs_core.specs.After.{after, change_track, marked, retired, with_track}
use Rattle.cfs_core.specs.May.{is_in_phase, is_next, may_admit, may_mark, may_skip, span_now}
use Rattle.cfs_core.specs.Medium.{placed}
use Rattle.cfs_core.specs.Words.{blank, can_be, is_noop, is_waiting, track}
use Rattle.cfs_core.proofs.Legal.{both, same_number}
use Rattle.cfs_core.proofs.Marks.{track_beside}
use Rattle.cfs_core.proofs.Order.{same_or_not, some_place, track_is}
use Rattle.cfs_pmem.specs.declared.trace.Asked.{Asked}
use Rattle.cfs_pmem.specs.Images.{Seen, WordStep, IsImage, IsSetFrom, words_of}
use Rattle.cfs_pmem.specs.Objects.{IsEachImage}
use Rattle.cfs_pmem.proofs.ImageLemmas.{now_is_image}
use Rattle.cfs_pmem.specs.WordOps.{SetsWord}
use Rattle.cfs_slot.specs.Words.{gate_of, ino_of, mark_of, request_of}
use Rattle.cfs_medium.specs.Differs.{DiffersAt}
use Rattle.cfs_medium.specs.Shows.{HasShape, Holding, Recovers, Shows, SlotFits, SlotsShown, doubted, entry_of, holding, is_gated, logged_at}
use Rattle.cfs_medium.specs.SlotEvents.{AdmissionsShow, Answer, IsBesideDoubt, IsStagedAs, MarksShow, SettlesShow, SkipsShow}
use Rattle.cfs_medium.specs.World.{World}
use Rattle.cfs_medium.specs.WorldCalls.{AreShut, WorldMoments, with_slots}
use Rattle.cfs_medium.proofs.Left.{equal_test}
use Rattle.cfs_medium.proofs.SlotSteps.{gates-close, heads-set, shut-show, slots_show}
use Rattle.cfs_medium.proofs.Worlds.{at_place}

-- ---- cores with another track

pub holding-same : (core now : Core) (doubt : Option Doubt) (at : ℕ) →
    logged_at now.log (track now.tracks at) at ≡ logged_at core.log (track core.tracks at) at →
    holding now doubt at ≡ holding core doubt at
holding-same core now None at same = same
holding-same core now (Some d) at same =
    ap (λ (h : Holding). if d.entry.place == at then doubted d else h) same

-- one with another track at a place
pub track-differs : (core : Core) (place : ℕ) (t : Track) → (place ≡ 0 → ⊥) →
    DiffersAt place core (with_track core place t)
track-differs core place t some = record {
  size = refl;
  sizes = refl;
  tags = refl;
  loose = refl;
  bytes = refl;
  held = λ at other. holding-same core (with_track core place t) core.doubt at
      (ap (λ (u : Track). logged_at core.log u at) (track_beside core.tracks place at t some other));
}

pub track-shape : (core : Core) (place : ℕ) (t : Track) → (place ≡ 0 → ⊥) → HasShape core →
    IsBesideDoubt core place → HasShape (with_track core place t)
track-shape core place t some shape beside = record {
  tags = shape.tags;
  tracks = length-set core.tracks (place - 1) t ∙ shape.tracks;
  doubt = λ d is.
      let fits = shape.doubt d is in
      record {
        from = fits.from;
        to = fits.to;
        apart =
            ap (λ (u : Track). u.gate)
            (track_beside core.tracks place d.entry.place t some (beside d is)) ∙ fits.apart;
      };
  loose = shape.loose;
}

-- the track at the place itself
pub track-here : (core : Core) (place : ℕ) (t : Track) → (place ≡ 0 → ⊥) → place ≤ length core.tracks →
    track (with_track core place t).tracks place ≡ t
track-here core place t some within =
    track_is (with_track core place t).tracks place (place - 1) some refl
    ∙ get_or-set_same core.tracks (place - 1) t blank (omega (arith, within, some))

-- what is known at a place beside the doubt's number
pub holding-logged : (core : Core) (doubt : Option Doubt) (place : ℕ) →
    ((d : Doubt) → doubt ≡ Some d → d.entry.place ≢ place) →
    holding core doubt place ≡ logged_at core.log (track core.tracks place) place
holding-logged core None place beside = refl
holding-logged core (Some d) place beside =
    let differs : d.entry.place ≢ place = beside d refl in
    let test : (d.entry.place == place) ≡ false = grind (arith, nat_tests) in
    rw test refl

-- where a state passes that of no request, the place is one of the tracks'
pub within_place : (test : State → Bool) → test Closed ≡ false → (tracks : List Track) (place : ℕ) →
    (place ≡ 0 → ⊥) → test (track tracks place).state ≡ true → place ≤ length tracks
within_place test closed tracks place some passes = elim (cases_lt (length tracks) place) [
  | inl past ↦
      let none : track tracks place ≡ blank =
      track_is tracks place (place - 1) some refl
      ∙ get_or_past tracks (place - 1) blank (omega (arith, past)) in
      let fails : test (track tracks place).state ≡ false =
      ap (λ (t : Track). test t.state) none ∙ closed in
      cc
  | inr within ↦ omega (arith, within)
]

some_place_same : (d doubt : Doubt) → Some d ≡ Some doubt → d.entry.place ≡ doubt.entry.place
some_place_same d doubt same = cc

-- ---- closed gates

set_gate : (words : List ℕ) → is_gated (set words 0 0) ≡ false
set_gate [] = refl
set_gate (word ∷ words) = refl

abbrev plain_ok : Unit {0} → Answer
plain_ok value = Ok value

-- once it was set, the gate is closed in every image
pub closed-shut : (obeys : Bool) (value : Unit {0}) (head new : Seen WordStep)
    (tails : List (Seen WordStep)) (asked_old asked_new : List Asked) →
    SetsWord obeys 0 0 (plain_ok value) asked_old head asked_new new → AreShut (new ∷ tails)
closed-shut obeys value head new tails asked_old asked_new sets [] images = absurd images
closed-shut obeys value head new tails asked_old asked_new sets (image ∷ rest) images =
    let now : words_of new ≡ set (words_of head) 0 0 =
    ap (λ (s : Seen WordStep). words_of s) sets.ok in
    let is : image ≡ set (words_of head) 0 0 = sets.sure image images.0 ∙ now in
    ap is_gated is ∙ set_gate (words_of head)

-- What a world shows whose slots at a number are closed in every image.
pub closed-shows : (ino place : ℕ) (core now : Core) (world : World) (seens : List (Seen WordStep)) →
    Shows ino core (with_slots place seens world) → AreShut seens → DiffersAt place core now →
    HasShape now → (holding now now.doubt place).gate ≡ Off →
    Shows ino now (with_slots place seens world)
closed-shows ino place core now world seens shows shut differs shape off =
    shut-show ino place core now (with_slots place seens world) shows
    (rw (at_place place seens (world.slots place)) shut) differs shape off

pub skips-show : SkipsShow
skips-show ino n place core world head new tails obeys result asked_old asked_new good shows
    allowed beside unsure room here sets = record {
      moments = all.0;
      ok = by result sets;
      err = by_err result;
    }
  where
    held : holding core core.doubt place ≡ logged_at core.log (track core.tracks place) place
    held = holding-logged core core.doubt place beside

    all : WorldMoments (Recovers ino n core) asked_old world asked_new
        (with_slots place (new ∷ tails) world)
        × Shows ino core (with_slots place (new ∷ tails) world)
    all = gates-close ino n place core world head new tails asked_old asked_new shows here good room
        (ap (λ (h : Holding). h.gate) held ∙ unsure) sets.moments

    noop : is_noop (track core.tracks place).state ≡ true
    noop = (both (is_in_phase core.crashed (events.Skip place)) (may_skip core place) allowed).1

    place_is : (place ≡ 0 → ⊥) × (place ≤ length core.tracks)
    place_is = let some : place ≡ 0 → ⊥ = some_place is_noop refl core.tracks place noop in
        (some, within_place is_noop refl core.tracks place some noop)

    by : (result : Answer) → SetsWord obeys 0 0 result asked_old head asked_new new →
        OnOk result (Shows ino (after core (events.Skip place)) (with_slots place (new ∷ tails) world))
    by (Err e) sets = tt
    by (Ok value) sets =
        let now : Core = after core (events.Skip place) in
        let off : (holding now now.doubt place).gate ≡ Off =
        ap (λ (h : Holding). h.gate) (holding-logged now core.doubt place beside)
        ∙ ap (λ (t : Track). t.gate)
        (track-here core place (retired (track core.tracks place)) place_is.0 place_is.1) in
        closed-shows ino place core now world (new ∷ tails) all.1
        (closed-shut obeys value head new tails asked_old asked_new sets)
        (track-differs core place (retired (track core.tracks place)) place_is.0)
        (track-shape core place (retired (track core.tracks place)) place_is.0 shows.shape beside) off

    by_err : (result : Answer) →
        OnErr result (Shows ino core (with_slots place (new ∷ tails) world))
    by_err (Ok value) = tt
    by_err (Err e) = all.1

pub settles-show : SettlesShow
settles-show ino n core doubt world head new tails obeys result asked_old asked_new good shows
    is unsure room here sets = record {
      moments = all.0;
      ok = by result sets;
      err = by_err result;
    }
  where
    place : ℕ
    place = doubt.entry.place

    held : holding core core.doubt place ≡ doubted doubt
    held =
        ap (λ (o : Option Doubt). holding core o place) is ∙ rw (equal_test place) refl

    all : WorldMoments (Recovers ino n core) asked_old world asked_new
        (with_slots place (new ∷ tails) world)
        × Shows ino core (with_slots place (new ∷ tails) world)
    all = gates-close ino n place core world head new tails asked_old asked_new shows here good room
        (ap (λ (h : Holding). h.gate) held ∙ unsure) sets.moments

    now : Core
    now = after core events.Settle

    differs : DiffersAt place core now
    differs = record {
      size = refl;
      sizes = refl;
      tags = refl;
      loose = refl;
      bytes = refl;
      held = λ at other.
          sym (holding-logged core core.doubt at
          (λ d same number. other (sym (sym (some_place_same d doubt (sym same ∙ is)) ∙ number))));
    }

    shape : HasShape now
    shape = record {
      tags = shows.shape.tags;
      tracks = shows.shape.tracks;
      doubt = λ d none. cc;
      loose = shows.shape.loose;
    }

    by : (result : Answer) → SetsWord obeys 0 0 result asked_old head asked_new new →
        OnOk result (Shows ino now (with_slots place (new ∷ tails) world))
    by (Err e) sets = tt
    by (Ok value) sets =
        closed-shows ino place core now world (new ∷ tails) all.1
        (closed-shut obeys value head new tails asked_old asked_new sets) differs shape
        (shows.shape.doubt doubt is).apart

    by_err : (result : Answer) →
        OnErr result (Shows ino core (with_slots place (new ∷ tails) world))
    by_err (Ok value) = tt
    by_err (Err e) = all.1

-- ---- marks

-- words whose mark is set are else as they were
mark_keeps : (words : List ℕ) (tails : List (List ℕ)) →
    (gate_of (set words 1 1) ≡ gate_of words) × ((ino_of (set words 1 1) ≡ ino_of words)
    × (request_of (set words 1 1) tails ≡ request_of words tails))
mark_keeps [] tails = (refl, (refl, refl))
mark_keeps (gate ∷ []) tails = (refl, (refl, refl))
mark_keeps (gate ∷ (mark ∷ words)) tails = (refl, (refl, refl))

-- the same holding with a mark that an image may have or not
marked-fits : (ino place : ℕ) (held now : Holding) (words : List ℕ) (tails : List (List ℕ)) →
    SlotFits ino place held (words ∷ tails) → ((bit : Bool) → can_be held.gate bit ≡ true →
    can_be now.gate bit ≡ true) → now.mark ≡ Unsure → now.request ≡ held.request →
    SlotFits ino place now (words ∷ tails)
marked-fits ino place held now words tails fits gates mark request = record {
  gate = gates (is_gated words) fits.gate;
  number = fits.number;
  mark = λ gated. rw mark refl;
  file = fits.file;
  request = λ gated. request ∙ fits.request gated;
}

set_marked-fits : (ino place : ℕ) (held now : Holding) (words : List ℕ) (tails : List (List ℕ)) →
    SlotFits ino place held (words ∷ tails) → ((bit : Bool) → can_be held.gate bit ≡ true →
    can_be now.gate bit ≡ true) → ((bit : Bool) → can_be now.mark bit ≡ true) →
    now.request ≡ held.request → SlotFits ino place now (set words 1 1 ∷ tails)
set_marked-fits ino place held now words tails fits gates marks request =
    let keeps = mark_keeps words tails in
    let same : is_gated (set words 1 1) ≡ is_gated words =
    ap (λ (g : ℕ). not (g == 0)) keeps.0 in
    record {
      gate = rw same (gates (is_gated words) fits.gate);
      number = λ gated. keeps.0 ∙ fits.number (sym same ∙ gated);
      mark = λ gated. marks (mark_of (set words 1 1) == 1);
      file = λ gated. keeps.1.0 ∙ fits.file (sym same ∙ gated);
      request = λ gated. request ∙ (fits.request (sym same ∙ gated)
          ∙ ap (λ (r : Request). Some r) (sym keeps.1.1));
    }

mark_is_set : (words : List ℕ) → 1 < length words → (mark_of (set words 1 1) == 1) ≡ true
mark_is_set [] long = absurd (omega arith)
mark_is_set (gate ∷ []) long = absurd (omega arith)
mark_is_set (gate ∷ (mark ∷ words)) long = refl

set_marked-on : (ino place : ℕ) (held now : Holding) (words : List ℕ) (tails : List (List ℕ)) →
    SlotFits ino place held (words ∷ tails) → ((bit : Bool) → can_be held.gate bit ≡ true →
    can_be now.gate bit ≡ true) → 1 < length words → now.mark ≡ On →
    now.request ≡ held.request → SlotFits ino place now (set words 1 1 ∷ tails)
set_marked-on ino place held now words tails fits gates long mark request =
    let keeps = mark_keeps words tails in
    let same : is_gated (set words 1 1) ≡ is_gated words =
    ap (λ (g : ℕ). not (g == 0)) keeps.0 in
    record {
      gate = rw same (gates (is_gated words) fits.gate);
      number = λ gated. keeps.0 ∙ fits.number (sym same ∙ gated);
      mark = λ gated. rw (mark, mark_is_set words long) refl;
      file = λ gated. keeps.1.0 ∙ fits.file (sym same ∙ gated);
      request = λ gated. request ∙ (fits.request (sym same ∙ gated)
          ∙ ap (λ (r : Request). Some r) (sym keeps.1.1));
    }

pub marks-show : MarksShow
marks-show ino n place by core world head new tails obeys result asked_old asked_new good shows allowed
    beside room here long sets = record {
      moments = all.0;
      ok = ended result sets;
      err = failed result;
    }
  where
    tried : Core
    tried = after core (events.Mark place by false)

    waits : is_waiting (track core.tracks place).state ≡ true
    waits = (both (is_waiting (track core.tracks place).state) _
        (both (is_in_phase core.crashed (events.Mark place by true)) (may_mark core place by) allowed).1).0

    some : place ≡ 0 → ⊥
    some = some_place is_waiting refl core.tracks place waits

    within : place ≤ length core.tracks
    within = within_place is_waiting refl core.tracks place some waits

    old : holding core core.doubt place ≡ logged_at core.log (track core.tracks place) place
    old = holding-logged core core.doubt place beside

    held : (t : Track) → holding (with_track core place t) core.doubt place ≡ logged_at core.log t place
    held t = holding-logged (with_track core place t) core.doubt place beside
        ∙ ap (λ (u : Track). logged_at core.log u place) (track-here core place t some within)

    fits : (image : List ℕ) (rest : List (List ℕ)) → IsSetFrom head 1 1 image →
        IsEachImage IsImage tails rest →
        SlotFits ino place (holding tried tried.doubt place) (image ∷ rest)
    fits image rest set_ images =
        let first : SlotFits ino place (logged_at core.log (track core.tracks place) place)
        (set_.first ∷ rest) =
        rw old at (shows.slots place (set_.first ∷ rest) (rw here (set_.possible, images))) in
        rw (held (marked (track core.tracks place) false)) (elim set_.same [
          | inl same ↦
              rw same (marked-fits ino place (logged_at core.log (track core.tracks place) place)
              (logged_at core.log (marked (track core.tracks place) false) place) set_.first rest first
              (λ bit can. can) refl refl)
          | inr done ↦
              rw done (set_marked-fits ino place (logged_at core.log (track core.tracks place) place)
              (logged_at core.log (marked (track core.tracks place) false) place) set_.first rest first
              (λ bit can. can) (λ bit. refl) refl)
        ])

    all : WorldMoments (Recovers ino n tried) asked_old world asked_new
        (with_slots place (new ∷ tails) world)
        × Shows ino tried (with_slots place (new ∷ tails) world)
    all = heads-set ino n place 1 1 core tried world head new tails asked_old asked_new shows here
        (track-differs core place (marked (track core.tracks place) false) some) good
        (track-shape core place (marked (track core.tracks place) false) some shows.shape beside) room
        fits sets.moments

    failed : (result : Answer) →
        OnErr result (Shows ino tried (with_slots place (new ∷ tails) world))
    failed (Ok value) = tt
    failed (Err e) = all.1

    first_now : (rest : List (List ℕ)) → IsEachImage IsImage tails rest →
        SlotFits ino place (logged_at core.log (track core.tracks place) place)
        (words_of head ∷ rest)
    first_now rest images =
        rw old at (shows.slots place (words_of head ∷ rest)
        (rw here (now_is_image head.history, images)))

    kept_fits : (value : Unit {0}) → SetsWord obeys 1 1 (plain_ok value) asked_old head asked_new new →
        SlotsShown ino place
        (logged_at core.log (marked (track core.tracks place) true) place) (new ∷ tails)
    kept_fits value sets [] images = absurd images
    kept_fits value sets (image ∷ rest) images =
        let is : image ≡ set (words_of head) 1 1 =
        sets.sure image images.0 ∙ ap (λ (s : Seen WordStep). words_of s) sets.ok in
        rw is (set_marked-on ino place (logged_at core.log (track core.tracks place) place)
        (logged_at core.log (marked (track core.tracks place) true) place) (words_of head) rest
        (first_now rest images.1) (λ bit can. refl) long refl refl)

    ended : (result : Answer) → SetsWord obeys 1 1 result asked_old head asked_new new →
        OnOk result (Shows ino (after core (events.Mark place by true))
        (with_slots place (new ∷ tails) world))
    ended (Err e) sets = tt
    ended (Ok value) sets =
        slots_show ino place core (after core (events.Mark place by true)) world (new ∷ tails) shows
        (track-differs core place (marked (track core.tracks place) true) some)
        (track-shape core place (marked (track core.tracks place) true) some shows.shape beside)
        (rw (held (marked (track core.tracks place) true)) (kept_fits value sets))

-- ---- admissions

-- lists with one more at their end
slice-other : {X : Type 0} → (xs : List X) (x : X) (k : ℕ) → k ≢ length xs →
    slice_get (xs ++ x ∷ []) k ≡ slice_get xs k
slice-other [] x zero other = absurd (other refl)
slice-other [] x (suc k) other = refl
slice-other (y ∷ ys) x zero other = refl
slice-other (y ∷ ys) x (suc k) other = slice-other ys x k (λ same. other (omega (arith, same)))

slice-last : {X : Type 0} → (xs : List X) (x : X) → slice_get (xs ++ x ∷ []) (length xs) ≡ Some x
slice-last [] x = refl
slice-last (y ∷ ys) x = slice-last ys x

get-other : {X : Type 0} → (xs : List X) (x d : X) (k : ℕ) → k ≢ length xs →
    get_or (xs ++ x ∷ []) k d ≡ get_or xs k d
get-other [] x d zero other = absurd (other refl)
get-other [] x d (suc k) other = refl
get-other (y ∷ ys) x d zero other = refl
get-other (y ∷ ys) x d (suc k) other = get-other ys x d k (λ same. other (omega (arith, same)))

get-last : {X : Type 0} → (xs : List X) (x d : X) → get_or (xs ++ x ∷ []) (length xs) d ≡ x
get-last [] x d = refl
get-last (y ∷ ys) x d = get-last ys x d

pub entry-other : (log : List Entry) (entry : Entry) (at : ℕ) → at ≢ length log + 1 →
    entry_of (log ++ entry ∷ []) at ≡ entry_of log at
entry-other log entry at other = test (at == 0) refl
  where
    zero_no : at ≡ 0 → (at == 0) ≡ false → ⊥
    zero_no same is = let test : (0 == 0) ≡ false = subst (λ n. (n == 0) ≡ false) same is in cc

    test : (b : Bool) → (at == 0) ≡ b → entry_of (log ++ entry ∷ []) at ≡ entry_of log at
    test true is = rw is refl
    test false is =
        let some : at ≢ 0 = λ same. zero_no same is in
        rw is (slice-other log entry (at - 1) (λ same. other (omega (arith, same, some))))

pub track-other : (tracks : List Track) (t : Track) (at : ℕ) → at ≢ length tracks + 1 →
    track (tracks ++ t ∷ []) at ≡ track tracks at
track-other tracks t at other = elim (same_or_not at 0) [
  | inl same ↦ rw same refl
  | inr some ↦
      track_is (tracks ++ t ∷ []) at (at - 1) some refl
      ∙ (get-other tracks t blank (at - 1) (λ same. other (omega (arith, same, some)))
      ∙ sym (track_is tracks at (at - 1) some refl))
]

-- words whose gate is opened are else as they were
gate_keeps : (words : List ℕ) (place : ℕ) (tails : List (List ℕ)) → 0 < length words →
    (gate_of (set words 0 place) ≡ place) × ((mark_of (set words 0 place) ≡ mark_of words)
    × ((ino_of (set words 0 place) ≡ ino_of words)
    × (request_of (set words 0 place) tails ≡ request_of words tails)))
gate_keeps [] place tails some = absurd (omega arith)
gate_keeps (gate ∷ words) place tails some = (refl, (refl, (refl, refl)))

-- what fits a request whose gate may be open
opened-fits : (ino place : ℕ) (now : Holding) (request : Request) (words : List ℕ)
    (tails : List (List ℕ)) → IsStagedAs ino request words tails →
    can_be now.gate true ≡ true → now.mark ≡ Off → now.request ≡ Some request → 0 < place →
    0 < length words → SlotFits ino place now (set words 0 place ∷ tails)
opened-fits ino place now request words tails staged gate mark asked some long =
    let keeps = gate_keeps words place tails long in
    let opened : is_gated (set words 0 place) ≡ true =
    let other : place ≢ 0 = λ same. omega (arith, same, some) in
    let test : (place == 0) ≡ false = grind (arith, nat_tests) in
    ap (λ (g : ℕ). not (g == 0)) keeps.0 ∙ rw test refl in
    record {
      gate = rw opened gate;
      number = λ gated. keeps.0;
      mark = λ gated. rw (mark, keeps.1.0, staged.mark) refl;
      file = λ gated. keeps.1.1.0 ∙ staged.file;
      request = λ gated. asked ∙ ap (λ (r : Request). Some r) (sym (keeps.1.1.1 ∙ staged.is));
    }

pub closed-fits : (ino place : ℕ) (now : Holding) (words : List ℕ) (tails : List (List ℕ)) →
    gate_of words ≡ 0 → can_be now.gate false ≡ true → SlotFits ino place now (words ∷ tails)
closed-fits ino place now words tails zero_ gate =
    let closed : is_gated words ≡ false = rw zero_ refl in
    record {
      gate = rw closed gate;
      number = λ gated. cc;
      mark = λ gated. cc;
      file = λ gated. cc;
      request = λ gated. cc;
    }

none_is : (o : Option Doubt) → is_none o ≡ true → o ≡ None
none_is None h = refl
none_is (Some d) h = cc

pub admissions-show : AdmissionsShow
admissions-show ino n grant entry core world head new tails obeys result asked_old asked_new good shows
    allowed room here long staged sets = record {
      moments = all.0;
      ok = ended result sets;
      err = failed result;
    }
  where
    tried : Core
    tried = after core (events.Admit entry grant false)

    kept_core : Core
    kept_core = after core (events.Admit entry grant true)

    request : Request
    request = placed (span_now core entry.request) entry.request

    admits : may_admit core entry ≡ true
    admits = (both (is_in_phase core.crashed (events.Admit entry grant true)) (may_admit core entry)
        allowed).1

    settled : core.doubt ≡ None
    settled = none_is core.doubt (both (is_none core.doubt) _ admits).0

    place_is : entry.place ≡ length core.log + 1
    place_is = same_number entry.place (length core.log + 1)
        (both (is_next core entry) _ (both (is_none core.doubt) _ admits).1).0

    plain : (at : ℕ) →
        holding core core.doubt at ≡ logged_at core.log (track core.tracks at) at
    plain at = ap (λ (o : Option Doubt). holding core o at) settled

    differs : DiffersAt entry.place core tried
    differs = record {
      size = refl;
      sizes = refl;
      tags = refl;
      loose = refl;
      bytes = refl;
      held = λ at other.
          holding-logged tried tried.doubt at (λ d same number. other (sym
          (sym (some_place_same d _ (sym same)) ∙ number)))
          ∙ sym (plain at);
    }

    free : (track core.tracks entry.place).gate ≡ Off
    free =
        let some : entry.place ≡ 0 → ⊥ = λ same. omega (arith, same, place_is) in
        ap (λ (t : Track). t.gate) (track_is core.tracks entry.place (entry.place - 1) some refl
        ∙ get_or_past core.tracks (entry.place - 1) blank
        (omega (arith, place_is, shows.shape.tracks)))

    shape : HasShape tried
    shape = record {
      tags = shows.shape.tags;
      tracks = shows.shape.tracks;
      doubt = λ d is.
          let number : d.entry.place ≡ entry.place = some_place_same d _ (sym is) in
          record {
            from = omega (arith, number, place_is);
            to = omega (arith, number, place_is);
            apart = rw number free;
          };
      loose = shows.shape.loose;
    }

    held : holding tried tried.doubt entry.place
        ≡ record { gate = Unsure; mark = Off; request = Some request }
    held = rw (equal_test entry.place) refl

    fits : (image : List ℕ) (rest : List (List ℕ)) → IsSetFrom head 0 entry.place image →
        IsEachImage IsImage tails rest →
        SlotFits ino entry.place (holding tried tried.doubt entry.place) (image ∷ rest)
    fits image rest set_ images =
        rw held (elim set_.same [
          | inl same ↦
              closed-fits ino entry.place
              (record { gate = Unsure; mark = Off; request = Some request }) image rest
              (rw same (staged set_.first rest set_.possible images).gate) refl
          | inr done ↦
              rw done (opened-fits ino entry.place
              (record { gate = Unsure; mark = Off; request = Some request }) request set_.first rest
              (staged set_.first rest set_.possible images) refl refl refl (omega (arith, place_is))
              (omega (arith, set_.possible.size, long)))
        ])

    all : WorldMoments (Recovers ino n tried) asked_old world asked_new
        (with_slots entry.place (new ∷ tails) world)
        × Shows ino tried (with_slots entry.place (new ∷ tails) world)
    all = heads-set ino n entry.place 0 entry.place core tried world head new tails asked_old asked_new
        shows here differs good shape room fits sets.moments

    failed : (result : Answer) →
        OnErr result (Shows ino tried (with_slots entry.place (new ∷ tails) world))
    failed (Ok value) = tt
    failed (Err e) = all.1

    kept_differs : DiffersAt entry.place core kept_core
    kept_differs = record {
      size = refl;
      sizes = refl;
      tags = refl;
      loose = refl;
      bytes = refl;
      held = λ at other. holding-same core kept_core core.doubt at
          (logged-other at (λ same. other (omega (arith, same, place_is))));
    }
      where
        logged-other : (at : ℕ) → at ≢ length core.log + 1 →
            logged_at kept_core.log (track kept_core.tracks at) at
            ≡ logged_at core.log (track core.tracks at) at
        logged-other at other =
            rw (
              entry-other core.log entry at other,
              track-other core.tracks (change_track grant (span_now core entry.request)) at
                  (λ same. other (omega (arith, same, shows.shape.tracks))),
            ) refl

    kept_shape : HasShape kept_core
    kept_shape = record {
      tags = shows.shape.tags;
      tracks = omega (
        arith,
        shows.shape.tracks,
        length-append core.tracks (change_track grant (span_now core entry.request) ∷ []),
        length-append core.log (entry ∷ []),
      );
      doubt = λ d is. let none : None ≡ Some d = sym settled ∙ is in cc;
      loose = shows.shape.loose;
    }

    kept_held : holding kept_core kept_core.doubt entry.place
        ≡ record { gate = On; mark = Off; request = Some request }
    kept_held =
        let t : Track = change_track grant (span_now core entry.request) in
        let some : entry.place ≡ 0 → ⊥ = λ same. omega (arith, same, place_is) in
        let index : entry.place - 1 ≡ length core.log = omega (arith, place_is) in
        let track_here : track kept_core.tracks entry.place ≡ t =
        track_is kept_core.tracks entry.place (entry.place - 1) some refl
        ∙ (ap (λ (k : ℕ). get_or kept_core.tracks k blank) (index ∙ sym shows.shape.tracks)
        ∙ get-last core.tracks t blank) in
        let test : (entry.place == 0) ≡ false = grind (arith, nat_tests) in
        let entry_here : entry_of kept_core.log entry.place ≡ Some entry =
        ap (λ (b : Bool). if b then None else slice_get kept_core.log (entry.place - 1)) test
        ∙ (ap (λ (k : ℕ). slice_get kept_core.log k) index ∙ slice-last core.log entry) in
        ap (λ (o : Option Doubt). holding kept_core o entry.place) settled
        ∙ (ap (λ (u : Track). logged_at kept_core.log u entry.place) track_here
        ∙ ap (λ (o : Option Entry). record {
          gate = On;
          mark = Off;
          request = option_map (λ (e : Entry). placed (span_now core entry.request) e.request) o;
        }) entry_here)

    kept_fits : (value : Unit {0}) → SetsWord obeys 0 entry.place (plain_ok value) asked_old head asked_new new →
        SlotsShown ino entry.place (record { gate = On; mark = Off; request = Some request }) (new ∷ tails)
    kept_fits value sets [] images = absurd images
    kept_fits value sets (image ∷ rest) images =
        let is : image ≡ set (words_of head) 0 entry.place =
        sets.sure image images.0 ∙ ap (λ (s : Seen WordStep). words_of s) sets.ok in
        rw is (opened-fits ino entry.place (record { gate = On; mark = Off; request = Some request })
        request (words_of head) rest
        (staged (words_of head) rest (now_is_image head.history) images.1) refl refl refl
        (omega (arith, place_is)) long)

    ended : (result : Answer) → SetsWord obeys 0 entry.place result asked_old head asked_new new →
        OnOk result (Shows ino kept_core (with_slots entry.place (new ∷ tails) world))
    ended (Err e) sets = tt
    ended (Ok value) sets =
        slots_show ino entry.place core kept_core world (new ∷ tails) shows kept_differs kept_shape
        (rw kept_held (kept_fits value sets))
