-- The moments within each event, and what its steps come to.
use Rattle.std.proofs.Common.{◌≡◌, inl, inr, ℕ, ◌+◌, ◌-◌, ◌<◌, ◌==◌, Bool, true, false, ◌&&◌, ◌||◌, not, if◌then◌else◌, Option, Some, None, List, [], ◌∷◌, ◌++◌, length, map, set, get_or, arith, refl, sym, ◌∙◌, length-set, length-append, get_or-set_other, is_none, nat_lt}
use Rattle.std.specs.List.{All, Any, list_all, list_any, range_with_len}
use Rattle.std.proofs.lemmas.Bool.{cases_lt}
use Rattle.std.proofs.lemmas.List.Elements.{All-cons}
use Rattle.std.proofs.lemmas.Bool.Decides.{nat_tests}
use Rattle.std.proofs.lemmas.Grind.{get_or-set_at}
use Rattle.std.proofs.lemmas.List.{get_or_append_left, get_or-append_right}
use Rattle.cfs_file.specs.declared.sizes.TheConstants.{FILE_BLOCKS}
use Rattle.cfs_file.specs.declared.entry.Entry.{Entry}
use Rattle.cfs_core.specs.declared.doubt.Doubt.{Doubt}
use Rattle.cfs_core.specs.declared.event.End.{End}
use Rattle.cfs_core.specs.declared.event.End.TheVariants as ends
use Rattle.cfs_core.specs.declared.event.Event.{Event}
use Rattle.cfs_core.specs.declared.event.Event.TheVariants as events
use Rattle.cfs_core.specs.declared.event.SizeEnd.{SizeEnd}
use Rattle.cfs_core.specs.declared.event.SizeEnd.TheVariants as sizes
use Rattle.cfs_core.specs.declared.flag.Flag.{Flag}
use Rattle.cfs_core.specs.declared.flag.Flag.TheVariants.{Off, On, Unsure}
use Rattle.cfs_core.specs.declared.state.State.{State}
use Rattle.cfs_core.specs.declared.state.State.TheVariants.{Closed}
use Rattle.cfs_core.specs.declared.stretch.Stretch.{Stretch}
use Rattle.cfs_core.specs.declared.track.Track.{Track}
use Rattle.cfs_core.specs.declared.image.Image.{Image}
use Rattle.cfs_core.specs.declared.inode_core.Core.{Core}
use Rattle.cfs_core.specs.After.{after, change_track, logged, marked, put_back, query_track, retired, with_doubt, with_state, with_tag, with_track}
use Rattle.cfs_core.specs.May.{ends_well, keeps_gate, may, may_finish, span_now}
use Rattle.cfs_core.specs.Medium.{agree, bytes_agree, doubt_gate, gates_agree, is_image, is_size, marks_agree}
use Rattle.cfs_core.specs.Within.{closing_gate, setting_size, within}
use Rattle.cfs_core.specs.Words.{blank, can_be, flag_of, has_block, is_noop, is_on, is_out, is_unserved, is_waiting, sized, track}
use Rattle.cfs_core.specs.Jobs.{state_flushed, state_written}
use Rattle.cfs_core.proofs.Apart.{not_true}
use Rattle.cfs_core.proofs.Goods.{good-kept}
use Rattle.cfs_core.proofs.Images.{all_in_range, doubt-allowed}
use Rattle.cfs_core.proofs.Kept.{IsKept, at}
use Rattle.cfs_core.proofs.Legal.{and_all, both, same_number}
use Rattle.cfs_core.proofs.Moments.{within-may}
use Rattle.cfs_core.proofs.Order.{first_of_and, in_range, same_or_not, serves, some_place, track_is, writes}
use Rattle.cfs_core.proofs.StoredFrames.{in_tracks, same_test}
use Rattle.cfs_core_laws.specs.Changes.{Change, EachMoment, all_changed, back_gates, changed, changes, closing, finish_changes, gated, logged_image, named, size_persisted, size_written, with_gate, written_to}
use Rattle.cfs_core_laws.specs.Laws.{AreImagesOf, RecoversAs, is_step}
use Rattle.cfs_core_laws.specs.Reached.{IsReached, comes}
use Rattle.cfs_core_laws.proofs.Along.{case-of}
use Rattle.cfs_core_laws.proofs.Inside.{Allows, IsAt, Sizes, allows-all, allows-is, allows-same, any-0, any-next, at-gate, at-mark, at-put, at-start, inside-at, inside-images, same-images, sized_core}
use Rattle.cfs_core_laws.proofs.Whole.{IsWhole, whole}

-- one of the named cores has the images
abbrev pub IsNamed : Core → Event → Core → Type 0
IsNamed core event moment = Any (AreImagesOf moment) (named core event)

in-before : (core : Core) (event : Event) (moment : Core) → AreImagesOf moment core →
    IsNamed core event moment
in-before core event moment h = any-0 (AreImagesOf moment) core
    (after core event ∷ map (λ failed. after core failed) (within core event)) h

in-after : (core : Core) (event : Event) (moment : Core) → AreImagesOf moment (after core event) →
    IsNamed core event moment
in-after core event moment h =
    any-next (AreImagesOf moment) core
    (after core event ∷ map (λ failed. after core failed) (within core event))
    (any-0 (AreImagesOf moment) (after core event)
    (map (λ failed. after core failed) (within core event)) h)

in-failed : (core : Core) (event : Event) (moment : Core) (failed : Event) (rest : List Event) →
    within core event ≡ failed ∷ rest → AreImagesOf moment (after core failed) →
    IsNamed core event moment
in-failed core event moment failed rest is h =
    any-next (AreImagesOf moment) core
    (after core event ∷ map (λ e. after core e) (within core event))
    (any-next (AreImagesOf moment) (after core event) (map (λ e. after core e) (within core event))
    (rw is (any-0 (AreImagesOf moment) (after core failed) (map (λ e. after core e) rest) h)))

in-second : (core : Core) (event : Event) (moment : Core) (first failed : Event) (rest : List Event)
    → within core event ≡ first ∷ failed ∷ rest → AreImagesOf moment (after core failed) →
    IsNamed core event moment
in-second core event moment first failed rest is h =
    any-next (AreImagesOf moment) core
    (after core event ∷ map (λ e. after core e) (within core event))
    (any-next (AreImagesOf moment) (after core event) (map (λ e. after core e) (within core event))
    (rw is (any-next (AreImagesOf moment) (after core first)
    (after core failed ∷ map (λ e. after core e) rest)
    (any-0 (AreImagesOf moment) (after core failed) (map (λ e. after core e) rest) h))))

-- ---- the size word

same-sizes : (size : ℕ) (sizes : List ℕ) → Sizes size sizes size sizes
same-sizes size sizes s h = h

-- where the word is right and persisted
right-sizes : (core : Core) (size : ℕ) → ((core.size == size) && (length core.sizes == 0)) ≡ true →
    Sizes core.size core.sizes size []
right-sizes core size right s h =
    let parts = both (core.size == size) (length core.sizes == 0) right in
    let same : core.size ≡ size = same_number core.size size parts.0 in
    rw (← same) (only core.sizes (same_number (length core.sizes) 0 parts.1) h)
  where
    only : (sizes : List ℕ) → length sizes ≡ 0 →
        ((s == core.size) || list_any (λ x. s == x) sizes) ≡ true →
        ((s == core.size) || false) ≡ true
    only [] none is = is
    only (x ∷ xs) none is = absurd (omega arith)

-- ---- a finish

record IsOut (core : Core) (place : ℕ) : Type 0 where
  some : place ≡ 0 → ⊥
  within_ : place - 1 < length core.tracks

out-of : (core : Core) (place : ℕ) (test : State → Bool) → test Closed ≡ false →
    test (track core.tracks place).state ≡ true → IsOut core place
out-of core place test none h =
    let some = some_place test none core.tracks place h in
    let here : track core.tracks place ≡ at core (place - 1) = track_is core.tracks place
    (place - 1) some refl in
    record { some = some; within_ = in_tracks test core.tracks (place - 1) none (rw here at h) }

-- the tracks while the gate is being closed
abbrev being_closed : Core → ℕ → List Track
being_closed core place = set core.tracks (place - 1)
    (record (track core.tracks place) { gate = written_to (track core.tracks place).gate false })

abbrev is_now_closed : Core → ℕ → List Track
is_now_closed core place = set (being_closed core place) (place - 1)
    (record (track (being_closed core place) place) { gate = Off })

closed-at : (core : Core) (place : ℕ) → IsOut core place →
    IsAt core.tracks (is_now_closed core place) place Off (track core.tracks place).mark
closed-at core place out =
    at-gate core.tracks (being_closed core place) place
    (written_to (track core.tracks place).gate false) (track core.tracks place).mark Off
    out.some out.within_
    (at-put core.tracks place
    (record (track core.tracks place)
    { gate = written_to (track core.tracks place).gate false }) out.within_)

-- a moment that differs in the size word and at one place, against a core of that kind
record Moment (core : Core) (place : ℕ) (size : ℕ) (sizes : List ℕ) (tracks : List Track)
    (wider : ℕ) (all : List ℕ) (t : Track) : Type 0 where
  fit : Sizes size sizes wider all
  gate : Flag
  mark : Flag
  there : IsAt core.tracks tracks place gate mark
  gates : Allows gate t.gate
  marks : Allows mark t.mark

moment-images : (core : Core) (place : ℕ) (size : ℕ) (sizes : List ℕ) (tracks : List Track)
    (wider : ℕ) (all : List ℕ) (t : Track) → IsOut core place →
    Moment core place size sizes tracks wider all t →
    AreImagesOf (sized_core core size sizes tracks)
    (sized_core core wider all (set core.tracks (place - 1) t))
moment-images core place size sizes tracks wider all t out m =
    inside-at core place size wider sizes all tracks (set core.tracks (place - 1) t) m.gate m.mark
    t.gate t.mark m.fit m.there (at-put core.tracks place t out.within_) m.gates m.marks

-- before, while, and after the gate is closed
moment-before : (core : Core) (place : ℕ) (size : ℕ) (sizes : List ℕ) (wider : ℕ) (all : List ℕ)
    (t : Track) → IsOut core place → Sizes size sizes wider all →
    Allows (track core.tracks place).gate t.gate → t.mark ≡ (track core.tracks place).mark →
    Moment core place size sizes core.tracks wider all t
moment-before core place size sizes wider all t out fit gates mark = record {
  fit = fit;
  gate = (track core.tracks place).gate;
  mark = (track core.tracks place).mark;
  there = at-start core.tracks place out.some;
  gates = gates;
  marks = allows-is (track core.tracks place).mark t.mark (sym mark);
}

moment-closing : (core : Core) (place : ℕ) (size : ℕ) (sizes : List ℕ) (wider : ℕ) (all : List ℕ)
    (t : Track) → IsOut core place → Sizes size sizes wider all →
    t.gate ≡ Unsure → t.mark ≡ (track core.tracks place).mark →
    Moment core place size sizes (being_closed core place) wider all t
moment-closing core place size sizes wider all t out fit gate mark = record {
  fit = fit;
  gate = written_to (track core.tracks place).gate false;
  mark = (track core.tracks place).mark;
  there = at-put core.tracks place
      (record (track core.tracks place) { gate = written_to (track core.tracks place).gate false })
      out.within_;
  gates = rw gate (allows-all (written_to (track core.tracks place).gate false));
  marks = allows-is (track core.tracks place).mark t.mark (sym mark);
}

moment-closed : (core : Core) (place : ℕ) (size : ℕ) (sizes : List ℕ) (wider : ℕ) (all : List ℕ)
    (t : Track) → IsOut core place → Sizes size sizes wider all →
    t.gate ≡ Off → t.mark ≡ (track core.tracks place).mark →
    Moment core place size sizes (is_now_closed core place) wider all t
moment-closed core place size sizes wider all t out fit gate mark = record {
  fit = fit;
  gate = Off;
  mark = (track core.tracks place).mark;
  there = closed-at core place out;
  gates = allows-is Off t.gate (sym gate);
  marks = allows-is (track core.tracks place).mark t.mark (sym mark);
}

-- which failed events a finish names
names-first : (core : Core) (event : Event) (place size : ℕ) (sizes : List ℕ) (tracks : List Track)
    (wider : ℕ) (all : List ℕ) (t : Track) (failed : Event) (rest : List Event) → IsOut core place →
    within core event ≡ failed ∷ rest →
    after core failed ≡ sized_core core wider all (set core.tracks (place - 1) t) →
    Moment core place size sizes tracks wider all t →
    IsNamed core event (sized_core core size sizes tracks)
names-first core event place size sizes tracks wider all t failed rest out is then_ m =
    in-failed core event (sized_core core size sizes tracks) failed rest is
    (rw then_ (moment-images core place size sizes tracks wider all t out m))

names-second : (core : Core) (event : Event) (place size : ℕ) (sizes : List ℕ) (tracks : List Track)
    (wider : ℕ) (all : List ℕ) (t : Track) (first failed : Event) (rest : List Event) →
    IsOut core place →
    within core event ≡ first ∷ failed ∷ rest →
    after core failed ≡ sized_core core wider all (set core.tracks (place - 1) t) →
    Moment core place size sizes tracks wider all t →
    IsNamed core event (sized_core core size sizes tracks)
names-second core event place size sizes tracks wider all t first failed rest out is then_ m =
    in-second core event (sized_core core size sizes tracks) first failed rest is
    (rw then_ (moment-images core place size sizes tracks wider all t out m))

names-after : (core : Core) (event : Event) (place size : ℕ) (sizes : List ℕ) (tracks : List Track)
    (wider : ℕ) (all : List ℕ) (t : Track) → IsOut core place →
    after core event ≡ sized_core core wider all (set core.tracks (place - 1) t) →
    Moment core place size sizes tracks wider all t →
    IsNamed core event (sized_core core size sizes tracks)
names-after core event place size sizes tracks wider all t out then_ m =
    in-after core event (sized_core core size sizes tracks)
    (rw then_ (moment-images core place size sizes tracks wider all t out m))

-- the size that a finish sets
abbrev new_size : Core → ℕ → ℕ
new_size core place = sized core.size (track core.tracks place).span

abbrev is_right : Core → ℕ → Bool
is_right core place = (core.size == new_size core place) && (length core.sizes == 0)

abbrev more_sizes : Core → List ℕ
more_sizes core = core.sizes ++ core.size ∷ []

retired-moments : (core : Core) (place : ℕ) → IsOut core place →
    EachMoment (IsNamed core (events.Finish place ends.Retired)) core
    (finish_changes core place (track core.tracks place) ends.Retired)
retired-moments core place out = by (is_right core place) refl
  where
    t : Track
    t = track core.tracks place

    by : (b : Bool) → is_right core place ≡ b →
        EachMoment (IsNamed core (events.Finish place ends.Retired)) core
        ((if b then [] else size_written (new_size core place) ∷ size_persisted ∷ []) ++ closing
        place)
    by true right = (
      in-before core (events.Finish place ends.Retired) core (same-images core),
      (
        names-second core (events.Finish place ends.Retired) place core.size core.sizes
            (being_closed core place) (new_size core place) []
            (put_back (track core.tracks place) Unsure true)
            (setting_size place (track core.tracks place)) (closing_gate place) [] out refl refl
            (moment-closing core place core.size core.sizes (new_size core place) []
            (put_back (track core.tracks place) Unsure true) out
            (right-sizes core (new_size core place) right) refl refl),
        names-after core (events.Finish place ends.Retired) place core.size core.sizes
            (is_now_closed core place) (new_size core place) [] (retired (track core.tracks place))
            out refl
            (moment-closed core place core.size core.sizes (new_size core place) []
            (retired (track core.tracks place)) out
            (right-sizes core (new_size core place) right) refl refl),
      ),
    )
    by false wrong = (
      in-before core (events.Finish place ends.Retired) core (same-images core),
      (
        names-first core (events.Finish place ends.Retired) place (new_size core place)
            (more_sizes core) core.tracks (new_size core place) (more_sizes core)
            (put_back (track core.tracks place) (track core.tracks place).gate
            (track core.tracks place).applied) (setting_size place (track core.tracks place))
            (closing_gate place ∷ []) out refl refl
            (moment-before core place (new_size core place) (more_sizes core) (new_size core place)
            (more_sizes core)
            (put_back (track core.tracks place) (track core.tracks place).gate
            (track core.tracks place).applied) out
            (same-sizes (new_size core place) (more_sizes core))
            (allows-same (track core.tracks place).gate) refl),
        (
          names-second core (events.Finish place ends.Retired) place (new_size core place) []
              core.tracks (new_size core place) [] (put_back (track core.tracks place) Unsure true)
              (setting_size place (track core.tracks place)) (closing_gate place) [] out refl refl
              (moment-before core place (new_size core place) [] (new_size core place) []
              (put_back (track core.tracks place) Unsure true) out
              (same-sizes (new_size core place) []) (allows-all (track core.tracks place).gate)
              refl),
          (
            names-second core (events.Finish place ends.Retired) place (new_size core place) []
                (being_closed core place) (new_size core place) []
                (put_back (track core.tracks place) Unsure true)
                (setting_size place (track core.tracks place)) (closing_gate place) [] out refl refl
                (moment-closing core place (new_size core place) [] (new_size core place) []
                (put_back (track core.tracks place) Unsure true) out
                (same-sizes (new_size core place) []) refl refl),
            names-after core (events.Finish place ends.Retired) place (new_size core place) []
                (is_now_closed core place) (new_size core place) []
                (retired (track core.tracks place)) out refl
                (moment-closed core place (new_size core place) [] (new_size core place) []
                (retired (track core.tracks place)) out (same-sizes (new_size core place) [])
                refl refl),
          ),
        ),
      ),
    )

-- ---- a finish that fails

-- the gate's part, of any kind of core that may be named
record Ways (core : Core) (place : ℕ) (gate : Flag) (applied : Bool) (wider : ℕ) (all : List ℕ)
    (Holds : Core → Type 0) : Type 0 where
  after_ : (moment : Core) →
      AreImagesOf moment
      (sized_core core wider all
      (set core.tracks (place - 1) (put_back (track core.tracks place) gate applied))) →
      Holds moment
  failed_ : gate ≡ Off → (moment : Core) →
      AreImagesOf moment
      (sized_core core wider all
      (set core.tracks (place - 1) (put_back (track core.tracks place) Unsure applied))) →
      Holds moment

on-is : (f : Flag) → is_on f ≡ true → f ≡ On
on-is Off h = cc
on-is On h = refl
on-is Unsure h = cc

-- a Back opens no gate
back-keeps : (core : Core) (place : ℕ) (size : SizeEnd) (gate : Flag) (applied : Bool) →
    ends_well core place (ends.Back size gate applied) ≡ true →
    keeps_gate (track core.tracks place).gate gate ≡ true
back-keeps core place size gate true h =
    first_of_and (keeps_gate (track core.tracks place).gate gate) _ h
back-keeps core place size gate false h =
    first_of_and (keeps_gate (track core.tracks place).gate gate) _ h

gate-moments : (core : Core) (place : ℕ) (gate : Flag) (applied : Bool) (size : ℕ) (sizes : List ℕ)
    (wider : ℕ) (all : List ℕ) (Holds : Core → Type 0) → IsOut core place →
    Sizes size sizes wider all →
    keeps_gate (track core.tracks place).gate gate ≡ true →
    Ways core place gate applied wider all Holds →
    EachMoment Holds (sized_core core size sizes core.tracks) (back_gates place gate)
gate-moments core place On applied size sizes wider all Holds out fit kept ways =
    ways.after_ (sized_core core size sizes core.tracks)
    (moment-images core place size sizes core.tracks wider all
    (put_back (track core.tracks place) On applied) out
    (moment-before core place size sizes wider all (put_back (track core.tracks place) On applied)
    out fit (allows-is (track core.tracks place).gate On
    (on-is (track core.tracks place).gate kept)) refl))
gate-moments core place Unsure applied size sizes wider all Holds out fit kept ways = (
  ways.after_ (sized_core core size sizes core.tracks)
      (moment-images core place size sizes core.tracks wider all
      (put_back (track core.tracks place) Unsure applied) out
      (moment-before core place size sizes wider all
      (put_back (track core.tracks place) Unsure applied) out fit
      (allows-all (track core.tracks place).gate) refl)),
  ways.after_ (sized_core core size sizes (being_closed core place))
      (moment-images core place size sizes (being_closed core place) wider all
      (put_back (track core.tracks place) Unsure applied) out
      (moment-closing core place size sizes wider all
      (put_back (track core.tracks place) Unsure applied) out fit refl refl)),
)
gate-moments core place Off applied size sizes wider all Holds out fit kept ways = (
  ways.failed_ refl (sized_core core size sizes core.tracks)
      (moment-images core place size sizes core.tracks wider all
      (put_back (track core.tracks place) Unsure applied) out
      (moment-before core place size sizes wider all
      (put_back (track core.tracks place) Unsure applied) out fit
      (allows-all (track core.tracks place).gate) refl)),
  (
    ways.failed_ refl (sized_core core size sizes (being_closed core place))
        (moment-images core place size sizes (being_closed core place) wider all
        (put_back (track core.tracks place) Unsure applied) out
        (moment-closing core place size sizes wider all
        (put_back (track core.tracks place) Unsure applied) out fit refl refl)),
    ways.after_ (sized_core core size sizes (is_now_closed core place))
        (moment-images core place size sizes (is_now_closed core place) wider all
        (put_back (track core.tracks place) Off applied) out
        (moment-closed core place size sizes wider all
        (put_back (track core.tracks place) Off applied) out fit refl refl)),
  ),
)

before-ways : (core : Core) (place : ℕ) (gate : Flag) (applied : Bool) →
    Ways core place gate applied core.size core.sizes
    (IsNamed core (events.Finish place (ends.Back sizes.AsBefore gate applied)))
before-ways core place gate applied = record {
  after_ = λ moment h. in-after core (events.Finish place (ends.Back sizes.AsBefore gate applied))
      moment h;
  failed_ = λ is moment h. in-failed core
      (events.Finish place (ends.Back sizes.AsBefore gate applied)) moment
      (events.Finish place (ends.Back sizes.AsBefore Unsure applied)) [] (rw is refl) h;
}

set-ways : (core : Core) (place : ℕ) (gate : Flag) (applied : Bool) →
    Ways core place gate applied (new_size core place) []
    (IsNamed core (events.Finish place (ends.Back sizes.Set gate applied)))
set-ways core place gate applied = record {
  after_ = λ moment h. in-after core (events.Finish place (ends.Back sizes.Set gate applied)) moment
      h;
  failed_ = λ is moment h. in-second core (events.Finish place (ends.Back sizes.Set gate applied))
      moment (setting_size place (track core.tracks place))
      (events.Finish place (ends.Back sizes.Set Unsure applied)) [] (rw is refl) h;
}

either-ways : (core : Core) (place : ℕ) (gate : Flag) (applied : Bool) →
    Ways core place gate applied (new_size core place) (more_sizes core)
    (IsNamed core (events.Finish place (ends.Back sizes.Either gate applied)))
either-ways core place gate applied = record {
  after_ = λ moment h. in-after core (events.Finish place (ends.Back sizes.Either gate applied))
      moment h;
  failed_ = λ is moment h. in-failed core
      (events.Finish place (ends.Back sizes.Either gate applied)) moment
      (events.Finish place (ends.Back sizes.Either Unsure applied)) [] (rw is refl) h;
}

-- the size word's part, and then the gate's
back-moments : (core : Core) (place : ℕ) (size : SizeEnd) (gate : Flag) (applied : Bool) →
    IsOut core place → keeps_gate (track core.tracks place).gate gate ≡ true →
    EachMoment (IsNamed core (events.Finish place (ends.Back size gate applied))) core
    (finish_changes core place (track core.tracks place) (ends.Back size gate applied))
back-moments core place sizes.AsBefore gate applied out kept =
    gate-moments core place gate applied core.size core.sizes core.size core.sizes
    (IsNamed core (events.Finish place (ends.Back sizes.AsBefore gate applied))) out
    (same-sizes core.size core.sizes) kept
    (before-ways core place gate applied)
back-moments core place sizes.Set gate applied out kept = by (is_right core place) refl
  where
    by : (b : Bool) → is_right core place ≡ b →
        EachMoment (IsNamed core (events.Finish place (ends.Back sizes.Set gate applied))) core
        ((if b then [] else size_written (new_size core place) ∷ size_persisted ∷ []) ++
        back_gates place gate)
    by true right =
        gate-moments core place gate applied core.size core.sizes (new_size core place) []
        (IsNamed core (events.Finish place (ends.Back sizes.Set gate applied))) out
        (right-sizes core (new_size core place) right) kept
        (set-ways core place gate applied)
    by false wrong = (
      in-before core (events.Finish place (ends.Back sizes.Set gate applied)) core
          (same-images core),
      (
        in-failed core (events.Finish place (ends.Back sizes.Set gate applied))
            (sized_core core (new_size core place) (more_sizes core) core.tracks)
            (setting_size place (track core.tracks place)) _ refl
            (moment-images core place (new_size core place) (more_sizes core) core.tracks
            (new_size core place) (more_sizes core)
            (put_back (track core.tracks place) (track core.tracks place).gate
            (track core.tracks place).applied) out
            (moment-before core place (new_size core place) (more_sizes core) (new_size core place)
            (more_sizes core)
            (put_back (track core.tracks place) (track core.tracks place).gate
            (track core.tracks place).applied) out
            (same-sizes (new_size core place) (more_sizes core))
            (allows-same (track core.tracks place).gate) refl)),
        gate-moments core place gate applied (new_size core place) [] (new_size core place) []
            (IsNamed core (events.Finish place (ends.Back sizes.Set gate applied))) out
            (same-sizes (new_size core place) []) kept
            (set-ways core place gate applied),
      ),
    )
back-moments core place sizes.Either gate applied out kept = (
  in-before core (events.Finish place (ends.Back sizes.Either gate applied)) core
      (same-images core),
  gate-moments core place gate applied (new_size core place) (more_sizes core) (new_size core place)
      (more_sizes core) (IsNamed core (events.Finish place (ends.Back sizes.Either gate applied)))
      out
      (same-sizes (new_size core place) (more_sizes core)) kept
      (either-ways core place gate applied),
)

-- ---- a tag

-- a tag that is set, against one that is set otherwise
tags-inside : (core : Core) (small big : List Flag) → length small ≡ length big →
    ((k : ℕ) → Allows (get_or small k Off) (get_or big k Off)) →
    AreImagesOf (record core { tags = small }) (record core { tags = big })
tags-inside core small big many each = inside-images (record core { tags = small })
    (record core { tags = big }) (record {
      size = λ s h. h;
      many_tags = many;
      tags = each;
      many_bytes = refl;
      bytes = λ p calm. (calm, refl);
      many = refl;
      gates = λ k. allows-same (at core k).gate;
      marks = λ k. allows-same (at core k).mark;
      doubt = allows-same (doubt_gate core.doubt);
    })

tag-at : (tags : List Flag) (block : ℕ) (one other : Flag) → block < length tags →
    Allows one other → (k : ℕ) →
    Allows (get_or (set tags block one) k Off) (get_or (set tags block other) k Off)
tag-at tags block one other within allows k = elim (same_or_not k block) [
  | inl here ↦
      let first : get_or (set tags block one) k Off ≡ one = get_or-set_at tags block k one Off here
      within in
      let second : get_or (set tags block other) k Off ≡ other = get_or-set_at tags block k other
      Off here within in
      λ b h. rw second (allows b (rw first at h))
  | inr apart ↦
      let first : get_or (set tags block one) k Off ≡ get_or tags k Off =
      get_or-set_other tags block k one Off apart in
      let second : get_or (set tags block other) k Off ≡ get_or tags k Off =
      get_or-set_other tags block k other Off apart in
      λ b h. rw second (rw first at h)
]

-- the same flag, set once or twice
tag-twice : (tags : List Flag) (block : ℕ) (first flag : Flag) → block < length tags → (k : ℕ) →
    Allows (get_or (set (set tags block first) block flag) k Off)
    (get_or (set tags block flag) k Off)
tag-twice tags block first flag within k = elim (same_or_not k block) [
  | inl here ↦
      let one : get_or (set (set tags block first) block flag) k Off ≡ flag =
      get_or-set_at (set tags block first) block k flag Off here
      (omega (arith, length-set tags block first)) in
      let other : get_or (set tags block flag) k Off ≡ flag = get_or-set_at tags block k flag Off
      here within in
      λ b h. rw other (rw one at h)
  | inr apart ↦
      let one : get_or (set (set tags block first) block flag) k Off ≡ get_or tags k Off =
      get_or-set_other (set tags block first) block k flag Off apart ∙ get_or-set_other tags block k
      first Off apart in
      let other : get_or (set tags block flag) k Off ≡ get_or tags k Off =
      get_or-set_other tags block k flag Off apart in
      λ b h. rw other (rw one at h)
]

abbrev tag_now : Core → ℕ → Bool → Flag
tag_now core block bit = written_to (get_or core.tags block Off) bit

tag-writing : (core : Core) (block : ℕ) (bit : Bool) → block < length core.tags →
    AreImagesOf (with_tag core block (tag_now core block bit)) (with_tag core block Unsure)
tag-writing core block bit within =
    tags-inside core (set core.tags block (tag_now core block bit)) (set core.tags block Unsure)
    (length-set core.tags block (tag_now core block bit) ∙ sym (length-set core.tags block Unsure))
    (tag-at core.tags block (tag_now core block bit) Unsure within
    (allows-all (tag_now core block bit)))

tag-flushing : (core : Core) (block : ℕ) (bit : Bool) → block < length core.tags →
    AreImagesOf (with_tag (with_tag core block (tag_now core block bit)) block (flag_of bit))
    (with_tag core block (flag_of bit))
tag-flushing core block bit within =
    tags-inside core (set (set core.tags block (tag_now core block bit)) block (flag_of bit))
    (set core.tags block (flag_of bit))
    (length-set (set core.tags block (tag_now core block bit)) block (flag_of bit)
    ∙ (length-set core.tags block (tag_now core block bit)
    ∙ sym (length-set core.tags block (flag_of bit))))
    (tag-twice core.tags block (tag_now core block bit) (flag_of bit) within)

tag-within : (core : Core) (block : ℕ) → IsKept core → nat_lt block FILE_BLOCKS ≡ true →
    block < length core.tags
tag-within core block kept h = let less : block < FILE_BLOCKS = grind (arith, nat_tests) in
    omega (arith, kept.blocks)

-- ---- the request in doubt

doubt-inside : (core : Core) (small big : Option Doubt) →
    Allows (doubt_gate small) (doubt_gate big) →
    AreImagesOf (with_doubt core small) (with_doubt core big)
doubt-inside core small big allows = inside-images (with_doubt core small) (with_doubt core big)
    (record {
      size = λ s h. h;
      many_tags = refl;
      tags = λ k. allows-same (get_or core.tags k Off);
      many_bytes = refl;
      bytes = λ p calm. (calm, refl);
      many = refl;
      gates = λ k. allows-same (at core k).gate;
      marks = λ k. allows-same (at core k).mark;
      doubt = allows;
    })

none-off : (o : Option Doubt) → is_none o ≡ true → doubt_gate o ≡ Off
none-off None h = refl
none-off (Some doubt) h = cc

-- an open or closed gate that is written stays so
settling : (o : Option Doubt) → ((doubt : Doubt) → o ≡ Some doubt → doubt.gate ≡ Unsure) →
    Allows (doubt_gate (gated o (λ gate. written_to gate false))) (doubt_gate o)
settling None unsure b h = h
settling (Some doubt) unsure b h = rw (unsure doubt refl) refl

settled-off : (o : Option Doubt) →
    Allows (doubt_gate (gated (gated o (λ gate. written_to gate false)) (λ gate. flag_of false)))
    Off
settled-off None b h = h
settled-off (Some doubt) b h = h

abbrev slot_of : Core → Entry → ℕ → Flag → Doubt
slot_of core entry grant gate =
    record { entry = entry; grant = grant; span = span_now core entry.request; gate = gate }

-- ---- a mark

abbrev being_marked : Core → ℕ → List Track
being_marked core place = set core.tracks (place - 1)
    (record (track core.tracks place) { mark = written_to (track core.tracks place).mark true })

abbrev is_now_marked : Core → ℕ → List Track
is_now_marked core place = set (being_marked core place) (place - 1)
    (record (track (being_marked core place) place) { mark = On })

marking : (core : Core) (place : ℕ) → IsOut core place →
    Moment core place core.size core.sizes (being_marked core place) core.size core.sizes
    (marked (track core.tracks place) false)
marking core place out = record {
  fit = same-sizes core.size core.sizes;
  gate = (track core.tracks place).gate;
  mark = written_to (track core.tracks place).mark true;
  there = at-put core.tracks place
      (record (track core.tracks place) { mark = written_to (track core.tracks place).mark true })
      out.within_;
  gates = allows-same (track core.tracks place).gate;
  marks = allows-all (written_to (track core.tracks place).mark true);
}

now-marked : (core : Core) (place : ℕ) → IsOut core place →
    Moment core place core.size core.sizes (is_now_marked core place) core.size core.sizes
    (marked (track core.tracks place) true)
now-marked core place out = record {
  fit = same-sizes core.size core.sizes;
  gate = (track core.tracks place).gate;
  mark = On;
  there = at-mark core.tracks (being_marked core place) place (track core.tracks place).gate
      (written_to (track core.tracks place).mark true) On out.some out.within_
      (at-put core.tracks place
      (record (track core.tracks place)
      { mark = written_to (track core.tracks place).mark true }) out.within_);
  gates = allows-all (track core.tracks place).gate;
  marks = allows-same On;
}

-- ---- what only the core notes

-- another state alone
noted : (core : Core) (place : ℕ) (t : Track) → IsOut core place →
    t.gate ≡ (track core.tracks place).gate → t.mark ≡ (track core.tracks place).mark →
    AreImagesOf core (with_track core place t)
noted core place t out gate mark =
    moment-images core place core.size core.sizes core.tracks core.size core.sizes t out
    (moment-before core place core.size core.sizes core.size core.sizes t out
    (same-sizes core.size core.sizes)
    (allows-is (track core.tracks place).gate t.gate (sym gate)) mark)

-- ---- a no-op

closing-noop : (core : Core) (place : ℕ) → IsOut core place →
    (track core.tracks place).gate ≡ Unsure →
    AreImagesOf (with_gate core place (written_to (track core.tracks place).gate false)) core
closing-noop core place out unsure =
    inside-at core place core.size core.size core.sizes core.sizes (being_closed core place)
    core.tracks (written_to (track core.tracks place).gate false) (track core.tracks place).mark
    (track core.tracks place).gate (track core.tracks place).mark (same-sizes core.size core.sizes)
    (at-put core.tracks place
    (record (track core.tracks place)
    { gate = written_to (track core.tracks place).gate false }) out.within_)
    (at-start core.tracks place out.some)
    (rw unsure (allows-same Unsure)) (allows-same (track core.tracks place).mark)

-- ---- each event

-- the other parts of the medium, as a write and a flush leave them
block_writes : (core : Core) (place : ℕ) (state : State) (bytes : List ℕ) (loose : List Stretch) →
    IsOut core place →
    AreImagesOf (record core { bytes = bytes; loose = loose })
    (record (with_state core place state) { bytes = bytes; loose = loose })
block_writes core place state bytes loose out =
    noted (record core { bytes = bytes; loose = loose }) place
    (record (track core.tracks place) { state = state })
    (record { some = out.some; within_ = out.within_ }) refl refl

noop-unsure : (core : Core) → IsWhole core → core.crashed ≡ false → (place : ℕ) →
    is_noop (track core.tracks place).state ≡ true → (track core.tracks place).gate ≡ Unsure
noop-unsure core is up place noop =
    let some = some_place is_noop refl core.tracks place noop in
    let here : track core.tracks place ≡ at core (place - 1) = track_is core.tracks place
    (place - 1) some refl in
    rw here (is.idle up (place - 1) (rw here at noop))

up-of : (core : Core) → not core.crashed ≡ true → core.crashed ≡ false
up-of core h = not_true core.crashed h

pub moments-named : (core : Core) (event : Event) → IsWhole core → may core event ≡ true →
    EachMoment (IsNamed core event) core (changes core event)
moments-named core (events.Tag block true) is h =
    let within_ = tag-within core block is.kept
    (first_of_and (nat_lt block FILE_BLOCKS) _ (case-of core (events.Tag block true) h)) in (
      in-before core (events.Tag block true) core (same-images core),
      (
        in-failed core (events.Tag block true) (with_tag core block (tag_now core block true))
            (events.Tag block false) [] refl (tag-writing core block true within_),
        in-after core (events.Tag block true)
            (with_tag (with_tag core block (tag_now core block true)) block On)
            (tag-flushing core block true within_),
      ),
    )
moments-named core (events.Tag block false) is h =
    let within_ = tag-within core block is.kept
    (first_of_and (nat_lt block FILE_BLOCKS) _ (case-of core (events.Tag block false) h)) in (
      in-before core (events.Tag block false) core (same-images core),
      in-after core (events.Tag block false) (with_tag core block (tag_now core block true))
          (tag-writing core block true within_),
    )
moments-named core (events.Admit entry grant true) is h =
    let none = (both (is_none core.doubt) _ (case-of core (events.Admit entry grant true) h)).0 in (
      in-before core (events.Admit entry grant true) core (same-images core),
      (
        in-before core (events.Admit entry grant true)
            (with_doubt core (Some (slot_of core entry grant Off)))
            (doubt-inside core (Some (slot_of core entry grant Off)) core.doubt
            (allows-is Off (doubt_gate core.doubt) (sym (none-off core.doubt none)))),
        (
          in-failed core (events.Admit entry grant true)
              (with_doubt core (Some (slot_of core entry grant Unsure)))
              (events.Admit entry grant false) [] refl
              (same-images (with_doubt core (Some (slot_of core entry grant Unsure)))),
          in-failed core (events.Admit entry grant true)
              (with_doubt core (Some (slot_of core entry grant On)))
              (events.Admit entry grant false) [] refl
              (doubt-inside core (Some (slot_of core entry grant On))
              (Some (slot_of core entry grant Unsure)) (allows-all On)),
        ),
      ),
    )
moments-named core (events.Admit entry grant false) is h =
    let none = (both (is_none core.doubt) _ (case-of core (events.Admit entry grant false) h)).0 in (
      in-before core (events.Admit entry grant false) core (same-images core),
      (
        in-before core (events.Admit entry grant false)
            (with_doubt core (Some (slot_of core entry grant Off)))
            (doubt-inside core (Some (slot_of core entry grant Off)) core.doubt
            (allows-is Off (doubt_gate core.doubt) (sym (none-off core.doubt none)))),
        in-after core (events.Admit entry grant false)
            (with_doubt core (Some (slot_of core entry grant Unsure)))
            (same-images (with_doubt core (Some (slot_of core entry grant Unsure)))),
      ),
    )
moments-named core (events.AdmitRead entry) is h = in-before core (events.AdmitRead entry) core
    (same-images core)
moments-named core (events.Serve place answer) is h = in-before core (events.Serve place answer)
    core (same-images core)
moments-named core (events.Mark place by true) is h =
    let out = out-of core place is_waiting refl
    (first_of_and (is_waiting (track core.tracks place).state) _
    (case-of core (events.Mark place by true) h)) in (
      in-before core (events.Mark place by true) core (same-images core),
      (
        names-first core (events.Mark place by true) place core.size core.sizes
            (being_marked core place) core.size core.sizes (marked (track core.tracks place) false)
            (events.Mark place by false) [] out refl refl
            (marking core place out),
        names-after core (events.Mark place by true) place core.size core.sizes
            (is_now_marked core place) core.size core.sizes (marked (track core.tracks place) true)
            out refl (now-marked core place out),
      ),
    )
moments-named core (events.Mark place by false) is h =
    let out = out-of core place is_waiting refl
    (first_of_and (is_waiting (track core.tracks place).state) _
    (case-of core (events.Mark place by false) h)) in (
      in-before core (events.Mark place by false) core (same-images core),
      names-after core (events.Mark place by false) place core.size core.sizes
          (being_marked core place) core.size core.sizes (marked (track core.tracks place) false)
          out refl (marking core place out),
    )
moments-named core (events.Dispatch place) is h = in-before core (events.Dispatch place) core
    (same-images core)
moments-named core (events.BlockWrite place block None) is h =
    let out = out-of core place (λ s. has_block s block) refl
    (writes core place block None (case-of core (events.BlockWrite place block None) h)) in (
      in-before core (events.BlockWrite place block None) core (same-images core),
      in-after core (events.BlockWrite place block None)
          (all_changed core (changes core (events.BlockWrite place block None)))
          (block_writes core place (state_written block true (track core.tracks place).state) _ _
          out),
    )
moments-named core (events.BlockWrite place block (Some left)) is h =
    let out = out-of core place (λ s. has_block s block) refl
    (writes core place block (Some left)
    (case-of core (events.BlockWrite place block (Some left)) h)) in (
      in-before core (events.BlockWrite place block (Some left)) core (same-images core),
      in-after core (events.BlockWrite place block (Some left))
          (all_changed core (changes core (events.BlockWrite place block (Some left))))
          (block_writes core place (state_written block false (track core.tracks place).state) _ _
          out),
    )
moments-named core (events.Flush place block true) is h =
    let out = out-of core place (λ s. has_block s block) refl
    (both (nat_lt block FILE_BLOCKS) (has_block (track core.tracks place).state block)
    (case-of core (events.Flush place block true) h)).1 in (
      in-before core (events.Flush place block true) core (same-images core),
      in-after core (events.Flush place block true)
          (all_changed core (changes core (events.Flush place block true)))
          (block_writes core place (state_flushed block (track core.tracks place).state) core.bytes
          _ out),
    )
moments-named core (events.Flush place block false) is h =
    in-before core (events.Flush place block false) core (same-images core)
moments-named core (events.Finish place ends.Retired) is h =
    retired-moments core place
    (out-of core place is_out refl
    (first_of_and (is_out (track core.tracks place).state) _
    (case-of core (events.Finish place ends.Retired) h)))
moments-named core (events.Finish place ends.More) is h =
    in-before core (events.Finish place ends.More) core (same-images core)
moments-named core (events.Finish place (ends.Back size gate applied)) is h =
    let parts = both (is_out (track core.tracks place).state)
    (ends_well core place (ends.Back size gate applied))
    (case-of core (events.Finish place (ends.Back size gate applied)) h) in
    back-moments core place size gate applied (out-of core place is_out refl parts.0)
    (back-keeps core place size gate applied parts.1)
moments-named core (events.Skip place) is h =
    let parts = both (not core.crashed) (is_noop (track core.tracks place).state) h in
    let out = out-of core place is_noop refl parts.1 in (
      in-before core (events.Skip place) core (same-images core),
      (
        in-before core (events.Skip place)
            (with_gate core place (written_to (track core.tracks place).gate false))
            (closing-noop core place out (noop-unsure core is (up-of core parts.0) place parts.1)),
        names-after core (events.Skip place) place core.size core.sizes (is_now_closed core place)
            core.size core.sizes (retired (track core.tracks place)) out refl
            (moment-closed core place core.size core.sizes core.size core.sizes
            (retired (track core.tracks place)) out (same-sizes core.size core.sizes) refl
            refl),
      ),
    )
moments-named core (events.Trim block true) is h =
    let within_ = tag-within core block is.kept
    (first_of_and (nat_lt block FILE_BLOCKS) _ (case-of core (events.Trim block true) h)) in (
      in-before core (events.Trim block true) core (same-images core),
      (
        in-failed core (events.Trim block true) (with_tag core block (tag_now core block false))
            (events.Trim block false) [] refl (tag-writing core block false within_),
        in-after core (events.Trim block true)
            (with_tag (with_tag core block (tag_now core block false)) block Off)
            (tag-flushing core block false within_),
      ),
    )
moments-named core (events.Trim block false) is h =
    let within_ = tag-within core block is.kept
    (first_of_and (nat_lt block FILE_BLOCKS) _ (case-of core (events.Trim block false) h)) in (
      in-before core (events.Trim block false) core (same-images core),
      in-after core (events.Trim block false) (with_tag core block (tag_now core block false))
          (tag-writing core block false within_),
    )
moments-named core events.Settle is h =
    let up = up-of core (first_of_and (not core.crashed) _ h) in (
      in-before core events.Settle core (same-images core),
      (
        in-before core events.Settle
            (with_doubt core (gated core.doubt (λ gate. written_to gate false)))
            (doubt-inside core (gated core.doubt (λ gate. written_to gate false)) core.doubt
            (settling core.doubt (λ doubt there. (is.doubted doubt there).2 up))),
        in-after core events.Settle
            (with_doubt core
            (gated (gated core.doubt (λ gate. written_to gate false)) (λ gate. flag_of false)))
            (doubt-inside core
            (gated (gated core.doubt (λ gate. written_to gate false)) (λ gate. flag_of false))
            None (settled-off core.doubt)),
      ),
    )
moments-named core (events.Crash image) is h = in-before core (events.Crash image) core
    (same-images core)
moments-named core events.Mount is h = in-before core events.Mount core (same-images core)

-- ---- what the steps come to

-- a bit more, for an entry more
more-bits : (f : Track → Flag) (tracks : List Track) (t : Track) (bits : List Bool) (bit : Bool) →
    ((length bits == length tracks) && list_all
    (λ k. can_be (f (get_or tracks k blank)) (get_or bits k false))
    (range_with_len 0 (length tracks))) ≡ true → can_be (f t) bit ≡ true →
    ((length (bits ++ bit ∷ []) == length (tracks ++ t ∷ []))
    && list_all
    (λ k. can_be (f (get_or (tracks ++ t ∷ []) k blank)) (get_or (bits ++ bit ∷ []) k false))
    (range_with_len 0 (length (tracks ++ t ∷ [])))) ≡ true
more-bits f tracks t bits bit h last =
    let parts = both (length bits == length tracks)
    (list_all (λ k. can_be (f (get_or tracks k blank)) (get_or bits k false))
    (range_with_len 0 (length tracks))) h in
    let many : length bits ≡ length tracks = same_number (length bits) (length tracks) parts.0 in
    and_all _ _ (same_test (length (bits ++ bit ∷ [])) (length (tracks ++ t ∷ []))
    (omega (arith, length-append bits (bit ∷ []), length-append tracks (t ∷ []))))
    (all_in_range
    (λ k. can_be (f (get_or (tracks ++ t ∷ []) k blank)) (get_or (bits ++ bit ∷ []) k false)) 0
    (length (tracks ++ t ∷ []))
    (λ k low high. each k many parts.1 (omega (arith, length-append tracks (t ∷ [])))))
  where
    each : (k : ℕ) → length bits ≡ length tracks →
        list_all (λ j. can_be (f (get_or tracks j blank)) (get_or bits j false))
        (range_with_len 0 (length tracks)) ≡ true → k < length tracks + 1 →
        can_be (f (get_or (tracks ++ t ∷ []) k blank)) (get_or (bits ++ bit ∷ []) k false) ≡ true
    each k many all less = elim (cases_lt k (length tracks)) [
      | inl within_ ↦
          let first : get_or (tracks ++ t ∷ []) k blank ≡ get_or tracks k blank =
          get_or_append_left tracks (t ∷ []) blank k within_ in
          let second : get_or (bits ++ bit ∷ []) k false ≡ get_or bits k false =
          get_or_append_left bits (bit ∷ []) false k (omega arith) in
          rw (first, second)
          (in_range (λ j. can_be (f (get_or tracks j blank)) (get_or bits j false)) 0
          (length tracks) k all (omega arith) (omega arith))
      | inr past ↦
          let first : get_or (tracks ++ t ∷ []) k blank ≡ get_or (t ∷ []) (k - length tracks)
          blank = get_or-append_right tracks (t ∷ []) (length tracks) k blank refl past in
          let second : get_or (bits ++ bit ∷ []) k false ≡ get_or (bit ∷ []) (k - length bits)
          false = get_or-append_right bits (bit ∷ []) (length bits) k false refl (omega arith)
          in
          let one : k - length tracks ≡ 0 = omega arith in
          let two : k - length bits ≡ 0 = omega arith in
          rw (first, second, one, two) last
    ]

-- the image of a core with an entry more
logged-image : (core : Core) (entry : Entry) (t : Track) (image : Image) (gate mark doubt : Bool) →
    is_image core image ≡ true → can_be t.gate gate ≡ true → can_be t.mark mark ≡ true →
    can_be (doubt_gate core.doubt) doubt ≡ true →
    is_image (logged core entry t)
    (record image {
      gates = image.gates ++ gate ∷ [];
      marks = image.marks ++ mark ∷ [];
      doubt =
          doubt;
    }) ≡ true
logged-image core entry t image gate mark doubt h gates marks doubts =
    let a = both (is_size core image.size)
    (agree core.tags image.tags &&
    (bytes_agree core image.bytes &&
    (gates_agree core.tracks image.gates &&
    (marks_agree core.tracks image.marks && can_be (doubt_gate core.doubt) image.doubt)))) h in
    let b = both (agree core.tags image.tags)
    (bytes_agree core image.bytes &&
    (gates_agree core.tracks image.gates &&
    (marks_agree core.tracks image.marks && can_be (doubt_gate core.doubt) image.doubt))) a.1 in
    let c = both (bytes_agree core image.bytes)
    (gates_agree core.tracks image.gates &&
    (marks_agree core.tracks image.marks && can_be (doubt_gate core.doubt) image.doubt)) b.1 in
    let d = both (gates_agree core.tracks image.gates)
    (marks_agree core.tracks image.marks && can_be (doubt_gate core.doubt) image.doubt) c.1 in
    let e = both (marks_agree core.tracks image.marks) (can_be (doubt_gate core.doubt) image.doubt)
    d.1 in
    and_all _ _ a.0 (and_all _ _ b.0 (and_all _ _ c.0
    (and_all _ _ (more-bits (λ x. x.gate) core.tracks t image.gates gate d.0 gates)
    (and_all _ _ (more-bits (λ x. x.mark) core.tracks t image.marks mark e.0 marks) doubts))))

-- the slot's gate is open in every image, and nothing was in doubt before
admitted-image : (core : Core) (entry : Entry) (grant : ℕ) → is_none core.doubt ≡ true →
    (image : Image) → is_image (with_doubt core (Some (slot_of core entry grant On))) image ≡ true →
    is_image (logged core entry (change_track grant (span_now core entry.request)))
    (record image {
      gates = image.gates ++ image.doubt ∷ [];
      marks = image.marks ++ false ∷ [];
      doubt = false;
    }) ≡ true
admitted-image core entry grant none image h =
    let a = both (is_size core image.size)
    (agree core.tags image.tags &&
    (bytes_agree core image.bytes &&
    (gates_agree core.tracks image.gates &&
    (marks_agree core.tracks image.marks && can_be On image.doubt)))) h in
    let b = both (agree core.tags image.tags)
    (bytes_agree core image.bytes &&
    (gates_agree core.tracks image.gates &&
    (marks_agree core.tracks image.marks && can_be On image.doubt))) a.1 in
    let c = both (bytes_agree core image.bytes)
    (gates_agree core.tracks image.gates &&
    (marks_agree core.tracks image.marks && can_be On image.doubt)) b.1 in
    let d = both (gates_agree core.tracks image.gates)
    (marks_agree core.tracks image.marks && can_be On image.doubt) c.1 in
    let e = both (marks_agree core.tracks image.marks) (can_be On image.doubt) d.1 in
    let closed : can_be (doubt_gate core.doubt) false ≡ true = rw (none-off core.doubt none) refl in
    and_all _ _ a.0 (and_all _ _ b.0 (and_all _ _ c.0
    (and_all _ _
    (more-bits (λ x. x.gate) core.tracks (change_track grant (span_now core entry.request))
    image.gates image.doubt d.0 e.1)
    (and_all _ _
    (more-bits (λ x. x.mark) core.tracks (change_track grant (span_now core entry.request))
    image.marks false e.0 refl) closed))))

gate-makes : (core : Core) (place : ℕ) (gate : Flag) (applied : Bool) (size : ℕ) (sizes : List ℕ)
    (wider : ℕ) (all : List ℕ) → IsOut core place → Sizes size sizes wider all →
    keeps_gate (track core.tracks place).gate gate ≡ true →
    AreImagesOf (all_changed (sized_core core size sizes core.tracks) (back_gates place gate))
    (sized_core core wider all
    (set core.tracks (place - 1) (put_back (track core.tracks place) gate applied)))
gate-makes core place On applied size sizes wider all out fit kept =
    moment-images core place size sizes core.tracks wider all
    (put_back (track core.tracks place) On applied) out
    (moment-before core place size sizes wider all (put_back (track core.tracks place) On applied)
    out fit (allows-is (track core.tracks place).gate On
    (on-is (track core.tracks place).gate kept)) refl)
gate-makes core place Unsure applied size sizes wider all out fit kept =
    moment-images core place size sizes (being_closed core place) wider all
    (put_back (track core.tracks place) Unsure applied) out
    (moment-closing core place size sizes wider all
    (put_back (track core.tracks place) Unsure applied) out fit refl refl)
gate-makes core place Off applied size sizes wider all out fit kept =
    moment-images core place size sizes (is_now_closed core place) wider all
    (put_back (track core.tracks place) Off applied) out
    (moment-closed core place size sizes wider all (put_back (track core.tracks place) Off applied)
    out fit refl refl)

finish-makes : (core : Core) (place : ℕ) (end : End) → may_finish core place end ≡ true →
    AreImagesOf (all_changed core (changes core (events.Finish place end)))
    (after core (events.Finish place end))
finish-makes core place ends.Retired h = by (is_right core place) refl
  where
    out : IsOut core place
    out = out-of core place is_out refl (first_of_and (is_out (track core.tracks place).state) _ h)

    by : (b : Bool) → is_right core place ≡ b →
        AreImagesOf
        (all_changed core
        ((if b then [] else size_written (new_size core place) ∷ size_persisted ∷ []) ++ closing
        place)) (after core (events.Finish place ends.Retired))
    by true right =
        moment-images core place core.size core.sizes (is_now_closed core place)
        (new_size core place) [] (retired (track core.tracks place)) out
        (moment-closed core place core.size core.sizes (new_size core place) []
        (retired (track core.tracks place)) out (right-sizes core (new_size core place) right)
        refl refl)
    by false wrong =
        moment-images core place (new_size core place) [] (is_now_closed core place)
        (new_size core place) [] (retired (track core.tracks place)) out
        (moment-closed core place (new_size core place) [] (new_size core place) []
        (retired (track core.tracks place)) out (same-sizes (new_size core place) []) refl refl)
finish-makes core place ends.More h =
    noted core place _
    (out-of core place is_out refl (first_of_and (is_out (track core.tracks place).state) _ h))
    refl refl
finish-makes core place (ends.Back sizes.AsBefore gate applied) h =
    let parts = both (is_out (track core.tracks place).state)
    (ends_well core place (ends.Back sizes.AsBefore gate applied)) h in
    gate-makes core place gate applied core.size core.sizes core.size core.sizes
    (out-of core place is_out refl parts.0) (same-sizes core.size core.sizes)
    (back-keeps core place sizes.AsBefore gate applied parts.1)
finish-makes core place (ends.Back sizes.Set gate applied) h = by (is_right core place) refl
  where
    parts : (is_out (track core.tracks place).state ≡ true) ×
        (ends_well core place (ends.Back sizes.Set gate applied) ≡ true)
    parts = both (is_out (track core.tracks place).state)
        (ends_well core place (ends.Back sizes.Set gate applied)) h

    by : (b : Bool) → is_right core place ≡ b →
        AreImagesOf
        (all_changed core
        ((if b then [] else size_written (new_size core place) ∷ size_persisted ∷ []) ++
        back_gates place gate))
        (after core (events.Finish place (ends.Back sizes.Set gate applied)))
    by true right =
        gate-makes core place gate applied core.size core.sizes (new_size core place) []
        (out-of core place is_out refl parts.0) (right-sizes core (new_size core place) right)
        (back-keeps core place sizes.Set gate applied parts.1)
    by false wrong =
        gate-makes core place gate applied (new_size core place) [] (new_size core place) []
        (out-of core place is_out refl parts.0) (same-sizes (new_size core place) [])
        (back-keeps core place sizes.Set gate applied parts.1)
finish-makes core place (ends.Back sizes.Either gate applied) h =
    let parts = both (is_out (track core.tracks place).state)
    (ends_well core place (ends.Back sizes.Either gate applied)) h in
    gate-makes core place gate applied (new_size core place) (more_sizes core) (new_size core place)
    (more_sizes core) (out-of core place is_out refl parts.0)
    (same-sizes (new_size core place) (more_sizes core))
    (back-keeps core place sizes.Either gate applied parts.1)

pub changes-make : (core : Core) (event : Event) → IsWhole core → may core event ≡ true →
    is_step event ≡ true → (image : Image) →
    is_image (all_changed core (changes core event)) image ≡ true →
    is_image (after core event) (logged_image event image) ≡ true
changes-make core (events.Tag block true) is h step =
    tag-flushing core block true
    (tag-within core block is.kept
    (first_of_and (nat_lt block FILE_BLOCKS) _ (case-of core (events.Tag block true) h)))
changes-make core (events.Tag block false) is h step =
    tag-writing core block true
    (tag-within core block is.kept
    (first_of_and (nat_lt block FILE_BLOCKS) _ (case-of core (events.Tag block false) h)))
changes-make core (events.Admit entry grant true) is h step = admitted-image core entry grant
    (both (is_none core.doubt) _ (case-of core (events.Admit entry grant true) h)).0
changes-make core (events.Admit entry grant false) is h step =
    same-images (with_doubt core (Some (slot_of core entry grant Unsure)))
changes-make core (events.AdmitRead entry) is h step = λ image has.
    let doubts : can_be (doubt_gate core.doubt) image.doubt ≡ true = doubt-allowed core image has in
    logged-image core entry (query_track (span_now core entry.request)) image false false
    image.doubt has refl refl doubts
changes-make core (events.Serve place answer) is h step =
    noted core place (record (track core.tracks place) { state = Closed })
    (out-of core place is_unserved refl
    (serves core place answer (case-of core (events.Serve place answer) h))) refl refl
changes-make core (events.Mark place by true) is h step =
    let out = out-of core place is_waiting refl
    (first_of_and (is_waiting (track core.tracks place).state) _
    (case-of core (events.Mark place by true) h)) in
    moment-images core place core.size core.sizes (is_now_marked core place) core.size core.sizes
    (marked (track core.tracks place) true) out (now-marked core place out)
changes-make core (events.Mark place by false) is h step =
    let out = out-of core place is_waiting refl
    (first_of_and (is_waiting (track core.tracks place).state) _
    (case-of core (events.Mark place by false) h)) in
    moment-images core place core.size core.sizes (being_marked core place) core.size core.sizes
    (marked (track core.tracks place) false) out (marking core place out)
changes-make core (events.Dispatch place) is h step =
    noted core place _
    (out-of core place is_waiting refl
    (first_of_and (is_waiting (track core.tracks place).state) _
    (case-of core (events.Dispatch place) h))) refl refl
changes-make core (events.BlockWrite place block None) is h step =
    block_writes core place (state_written block true (track core.tracks place).state) _ _
    (out-of core place (λ s. has_block s block) refl
    (writes core place block None (case-of core (events.BlockWrite place block None) h)))
changes-make core (events.BlockWrite place block (Some left)) is h step =
    block_writes core place (state_written block false (track core.tracks place).state) _ _
    (out-of core place (λ s. has_block s block) refl
    (writes core place block (Some left)
    (case-of core (events.BlockWrite place block (Some left)) h)))
changes-make core (events.Flush place block true) is h step =
    block_writes core place (state_flushed block (track core.tracks place).state) core.bytes _
    (out-of core place (λ s. has_block s block) refl
    (both (nat_lt block FILE_BLOCKS) (has_block (track core.tracks place).state block)
    (case-of core (events.Flush place block true) h)).1)
changes-make core (events.Flush place block false) is h step = same-images core
changes-make core (events.Finish place end) is h step = finish-makes core place end
    (case-of core (events.Finish place end) h)
changes-make core (events.Skip place) is h step =
    let out = out-of core place is_noop refl (case-of core (events.Skip place) h) in
    moment-images core place core.size core.sizes (is_now_closed core place) core.size core.sizes
    (retired (track core.tracks place)) out
    (moment-closed core place core.size core.sizes core.size core.sizes
    (retired (track core.tracks place)) out (same-sizes core.size core.sizes) refl refl)
changes-make core (events.Trim block true) is h step =
    tag-flushing core block false
    (tag-within core block is.kept
    (first_of_and (nat_lt block FILE_BLOCKS) _ (case-of core (events.Trim block true) h)))
changes-make core (events.Trim block false) is h step =
    tag-writing core block false
    (tag-within core block is.kept
    (first_of_and (nat_lt block FILE_BLOCKS) _ (case-of core (events.Trim block false) h)))
changes-make core events.Settle is h step =
    doubt-inside core
    (gated (gated core.doubt (λ gate. written_to gate false)) (λ gate. flag_of false)) None
    (settled-off core.doubt)
changes-make core (events.Crash image) is h step = cc
changes-make core events.Mount is h step = cc

-- ---- what is named is reached

failed-reached : (core : Core) → IsReached core → (list : List Event) →
    list_all (may core) list ≡ true → All IsReached (map (λ failed. after core failed) list)
failed-reached core reached [] h = λ k d less. absurd (omega arith)
failed-reached core reached (event ∷ list) h =
    let parts = both (may core event) (list_all (may core) list) h in
    All-cons IsReached (after core event) (map (λ failed. after core failed) list)
    (comes core event reached parts.0) (failed-reached core reached list parts.1)

pub all-reached : (core : Core) (event : Event) → IsReached core → may core event ≡ true →
    All IsReached (named core event)
all-reached core event reached h =
    All-cons IsReached core
    (after core event ∷ map (λ failed. after core failed) (within core event))
    reached
    (All-cons IsReached (after core event) (map (λ failed. after core failed) (within core event))
    (comes core event reached h)
    (failed-reached core reached (within core event)
    (within-may core event (whole reached).kept.sound h)))

-- ---- what a crash at a moment recovers

each-moment : (One Other : Core → Type 0) → ((moment : Core) → One moment → Other moment) →
    (core : Core) (list : List Change) → EachMoment One core list → EachMoment Other core list
each-moment One Other gives core [] holds = gives core holds
each-moment One Other gives core (change ∷ list) holds =
    (gives core holds.0, each-moment One Other gives (changed core change) list holds.1)

recovers-as : (moment other : Core) → IsReached other → AreImagesOf moment other →
    RecoversAs moment other
recovers-as moment other reached images image h = (good-kept other (whole reached).kept).recovers
    image (images image h)

any-recovers : (cores : List Core) (moment : Core) → All IsReached cores →
    Any (AreImagesOf moment) cores →
    Any (RecoversAs moment) cores
any-recovers cores moment reached found =
    let is_reached : IsReached found.1 = rw found.3 at (reached found.0 found.1 found.2) in
    (found.0, found.1, found.2, found.3, recovers-as moment found.1 is_reached found.4)

pub moments-recover : (core : Core) (event : Event) → IsReached core → may core event ≡ true →
    EachMoment (λ moment. Any (RecoversAs moment) (named core event)) core (changes core event)
moments-recover core event reached h =
    each-moment (IsNamed core event) (λ moment. Any (RecoversAs moment) (named core event))
    (λ moment found. any-recovers (named core event) moment (all-reached core event reached h)
    found)
    core (changes core event) (moments-named core event (whole reached) h)
