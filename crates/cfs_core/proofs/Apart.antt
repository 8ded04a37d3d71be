-- No earlier live entry overlaps one that is out or applied.
use Rattle.std.proofs.Common.{◌≡◌, ◌⊎◌, inl, inr, ℕ, suc, zero, ◌-◌, ◌<◌, Bool, true, false, ◌&&◌, ◌||◌, not, Option, Some, None, List, [], ◌∷◌, ◌++◌, length, take, get_or, set, arith, refl, sym, ◌∙◌, length-append, length-take, get_or-set_other}
use Rattle.std.specs.List.{list_any}
use Rattle.std.proofs.lemmas.Bool.{cases_lt}
use Rattle.std.proofs.lemmas.Grind.{get_or-set_at}
use Rattle.std.proofs.lemmas.List.{get_or-take, get_or_append_left, get_or-append_right, get_or_past, set_past}
use Rattle.std.proofs.lemmas.List.FromFn.{get_or-map-range_with_len, length-map-range_with_len}
use Rattle.cfs_file.specs.declared.entry.Entry.{Entry}
use Rattle.cfs_file.specs.declared.span.Span.{Span}
use Rattle.cfs_file.specs.Span.{meets}
use Rattle.cfs_core.specs.declared.state.State.{State}
use Rattle.cfs_core.specs.declared.state.State.TheVariants.{Waiting, Out, Noop, Unserved, Closed}
use Rattle.cfs_core.specs.declared.track.Track.{Track}
use Rattle.cfs_core.specs.declared.image.Image.{Image}
use Rattle.cfs_core.specs.declared.event.Event.{Event}
use Rattle.cfs_core.specs.declared.event.Event.TheVariants as events
use Rattle.cfs_core.specs.declared.event.End.{End}
use Rattle.cfs_core.specs.declared.event.End.TheVariants as ends
use Rattle.cfs_core.specs.declared.event.SizeEnd.{SizeEnd}
use Rattle.cfs_core.specs.declared.event.SizeEnd.TheVariants as sizes
use Rattle.cfs_core.specs.declared.inode_core.Core.{Core}
use Rattle.cfs_core.specs.Words.{blank, has_block, is_live, is_noop, is_out, is_unserved, is_waiting, sized, track}
use Rattle.cfs_core.specs.Fresh.{IsFresh}
use Rattle.cfs_core.specs.Jobs.{next_job, state_flushed, state_written}
use Rattle.cfs_core.specs.May.{case, may_dispatch, meets_live, span_now}
use Rattle.cfs_core.specs.After.{admitted, after, block_written, change_track, crashed_to, finished, flushed, logged, marked, more_to_come, put_back, query_track, retired, sure_track, sure_tracks, with_size, with_state, with_track}
use Rattle.cfs_core.proofs.Legal.{both, neither, or_right}
use Rattle.cfs_core.proofs.Order.{first_of_and, same_or_not, some_place, track_is, writes, serves}

abbrev pub is_busy : Track → Bool
is_busy t = is_out t.state || t.applied

abbrev pub AreApart : Core → Type 0
AreApart core = (i j : ℕ) → i < j → is_live (get_or core.tracks i blank).state ≡ true →
    is_busy (get_or core.tracks j blank) ≡ true →
    meets (get_or core.tracks i blank).span (get_or core.tracks j blank).span ≡ false

-- what stands at an index once a track is put
pub seen : (tracks : List Track) (place : ℕ) (t : Track) (k : ℕ) →
    ((k ≡ place - 1) × (get_or (set tracks (place - 1) t) k blank ≡ t))
    ⊎ (get_or (set tracks (place - 1) t) k blank ≡ get_or tracks k blank)
seen tracks place t k = elim (same_or_not k (place - 1)) [
  | inl same ↦ elim (cases_lt (place - 1) (length tracks)) [
    | inl within ↦ inl (same, get_or-set_at tracks (place - 1) k t blank same within)
    | inr past ↦
        let kept : set tracks (place - 1) t ≡ tracks = set_past tracks (place - 1) t past in
        inr (rw kept refl)
  ]
  | inr other ↦ inr (get_or-set_other tracks (place - 1) k t blank other)
]

apart_put : (core : Core) (place : ℕ) (t : Track) → AreApart core → (place ≡ 0 → ⊥) →
    t.span ≡ (track core.tracks place).span →
    (is_live t.state ≡ true → is_live (track core.tracks place).state ≡ true) →
    (is_busy t ≡ true →
    (is_busy (track core.tracks place) ≡ true)
    ⊎ ((i : ℕ) → i < place - 1 → is_live (get_or core.tracks i blank).state ≡ true →
    meets (get_or core.tracks i blank).span (track core.tracks place).span ≡ false)) →
    AreApart (with_track core place t)
apart_put core place t apart some same_span lives busies i j less =
    put (seen core.tracks place t i) (seen core.tracks place t j)
  where
    put : ((i ≡ place - 1) × (get_or (set core.tracks (place - 1) t) i blank ≡ t))
        ⊎ (get_or (set core.tracks (place - 1) t) i blank ≡ get_or core.tracks i blank) →
        ((j ≡ place - 1) × (get_or (set core.tracks (place - 1) t) j blank ≡ t))
        ⊎ (get_or (set core.tracks (place - 1) t) j blank ≡ get_or core.tracks j blank) →
        is_live (get_or (set core.tracks (place - 1) t) i blank).state ≡ true →
        is_busy (get_or (set core.tracks (place - 1) t) j blank) ≡ true →
        meets (get_or (set core.tracks (place - 1) t) i blank).span
        (get_or (set core.tracks (place - 1) t) j blank).span ≡ false
    put (inl first) (inl second) live busy = absurd (omega arith)
    put (inl first) (inr second) live busy =
        let was : track core.tracks place ≡ get_or core.tracks i blank =
        track_is core.tracks place i some first.0 in
        let old_live : is_live (track core.tracks place).state ≡ true =
        lives (rw first.1 at live) in
        let at_i : is_live (get_or core.tracks i blank).state ≡ true = rw was at old_live in
        let at_j : is_busy (get_or core.tracks j blank) ≡ true = rw second at busy in
        rw (first.1, second, same_span, was) (apart i j less at_i at_j)
    put (inr first) (inl second) live busy =
        let was : track core.tracks place ≡ get_or core.tracks j blank =
        track_is core.tracks place j some second.0 in
        let at_i : is_live (get_or core.tracks i blank).state ≡ true = rw first at live in
        elim (busies (rw second.1 at busy)) [
          | inl old ↦
              let at_j : is_busy (get_or core.tracks j blank) ≡ true = rw was at old in
              rw (first, second.1, same_span, was) (apart i j less at_i at_j)
          | inr clear ↦ rw (first, second.1, same_span) (clear i (omega arith) at_i)
        ]
    put (inr first) (inr second) live busy =
        rw (first, second) (apart i j less (rw first at live) (rw second at busy))

-- an entry that is out
pub out_busy : (t : Track) → is_out t.state ≡ true → is_busy t ≡ true
out_busy t h = rw h refl

pub out_live : (s : State) → is_out s ≡ true → is_live s ≡ true
out_live Waiting h = cc
out_live (Out job) h = refl
out_live Noop h = cc
out_live Unserved h = cc
out_live Closed h = cc

pub block_out : (s : State) (block : ℕ) → has_block s block ≡ true → is_out s ≡ true
block_out Waiting block h = cc
block_out (Out job) block h = refl
block_out Noop block h = cc
block_out Unserved block h = cc
block_out Closed block h = cc

apart_out : (core : Core) (place : ℕ) (t : Track) → AreApart core →
    is_out (track core.tracks place).state ≡ true → t.span ≡ (track core.tracks place).span →
    AreApart (with_track core place t)
apart_out core place t apart h same_span =
    apart_put core place t apart (some_place is_out refl core.tracks place h) same_span
    (λ live. out_live (track core.tracks place).state h)
    (λ busy. inl (out_busy (track core.tracks place) h))

-- a track that is no longer live, applied as before
apart_dead : (core : Core) (place : ℕ) (t : Track) → AreApart core → (place ≡ 0 → ⊥) →
    t.span ≡ (track core.tracks place).span →
    is_live t.state ≡ false → is_out t.state ≡ false →
    t.applied ≡ (track core.tracks place).applied → AreApart (with_track core place t)
apart_dead core place t apart some same_span dead home same_applied =
    apart_put core place t apart some same_span (λ live. clash live dead)
    (λ busy. inl (or_right (is_out (track core.tracks place).state)
    (track core.tracks place).applied (applied busy)))
  where
    clash : is_live t.state ≡ true → is_live t.state ≡ false →
        is_live (track core.tracks place).state ≡ true
    clash live none = cc

    applied : is_busy t ≡ true → (track core.tracks place).applied ≡ true
    applied busy = let own : t.applied ≡ true = rw home at busy in sym same_applied ∙ own

apart_push : (core : Core) (entry : Entry) (t : Track) → AreApart core → is_busy t ≡ false →
    AreApart (logged core entry t)
apart_push core entry t apart idle i j less = push (at i) (at j)
  where
    at : (k : ℕ) →
        ((k < length core.tracks)
        × (get_or (core.tracks ++ t ∷ []) k blank ≡ get_or core.tracks k blank))
        ⊎ (((k ≡ length core.tracks) × (get_or (core.tracks ++ t ∷ []) k blank ≡ t))
        ⊎ (get_or (core.tracks ++ t ∷ []) k blank ≡ blank))
    at k = elim (cases_lt k (length core.tracks)) [
      | inl within ↦ inl (within, get_or_append_left core.tracks (t ∷ []) blank k within)
      | inr past ↦ elim (same_or_not k (length core.tracks)) [
        | inl last ↦
            let now : get_or (core.tracks ++ t ∷ []) k blank
            ≡ get_or (t ∷ []) (k - length core.tracks) blank =
            get_or-append_right core.tracks (t ∷ []) (length core.tracks) k blank refl past in
            let first : k - length core.tracks ≡ 0 = omega arith in
            inr (inl (last, rw (now, first) refl))
        | inr beyond ↦
            inr (inr (get_or_past (core.tracks ++ t ∷ []) k blank
            (omega (arith, length-append core.tracks (t ∷ [])))))
      ]
    ]

    push : ((i < length core.tracks)
        × (get_or (core.tracks ++ t ∷ []) i blank ≡ get_or core.tracks i blank))
        ⊎ (((i ≡ length core.tracks) × (get_or (core.tracks ++ t ∷ []) i blank ≡ t))
        ⊎ (get_or (core.tracks ++ t ∷ []) i blank ≡ blank)) →
        ((j < length core.tracks)
        × (get_or (core.tracks ++ t ∷ []) j blank ≡ get_or core.tracks j blank))
        ⊎ (((j ≡ length core.tracks) × (get_or (core.tracks ++ t ∷ []) j blank ≡ t))
        ⊎ (get_or (core.tracks ++ t ∷ []) j blank ≡ blank)) →
        is_live (get_or (core.tracks ++ t ∷ []) i blank).state ≡ true →
        is_busy (get_or (core.tracks ++ t ∷ []) j blank) ≡ true →
        meets (get_or (core.tracks ++ t ∷ []) i blank).span
        (get_or (core.tracks ++ t ∷ []) j blank).span ≡ false
    push (inl first) (inl second) live busy =
        rw (first.1, second.1) (apart i j less (rw first.1 at live) (rw second.1 at busy))
    push first (inr (inl second)) live busy =
        let own : is_busy t ≡ true = rw second.1 at busy in absurd (cc)
    push first (inr (inr second)) live busy =
        let own : is_busy blank ≡ true = rw second at busy in cc
    push (inr (inl first)) (inl second) live busy = absurd (omega arith)
    push (inr (inr first)) (inl second) live busy =
        let own : is_live blank.state ≡ true = rw first at live in cc

pub any_none : (f : Track → Bool) (tracks : List Track) (i : ℕ) → list_any f tracks ≡ false →
    i < length tracks → f (get_or tracks i blank) ≡ false
any_none f [] i h less = absurd (omega arith)
any_none f (t ∷ tracks) zero h less = (neither (f t) (list_any f tracks) h).0
any_none f (t ∷ tracks) (suc i) h less =
    any_none f tracks i (neither (f t) (list_any f tracks) h).1 (omega arith)

pub live_only : (a b : Bool) → (a && b) ≡ false → a ≡ true → b ≡ false
live_only true b h is = h
live_only false b h is = cc

pub not_true : (b : Bool) → not b ≡ true → b ≡ false
not_true true h = cc
not_true false h = refl

-- what a test of the earlier entries says of each of them
pub none_before : (test : State → Bool) → test Closed ≡ false →
    (tracks : List Track) (place : ℕ) (span : Span) →
    list_any (λ t. test t.state && meets t.span span) (take (place - 1) tracks) ≡ false →
    (i : ℕ) → i < place - 1 → test (get_or tracks i blank).state ≡ true →
    meets (get_or tracks i blank).span span ≡ false
none_before test closed tracks place span none i less passes = elim (cases_lt i (length tracks)) [
  | inl within ↦
      let same : get_or (take (place - 1) tracks) i blank ≡ get_or tracks i blank =
      get_or-take (place - 1) tracks i blank less in
      let tested =
      any_none (λ t. test t.state && meets t.span span) (take (place - 1) tracks) i none
      (omega (arith, length-take (place - 1) tracks)) in
      live_only (test (get_or tracks i blank).state) (meets (get_or tracks i blank).span span)
      (rw same at tested) passes
  | inr past ↦
      let empty : get_or tracks i blank ≡ blank = get_or_past tracks i blank past in
      let own : test blank.state ≡ true = rw empty at passes in
      cc
]

pub waiting_live : (s : State) → is_waiting s ≡ true → is_live s ≡ true
waiting_live Waiting h = refl
waiting_live (Out job) h = cc
waiting_live Noop h = cc
waiting_live Unserved h = cc
waiting_live Closed h = cc

apart_dispatch : (core : Core) (place : ℕ) → AreApart core → may_dispatch core place ≡ true →
    AreApart (with_state core place (Out (next_job core.tags (track core.tracks place))))
apart_dispatch core place apart h =
    let waiting = first_of_and (is_waiting (track core.tracks place).state) _ h in
    let rest = both (is_waiting (track core.tracks place).state) _ h in
    let none =
    not_true (meets_live core.tracks place (track core.tracks place).span)
    (first_of_and (not (meets_live core.tracks place
    (track core.tracks place).span)) _ rest.1) in
    apart_put core place (record (track core.tracks place) {
      state = Out
          (next_job core.tags (track core.tracks place));
    }) apart
    (some_place is_waiting refl core.tracks place waiting) refl
    (λ live. waiting_live (track core.tracks place).state waiting)
    (λ busy. inr (none_before is_live refl core.tracks place (track core.tracks place).span none))

apart_marked : (core : Core) (place : ℕ) (kept : Bool) → AreApart core →
    is_waiting (track core.tracks place).state ≡ true →
    AreApart (with_track core place (marked (track core.tracks place) kept))
apart_marked core place true apart h =
    apart_dead core place (marked (track core.tracks place) true) apart
    (some_place is_waiting refl core.tracks place h) refl refl refl refl
apart_marked core place false apart h =
    apart_put core place (marked (track core.tracks place) false) apart
    (some_place is_waiting refl core.tracks place h) refl (λ live. live) (λ busy. inl busy)

apart_sized : (core : Core) (end : SizeEnd) (size : ℕ) → AreApart core →
    AreApart (with_size core end size)
apart_sized core sizes.AsBefore size apart = apart
apart_sized core sizes.Set size apart = apart
apart_sized core sizes.Either size apart = apart

apart_finished : (core : Core) (place : ℕ) (end : End) → AreApart core →
    is_out (track core.tracks place).state ≡ true →
    AreApart (finished core place (track core.tracks place) end)
apart_finished core place ends.Retired apart h =
    apart_sized (with_track core place (retired (track core.tracks place))) sizes.Set
    (sized core.size (track core.tracks place).span)
    (apart_out core place (retired (track core.tracks place)) apart h refl)
apart_finished core place ends.More apart h =
    apart_out core place (more_to_come (track core.tracks place)) apart h refl
apart_finished core place (ends.Back size gate applied) apart h =
    apart_sized (with_track core place (put_back (track core.tracks place) gate applied)) size
    (sized core.size (track core.tracks place).span)
    (apart_out core place (put_back (track core.tracks place) gate applied) apart h refl)

apart_written : (core : Core) (place block : ℕ) (left : Option (List ℕ)) → AreApart core →
    has_block (track core.tracks place).state block ≡ true →
    AreApart (block_written core place block left)
apart_written core place block None apart h =
    apart_out core place (record (track core.tracks place) {
      state = state_written block true
          (track core.tracks place).state;
    }) apart
    (block_out (track core.tracks place).state block h) refl
apart_written core place block (Some left) apart h =
    apart_out core place (record (track core.tracks place) {
      state = state_written block false
          (track core.tracks place).state;
    }) apart
    (block_out (track core.tracks place).state block h) refl

apart_flushed : (core : Core) (place block : ℕ) (ok : Bool) → AreApart core →
    has_block (track core.tracks place).state block ≡ true → AreApart (flushed core place block ok)
apart_flushed core place block false apart h = apart
apart_flushed core place block true apart h =
    apart_out core place (record (track core.tracks place) {
      state = state_flushed block
          (track core.tracks place).state;
    }) apart
    (block_out (track core.tracks place).state block h) refl

apart_crash : (core : Core) (image : Image) → AreApart core → AreApart (crashed_to core image)
apart_crash core image apart i j less = crash (at i) (at j)
  where
    at : (k : ℕ) →
        (get_or (sure_tracks core.tracks image.gates image.marks) k blank
        ≡ sure_track (get_or core.tracks k blank) (get_or image.gates k false)
        (get_or image.marks k false))
        ⊎ (get_or (sure_tracks core.tracks image.gates image.marks) k blank ≡ blank)
    at k = elim (cases_lt k (length core.tracks)) [
      | inl within ↦
          inl (get_or-map-range_with_len
          (λ n. sure_track (get_or core.tracks n blank) (get_or image.gates n false)
          (get_or image.marks n false)) 0 (length core.tracks) k k blank within (omega arith))
      | inr past ↦ inr (get_or_past (sure_tracks core.tracks image.gates image.marks) k blank
          (omega (
            arith,
            length-map-range_with_len
                (λ n. sure_track (get_or core.tracks n blank) (get_or image.gates n false)
                (get_or image.marks n false)) 0 (length core.tracks),
          )))
    ]

    crash : (get_or (sure_tracks core.tracks image.gates image.marks) i blank
        ≡ sure_track (get_or core.tracks i blank) (get_or image.gates i false)
        (get_or image.marks i false))
        ⊎ (get_or (sure_tracks core.tracks image.gates image.marks) i blank ≡ blank) →
        (get_or (sure_tracks core.tracks image.gates image.marks) j blank
        ≡ sure_track (get_or core.tracks j blank) (get_or image.gates j false)
        (get_or image.marks j false))
        ⊎ (get_or (sure_tracks core.tracks image.gates image.marks) j blank ≡ blank) →
        is_live (get_or (sure_tracks core.tracks image.gates image.marks) i blank).state ≡ true →
        is_busy (get_or (sure_tracks core.tracks image.gates image.marks) j blank) ≡ true →
        meets (get_or (sure_tracks core.tracks image.gates image.marks) i blank).span
        (get_or (sure_tracks core.tracks image.gates image.marks) j blank).span ≡ false
    crash (inl first) (inl second) live busy =
        rw (first, second) (apart i j less (rw first at live) (rw second at busy))
    crash (inr first) second live busy =
        let own : is_live blank.state ≡ true = rw first at live in cc
    crash (inl first) (inr second) live busy =
        let own : is_busy blank ≡ true = rw second at busy in cc

apart_admit : (core : Core) (entry : Entry) (grant : ℕ) (kept : Bool) → AreApart core →
    AreApart (admitted core entry grant kept)
apart_admit core entry grant true apart =
    apart_push core entry (change_track grant (span_now core entry.request)) apart refl
apart_admit core entry grant false apart = apart

pub apart-after : (core : Core) (event : Event) → AreApart core → case core event ≡ true →
    AreApart (after core event)
apart-after core (events.Tag block kept) o h = o
apart-after core (events.Admit entry grant kept) o h = apart_admit core entry grant kept o
apart-after core (events.AdmitRead entry) o h =
    apart_push core entry (query_track (span_now core entry.request)) o refl
apart-after core (events.Serve place answer) o h =
    apart_dead core place (record (track core.tracks place) { state = Closed }) o
    (some_place is_unserved refl core.tracks place (serves core place answer h)) refl refl refl
    refl
apart-after core (events.Mark place by kept) o h =
    apart_marked core place kept o (first_of_and (is_waiting (track core.tracks place).state) _ h)
apart-after core (events.Dispatch place) o h = apart_dispatch core place o h
apart-after core (events.BlockWrite place block left) o h =
    apart_written core place block left o (writes core place block left h)
apart-after core (events.Flush place block ok) o h =
    apart_flushed core place block ok o
    (both _ (has_block (track core.tracks place).state block) h).1
apart-after core (events.Finish place end) o h =
    apart_finished core place end o (first_of_and (is_out (track core.tracks place).state) _ h)
apart-after core (events.Skip place) o h =
    apart_dead core place (retired (track core.tracks place)) o
    (some_place is_noop refl core.tracks place h) refl refl refl refl
apart-after core (events.Trim block kept) o h = o
apart-after core events.Settle o h = o
apart-after core (events.Crash image) o h = apart_crash core image o
apart-after core events.Mount o h = λ i j less live busy. cc

pub apart-empty : (core : Core) → IsFresh core → AreApart core
apart-empty core empty i j less live busy =
    let none : is_live (get_or [] i blank).state ≡ true = rw empty.tracks at live in cc

-- at places, from 1
pub apart-at : (core : Core) → AreApart core → (i j : ℕ) → i < j →
    is_live (track core.tracks i).state ≡ true → is_out (track core.tracks j).state ≡ true →
    meets (track core.tracks i).span (track core.tracks j).span ≡ false
apart-at core apart i j less live out =
    let first = some_place is_live refl core.tracks i live in
    let second = some_place is_out refl core.tracks j out in
    let at_i : track core.tracks i ≡ get_or core.tracks (i - 1) blank =
    track_is core.tracks i (i - 1) first refl in
    let at_j : track core.tracks j ≡ get_or core.tracks (j - 1) blank =
    track_is core.tracks j (j - 1) second refl in
    rw (at_i, at_j) (apart (i - 1) (j - 1) (lower first) (rw at_i at live)
    (out_busy (get_or core.tracks (j - 1) blank) (rw at_j at out)))
  where
    lower : (i ≡ 0 → ⊥) → i - 1 < j - 1
    lower some = omega arith
