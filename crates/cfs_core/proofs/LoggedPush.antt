-- A logged entry keeps the log's part of the invariant: it is the last at its positions.
use Rattle.std.proofs.Common.{◌≡◌, ◌⊎◌, inl, inr, ℕ, suc, zero, ◌+◌, ◌-◌, ◌<◌, ◌≤◌, Bool, true, false, not, Some, List, [], ◌∷◌, ◌++◌, length, take, get_or, arith, refl, sym, ◌∙◌, length-append, is_none}
use Rattle.std.specs.List.{slice_get}
use Rattle.std.proofs.lemmas.Bool.{cases_Bool, cases_lt}
use Rattle.std.proofs.lemmas.List.{get_or_append_left, get_or-append_right, get_or_past, take_all}
use Rattle.cfs_file.specs.declared.entry.Entry.{Entry}
use Rattle.cfs_file.specs.File.{effect}
use Rattle.cfs_file.specs.Log.{file_of}
use Rattle.cfs_file.specs.Span.{span}
use Rattle.cfs_file.proofs.Logs.{file_of-append, slice_get-snoc, take-snoc_within}
use Rattle.cfs_core.specs.declared.track.Track.{Track}
use Rattle.cfs_core.specs.declared.doubt.Doubt.{Doubt}
use Rattle.cfs_core.specs.declared.inode_core.Core.{Core}
use Rattle.cfs_core.specs.Words.{blank, is_live, is_off, is_unserved}
use Rattle.cfs_core.specs.Medium.{file}
use Rattle.cfs_core.specs.May.{is_change, is_mapped, is_query, fits, is_next, may_admit, may_admit_read, span_now}
use Rattle.cfs_core.specs.After.{logged, admitted, change_track, query_track}
use Rattle.cfs_core.proofs.Apart.{is_busy, not_true}
use Rattle.cfs_core.proofs.Order.{same_or_not, none_no, IsOrdered}
use Rattle.cfs_core.proofs.Kept.{Alters, IsChange, IsLast, IsLive, IsLogged, IsView, at}
use Rattle.cfs_core.proofs.Registers.{change-within, holds-or-not, query-effect, query-no_change}
use Rattle.cfs_core.proofs.StoredFrames.{no_clash}
use Rattle.cfs_core.proofs.LoggedFrames.{IsCovered, logged_beside}
use Rattle.cfs_core.specs.declared.flag.Flag.TheVariants.{Unsure}
use Rattle.cfs_core.proofs.Legal.{at_most, both}

-- ---- lists with one element more

slice_get-snoc_within : {X : Type 0} (xs : List X) (x : X) (k : ℕ) → k < length xs →
    slice_get (xs ++ x ∷ []) k ≡ slice_get xs k
slice_get-snoc_within [] x k less = absurd (omega arith)
slice_get-snoc_within (y ∷ ys) x zero less = refl
slice_get-snoc_within (y ∷ ys) x (suc k) less = slice_get-snoc_within ys x k (omega arith)

slice_get-snoc_last : {X : Type 0} (xs : List X) (x : X) →
    slice_get (xs ++ x ∷ []) (length xs) ≡ Some x
slice_get-snoc_last [] x = refl
slice_get-snoc_last (y ∷ ys) x = slice_get-snoc_last ys x

get_or-snoc_last : (tracks : List Track) (t : Track) →
    get_or (tracks ++ t ∷ []) (length tracks) blank ≡ t
get_or-snoc_last tracks t =
    let now : get_or (tracks ++ t ∷ []) (length tracks) blank
    ≡ get_or (t ∷ []) (length tracks - length tracks) blank =
    get_or-append_right tracks (t ∷ []) (length tracks) (length tracks) blank refl (omega arith) in
    let first : length tracks - length tracks ≡ 0 = omega arith in
    rw (now, first) refl

-- a test of one of the tracks is a test of an old one or of the new one
tested : (test : Track → Bool) → test blank ≡ false → (tracks : List Track) (t : Track) (k : ℕ) →
    test (get_or (tracks ++ t ∷ []) k blank) ≡ true →
    ((k < length tracks) × (test (get_or tracks k blank) ≡ true))
    ⊎ ((k ≡ length tracks) × (test t ≡ true))
tested test none tracks t k h = elim (cases_lt k (length tracks)) [
  | inl within ↦ inl (within, rw (get_or_append_left tracks (t ∷ []) blank k within) at h)
  | inr past ↦ elim (same_or_not k (length tracks)) [
    | inl last ↦ inr (last, rw (last, get_or-snoc_last tracks t) at h)
    | inr beyond ↦
        let empty : get_or (tracks ++ t ∷ []) k blank ≡ blank =
        get_or_past (tracks ++ t ∷ []) k blank (omega (arith, length-append tracks (t ∷ []))) in
        let own : test blank ≡ true = rw empty at h in
        cc
  ]
]

-- What is kept of an entry that is logged.
record Joins (core : Core) (entry : Entry) (t : Track) : Type 0 where
  pub same : length core.tracks ≡ length core.log
  pub span : t.span ≡ span entry.request (length (file core))
  pub kind : (is_change entry.request ≡ true) ⊎ (is_query entry.request ≡ true)
  pub live : is_live t.state ≡ is_change entry.request
  pub asks : is_unserved t.state ≡ true → is_query entry.request ≡ true
  pub idle : is_busy t ≡ false
  pub unapplied : t.applied ≡ false
  pub unmarked : is_off t.mark ≡ true
  pub mapped : is_live t.state ≡ true → is_mapped core.tags t.span ≡ true
  pub doubt : (d : Doubt) → core.doubt ≡ Some d → effect (file core) entry.request ≡ file core

logged_push : (core : Core) (entry : Entry) (t : Track) → IsLogged core → Joins core entry t →
    IsLogged (logged core entry t)
logged_push core entry t kept joins = record {
  kinds = λ k e is. elim (slice_get-snoc core.log entry k e is) [
    | inl within ↦ kept.kinds k e within.1
    | inr last ↦ rw last.1 joins.kind
  ];
  spans = λ k e is. elim (slice_get-snoc core.log entry k e is) [
    | inl within ↦
        rw (track_old k within.0, take-snoc_within core.log entry k (omega arith))
        (kept.spans k e within.1)
    | inr last ↦ rw (last.1, last.0, track_last, file_last) joins.span
  ];
  live_changes = live_changes;
  busy_changes = λ k busy. elim (tested is_busy refl core.tracks t k busy) [
    | inl old ↦ new_change k (kept.busy_changes k old.1)
    | inr last ↦ absurd (no_clash (is_busy t) last.1 joins.idle)
  ];
  queries = λ k asks. elim (tested (λ x. is_unserved x.state) refl core.tracks t k asks) [
    | inl old ↦
        rw (slice_get-snoc_within core.log entry k (omega (arith, joins.same, old.0)))
        (kept.queries k old.1)
    | inr last ↦ rw (last.0, joins.same, slice_get-snoc_last core.log entry) (joins.asks last.1)
  ];
  idle = λ k block applied. elim (tested (λ x. x.applied) refl core.tracks t k applied) [
    | inl old ↦ rw (get_or_append_left core.tracks (t ∷ []) blank k old.0) (kept.idle k block old.1)
    | inr last ↦ absurd (no_clash t.applied last.1 joins.unapplied)
  ];
  mapped = λ k live. elim (tested (λ x. is_live x.state) refl core.tracks t k live) [
    | inl old ↦ rw (get_or_append_left core.tracks (t ∷ []) blank k old.0) (kept.mapped k old.1)
    | inr last ↦ rw (last.0, get_or-snoc_last core.tracks t) (joins.mapped last.1)
  ];
  covered = λ k off. elim (tested (λ x. not (is_off x.mark)) refl core.tracks t k (rw off refl)) [
    | inl old ↦ new_covered k old.0 (kept.covered k (not_true (is_off (at core k).mark) old.1))
    | inr last ↦ absurd (no_clash (is_off t.mark) joins.unmarked (not_true (is_off t.mark) last.1))
  ];
  order = λ v i p view less live alters. elim (cases_lt v (length core.log + 1)) [
    | inl low ↦ order_within v i p (omega arith) (old_view v p (omega arith) view) less live alters
    | inr high ↦ order_last v i p (view_last v p high view) less live alters
  ];
  clear = λ v k less asks busy. elim (tested is_busy refl core.tracks t k busy) [
    | inl old ↦
        let in_log : k < length core.log = omega (arith, joins.same, old.0) in
        let v_in_log : v < length core.log = omega arith in
        rw (track_old v v_in_log, track_old k in_log)
        (kept.clear v k less (rw (track_old v v_in_log) at asks) old.1)
    | inr last ↦ absurd (no_clash (is_busy t) last.1 joins.idle)
  ];
  doubtful = λ d is.
      let old = kept.doubtful d is in
      let whole : file_of core.base (core.log ++ entry ∷ []) ≡ effect (file core) entry.request =
      file_of-append core.base core.log (entry ∷ []) in
      let stays : effect (file core) entry.request ≡ file core = joins.doubt d is in
      record {
        change = old.change;
        span_is = rw (whole, stays) old.span_is;
        mapped = old.mapped;
        fits = rw (whole, stays) old.fits;
      };
}
  where
    track_old : (k : ℕ) → k < length core.log →
        get_or (core.tracks ++ t ∷ []) k blank ≡ get_or core.tracks k blank
    track_old k less = get_or_append_left core.tracks (t ∷ []) blank k (omega (arith, joins.same))

    track_last : get_or (core.tracks ++ t ∷ []) (length core.log) blank ≡ t
    track_last = rw (← joins.same) (get_or-snoc_last core.tracks t)

    file_last : file_of core.base (take (length core.log) (core.log ++ entry ∷ [])) ≡ file core
    file_last =
        let first : take (length core.log) (core.log ++ entry ∷ [])
        ≡ take (length core.log) core.log =
        take-snoc_within core.log entry (length core.log) (omega arith) in
        let all : take (length core.log) core.log ≡ core.log =
        take_all (length core.log) core.log (omega arith) in
        rw (first, all) refl

    new_change : (k : ℕ) → IsChange core k → IsChange (logged core entry t) k
    new_change k change =
        rw (slice_get-snoc_within core.log entry k (change-within core k change)) change

    live_changes : (k : ℕ) → IsLive (logged core entry t) k → IsChange (logged core entry t) k
    live_changes k live = elim (tested (λ x. is_live x.state) refl core.tracks t k live) [
      | inl old ↦ new_change k (kept.live_changes k old.1)
      | inr last ↦
          rw (last.0, joins.same, slice_get-snoc_last core.log entry) (sym joins.live ∙ last.1)
    ]

    new_covered : (k : ℕ) → k < length core.tracks → IsCovered core k →
        IsCovered (logged core entry t) k
    new_covered k less by =
        let in_log : k < length core.log = omega (arith, joins.same) in (
          by.0,
          (
            by.1.0,
            (
              new_change by.0 by.1.1.0,
              rw (track_old by.0 (change-within core by.0 by.1.1.0), track_old k in_log) by.1.1.1,
            ),
          ),
        )

    old_view : (v p : ℕ) → v ≤ length core.log → IsView (logged core entry t) v p → IsView core v p
    old_view v p low view = elim view [
      | inl end ↦ absurd (omega (arith, length-append core.log (entry ∷ [])))
      | inr asked ↦ elim (cases_lt v (length core.log)) [
        | inl less ↦ inr (rw (track_old v less) at asked.0, rw (track_old v less) at asked.1)
        | inr up ↦ inl (omega arith)
      ]
    ]

    view_last : (v p : ℕ) → length core.log + 1 ≤ v → IsView (logged core entry t) v p →
        v ≡ length core.log + 1
    view_last v p high view = elim view [
      | inl end ↦ omega (arith, length-append core.log (entry ∷ []))
      | inr asked ↦ elim (tested (λ x. is_unserved x.state) refl core.tracks t v asked.0) [
        | inl old ↦ absurd (omega (arith, joins.same, old.0))
        | inr last ↦ absurd (omega (arith, joins.same, last.0))
      ]
    ]

    old_alters : (k p : ℕ) → k < length core.log → Alters (logged core entry t) k p →
        Alters core k p
    old_alters k p less alters = (
      rw (slice_get-snoc_within core.log entry k less) at alters.0,
      rw (track_old k less)
          at alters.1,
    )

    new_alters : (k p : ℕ) → k < length core.log → Alters core k p →
        Alters (logged core entry t) k p
    new_alters k p less alters = (new_change k alters.0, rw (track_old k less) alters.1)

    order_within : (v i p : ℕ) → v ≤ length core.log → IsView core v p → i < v →
        IsLive (logged core entry t) i → Alters (logged core entry t) i p →
        (m : ℕ) × (IsLive (logged core entry t) m × IsLast (logged core entry t) v p m)
    order_within v i p low view less live alters =
        let in_log : i < length core.log = omega arith in
        let found =
        kept.order v i p view less (rw (track_old i in_log) at live)
        (old_alters i p in_log alters) in
        let found_in : found.0 < length core.log = omega (arith, found.1.1.0) in (
          found.0,
          (
            rw (track_old found.0 found_in) found.1.0,
            (
              found.1.1.0,
              new_alters found.0 p found_in found.1.1.1,
              λ j later before also.
                  found.1.1.2 j later before (old_alters j p (omega arith) also),
            ),
          ),
        )

    newest : (p : ℕ) →
        Alters (logged core entry t) (length core.log) p
        ⊎ (Alters (logged core entry t) (length core.log) p → ⊥)
    newest p = elim (cases_Bool (is_change entry.request)) [
      | inl change ↦ elim (holds-or-not t.span p) [
        | inl holds ↦ inl (rw (slice_get-snoc_last core.log entry) change, rw track_last holds)
        | inr none ↦ inr (λ alters. none (rw track_last at alters.1))
      ]
      | inr query ↦
          inr (λ alters.
          no_clash (is_change entry.request)
          (rw (slice_get-snoc_last core.log entry) at alters.0) query)
    ]

    order_last : (v i p : ℕ) → v ≡ length core.log + 1 → i < v → IsLive (logged core entry t) i →
        Alters (logged core entry t) i p →
        (m : ℕ) × (IsLive (logged core entry t) m × IsLast (logged core entry t) v p m)
    order_last v i p end less live alters = elim (newest p) [
      | inl own ↦
          let change : is_change entry.request ≡ true =
          rw (slice_get-snoc_last core.log entry) at own.0 in (
            length core.log,
            (
              rw track_last (joins.live ∙ change),
              (omega arith, own, λ j later before also. absurd (omega arith)),
            ),
          )
      | inr none ↦ elim (same_or_not i (length core.log)) [
        | inl same ↦ absurd (none (rw same at alters))
        | inr other ↦
            let found =
            order_within (length core.log) i p (omega arith) (inl refl)
            (omega arith) live alters in (
              found.0,
              (
                found.1.0,
                (
                  omega (arith, found.1.1.0),
                  found.1.1.1,
                  λ j later before also. elim (same_or_not j (length core.log)) [
                    | inl last ↦ none (rw last at also)
                    | inr old ↦ found.1.1.2 j later (omega arith) also
                  ],
                ),
              ),
            )
      ]
    ]

-- ---- admissions

pub logged_admit : (core : Core) (entry : Entry) (grant : ℕ) (kept : Bool) → IsOrdered core →
    IsLogged core → may_admit core entry ≡ true →
    IsLogged (admitted core entry grant kept)
logged_admit core entry grant true ordered old h =
    let calm = both (is_none core.doubt) _ h in
    let next = both (is_next core entry) _ calm.1 in
    let change = both (is_change entry.request) _ next.1 in
    let blocks =
    both (fits (file core) entry.request)
    (is_mapped core.tags (span_now core entry.request)) change.1 in
    logged_push core entry (change_track grant (span_now core entry.request)) old (record {
      same = ordered.same;
      span = refl;
      kind = inl change.0;
      live = sym change.0;
      asks = λ asks. cc;
      idle = refl;
      unapplied = refl;
      unmarked = refl;
      mapped = λ live. blocks.1;
      doubt = λ d is. absurd (none_no core.doubt d calm.0 is);
    })
logged_admit core entry grant false ordered old h =
    let calm = both (is_none core.doubt) _ h in
    let next = both (is_next core entry) _ calm.1 in
    let change = both (is_change entry.request) _ next.1 in
    let blocks =
    both (fits (file core) entry.request)
    (is_mapped core.tags (span_now core entry.request)) change.1 in
    logged_beside core (Some (record {
      entry = entry;
      grant = grant;
      span = span_now core entry.request;
      gate = Unsure;
    }))
    core.size core.sizes core.tags core.bytes core.loose core.crashed old old.mapped
    (λ d is.
    let same : d
    ≡ record {
      entry = entry;
      grant = grant;
      span = span_now core entry.request;
      gate = Unsure;
    } = cc in
    rw same (record {
      change = change.0;
      span_is = refl;
      mapped = blocks.1;
      fits = at_most _ _ blocks.0;
    }))

pub logged_query : (core : Core) (entry : Entry) → IsOrdered core → IsLogged core →
    may_admit_read core entry ≡ true →
    IsLogged (logged core entry (query_track (span_now core entry.request)))
logged_query core entry ordered old h =
    let query = both (is_next core entry) (is_query entry.request) h in
    logged_push core entry (query_track (span_now core entry.request)) old (record {
      same = ordered.same;
      span = refl;
      kind = inr query.1;
      live = sym (query-no_change entry.request query.1);
      asks = λ asks. query.1;
      idle = refl;
      unapplied = refl;
      unmarked = refl;
      mapped = λ live. cc;
      doubt = λ d is. query-effect entry.request (file core) query.1;
    })
