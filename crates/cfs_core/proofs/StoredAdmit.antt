-- An entry that is logged keeps what is stored: a new view at the end sees the file before where
-- the entry has no position.
use Rattle.std.proofs.Common.{◌≡◌, ◌⊎◌, inl, inr, ℕ, suc, zero, ◌-◌, ◌<◌, ◌≤◌, Bool, true, false, ◌&&◌, Some, None, List, [], ◌∷◌, ◌++◌, length, take, get_or, arith, refl, sym, ap, length-append, is_none, nat_lt}
use Rattle.std.specs.List.{slice_get}
use Rattle.std.proofs.lemmas.Bool.{cases_lt}
use Rattle.std.proofs.lemmas.List.{get_or_append_left, get_or-append_right, get_or_past, take_all}
use Rattle.cfs_file.specs.declared.entry.Entry.{Entry}
use Rattle.cfs_file.specs.File.{effect}
use Rattle.cfs_file.specs.Log.{file_of}
use Rattle.cfs_file.specs.Span.{Holds, span}
use Rattle.cfs_file.proofs.Logs.{file_of-append, take-snoc_within}
use Rattle.cfs_core.specs.declared.flag.Flag.TheVariants.{Unsure}
use Rattle.cfs_core.specs.declared.track.Track.{Track}
use Rattle.cfs_core.specs.declared.inode_core.Core.{Core}
use Rattle.cfs_core.specs.Words.{blank, is_live, is_unserved, payload_of}
use Rattle.cfs_core.specs.Medium.{file}
use Rattle.cfs_core.specs.May.{fits, is_change, is_mapped, is_next, is_query, may_admit, may_admit_read, span_now}
use Rattle.cfs_core.specs.After.{admitted, change_track, logged, query_track}
use Rattle.cfs_core.proofs.Kept.{Alters, IsFree, IsKept, IsLive, IsStored, IsUnserved, IsView, at, decides, file_at}
use Rattle.cfs_core.proofs.Legal.{both}
use Rattle.cfs_core.proofs.Order.{same_or_not}
use Rattle.cfs_core.proofs.Registers.{byte_out, change-effect, effect_by, file_at-all, long_kept, none-settles, query-effect, shaped-request}
use Rattle.cfs_core.proofs.StoredFrames.{in_tracks, no_clash, stored-follows}
use Rattle.cfs_core.proofs.StoredQuiet.{stored_doubt}

before_last : (log : List Entry) (last : Entry) (k : ℕ) → k < length log →
    slice_get (log ++ last ∷ []) k ≡ slice_get log k
before_last [] last k less = absurd (omega arith)
before_last (x ∷ xs) last zero less = refl
before_last (x ∷ xs) last (suc k) less = before_last xs last k (omega arith)

at_last : (log : List Entry) (last : Entry) (k : ℕ) → k ≡ length log →
    slice_get (log ++ last ∷ []) k ≡ Some last
at_last [] last zero is = refl
at_last [] last (suc k) is = absurd (omega arith)
at_last (x ∷ xs) last zero is = absurd (omega arith)
at_last (x ∷ xs) last (suc k) is = at_last xs last k (omega arith)

pushed : (core : Core) (t : Track) (k : ℕ) → k ≡ length core.tracks →
    get_or (core.tracks ++ t ∷ []) k blank ≡ t
pushed core t k last =
    let now : get_or (core.tracks ++ t ∷ []) k blank
    ≡ get_or (t ∷ []) (k - length core.tracks) blank =
    get_or-append_right core.tracks (t ∷ []) (length core.tracks) k blank refl (omega arith) in
    let first : k - length core.tracks ≡ 0 = omega arith in
    rw (now, first) refl

-- what the new core has at an index
sees : (core : Core) (entry : Entry) (t : Track) (k : ℕ) →
    ((k < length core.tracks) × (at (logged core entry t) k ≡ at core k))
    ⊎ (((k ≡ length core.tracks) × (at (logged core entry t) k ≡ t))
    ⊎ (at (logged core entry t) k ≡ blank))
sees core entry t k = elim (cases_lt k (length core.tracks)) [
  | inl within ↦ inl (within, get_or_append_left core.tracks (t ∷ []) blank k within)
  | inr past ↦ elim (same_or_not k (length core.tracks)) [
    | inl last ↦ inr (inl (last, pushed core t k last))
    | inr beyond ↦
        inr (inr (get_or_past (core.tracks ++ t ∷ []) k blank
        (omega (arith, length-append core.tracks (t ∷ [])))))
  ]
]

-- the entry says nothing where it is not seen
record IsSilent (core : Core) (entry : Entry) (t : Track) : Type 0 where
  pub byte : (p : ℕ) →
      (is_live t.state ≡ true → is_change entry.request ≡ true → Holds t.span p → ⊥) →
      get_or (effect (file core) entry.request) p 0 ≡ get_or (file core) p 0
  pub long : (p : ℕ) → (is_live t.state ≡ true → decides p t.span ≡ None) →
      nat_lt p (length (effect (file core) entry.request)) ≡ nat_lt p (length (file core))
  pub idle : t.applied ≡ false

logged_stored : (core : Core) (entry : Entry) (t : Track) → IsKept core → IsSilent core entry t →
    IsStored (logged core entry t)
logged_stored core entry t kept silent =
    stored-follows core new (record {
      views = views;
      rested = λ w p view free is. is;
      sizes = λ s is. is;
      long = λ p none. (
        λ i live. let within = in_log i live in
            rw (old i within) at (none i (lives i within live)),
        rw whole
            (silent.long p (λ live. decided p none live)),
      );
      applied = λ k live applied. applied_old k (sees core entry t k) live applied;
      rested_applied = λ k p live applied alters is. is;
    })
    kept.stored_.short kept.stored_
  where
    new : Core
    new = logged core entry t

    n : ℕ
    n = length core.log

    same : length core.tracks ≡ length core.log
    same = kept.ordered.same

    whole : file_of core.base (core.log ++ entry ∷ []) ≡ effect (file core) entry.request
    whole = file_of-append core.base core.log (entry ∷ [])

    old : (k : ℕ) → k < length core.tracks → get_or (core.tracks ++ t ∷ []) k blank ≡ at core k
    old k within = get_or_append_left core.tracks (t ∷ []) blank k within

    own : at (logged core entry t) (length core.log) ≡ t
    own = pushed core t (length core.log) (sym same)

    in_log : (i : ℕ) → IsLive core i → i < length core.tracks
    in_log i live = in_tracks is_live core.tracks i refl live

    lives : (i : ℕ) → i < length core.tracks → IsLive core i → IsLive new i
    lives i within live = rw (old i within) live

    altered : (i p : ℕ) → i < length core.tracks → Alters core i p → Alters new i p
    altered i p within alters =
        (rw (before_last core.log entry i (omega arith)) alters.0, rw (old i within) alters.1)

    -- what is free in a view of the new core is free before the entry
    free_before : (v w p : ℕ) → w ≤ v → IsFree new v p → IsFree core w p
    free_before v w p up free i less live alters =
        let within = in_log i live in
        free i (omega arith) (lives i within live) (altered i p within alters)

    byte_old : (v p : ℕ) → v ≤ length core.log →
        get_or (file_at new v) p 0 ≡ get_or (file_at core v) p 0
    byte_old v p up =
        ap (λ (l : List Entry). get_or (file_of core.base l) p 0)
        (take-snoc_within core.log entry v up)

    unseen : (v p : ℕ) → v ≡ length (core.log ++ entry ∷ []) → IsFree new v p →
        is_live t.state ≡ true → is_change entry.request ≡ true → Holds t.span p → ⊥
    unseen v p end free live change holds =
        let there : slice_get (core.log ++ entry ∷ []) (length core.log) ≡ Some entry =
        at_last core.log entry (length core.log) refl in
        free (length core.log) (omega (arith, length-append core.log (entry ∷ []))) (rw own live)
        (rw there change, rw own holds)

    byte_end : (v p : ℕ) → v ≡ length (core.log ++ entry ∷ []) → IsFree new v p →
        get_or (file_at new v) p 0 ≡ get_or (file_at core (length core.log)) p 0
    byte_end v p end free =
        let all : take v (core.log ++ entry ∷ []) ≡ core.log ++ entry ∷ [] =
        take_all v (core.log ++ entry ∷ []) (omega arith) in
        rw (all, whole, file_at-all core) (silent.byte p (unseen v p end free))

    views : (v p : ℕ) → IsView new v p → IsFree new v p →
        (w : ℕ) × IsView core w p × IsFree core w p
        × (get_or (file_at new v) p 0 ≡ get_or (file_at core w) p 0)
    views v p (inl end) free = (
      length core.log,
      inl refl,
      free_before v (length core.log) p
          (omega (arith, length-append core.log (entry ∷ []))) free,
      byte_end v p end free,
    )
    views v p (inr read) free = elim (sees core entry t v) [
      | inl within ↦
          let unserved : IsUnserved core v = rw within.1 at read.0 in
          let holds : Holds (at core v).span p = rw within.1 at read.1 in (
            v,
            inr (unserved, holds),
            free_before v v p (omega arith) free,
            byte_old v p
                (omega arith),
          )
      | inr rest ↦ elim rest [
        | inl last ↦
            let here : v ≡ length core.log = omega arith in
            (v, inl here, free_before v v p (omega arith) free, byte_old v p (omega arith))
        | inr none ↦
            let unserved : is_unserved blank.state ≡ true = rw none at read.0 in absurd (cc)
      ]
    ]

    decided : (p : ℕ) → ((i : ℕ) → IsLive new i → decides p (at new i).span ≡ None) →
        is_live t.state ≡ true → decides p t.span ≡ None
    decided p none live = rw own at (none (length core.log) (rw own live))

    applied_old : (k : ℕ) →
        ((k < length core.tracks) × (at (logged core entry t) k ≡ at core k))
        ⊎ (((k ≡ length core.tracks) × (at (logged core entry t) k ≡ t))
        ⊎ (at (logged core entry t) k ≡ blank)) →
        IsLive new k → (at new k).applied ≡ true →
        IsLive core k × ((at core k).applied ≡ true) × ((at new k).span ≡ (at core k).span)
        × (slice_get new.log k ≡ slice_get core.log k)
    applied_old k (inl within) live applied = (
      rw within.1 at live,
      rw within.1 at applied,
      ap
          (λ (x : Track). x.span) within.1,
      before_last core.log entry k (omega arith),
    )
    applied_old k (inr (inl last)) live applied =
        let on : t.applied ≡ true = rw last.1 at applied in
        absurd (no_clash t.applied on silent.idle)
    applied_old k (inr (inr none)) live applied =
        let alive : is_live blank.state ≡ true = rw none at live in absurd (cc)

change_silent : (core : Core) (entry : Entry) (grant : ℕ) → is_change entry.request ≡ true →
    IsSilent core entry (change_track grant (span_now core entry.request))
change_silent core entry grant change = record {
  byte = λ p out.
      let does : effect (file core) entry.request
      ≡ effect_by (file core) (payload_of entry.request)
      (span entry.request (length (file core))) =
      change-effect entry.request (file core) change in
      rw does (byte_out (file core) (payload_of entry.request)
      (span entry.request (length (file core))) p
      (shaped-request entry.request (length (file core)) change) (out refl change));
  long = λ p none.
      let does : effect (file core) entry.request
      ≡ effect_by (file core) (payload_of entry.request)
      (span entry.request (length (file core))) =
      change-effect entry.request (file core) change in
      rw does (long_kept (file core) (payload_of entry.request)
      (span entry.request (length (file core))) p
      (shaped-request entry.request (length (file core)) change)
      (none-settles (decides p (span entry.request (length (file core)))) (none refl)));
  idle = refl;
}

query_silent : (core : Core) (entry : Entry) → is_query entry.request ≡ true →
    IsSilent core entry (query_track (span_now core entry.request))
query_silent core entry query = record {
  byte = λ p out. ap (λ (l : List ℕ). get_or l p 0) (query-effect entry.request (file core) query);
  long = λ p none.
      ap (λ (l : List ℕ). nat_lt p (length l)) (query-effect entry.request (file core) query);
  idle = refl;
}

pub stored_admit : (core : Core) (entry : Entry) (grant : ℕ) (kept : Bool) → IsKept core →
    may_admit core entry ≡ true → IsStored (admitted core entry grant kept)
stored_admit core entry grant true kept h =
    let a = both (is_none core.doubt)
    (is_next core entry
    && (is_change entry.request
    && (fits (file core) entry.request && is_mapped core.tags (span_now core entry.request))))
    h in
    let b = both (is_next core entry)
    (is_change entry.request
    && (fits (file core) entry.request && is_mapped core.tags (span_now core entry.request)))
    a.1 in
    let c = both (is_change entry.request)
    (fits (file core) entry.request && is_mapped core.tags (span_now core entry.request)) b.1 in
    logged_stored core entry (change_track grant (span_now core entry.request)) kept
    (change_silent core entry grant c.0)
stored_admit core entry grant false kept h =
    stored_doubt core (Some (record {
      entry = entry;
      grant = grant;
      span = span_now core entry.request;
      gate = Unsure;
    })) kept.stored_

pub stored_query : (core : Core) (entry : Entry) → IsKept core → may_admit_read core entry ≡ true →
    IsStored (logged core entry (query_track (span_now core entry.request)))
stored_query core entry kept h =
    logged_stored core entry (query_track (span_now core entry.request)) kept
    (query_silent core entry (both (is_next core entry) (is_query entry.request) h).1)
