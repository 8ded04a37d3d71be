-- A mark that is kept keeps what is stored: the entry that covers the marked one takes over.
use Rattle.std.proofs.Common.{◌≡◌, inl, inr, ℕ, ◌+◌, ◌-◌, ◌<◌, ◌≤◌, true, false, ◌&&◌, ◌||◌, not, None, List, take, drop, get_or, arith, refl, sym, ap, ◌∙◌, length-drop, length-take, get_or-set_other, nat_lt, nat_le}
use Rattle.std.proofs.lemmas.Bool.{cases_lt}
use Rattle.std.proofs.lemmas.Bool.Decides.{nat_tests}
use Rattle.std.proofs.lemmas.List.{get_or-drop, get_or-take}
use Rattle.cfs_file.specs.declared.span.Span.{Span}
use Rattle.cfs_file.specs.declared.span.Span.TheVariants.{Nothing, Range, From}
use Rattle.cfs_file.specs.Span.{Holds, meets, reaches_over}
use Rattle.cfs_file.proofs.Spans.{reaches_over-covers}
use Rattle.cfs_core.specs.declared.track.Track.{Track}
use Rattle.cfs_core.specs.declared.inode_core.Core.{Core}
use Rattle.cfs_core.specs.Words.{blank, is_live, is_unserved, is_waiting, track}
use Rattle.cfs_core.specs.May.{may_mark, needed_between}
use Rattle.cfs_core.specs.After.{marked, with_track}
use Rattle.cfs_core.proofs.Alive.{unserved_dead, waiting_lives}
use Rattle.cfs_core.proofs.Apart.{any_none, live_only, not_true}
use Rattle.cfs_core.proofs.Kept.{Alters, IsFree, IsKept, IsLive, IsStored, IsView, at, decides}
use Rattle.cfs_core.proofs.Legal.{both}
use Rattle.cfs_core.proofs.Order.{same_or_not, some_place, track_is}
use Rattle.cfs_core.proofs.Registers.{IsFull, change-full, if_none}
use Rattle.cfs_core.proofs.StoredFrames.{IsStill, IsTamer, at_put, in_tracks, no_clash, still_altered, still_view, stored-follows, tamer_same, tamer_still}
use Rattle.cfs_core.proofs.StoredWrites.{meet_at}

-- what the test says of the reads between
pub not_needed : (tracks : List Track) (place by : ℕ) (span : Span) →
    needed_between tracks place by span ≡ false → (v : ℕ) → place ≤ v → v < by - 1 →
    is_unserved (get_or tracks v blank).state ≡ true →
    meets (get_or tracks v blank).span span ≡ false
not_needed tracks place by span none v low high unserved =
    let within = in_tracks is_unserved tracks v refl unserved in
    let there : place + (v - place) ≡ v = omega arith in
    let same : get_or (drop place (take (by - 1) tracks)) (v - place) blank
    ≡ get_or tracks v blank =
    get_or-drop place (take (by - 1) tracks) (v - place) blank
    ∙ (ap (λ (k : ℕ). get_or (take (by - 1) tracks) k blank) there
    ∙ get_or-take (by - 1) tracks v blank high) in
    let tested =
    any_none (λ t. is_unserved t.state && meets t.span span) (drop place (take (by - 1) tracks))
    (v - place) none
    (omega (arith, length-drop place (take (by - 1) tracks), length-take (by - 1) tracks)) in
    live_only (is_unserved (get_or tracks v blank).state) (meets (get_or tracks v blank).span span)
    (rw same at tested) unserved

-- what decides nothing at a position covers nothing that does
narrower : (a b : Span) (p : ℕ) → reaches_over a b ≡ true → IsFull b → decides p a ≡ None →
    decides p b ≡ None
narrower Nothing Nothing p h full none = refl
narrower Nothing (Range f t) p h full none =
    let over : t ≤ f = grind (arith, nat_tests) in let some : f < t = full in absurd (omega arith)
narrower Nothing (From f) p h full none = cc
narrower (Range s e) Nothing p h full none = refl
narrower (Range s e) (Range f t) p h full none =
    let past : nat_lt p e ≡ false = if_none (nat_lt p e) none in
    let test : nat_lt p t ≡ false = beyond h full past in
    rw test refl
  where
    beyond : (nat_le t f || (nat_le s f && nat_le t e)) ≡ true → f < t → nat_lt p e ≡ false →
        nat_lt p t ≡ false
    beyond over some past = grind (arith, nat_tests)
narrower (Range s e) (From f) p h full none = cc
narrower (From s) b p h full none = cc

pub record IsMark (core : Core) (place by : ℕ) : Type 0 where
  pub waiting : is_waiting (track core.tracks place).state ≡ true
  pub less : place < by
  pub live : is_live (track core.tracks by).state ≡ true
  pub covers : reaches_over (track core.tracks by).span (track core.tracks place).span ≡ true
  pub unneeded : needed_between core.tracks place by (track core.tracks place).span ≡ false

pub mark_parts : (core : Core) (place by : ℕ) → may_mark core place by ≡ true → IsMark core place by
mark_parts core place by h =
    let a = both (is_waiting (track core.tracks place).state)
    (nat_lt place by
    && (is_live (track core.tracks by).state
    && (reaches_over (track core.tracks by).span (track core.tracks place).span
    && not (needed_between core.tracks place by (track core.tracks place).span)))) h in
    let b = both (nat_lt place by)
    (is_live (track core.tracks by).state
    && (reaches_over (track core.tracks by).span (track core.tracks place).span
    && not (needed_between core.tracks place by (track core.tracks place).span))) a.1 in
    let c = both (is_live (track core.tracks by).state)
    (reaches_over (track core.tracks by).span (track core.tracks place).span
    && not (needed_between core.tracks place by (track core.tracks place).span)) b.1 in
    let d = both (reaches_over (track core.tracks by).span (track core.tracks place).span)
    (not (needed_between core.tracks place by (track core.tracks place).span)) c.1 in
    record {
      waiting = a.0;
      less = less_of b.0;
      live = c.0;
      covers = d.0;
      unneeded = not_true (needed_between core.tracks place by (track core.tracks place).span) d.1;
    }
  where
    less_of : nat_lt place by ≡ true → place < by
    less_of test = grind (arith, nat_tests)

marked_stored : (core : Core) (place by : ℕ) → IsKept core → IsMark core place by →
    IsStored (with_track core place (marked (track core.tracks place) true))
marked_stored core place by kept mark =
    stored-follows core new (record {
      views = λ v p view free. (
        v,
        still_view core new still v p view,
        freed v p
            (still_view core new still v p view) free,
        refl,
      );
      rested = λ w p view free is. is;
      sizes = λ s is. is;
      long = λ p none. (decided p none, refl);
      applied =
          λ k live applied. (still.lives k live, sym (as_applied k) ∙ applied, still.spans k, refl);
      rested_applied = λ k p live applied alters is. is;
    })
    kept.stored_.short kept.stored_
  where
    new : Core
    new = with_track core place (marked (track core.tracks place) true)

    some : place ≡ 0 → ⊥
    some = some_place is_waiting refl core.tracks place mark.waiting

    some_by : by ≡ 0 → ⊥
    some_by = some_place is_live refl core.tracks by mark.live

    still : IsStill core new
    still =
        tamer_still core new refl refl
        (at_put IsTamer core.tracks place (marked (track core.tracks place) true) some tamer_same
        (record { span = refl; unserved = λ h. cc; lives = λ h. cc }))

    as_applied : (k : ℕ) → (at new k).applied ≡ (at core k).applied
    as_applied =
        at_put (λ t u. t.applied ≡ u.applied) core.tracks place
        (marked (track core.tracks place) true) some (λ u. refl) refl

    m : ℕ
    m = place - 1

    b : ℕ
    b = by - 1

    at_m : track core.tracks place ≡ at core m
    at_m = track_is core.tracks place (place - 1) some refl

    at_b : track core.tracks by ≡ at core b
    at_b = track_is core.tracks by (by - 1) some_by refl

    below : m < b
    below = lower some mark.less
      where
        lower : (place ≡ 0 → ⊥) → place < by → place - 1 < by - 1
        lower one two = omega arith

    live_m : IsLive core m
    live_m = rw at_m at (waiting_lives (track core.tracks place).state mark.waiting)

    live_b : IsLive core b
    live_b = rw at_b at mark.live

    covers : reaches_over (at core b).span (at core m).span ≡ true
    covers = rw (at_m, at_b) at mark.covers

    stays : (k : ℕ) → (k ≡ m → ⊥) → IsLive core k → IsLive new k
    stays k other live =
        let same : at new k ≡ at core k =
        get_or-set_other core.tracks (place - 1) k
        (marked (track core.tracks place) true) blank other in
        rw same live

    taken_over : (p : ℕ) → Holds (at core m).span p → Alters core b p
    taken_over p holds = (
      kept.logged.live_changes b live_b,
      (reaches_over-covers (at core b).span (at core m).span).0 covers p holds,
    )

    -- the entry that covers it is not free either, or no view lies behind the marked one alone
    covered : (v p : ℕ) → IsView core v p → IsFree new v p → m < v → Holds (at core m).span p → ⊥
    covered v p view free after_m holds = elim (cases_lt b v) [
      | inl before ↦
          free b before (stays b (λ same. omega (arith, below)) live_b)
          (still_altered core new still b p (taken_over p holds))
      | inr up ↦ between view up
    ]
      where
        between : IsView core v p → v ≤ b → ⊥
        between (inl end) up =
            let within = in_tracks is_live core.tracks b refl live_b in let same =
            kept.ordered.same in omega arith
        between (inr read) up = elim (cases_lt v b) [
          | inl inside ↦
              let needed : needed_between core.tracks place by (at core m).span ≡ false =
              rw at_m at mark.unneeded in
              meet_at (at core v).span (at core m).span p read.1 holds
              (not_needed core.tracks place by (at core m).span needed v
              (omega arith) inside read.0)
          | inr down ↦
              let same : v ≡ b = omega arith in
              let live_v : IsLive core v = rw same live_b in
              no_clash (is_live (at core v).state) live_v (unserved_dead (at core v).state read.0)
        ]

    freed : (v p : ℕ) → IsView core v p → IsFree new v p → IsFree core v p
    freed v p view free i before live alters = elim (same_or_not i m) [
      | inl same ↦ covered v p view free (omega arith) (rw same at alters.1)
      | inr other ↦ free i before (stays i other live) (still_altered core new still i p alters)
    ]

    decided : (p : ℕ) → ((i : ℕ) → IsLive new i → decides p (at new i).span ≡ None) → (i : ℕ) →
        IsLive core i → decides p (at core i).span ≡ None
    decided p none i live = elim (same_or_not i m) [
      | inl same ↦
          let by_b : decides p (at core b).span ≡ None =
          rw (still.spans b) at (none b (stays b (λ is. omega (arith, below)) live_b)) in
          rw same (narrower (at core b).span (at core m).span p covers
          (change-full core kept.logged m (kept.logged.live_changes m live_m)) by_b)
      | inr other ↦ rw (still.spans i) at (none i (stays i other live))
    ]

pub stored_mark : (core : Core) (place by : ℕ) → IsKept core → may_mark core place by ≡ true →
    IsStored (with_track core place (marked (track core.tracks place) true))
stored_mark core place by kept h = marked_stored core place by kept (mark_parts core place by h)
