-- Marks keep the log's part of the invariant: no view is between the entry and the one that covers
-- it.
use Rattle.std.proofs.Common.{◌≡◌, inl, inr, ℕ, ◌-◌, ◌<◌, ◌≤◌, Bool, true, false, get_or, arith, refl}
use Rattle.std.proofs.lemmas.Bool.{cases_lt}
use Rattle.cfs_file.specs.Span.{meets, reaches_over}
use Rattle.cfs_file.proofs.Spans.{meets-overlap, reaches_over-covers}
use Rattle.cfs_core.specs.declared.inode_core.Core.{Core}
use Rattle.cfs_core.specs.Words.{blank, is_live, is_out, is_waiting, track}
use Rattle.cfs_core.specs.May.{may_mark}
use Rattle.cfs_core.specs.After.{marked, with_track}
use Rattle.cfs_core.proofs.Legal.{or_right}
use Rattle.cfs_core.proofs.Order.{IsOrdered, same_or_not, some_place, track_is}
use Rattle.cfs_core.proofs.Kept.{IsLive, IsLogged, IsUnserved, at}
use Rattle.cfs_core.proofs.Recovers.{live-within}
use Rattle.cfs_core.proofs.StoredFrames.{no_clash}
use Rattle.cfs_core.proofs.LoggedFrames.{IsAlone, IsCovered, logged_put}
use Rattle.cfs_core.proofs.Alive.{unserved_dead}
use Rattle.cfs_core.proofs.StoredMark.{mark_parts, not_needed}
use Rattle.cfs_core.proofs.LoggedJobs.{idle_at}

-- What a mark has tested, at indices.
record Marks (core : Core) (place by : ℕ) : Type 0 where
  some : place ≡ 0 → ⊥
  later : place - 1 < by - 1
  live : IsLive core (by - 1)
  reaches : reaches_over (at core (by - 1)).span (at core (place - 1)).span ≡ true
  unread : (v : ℕ) → place ≤ v → v < by - 1 → IsUnserved core v →
      meets (at core v).span (at core (place - 1)).span ≡ false

marks_of : (core : Core) (place by : ℕ) → may_mark core place by ≡ true → Marks core place by
marks_of core place by h =
    let is = mark_parts core place by h in
    let some = some_place is_waiting refl core.tracks place is.waiting in
    let later = some_place is_live refl core.tracks by is.live in
    let at_place : track core.tracks place ≡ get_or core.tracks (place - 1) blank =
    track_is core.tracks place (place - 1) some refl in
    let at_by : track core.tracks by ≡ get_or core.tracks (by - 1) blank =
    track_is core.tracks by (by - 1) later refl in
    record {
      some = some;
      later = lower some is.less;
      live = rw at_by at is.live;
      reaches = rw (at_place, at_by) at is.covers;
      unread = λ v from_place before asks.
          rw (← at_place) (not_needed core.tracks place by
          (track core.tracks place).span is.unneeded v from_place before asks);
    }
  where
    lower : (place ≡ 0 → ⊥) → place < by → place - 1 < by - 1
    lower some less = omega arith

covered_by : (core : Core) (place by : ℕ) → IsLogged core → Marks core place by →
    IsCovered core (place - 1)
covered_by core place by old marks =
    (by - 1, (marks.later, (old.live_changes (by - 1) marks.live, marks.reaches)))

-- no view is between the two that has a position of the entry
alone_marked : (core : Core) (place by : ℕ) → IsOrdered core → IsLogged core → Marks core place by →
    IsAlone core (place - 1)
alone_marked core place by ordered old marks v i p view last less live alters =
    elim (cases_lt (by - 1) v) [
      | inl before ↦ last.2 (by - 1) marks.later before (
        old.live_changes (by - 1) marks.live,
        (reaches_over-covers (at core (by - 1)).span (at core (place - 1)).span).0 marks.reaches p
            last.1.1,
      )
      | inr up ↦ elim view [
        | inl end ↦ absurd (omega (arith, live-within core old (by - 1) marks.live))
        | inr asked ↦ elim (same_or_not v (by - 1)) [
          | inl same ↦
              no_clash (is_live (at core v).state) (rw same marks.live)
              (unserved_dead (at core v).state asked.0)
          | inr other ↦
              no_clash (meets (at core v).span (at core (place - 1)).span)
              ((meets-overlap (at core v).span (at core (place - 1)).span).1 (p, (asked.1, last.1.1)))
              (marks.unread v (above marks.some last.0) (omega arith) asked.0)
        ]
      ]
    ]
  where
    above : (place ≡ 0 → ⊥) → place - 1 < v → place ≤ v
    above some later = omega arith

pub logged_marked : (core : Core) (place by : ℕ) (kept : Bool) → IsOrdered core → IsLogged core →
    may_mark core place by ≡ true →
    IsLogged (with_track core place (marked (track core.tracks place) kept))
logged_marked core place by true ordered old h =
    let marks = marks_of core place by h in
    logged_put core place (marked (track core.tracks place) true) old (record {
      some = marks.some;
      span = refl;
      live = λ live. cc;
      asks = λ asks. cc;
      busy = λ busy.
          inl (or_right (is_out (track core.tracks place).state)
          (track core.tracks place).applied busy);
      idle = λ block applied. refl;
      mark = λ off. covered_by core place by old marks;
      falls = λ live. inr (alone_marked core place by ordered old marks);
    })
logged_marked core place by false ordered old h =
    let marks = marks_of core place by h in
    logged_put core place (marked (track core.tracks place) false) old (record {
      some = marks.some;
      span = refl;
      live = λ live. live;
      asks = λ asks. asks;
      busy = λ busy. inl busy;
      idle = λ block applied. idle_at core place block old marks.some applied;
      mark = λ off. covered_by core place by old marks;
      falls = λ live. inl live;
    })
