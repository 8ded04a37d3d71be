-- The marks of an admitted entry do not stand in each other's way.
use Rattle.std.proofs.Common.{◌≡◌, inl, inr, ℕ, suc, zero, ◌+◌, ◌-◌, ◌<◌, ◌≤◌, Bool, true, false, ◌&&◌, ◌||◌, not, cond, List, [], ◌∷◌, take, drop, filter, get_or, set, arith, refl, sym, ap, ◌∙◌, get_or-set_other}
use Rattle.std.specs.List.{list_all, list_any, range_with_len}
use Rattle.cfs_file.specs.declared.span.Span.{Span}
use Rattle.cfs_file.specs.Span.{meets}
use Rattle.cfs_core.specs.declared.state.State.{State}
use Rattle.cfs_core.specs.declared.state.State.TheVariants.{Waiting, Out, Noop, Unserved, Closed}
use Rattle.cfs_core.specs.declared.track.Track.{Track}
use Rattle.cfs_core.specs.declared.event.Event.TheVariants as events
use Rattle.cfs_core.specs.declared.inode_core.Core.{Core}
use Rattle.cfs_core.specs.Words.{blank, is_unserved, is_waiting, track}
use Rattle.cfs_core.specs.May.{may_mark, needed_between}
use Rattle.cfs_core.specs.After.{after, marked}
use Rattle.cfs_core.specs.Good.{Rises}
use Rattle.cfs_core.specs.Marks.{marks_by, marks_to_try}
use Rattle.cfs_core.specs.Run.{IsRun}
use Rattle.cfs_core.proofs.Legal.{and_all, both}
use Rattle.cfs_core.proofs.Order.{same_or_not, some_place, track_is}
use Rattle.cfs_core.proofs.StoredMark.{mark_parts}

-- ---- one mark

-- the track of another place
pub track_beside : (tracks : List Track) (place other : ℕ) (t : Track) → (place ≡ 0 → ⊥) →
    (other ≡ place → ⊥) → track (set tracks (place - 1) t) other ≡ track tracks other
track_beside tracks place other t some apart = elim (same_or_not other 0) [
  | inl none ↦ rw none refl
  | inr is ↦
      let kept : get_or (set tracks (place - 1) t) (other - 1) blank
      ≡ get_or tracks (other - 1) blank =
      get_or-set_other tracks (place - 1) (other - 1) t blank (λ same. apart (omega arith)) in
      track_is (set tracks (place - 1) t) other (other - 1) is refl
      ∙ (kept ∙ sym (track_is tracks other (other - 1) is refl))
]

-- a test of some tracks, where one is put for which it says the same
any_put : (test : Track → Bool) (tracks : List Track) (from to k : ℕ) (t : Track) →
    test t ≡ test (get_or tracks k blank) →
    list_any test (drop from (take to (set tracks k t)))
    ≡ list_any test (drop from (take to tracks))
any_put test tracks from zero k t same = refl
any_put test [] from (suc to) k t same = refl
any_put test (x ∷ xs) zero (suc to) zero t same = rw same refl
any_put test (x ∷ xs) zero (suc to) (suc k) t same =
    ap (λ (b : Bool). test x || b) (any_put test xs zero to k t same)
any_put test (x ∷ xs) (suc from) (suc to) zero t same = refl
any_put test (x ∷ xs) (suc from) (suc to) (suc k) t same = any_put test xs from to k t same

waiting_served : (s : State) → is_waiting s ≡ true → is_unserved s ≡ false
waiting_served Waiting h = refl
waiting_served (Out job) h = cc
waiting_served Noop h = cc
waiting_served Unserved h = cc
waiting_served Closed h = refl

-- what is marked is no unserved read, before or after
mark_reads : (t : Track) (kept : Bool) (of : Span) → is_waiting t.state ≡ true →
    (is_unserved (marked t kept).state && meets (marked t kept).span of)
    ≡ (is_unserved t.state && meets t.span of)
mark_reads t true of waits =
    let off : is_unserved t.state ≡ false = waiting_served t.state waits in rw off refl
mark_reads t false of waits = refl

-- another mark by the same entry may still come
mark_beside : (core : Core) (place other by : ℕ) (kept : Bool) → may_mark core place by ≡ true →
    (other ≡ place → ⊥) → may_mark core other by ≡ true →
    may_mark (after core (events.Mark place by kept)) other by ≡ true
mark_beside core place other by kept may_be apart other_may =
    let is = mark_parts core place by may_be in
    let some = some_place is_waiting refl core.tracks place is.waiting in
    let there : track (set core.tracks (place - 1) (marked (track core.tracks place) kept)) other
    ≡ track core.tracks other =
    track_beside core.tracks place other (marked (track core.tracks place) kept) some apart in
    let mark : track (set core.tracks (place - 1) (marked (track core.tracks place) kept)) by
    ≡ track core.tracks by =
    track_beside core.tracks place by (marked (track core.tracks place) kept) some
    (λ same. omega (arith, is.less)) in
    let at : track core.tracks place ≡ get_or core.tracks (place - 1) blank =
    track_is core.tracks place (place - 1) some refl in
    let reads : needed_between (set core.tracks (place - 1)
    (marked (track core.tracks place) kept)) other by (track core.tracks other).span
    ≡ needed_between core.tracks other by (track core.tracks other).span =
    any_put (λ x. is_unserved x.state && meets x.span (track core.tracks other).span) core.tracks
    other (by - 1) (place - 1) (marked (track core.tracks place) kept)
    (mark_reads (track core.tracks place) kept (track core.tracks other).span is.waiting
    ∙ ap (λ (x : Track). is_unserved x.state && meets x.span (track core.tracks other).span)
    at) in
    rw (there, mark, reads) other_may

-- ---- all of them

all_filtered : (test : ℕ → Bool) (xs : List ℕ) → list_all test (filter test xs) ≡ true
all_filtered test [] = refl
all_filtered test (x ∷ xs) = pick (test x) refl (all_filtered test xs)
  where
    pick : (b : Bool) → test x ≡ b → list_all test (filter test xs) ≡ true →
        list_all test (cond b (x ∷ filter test xs) (filter test xs)) ≡ true
    pick true is rest = and_all (test x) (list_all test (filter test xs)) is rest
    pick false is rest = rest

Rises-filtered : (test : ℕ → Bool) (low a n : ℕ) → low ≤ a →
    Rises low (filter test (range_with_len a n))
Rises-filtered test low a zero le = tt
Rises-filtered test low a (suc n) le =
    pick (test a) (Rises-filtered test (a + 1) (a + 1) n (omega arith))
    (Rises-filtered test low (a + 1) n (omega arith))
  where
    pick : (b : Bool) → Rises (a + 1) (filter test (range_with_len (a + 1) n)) →
        Rises low (filter test (range_with_len (a + 1) n)) →
        Rises low (cond b (a ∷ filter test (range_with_len (a + 1) n))
        (filter test (range_with_len (a + 1) n)))
    pick true taken left = (le, taken)
    pick false taken left = left

-- those behind a place that is marked
still : (core : Core) (place by low : ℕ) (kept : Bool) (places : List ℕ) →
    may_mark core place by ≡ true → place < low → Rises low places →
    list_all (λ p. may_mark core p by) places ≡ true →
    list_all (λ p. may_mark (after core (events.Mark place by kept)) p by) places ≡ true
still core place by low kept [] may_be less rises all = refl
still core place by low kept (p ∷ ps) may_be less rises all =
    let parts = both (may_mark core p by) (list_all (λ q. may_mark core q by) ps) all in
    and_all _ _ (mark_beside core place p by kept may_be (λ same. omega (arith, rises.0)) parts.0)
    (still core place by (p + 1) kept ps may_be (omega (arith, rises.0)) rises.1 parts.1)

marks-run : (core : Core) (by low : ℕ) (kept : ℕ → Bool) (places : List ℕ) →
    not core.crashed ≡ true → Rises low places →
    list_all (λ p. may_mark core p by) places ≡ true → IsRun core (marks_by by kept places)
marks-run core by low kept [] up rises all = tt
marks-run core by low kept (p ∷ ps) up rises all =
    let parts = both (may_mark core p by) (list_all (λ q. may_mark core q by) ps) all in (
      and_all _ _ up parts.0,
      marks-run (after core (events.Mark p by (kept p))) by (p + 1) kept ps up rises.1
          (still core p by (p + 1) (kept p) ps parts.0 (omega arith) rises.1 parts.1),
    )

pub marks-follow : (core : Core) (by : ℕ) (kept : ℕ → Bool) → not core.crashed ≡ true →
    IsRun core (marks_by by kept (marks_to_try core by))
marks-follow core by kept up =
    marks-run core by 1 kept (marks_to_try core by) up
    (Rises-filtered (λ p. may_mark core p by) 1 1 (by - 1) (omega arith))
    (all_filtered (λ p. may_mark core p by) (range_with_len 1 (by - 1)))
