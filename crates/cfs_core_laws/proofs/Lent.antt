-- Which blocks are lent: each to one job, and only such as its entry wants.
use Rattle.std.proofs.Common.{◌≡◌, inl, inr, ℕ, suc, zero, ◌+◌, ◌-◌, Bool, true, false, not, Option, Some, None, arith, refl, sym, ap, ◌∙◌}
use Rattle.std.specs.List.{list_any}
use Rattle.cfs_core.specs.declared.state.State.{State}
use Rattle.cfs_core.specs.declared.state.State.TheVariants.{Waiting, Out, Noop, Unserved, Closed}
use Rattle.cfs_core.specs.declared.state.Lease.{Lease}
use Rattle.cfs_core.specs.declared.track.Track.{Track}
use Rattle.cfs_core.specs.declared.event.Event.{Event}
use Rattle.cfs_core.specs.declared.event.Event.TheVariants as events
use Rattle.cfs_core.specs.declared.inode_core.Core.{Core}
use Rattle.cfs_core.specs.Fresh.{IsFresh}
use Rattle.cfs_core.specs.Words.{blank, has_block, is_lease, is_live, is_out, is_waiting, track}
use Rattle.cfs_core.specs.Jobs.{is_taken, next_job}
use Rattle.cfs_core.specs.May.{case, may, may_dispatch, meets_live, meets_read}
use Rattle.cfs_core.specs.After.{after}
use Rattle.cfs_core.proofs.Apart.{any_none, block_out, not_true}
use Rattle.cfs_core.proofs.Kept.{IsKept, at}
use Rattle.cfs_core.proofs.Legal.{both, same_number}
use Rattle.cfs_core.proofs.Order.{some_place, track_is}
use Rattle.cfs_core.proofs.StoredFrames.{in_tracks, no_clash, or_cases}
use Rattle.cfs_core_laws.proofs.Along.{case-of}
use Rattle.cfs_core_laws.proofs.Turns.{Turn, stays, begins, works, returns, dies, comes, goes, turn}

abbrev pub has : Core → ℕ → ℕ → Bool
has core k block = has_block (at core k).state block

-- ---- where a lease comes from

home-no : (s : State) (block : ℕ) → is_out s ≡ false → has_block s block ≡ true → ⊥
home-no s block home h = no_clash (is_out s) (block_out s block h) home

live-out : (s : State) → is_live s ≡ false → is_out s ≡ false
live-out Waiting h = cc
live-out (Out job) h = cc
live-out Noop h = refl
live-out Unserved h = refl
live-out Closed h = refl

-- what a track that has a block was before the event
pub data Lends (core : Core) (event : Event) (k block : ℕ) (now : Track) : Type 0 where
  had : has core k block ≡ true → now.span ≡ (at core k).span → now.done ≡ (at core k).done →
      Lends core event k block now
  taken : event ≡ events.Dispatch (k + 1) → may_dispatch core (k + 1) ≡ true →
      now ≡ record (at core k) { state = Out (next_job core.tags (at core k)) } →
      Lends core event k block now

lends-of : (core : Core) (event : Event) (k block : ℕ) (now : Track) → Turn core event k now →
    has_block now.state block ≡ true → Lends core event k block now
lends-of core event k block now (stays state span applied done) h = had (rw (← state) h) span done
lends-of core event k block now (begins is may_be same) h = taken is may_be same
lends-of core event k block now (works state out still blocks same) h =
    let own : has_block state block ≡ true = rw same at h in
    had (sym (blocks block) ∙ own) (ap (λ (t : Track). t.span) same)
    (ap (λ (t : Track). t.done) same)
lends-of core event k block now (returns out home span) h = absurd (home-no now.state block home h)
lends-of core event k block now (dies dead span done) h =
    absurd (home-no now.state block (live-out now.state dead) h)
lends-of core event k block now (comes past home done) h = absurd (home-no now.state block home h)
lends-of core event k block now (goes same) h = let own : has_block blank.state block ≡ true =
    rw same at h in cc

pub lends : (core : Core) (event : Event) → case core event ≡ true → (k block : ℕ) →
    has (after core event) k block ≡ true → Lends core event k block (at (after core event) k)
lends core event h k block is = lends-of core event k block (at (after core event) k)
    (turn core event h k) is

-- ---- each block is lent once

abbrev pub AreLentOnce : Core → Type 0
AreLentOnce core = (i j block : ℕ) → has core i block ≡ true → has core j block ≡ true → i ≡ j

-- a block that a job takes is no other job's
untaken : (core : Core) (o : Option Lease) (block k : ℕ) → is_taken core.tracks o ≡ false →
    is_lease o block ≡ true → has core k block ≡ true → ⊥
untaken core None block k free is h = cc
untaken core (Some lease) block k free is h =
    let here : lease.block ≡ block = same_number lease.block block is in
    let within = in_tracks (λ s. has_block s block) core.tracks k refl h in
    let none : list_any (λ t. has_block t.state block) core.tracks ≡ false = rw here at free in
    no_clash (has_block (at core k).state block) h
    (any_none (λ t. has_block t.state block) core.tracks k none within)

dispatch-free : (core : Core) (place : ℕ) → may_dispatch core place ≡ true →
    (is_taken core.tracks (next_job core.tags (track core.tracks place)).first ≡ false) ×
    (is_taken core.tracks (next_job core.tags (track core.tracks place)).second ≡ false)
dispatch-free core place h =
    let a = both (is_waiting (track core.tracks place).state) _ h in
    let b = both (not (meets_live core.tracks place (track core.tracks place).span)) _ a.1 in
    let c = both (not (meets_read core.tracks place (track core.tracks place).span)) _ b.1 in
    let d = both (not (is_taken core.tracks (next_job core.tags (track core.tracks place)).first)) _
    c.1 in
    (not_true _ d.0, not_true _ d.1)

-- the place of an index
pub track-next : (core : Core) (k : ℕ) → track core.tracks (k + 1) ≡ at core k
track-next core k = track_is core.tracks (k + 1) k (λ none. absurd (omega arith)) (omega arith)

new-free : (core : Core) (i j block : ℕ) → may_dispatch core (i + 1) ≡ true →
    has_block (Out (next_job core.tags (at core i))) block ≡ true → has core j block ≡ true → ⊥
new-free core i j block may_be is h =
    let free = dispatch-free core (i + 1) may_be in
    let first : is_taken core.tracks (next_job core.tags (at core i)).first ≡ false =
    rw (track-next core i) at free.0 in
    let second : is_taken core.tracks (next_job core.tags (at core i)).second ≡ false =
    rw (track-next core i) at free.1 in
    elim (or_cases (is_lease (next_job core.tags (at core i)).first block)
    (is_lease (next_job core.tags (at core i)).second block) is) [
      | inl one ↦ untaken core (next_job core.tags (at core i)).first block j first one h
      | inr two ↦ untaken core (next_job core.tags (at core i)).second block j second two h
    ]

same-place : (i j : ℕ) (event : Event) → event ≡ events.Dispatch (i + 1) →
    event ≡ events.Dispatch (j + 1) → i ≡ j
same-place i j event one two = let same : i + 1 ≡ j + 1 = number (i + 1) (j + 1) (sym one ∙ two) in
    omega arith
  where
    number : (a b : ℕ) → events.Dispatch a ≡ events.Dispatch b → a ≡ b
    number a b is = cc

once-of : (core : Core) (event : Event) (i j block : ℕ) (one two : Track) → AreLentOnce core →
    Lends core event i block one → Lends core event j block two →
    has_block one.state block ≡ true → has_block two.state block ≡ true → i ≡ j
once-of core event i j block one two once (had first s d) (had second t e) h k =
    once i j block first second
once-of core event i j block one two once (had first s d) (taken is may_be same) h k =
    let own : has_block (Out (next_job core.tags (at core j))) block ≡ true = rw same at k in
    absurd (new-free core j i block may_be own first)
once-of core event i j block one two once (taken is may_be same) (had second t e) h k =
    let own : has_block (Out (next_job core.tags (at core i))) block ≡ true = rw same at h in
    absurd (new-free core i j block may_be own second)
once-of core event i j block one two once (taken is may_be same) (taken its may_its again) h k =
    same-place i j event is its

pub once-after : (core : Core) (event : Event) → IsKept core → AreLentOnce core →
    may core event ≡ true → AreLentOnce (after core event)
once-after core event kept once h i j block first second =
    once-of core event i j block (at (after core event) i) (at (after core event) j) once
    (lends core event (case-of core event h) i block first)
    (lends core event (case-of core event h) j block second) first second

pub once-fresh : (core : Core) → IsFresh core → AreLentOnce core
once-fresh core fresh i j block first second =
    let none : at core i ≡ blank = rw fresh.tracks refl in
    let own : has_block blank.state block ≡ true = rw none at first in cc

pub once-at : (core : Core) → AreLentOnce core → (one other block : ℕ) →
    has_block (track core.tracks one).state block ≡ true →
    has_block (track core.tracks other).state block ≡ true → one ≡ other
once-at core once one other block first second =
    let some = some_place (λ s. has_block s block) refl core.tracks one first in
    let there = some_place (λ s. has_block s block) refl core.tracks other second in
    let at_one : track core.tracks one ≡ at core (one - 1) = track_is core.tracks one (one - 1) some
    refl in
    let at_other : track core.tracks other ≡ at core (other - 1) = track_is core.tracks other
    (other - 1) there refl in
    let same : one - 1 ≡ other - 1 = once (one - 1) (other - 1) block (rw at_one at first)
    (rw at_other at second) in
    up one other some there same
  where
    up : (a b : ℕ) → (a ≡ 0 → ⊥) → (b ≡ 0 → ⊥) → a - 1 ≡ b - 1 → a ≡ b
    up zero b some there same = absurd (some refl)
    up (suc a) zero some there same = absurd (there refl)
    up (suc a) (suc b) some there same = omega arith
