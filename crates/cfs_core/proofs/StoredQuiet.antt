-- The events that leave the medium and the liveness of each entry as they are keep what is stored.
use Rattle.std.proofs.Common.{◌≡◌, ℕ, true, false, Option, List, refl, sym, ◌∙◌}
use Rattle.cfs_core.specs.declared.state.State.{State}
use Rattle.cfs_core.specs.declared.state.State.TheVariants.{Waiting, Out, Noop, Unserved, Closed}
use Rattle.cfs_core.specs.declared.track.Track.{Track}
use Rattle.cfs_core.specs.declared.doubt.Doubt.{Doubt}
use Rattle.cfs_core.specs.declared.inode_core.Core.{Core}
use Rattle.cfs_core.specs.Words.{is_live, is_noop, is_out, is_unserved, is_waiting, track}
use Rattle.cfs_core.specs.Jobs.{next_job}
use Rattle.cfs_core.specs.May.{may_dispatch, may_serve}
use Rattle.cfs_core.specs.After.{marked, more_to_come, retired, with_doubt, with_state, with_track}
use Rattle.cfs_core.proofs.Alive.{out_lives, unserved_dead, waiting_lives}
use Rattle.cfs_core.proofs.Kept.{IsStored}
use Rattle.cfs_core.proofs.Order.{first_of_and, serves, some_place}
use Rattle.cfs_core.proofs.StoredFrames.{IsQuiet, stored_put}

live_unread : (s : State) → is_live s ≡ true → is_unserved s ≡ true → ⊥
live_unread Waiting live unread = cc
live_unread (Out job) live unread = cc
live_unread Noop live unread = cc
live_unread Unserved live unread = cc
live_unread Closed live unread = cc

pub noop_dead : (s : State) → is_noop s ≡ true → is_live s ≡ false
noop_dead Waiting h = cc
noop_dead (Out job) h = cc
noop_dead Noop h = refl
noop_dead Unserved h = cc
noop_dead Closed h = cc

-- a live state that becomes another
pub quiet_live : (t : Track) (was : Track) → t.span ≡ was.span → t.applied ≡ was.applied →
    is_live t.state ≡ true → is_live was.state ≡ true → IsQuiet t was
quiet_live t was span applied live was_live = record {
  span = span;
  unserved = λ unread. absurd (live_unread t.state live unread);
  live = live ∙ sym was_live;
  applied = applied;
}

-- an entry that is not live is closed
quiet_closed : (t : Track) (was : Track) → t.span ≡ was.span → t.applied ≡ was.applied →
    t.state ≡ Closed → is_live was.state ≡ false → IsQuiet t was
quiet_closed t was span applied state dead = record {
  span = span;
  unserved = λ unread. let own : is_unserved Closed ≡ true = rw state at unread in cc;
  live = rw (state, dead) refl;
  applied = applied;
}

pub stored_serve : (core : Core) (place : ℕ) (answer : Option (List ℕ)) → IsStored core →
    may_serve core place answer ≡ true → IsStored (with_state core place Closed)
stored_serve core place answer stored h =
    let unserved = serves core place answer h in
    stored_put core place (record (track core.tracks place) { state = Closed })
    (some_place is_unserved refl core.tracks place unserved)
    (quiet_closed (record (track core.tracks place) { state = Closed })
    (track core.tracks place) refl refl refl
    (unserved_dead (track core.tracks place).state unserved)) stored

pub stored_skip : (core : Core) (place : ℕ) → IsStored core →
    is_noop (track core.tracks place).state ≡ true →
    IsStored (with_track core place (retired (track core.tracks place)))
stored_skip core place stored h =
    stored_put core place (retired (track core.tracks place))
    (some_place is_noop refl core.tracks place h)
    (quiet_closed (retired (track core.tracks place)) (track core.tracks place) refl refl refl
    (noop_dead (track core.tracks place).state h)) stored

pub stored_dispatch : (core : Core) (place : ℕ) → IsStored core → may_dispatch core place ≡ true →
    IsStored (with_state core place (Out (next_job core.tags (track core.tracks place))))
stored_dispatch core place stored h =
    let waiting = first_of_and (is_waiting (track core.tracks place).state) _ h in
    let t : Track =
    record (track core.tracks place) {
      state = Out
          (next_job core.tags (track core.tracks place));
    } in
    stored_put core place t (some_place is_waiting refl core.tracks place waiting)
    (quiet_live t (track core.tracks place) refl refl refl
    (waiting_lives (track core.tracks place).state waiting)) stored

-- a mark that was not kept
pub stored_unmarked : (core : Core) (place : ℕ) → IsStored core →
    is_waiting (track core.tracks place).state ≡ true →
    IsStored (with_track core place (marked (track core.tracks place) false))
stored_unmarked core place stored waiting =
    let live = waiting_lives (track core.tracks place).state waiting in
    stored_put core place (marked (track core.tracks place) false)
    (some_place is_waiting refl core.tracks place waiting)
    (quiet_live (marked (track core.tracks place) false)
    (track core.tracks place) refl refl live live) stored

pub stored_more : (core : Core) (place : ℕ) → IsStored core →
    is_out (track core.tracks place).state ≡ true →
    IsStored (with_track core place (more_to_come (track core.tracks place)))
stored_more core place stored out =
    stored_put core place (more_to_come (track core.tracks place))
    (some_place is_out refl core.tracks place out)
    (quiet_live (more_to_come (track core.tracks place)) (track core.tracks place) refl refl refl
    (out_lives (track core.tracks place).state out)) stored

-- the doubt is in no clause
pub stored_doubt : (core : Core) (doubt : Option Doubt) → IsStored core →
    IsStored (with_doubt core doubt)
stored_doubt core doubt stored = record {
  short = stored.short;
  rests_free = stored.rests_free;
  zero_past = stored.zero_past;
  long = stored.long;
  applied_rests = stored.applied_rests;
  applied_size = stored.applied_size;
}
