-- Events that no device shows: a track gets another state.
use Rattle.std.proofs.Common.{◌≡◌, inl, inr, ℕ, ◌-◌, ◌≤◌, Bool, true, false, Some, None, List, length, refl, sym, ap, ◌∙◌}
use Rattle.std.proofs.lemmas.List.{length-set}
use Rattle.cfs_core.specs.declared.event.End.TheVariants as ends
use Rattle.cfs_core.specs.declared.event.Event.{Event}
use Rattle.cfs_core.specs.declared.event.Event.TheVariants as events
use Rattle.cfs_core.specs.declared.event.SizeEnd.TheVariants as sizes
use Rattle.cfs_core.specs.declared.inode_core.Core.{Core}
use Rattle.cfs_core.specs.declared.state.State.{State}
use Rattle.cfs_core.specs.declared.state.State.TheVariants.{Closed, Out}
use Rattle.cfs_core.specs.declared.track.Track.{Track}
use Rattle.cfs_core.specs.After.{after, more_to_come, put_back, with_track}
use Rattle.cfs_core.specs.Jobs.{next_job}
use Rattle.cfs_core.specs.May.{ends_well, is_in_phase, may_dispatch, may_finish, may_serve}
use Rattle.cfs_core.specs.Words.{is_out, is_unserved, is_waiting, track}
use Rattle.cfs_core.proofs.Legal.{both}
use Rattle.cfs_core.proofs.Marks.{track_beside}
use Rattle.cfs_core.proofs.Order.{same_or_not, some_place}
use Rattle.cfs_medium.specs.QuietEvents.{BacksShow, QuietEventsShow}
use Rattle.cfs_medium.specs.Shows.{Holding, Shows, logged_at}
use Rattle.cfs_medium.specs.World.{World}
use Rattle.cfs_medium.proofs.SlotEvents.{holding-same, track-here, within_place}

-- a track with the same gate, mark and span
track-like : (core : Core) (at : ℕ) (one other : Track) → one.gate ≡ other.gate → one.mark ≡ other.mark →
    one.span ≡ other.span → logged_at core.log one at ≡ logged_at core.log other at
track-like core at one other gate mark span = rw (gate, mark, span) refl

pub track-known : (core : Core) (place at : ℕ) (t : Track) → (place ≡ 0 → ⊥) → place ≤ length core.tracks →
    t.gate ≡ (track core.tracks place).gate → t.mark ≡ (track core.tracks place).mark →
    t.span ≡ (track core.tracks place).span →
    logged_at core.log (track (with_track core place t).tracks at) at
    ≡ logged_at core.log (track core.tracks at) at
track-known core place at t some within gate mark span = elim (same_or_not at place) [
  | inl same ↦
      ap (λ (k : ℕ). logged_at core.log (track (with_track core place t).tracks k) at) same
      ∙ ap (λ (u : Track). logged_at core.log u at) (track-here core place t some within)
      ∙ track-like core at t (track core.tracks place) gate mark span
      ∙ ap (λ (k : ℕ). logged_at core.log (track core.tracks k) at) (sym same)
  | inr other ↦
      ap (λ (u : Track). logged_at core.log u at) (track_beside core.tracks place at t some other)
]

pub track-gate : (core : Core) (place at : ℕ) (t : Track) → (place ≡ 0 → ⊥) → place ≤ length core.tracks →
    t.gate ≡ (track core.tracks place).gate → t.mark ≡ (track core.tracks place).mark →
    t.span ≡ (track core.tracks place).span →
    (track (with_track core place t).tracks at).gate ≡ (track core.tracks at).gate
track-gate core place at t some within gate mark span =
    ap (λ (h : Holding). h.gate) (track-known core place at t some within gate mark span)

-- the devices show it just so
quiet : (ino place : ℕ) (core : Core) (t : Track) (world : World) → (place ≡ 0 → ⊥) →
    place ≤ length core.tracks → t.gate ≡ (track core.tracks place).gate →
    t.mark ≡ (track core.tracks place).mark → t.span ≡ (track core.tracks place).span →
    Shows ino core world → Shows ino (with_track core place t) world
quiet ino place core t world some within gate mark span shows = record {
  shape = record {
    tags = shows.shape.tags;
    tracks = length-set core.tracks (place - 1) t ∙ shows.shape.tracks;
    doubt = λ d is.
        let fits = shows.shape.doubt d is in
        record {
          from = fits.from;
          to = fits.to;
          apart = track-gate core place d.entry.place t some within gate mark span ∙ fits.apart;
        };
    loose = shows.shape.loose;
  };
  sizes = shows.sizes;
  size_now = shows.size_now;
  slots = λ at. rw (holding-same core (with_track core place t) core.doubt at
      (track-known core place at t some within gate mark span)) (shows.slots at);
  blocks = shows.blocks;
}

-- the place of a state that is that of some request
placed : (core : Core) (place : ℕ) (test : State → Bool) → test Closed ≡ false →
    test (track core.tracks place).state ≡ true → (place ≡ 0 → ⊥) × (place ≤ length core.tracks)
placed core place test closed passes =
    let some : place ≡ 0 → ⊥ = some_place test closed core.tracks place passes in
    (some, within_place test closed core.tracks place some passes)

pub quiet-events-show : QuietEventsShow
quiet-events-show ino core (events.Serve place None) world shows is allowed =
    let case = (both (is_in_phase core.crashed (events.Serve place None)) (may_serve core place None) allowed).1 in
    let at = placed core place is_unserved refl case in
    quiet ino place core (record (track core.tracks place) { state = Closed }) world at.0 at.1 refl refl refl shows
quiet-events-show ino core (events.Serve place (Some bytes)) world shows is allowed =
    let case = (both (is_in_phase core.crashed (events.Serve place (Some bytes))) (may_serve core place (Some bytes)) allowed).1 in
    let at = placed core place is_unserved refl (both (is_unserved (track core.tracks place).state) _ case).0 in
    quiet ino place core (record (track core.tracks place) { state = Closed }) world at.0 at.1 refl refl refl shows
quiet-events-show ino core (events.Dispatch place) world shows is allowed =
    let case = (both (is_in_phase core.crashed (events.Dispatch place)) (may_dispatch core place) allowed).1 in
    let at = placed core place is_waiting refl (both (is_waiting (track core.tracks place).state) _ case).0 in
    quiet ino place core (record (track core.tracks place) { state = Out (next_job core.tags (track core.tracks place)) })
    world at.0 at.1 refl refl refl shows
quiet-events-show ino core (events.Finish place ends.More) world shows is allowed =
    let case = (both (is_in_phase core.crashed (events.Finish place ends.More)) (may_finish core place ends.More) allowed).1 in
    let at = placed core place is_out refl (both (is_out (track core.tracks place).state) (ends_well core place ends.More) case).0 in
    quiet ino place core (more_to_come (track core.tracks place)) world at.0 at.1 refl refl refl shows
quiet-events-show ino core (events.Finish place ends.Retired) world shows is allowed = absurd (cc)
quiet-events-show ino core (events.Finish place (ends.Back size gate applied)) world shows is allowed = absurd (cc)
quiet-events-show ino core (events.Tag block kept) world shows is allowed = absurd (cc)
quiet-events-show ino core (events.Admit entry grant kept) world shows is allowed = absurd (cc)
quiet-events-show ino core (events.AdmitRead entry) world shows is allowed = absurd (cc)
quiet-events-show ino core (events.Mark place by kept) world shows is allowed = absurd (cc)
quiet-events-show ino core (events.BlockWrite place block left) world shows is allowed = absurd (cc)
quiet-events-show ino core (events.Flush place block ok) world shows is allowed = absurd (cc)
quiet-events-show ino core (events.Skip place) world shows is allowed = absurd (cc)
quiet-events-show ino core (events.Trim block kept) world shows is allowed = absurd (cc)
quiet-events-show ino core events.Settle world shows is allowed = absurd (cc)
quiet-events-show ino core (events.Crash image) world shows is allowed = absurd (cc)
quiet-events-show ino core events.Mount world shows is allowed = absurd (cc)

pub backs-show : BacksShow
backs-show ino place gate applied core world shows allowed same =
    let case = (both (is_in_phase core.crashed (events.Finish place (ends.Back sizes.AsBefore gate applied))) (may_finish core place (ends.Back sizes.AsBefore gate applied)) allowed).1 in
    let at = placed core place is_out refl (both (is_out (track core.tracks place).state) (ends_well core place (ends.Back sizes.AsBefore gate applied)) case).0 in
    quiet ino place core (put_back (track core.tracks place) gate applied) world at.0 at.1 same refl refl shows
