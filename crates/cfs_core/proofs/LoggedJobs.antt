-- Reads that are served, jobs and no-ops keep the log's part of the invariant.
use Rattle.std.proofs.Common.{◌≡◌, inl, inr, ℕ, ◌-◌, Bool, true, false, not, Option, Some, None, List, [], ◌∷◌, ◌++◌, get_or, refl}
use Rattle.cfs_file.specs.Span.{meets}
use Rattle.cfs_file.proofs.Spans.{meets-overlap}
use Rattle.cfs_core.specs.declared.flag.Flag.{Flag}
use Rattle.cfs_core.specs.declared.state.State.{State}
use Rattle.cfs_core.specs.declared.state.State.TheVariants.{Waiting, Out, Noop, Unserved, Closed}
use Rattle.cfs_core.specs.declared.track.Track.{Track}
use Rattle.cfs_core.specs.declared.event.End.{End}
use Rattle.cfs_core.specs.declared.event.End.TheVariants as ends
use Rattle.cfs_core.specs.declared.event.SizeEnd.{SizeEnd}
use Rattle.cfs_core.specs.declared.event.SizeEnd.TheVariants as sizes
use Rattle.cfs_core.specs.declared.inode_core.Core.{Core}
use Rattle.cfs_core.specs.Words.{blank, has_block, is_live, is_off, is_out, is_unserved, is_waiting, sized, track}
use Rattle.cfs_core.specs.Jobs.{next_job, state_flushed, state_written}
use Rattle.cfs_core.specs.May.{may_dispatch, meets_live, meets_read}
use Rattle.cfs_core.specs.After.{block_written, finished, flushed, logged, more_to_come, put_back, retired, with_size, with_state, with_track}
use Rattle.cfs_core.proofs.Legal.{both, or_right}
use Rattle.cfs_core.proofs.Order.{some_place, track_is}
use Rattle.cfs_core.proofs.Apart.{AreApart, block_out, is_busy, none_before, not_true, out_busy, out_live, waiting_live}
use Rattle.cfs_core.proofs.Kept.{IsLogged, at}
use Rattle.cfs_core.proofs.StoredFrames.{no_clash}
use Rattle.cfs_core.proofs.LoggedFrames.{IsAlone, IsClear, IsCovered, logged_medium, logged_put}
use Rattle.cfs_core.proofs.Alive.{unserved_dead}

covered_at : (core : Core) (place : ℕ) → IsLogged core → (place ≡ 0 → ⊥) →
    is_off (track core.tracks place).mark ≡ false → IsCovered core (place - 1)
covered_at core place logged some off =
    logged.covered (place - 1) (rw (track_is core.tracks place (place - 1) some refl) at off)

pub idle_at : (core : Core) (place block : ℕ) → IsLogged core → (place ≡ 0 → ⊥) →
    (track core.tracks place).applied ≡ true →
    has_block (track core.tracks place).state block ≡ false
idle_at core place block logged some applied =
    let was = track_is core.tracks place (place - 1) some refl in
    rw was (logged.idle (place - 1) block (rw was at applied))

-- what was not live is closed
pub logged_closed : (core : Core) (place : ℕ) (gate : Flag) → IsLogged core → (place ≡ 0 → ⊥) →
    is_live (track core.tracks place).state ≡ false →
    IsLogged (with_track core place
    (record (track core.tracks place) { state = Closed; gate = gate }))
logged_closed core place gate old some dead =
    logged_put core place (record (track core.tracks place) { state = Closed; gate = gate }) old
    (record {
      some = some;
      span = refl;
      live = λ live. cc;
      asks = λ asks. cc;
      busy = λ busy.
          inl (or_right (is_out (track core.tracks place).state)
          (track core.tracks place).applied busy);
      idle = λ block applied. refl;
      mark = covered_at core place old some;
      falls = λ live. absurd (no_clash (is_live (track core.tracks place).state) live dead);
    })

-- a job takes an entry
pub logged_dispatch : (core : Core) (place : ℕ) → IsLogged core → may_dispatch core place ≡ true →
    IsLogged (with_state core place (Out (next_job core.tags (track core.tracks place))))
logged_dispatch core place old h =
    let waiting = both (is_waiting (track core.tracks place).state) _ h in
    let first =
    both (not (meets_live core.tracks place (track core.tracks place).span)) _ waiting.1 in
    let unread =
    both (not (meets_read core.tracks place (track core.tracks place).span)) _ first.1 in
    let some = some_place is_waiting refl core.tracks place waiting.0 in
    logged_put core place (record (track core.tracks place) {
      state = Out
          (next_job core.tags (track core.tracks place));
    }) old (record {
      some = some;
      span = refl;
      live = λ live. waiting_live (track core.tracks place).state waiting.0;
      asks = λ asks. cc;
      busy = λ busy. inr (
        waiting_live (track core.tracks place).state waiting.0,
        clear some (not_true (meets_read core.tracks place
            (track core.tracks place).span) unread.0),
      );
      idle = λ block applied. rw applied refl;
      mark = covered_at core place old some;
      falls = λ live. inl refl;
    })
  where
    clear : (place ≡ 0 → ⊥) → meets_read core.tracks place (track core.tracks place).span ≡ false →
        IsClear core (place - 1)
    clear some none v less asks =
        rw (← (track_is core.tracks place (place - 1) some refl))
        (none_before is_unserved refl core.tracks place
        (track core.tracks place).span none v less asks)

-- the job of an entry that is out goes on
logged_job : (core : Core) (place block : ℕ) (state : State) → IsLogged core →
    has_block (track core.tracks place).state block ≡ true →
    is_out state ≡ true → IsLogged (with_state core place state)
logged_job core place block state old h out =
    let some = some_place (λ s. has_block s block) refl core.tracks place h in
    let was_out = block_out (track core.tracks place).state block h in
    logged_put core place (record (track core.tracks place) { state = state }) old (record {
      some = some;
      span = refl;
      live = λ live. out_live (track core.tracks place).state was_out;
      asks = λ asks.
          absurd (no_clash (is_live state) (out_live state out) (unserved_dead state asks));
      busy = λ busy. inl (out_busy (track core.tracks place) was_out);
      idle = λ other applied.
          absurd (no_clash (has_block (track core.tracks place).state block) h
          (idle_at core place block old some applied));
      mark = covered_at core place old some;
      falls = λ live. inl (out_live state out);
    })

-- the job ends, and the entry waits again
logged_back : (core : Core) (place : ℕ) (t : Track) → IsLogged core →
    is_out (track core.tracks place).state ≡ true → t.state ≡ Waiting →
    t.span ≡ (track core.tracks place).span → t.mark ≡ (track core.tracks place).mark →
    IsLogged (with_track core place t)
logged_back core place t old out waiting span mark =
    let some = some_place is_out refl core.tracks place out in
    logged_put core place t old (record {
      some = some;
      span = span;
      live = λ live. out_live (track core.tracks place).state out;
      asks = λ asks. let own : is_unserved Waiting ≡ true = rw waiting at asks in cc;
      busy = λ busy. inl (out_busy (track core.tracks place) out);
      idle = λ block applied. rw waiting refl;
      mark = λ off. covered_at core place old some (rw mark at off);
      falls = λ live. inl (rw waiting refl);
    })

-- what is out is alone: nothing earlier that is live overlaps it
logged_retired : (core : Core) (place : ℕ) → AreApart core → IsLogged core →
    is_out (track core.tracks place).state ≡ true →
    IsLogged (with_track core place (retired (track core.tracks place)))
logged_retired core place apart old out =
    let some = some_place is_out refl core.tracks place out in
    logged_put core place (retired (track core.tracks place)) old (record {
      some = some;
      span = refl;
      live = λ live. cc;
      asks = λ asks. cc;
      busy = λ busy. inl (out_busy (track core.tracks place) out);
      idle = λ block applied. refl;
      mark = covered_at core place old some;
      falls = λ live. inr (alone (track_is core.tracks place (place - 1) some refl));
    })
  where
    alone : track core.tracks place ≡ get_or core.tracks (place - 1) blank →
        IsAlone core (place - 1)
    alone was v i p view last less live alters =
        let busy : is_busy (at core (place - 1)) ≡ true =
        out_busy (at core (place - 1)) (rw was at out) in
        no_clash (meets (at core i).span (at core (place - 1)).span)
        ((meets-overlap (at core i).span (at core (place - 1)).span).1 (p, (alters.1, last.1.1)))
        (apart i (place - 1) less live busy)

-- ---- the steps of a job

logged_sized : (core : Core) (end : SizeEnd) (size : ℕ) → IsLogged core →
    IsLogged (with_size core end size)
logged_sized core sizes.AsBefore size old = old
logged_sized core sizes.Set size old = logged_medium core size [] core.bytes core.loose old
logged_sized core sizes.Either size old =
    logged_medium core size (core.sizes ++ core.size ∷ []) core.bytes core.loose old

pub logged_finished : (core : Core) (place : ℕ) (end : End) → AreApart core → IsLogged core →
    is_out (track core.tracks place).state ≡ true →
    IsLogged (finished core place (track core.tracks place) end)
logged_finished core place ends.Retired apart old out =
    logged_sized (with_track core place (retired (track core.tracks place))) sizes.Set
    (sized core.size (track core.tracks place).span)
    (logged_retired core place apart old out)
logged_finished core place ends.More apart old out =
    logged_back core place (more_to_come (track core.tracks place)) old out refl refl refl
logged_finished core place (ends.Back size gate applied) apart old out =
    logged_sized (with_track core place (put_back (track core.tracks place) gate applied)) size
    (sized core.size (track core.tracks place).span)
    (logged_back core place (put_back
    (track core.tracks place) gate applied) old out refl refl refl)

written_out : (s : State) (block : ℕ) (ok : Bool) → is_out s ≡ true →
    is_out (state_written block ok s) ≡ true
written_out Waiting block ok h = cc
written_out (Out job) block ok h = refl
written_out Noop block ok h = cc
written_out Unserved block ok h = cc
written_out Closed block ok h = cc

flushed_out : (s : State) (block : ℕ) → is_out s ≡ true → is_out (state_flushed block s) ≡ true
flushed_out Waiting block h = cc
flushed_out (Out job) block h = refl
flushed_out Noop block h = cc
flushed_out Unserved block h = cc
flushed_out Closed block h = cc

pub logged_written : (core : Core) (place block : ℕ) (left : Option (List ℕ)) → IsLogged core →
    has_block (track core.tracks place).state block ≡ true →
    IsLogged (block_written core place block left)
logged_written core place block None old h =
    logged_medium (with_state core place
    (state_written block true (track core.tracks place).state)) _ _ _ _
    (logged_job core place block (state_written block true (track core.tracks place).state) old h
    (written_out (track core.tracks place).state block true
    (block_out (track core.tracks place).state block h)))
logged_written core place block (Some left) old h =
    logged_medium (with_state core place
    (state_written block false (track core.tracks place).state)) _ _ _ _
    (logged_job core place block (state_written block false (track core.tracks place).state) old h
    (written_out (track core.tracks place).state block false
    (block_out (track core.tracks place).state block h)))

pub logged_flushed : (core : Core) (place block : ℕ) (ok : Bool) → IsLogged core →
    has_block (track core.tracks place).state block ≡ true →
    IsLogged (flushed core place block ok)
logged_flushed core place block false old h = old
logged_flushed core place block true old h =
    logged_medium (with_state core place
    (state_flushed block (track core.tracks place).state)) _ _ _ _
    (logged_job core place block (state_flushed block (track core.tracks place).state) old h
    (flushed_out (track core.tracks place).state block
    (block_out (track core.tracks place).state block h)))
