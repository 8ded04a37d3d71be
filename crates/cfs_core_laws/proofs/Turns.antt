-- What an event makes of the track at an index.
use Rattle.std.proofs.Common.{◌≡◌, inl, inr, ℕ, ◌+◌, ◌-◌, ◌≤◌, ◌==◌, if◌then◌else◌, Bool, true, false, Option, Some, None, [], ◌∷◌, ◌++◌, length, get_or, arith, refl, sym, ap, ◌∙◌, length-append, nat_lt}
use Rattle.std.proofs.lemmas.Bool.{cases_lt}
use Rattle.std.proofs.lemmas.List.{get_or_append_left, get_or-append_right, get_or_past}
use Rattle.cfs_file.specs.declared.sizes.TheConstants.{FILE_BLOCKS}
use Rattle.cfs_core.specs.declared.state.State.{State}
use Rattle.cfs_core.specs.declared.state.State.TheVariants.{Waiting, Out, Noop, Unserved, Closed}
use Rattle.cfs_core.specs.declared.state.Lease.{Lease}
use Rattle.cfs_core.specs.declared.track.Track.{Track}
use Rattle.cfs_core.specs.declared.event.Event.{Event}
use Rattle.cfs_core.specs.declared.event.Event.TheVariants as events
use Rattle.cfs_core.specs.declared.event.End.{End}
use Rattle.cfs_core.specs.declared.event.End.TheVariants as ends
use Rattle.cfs_core.specs.declared.event.SizeEnd.TheVariants as sizes
use Rattle.cfs_core.specs.declared.inode_core.Core.{Core}
use Rattle.cfs_core.specs.Words.{blank, has_block, is_lease, is_live, is_noop, is_out, is_unserved, is_waiting, track}
use Rattle.cfs_core.specs.Jobs.{next_job, state_flushed, state_written, note_write, note_flush}
use Rattle.cfs_core.specs.May.{case, may_dispatch}
use Rattle.cfs_core.specs.After.{after, with_track}
use Rattle.cfs_core.proofs.Kept.{at}
use Rattle.cfs_core.proofs.Apart.{block_out, seen}
use Rattle.cfs_core.proofs.Legal.{both}
use Rattle.cfs_core.proofs.LoggedCrash.{sure_at}
use Rattle.cfs_core.proofs.Order.{first_of_and, same_or_not, serves, some_place, track_is, writes}

pub data Turn (core : Core) (event : Event) (k : ℕ) (now : Track) : Type 0 where
  -- but for its gate and mark as it was
  stays : now.state ≡ (at core k).state → now.span ≡ (at core k).span →
      now.applied ≡ (at core k).applied → now.done ≡ (at core k).done → Turn core event k now
  -- a job takes it
  begins : event ≡ events.Dispatch (k + 1) → may_dispatch core (k + 1) ≡ true →
      now ≡ record (at core k) { state = Out (next_job core.tags (at core k)) } →
      Turn core event k now
  -- its job goes on
  works : (state : State) → is_out (at core k).state ≡ true → is_out state ≡ true →
      ((block : ℕ) → has_block state block ≡ has_block (at core k).state block) →
      now ≡ record (at core k) { state = state } → Turn core event k now
  -- its job ends
  returns : is_out (at core k).state ≡ true → is_out now.state ≡ false →
      now.span ≡ (at core k).span → Turn core event k now
  -- it is no longer live, or was not
  dies : is_live now.state ≡ false → now.span ≡ (at core k).span → now.done ≡ (at core k).done →
      Turn core event k now
  -- it is logged, or there is none
  comes : length core.tracks ≤ k → is_out now.state ≡ false → now.done ≡ None →
      Turn core event k now
  goes : now ≡ blank → Turn core event k now

same : (core : Core) (event : Event) (k : ℕ) → Turn core event k (at core k)
same core event k = stays refl refl refl refl

-- one track is put
put : (core : Core) (event : Event) (place : ℕ) (t : Track) → (place ≡ 0 → ⊥) →
    Turn core event (place - 1) t →
    (k : ℕ) → Turn core event k (at (with_track core place t) k)
put core event place t some turn k = elim (seen core.tracks place t k) [
  | inl here ↦ rw (here.1, here.0) turn
  | inr kept ↦ rw kept (same core event k)
]

pushed : (core : Core) (event : Event) (t : Track) → is_out t.state ≡ false → t.done ≡ None →
    (k : ℕ) → Turn core event k (get_or (core.tracks ++ t ∷ []) k blank)
pushed core event t home none k = elim (cases_lt k (length core.tracks)) [
  | inl within ↦
      let old : get_or (core.tracks ++ t ∷ []) k blank ≡ get_or core.tracks k blank =
      get_or_append_left core.tracks (t ∷ []) blank k within in
      rw old (same core event k)
  | inr past ↦ elim (same_or_not k (length core.tracks)) [
    | inl last ↦
        let now : get_or (core.tracks ++ t ∷ []) k blank ≡ get_or (t ∷ []) (k - length core.tracks)
        blank =
        get_or-append_right core.tracks (t ∷ []) (length core.tracks) k blank refl past in
        let first : k - length core.tracks ≡ 0 = omega arith in
        rw (now, first) (comes past home none)
    | inr beyond ↦
        let empty : get_or (core.tracks ++ t ∷ []) k blank ≡ blank =
        get_or_past (core.tracks ++ t ∷ []) k blank
        (omega (arith, length-append core.tracks (t ∷ []))) in
        goes empty
  ]
]

-- ---- the blocks of a job stay its blocks

lease_noted : (block : ℕ) (ok : Bool) (o : Option Lease) (b : ℕ) →
    is_lease (note_write block ok o) b ≡ is_lease o b
lease_noted block ok None b = refl
lease_noted block ok (Some lease) b = pick (lease.block == block)
  where
    pick : (here : Bool) →
        is_lease (Some (if here then record { block = lease.block; written = ok; flushed = false }
        else lease)) b ≡ is_lease (Some lease) b
    pick true = refl
    pick false = refl

lease_flushed_noted : (block : ℕ) (o : Option Lease) (b : ℕ) →
    is_lease (note_flush block o) b ≡ is_lease o b
lease_flushed_noted block None b = refl
lease_flushed_noted block (Some lease) b = pick (lease.block == block)
  where
    pick : (here : Bool) →
        is_lease (Some
        (if here then record {
          block = lease.block;
          written = lease.written;
          flushed =
              lease.written;
        } else lease)) b ≡ is_lease (Some lease) b
    pick true = refl
    pick false = refl

blocks_written : (s : State) (block : ℕ) (ok : Bool) (b : ℕ) →
    has_block (state_written block ok s) b ≡ has_block s b
blocks_written Waiting block ok b = refl
blocks_written (Out job) block ok b =
    rw (lease_noted block ok job.first b, lease_noted block ok job.second b) refl
blocks_written Noop block ok b = refl
blocks_written Unserved block ok b = refl
blocks_written Closed block ok b = refl

blocks_flushed : (s : State) (block b : ℕ) → has_block (state_flushed block s) b ≡ has_block s b
blocks_flushed Waiting block b = refl
blocks_flushed (Out job) block b =
    rw (lease_flushed_noted block job.first b, lease_flushed_noted block job.second b) refl
blocks_flushed Noop block b = refl
blocks_flushed Unserved block b = refl
blocks_flushed Closed block b = refl

out_written : (s : State) (block : ℕ) (ok : Bool) → is_out s ≡ true →
    is_out (state_written block ok s) ≡ true
out_written Waiting block ok h = cc
out_written (Out job) block ok h = refl
out_written Noop block ok h = cc
out_written Unserved block ok h = cc
out_written Closed block ok h = cc

out_flushed : (s : State) (block : ℕ) → is_out s ≡ true → is_out (state_flushed block s) ≡ true
out_flushed Waiting block h = cc
out_flushed (Out job) block h = refl
out_flushed Noop block h = cc
out_flushed Unserved block h = cc
out_flushed Closed block h = cc

-- ---- each event

-- a track that is put, with what is known of the one before
at_place : (core : Core) (place : ℕ) → (place ≡ 0 → ⊥) →
    track core.tracks place ≡ at core (place - 1)
at_place core place some = track_is core.tracks place (place - 1) some refl

finish_turn : (core : Core) (place : ℕ) (end : End) →
    is_out (track core.tracks place).state ≡ true → (k : ℕ) →
    Turn core (events.Finish place end) k (at (after core (events.Finish place end)) k)
finish_turn core place end out k = by end
  where
    some : place ≡ 0 → ⊥
    some = some_place is_out refl core.tracks place out

    was : track core.tracks place ≡ at core (place - 1)
    was = at_place core place some

    there : is_out (at core (place - 1)).state ≡ true
    there = rw was at out

    ended : (e : Event) (t : Track) → is_out t.state ≡ false →
        t.span ≡ (track core.tracks place).span → Turn core e k (at (with_track core place t) k)
    ended e t home span =
        put core e place t some (returns there home (span ∙ ap (λ (x : Track). x.span) was)) k

    by : (e : End) → Turn core (events.Finish place e) k (at (after core (events.Finish place e)) k)
    by ends.Retired = ended (events.Finish place ends.Retired) _ refl refl
    by ends.More = ended (events.Finish place ends.More) _ refl refl
    by (ends.Back sizes.AsBefore gate applied) =
        ended (events.Finish place (ends.Back sizes.AsBefore gate applied)) _ refl refl
    by (ends.Back sizes.Set gate applied) =
        ended (events.Finish place (ends.Back sizes.Set gate applied)) _ refl refl
    by (ends.Back sizes.Either gate applied) =
        ended (events.Finish place (ends.Back sizes.Either gate applied)) _ refl refl

died : (core : Core) (event : Event) (place : ℕ) (t : Track) → (place ≡ 0 → ⊥) →
    is_live t.state ≡ false → t.span ≡ (track core.tracks place).span →
    t.done ≡ (track core.tracks place).done →
    (k : ℕ) → Turn core event k (at (with_track core place t) k)
died core event place t some dead span done k =
    put core event place t some
    (dies dead (span ∙ ap (λ (x : Track). x.span) (at_place core place some))
    (done ∙ ap (λ (x : Track). x.done) (at_place core place some))) k

worked : (core : Core) (event : Event) (place block : ℕ) (state : State) →
    has_block (track core.tracks place).state block ≡ true → is_out state ≡ true →
    ((b : ℕ) → has_block state b ≡ has_block (track core.tracks place).state b) → (k : ℕ) →
    Turn core event k
    (at (with_track core place (record (track core.tracks place) { state = state })) k)
worked core event place block state has out blocks k =
    let some = some_place (λ s. has_block s block) refl core.tracks place has in
    let was = at_place core place some in
    put core event place (record (track core.tracks place) { state = state }) some
    (works state (rw was at (block_out (track core.tracks place).state block has)) out
    (λ b. blocks b ∙ ap (λ (x : Track). has_block x.state b) was)
    (ap (λ (x : Track). record x { state = state }) was)) k

pub turn : (core : Core) (event : Event) → case core event ≡ true → (k : ℕ) →
    Turn core event k (at (after core event) k)
turn core (events.Tag block kept) h k = same core _ k
turn core (events.Admit entry grant true) h k = pushed core (events.Admit entry grant true) _ refl
    refl k
turn core (events.Admit entry grant false) h k = same core _ k
turn core (events.AdmitRead entry) h k = pushed core (events.AdmitRead entry) _ refl refl k
turn core (events.Serve place answer) h k =
    let asks = serves core place answer h in
    died core (events.Serve place answer) place
    (record (track core.tracks place) { state = Closed })
    (some_place is_unserved refl core.tracks place asks) refl refl refl k
turn core (events.Mark place by true) h k =
    let waits = first_of_and (is_waiting (track core.tracks place).state) _ h in
    died core (events.Mark place by true) place _
    (some_place is_waiting refl core.tracks place waits) refl refl refl k
turn core (events.Mark place by false) h k =
    let waits = first_of_and (is_waiting (track core.tracks place).state) _ h in
    let some = some_place is_waiting refl core.tracks place waits in
    let was = at_place core place some in
    put core (events.Mark place by false) place _ some
    (stays (ap (λ (x : Track). x.state) was) (ap (λ (x : Track). x.span) was)
    (ap (λ (x : Track). x.applied) was) (ap (λ (x : Track). x.done) was)) k
turn core (events.Dispatch place) h k =
    let waits = first_of_and (is_waiting (track core.tracks place).state) _ h in
    let some = some_place is_waiting refl core.tracks place waits in
    let was = at_place core place some in
    let number : place - 1 + 1 ≡ place = omega arith in
    put core (events.Dispatch place) place
    (record (track core.tracks place)
    { state = Out (next_job core.tags (track core.tracks place)) }) some
    (begins (ap (λ (n : ℕ). events.Dispatch n) (sym number)) (rw number h)
    (ap (λ (x : Track). record x { state = Out (next_job core.tags x) }) was)) k
turn core (events.BlockWrite place block None) h k =
    let has = writes core place block None h in
    worked core (events.BlockWrite place block None) place block
    (state_written block true (track core.tracks place).state) has
    (out_written (track core.tracks place).state block true
    (block_out (track core.tracks place).state block has))
    (blocks_written (track core.tracks place).state block true) k
turn core (events.BlockWrite place block (Some left)) h k =
    let has = writes core place block (Some left) h in
    worked core (events.BlockWrite place block (Some left)) place block
    (state_written block false (track core.tracks place).state) has
    (out_written (track core.tracks place).state block false
    (block_out (track core.tracks place).state block has))
    (blocks_written (track core.tracks place).state block false) k
turn core (events.Flush place block true) h k =
    let has =
    (both (nat_lt block FILE_BLOCKS) (has_block (track core.tracks place).state block) h).1 in
    worked core (events.Flush place block true) place block
    (state_flushed block (track core.tracks place).state) has
    (out_flushed (track core.tracks place).state block
    (block_out (track core.tracks place).state block has))
    (blocks_flushed (track core.tracks place).state block) k
turn core (events.Flush place block false) h k = same core _ k
turn core (events.Finish place end) h k = finish_turn core place end
    (first_of_and (is_out (track core.tracks place).state) _ h) k
turn core (events.Skip place) h k =
    died core (events.Skip place) place _ (some_place is_noop refl core.tracks place h) refl refl
    refl k
turn core (events.Trim block kept) h k = same core _ k
turn core events.Settle h k = same core _ k
turn core (events.Crash image) h k = elim (sure_at core image k) [
  | inl now ↦ rw now.1 (stays refl refl refl refl)
  | inr none ↦ goes none.0
]
turn core events.Mount h k = goes refl
