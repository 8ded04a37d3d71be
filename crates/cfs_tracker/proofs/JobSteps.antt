-- A tracker follows its core through the steps of the jobs, which are made out of its sight.
use Rattle.std.proofs.Common.{◌≡◌, ◌∙◌, ap, ◌-◌, ◌<◌, ◌==◌, length, List, Option, None, Some, refl, set, sym, true, false, ℕ, Bool, subst, inl, inr}
use Rattle.std.specs.Prelude.{nat_lt}
use Rattle.std.proofs.lemmas.Bool.{cases_Bool}
use Rattle.cfs_file.specs.declared.sizes.TheConstants.{FILE_BLOCKS}
use Rattle.cfs_core.specs.declared.event.Event.TheVariants as events
use Rattle.cfs_core.specs.declared.inode_core.Core.{Core}
use Rattle.cfs_core.specs.declared.state.Job.{Job}
use Rattle.cfs_core.specs.declared.state.Lease.{Lease}
use Rattle.cfs_core.specs.declared.state.State.{State}
use Rattle.cfs_core.specs.declared.state.State.TheVariants as states
use Rattle.cfs_core.specs.declared.stretch.Stretch.{Stretch}
use Rattle.cfs_core.specs.declared.track.Track.{Track}
use Rattle.cfs_core.specs.Words.{end_in, has_block, is_lease, is_out, start_in, track}
use Rattle.cfs_core.specs.Jobs.{lease_flushed, lease_written, note_flush, note_write, state_flushed, state_written}
use Rattle.cfs_core.specs.May.{is_in_phase, may, may_flush, may_write}
use Rattle.cfs_core.specs.After.{after, block_written, flushed, with_state}
use Rattle.cfs_core.proofs.Apart.{block_out}
use Rattle.cfs_core.proofs.Legal.{both}
use Rattle.cfs_core.proofs.Marks.{track_beside}
use Rattle.cfs_core.proofs.Order.{same_or_not}
use Rattle.cfs_core_laws.specs.Reached.{IsReached}
use Rattle.cfs_core_laws.specs.Reached.IsReached.{comes}
use Rattle.cfs_tracker.specs.declared.doing.Doing.{Doing}
use Rattle.cfs_tracker.specs.declared.doing.Doing.TheVariants as doings
use Rattle.cfs_tracker.specs.declared.pending.Pending.{Pending}
use Rattle.cfs_tracker.specs.declared.reading.Reading.{Reading}
use Rattle.cfs_tracker.specs.View.{TrackerView, entry_at, read_at}
use Rattle.cfs_tracker.specs.Follows.{Follows, HasJob, IsDoing, StandsAt, block_of}
use Rattle.cfs_tracker.proofs.Putting.{stands-by}
use Rattle.cfs_tracker.proofs.Tracks.{in-log, track-here}

-- ---- the blocks of a job stay

-- the two states are of one entry, whose job has the same blocks
pub record SameBlocks (old new : State) : Type 0 where
  pub has : (block : ℕ) → has_block new block ≡ has_block old block
  pub job : (first second : Option ℕ) → HasJob old first second → HasJob new first second

write-block : (block : ℕ) (ok : Bool) (lease : Lease) → (lease_written block ok lease).block ≡
    lease.block
write-block block ok lease = elim (cases_Bool (lease.block == block)) [
  | inl own ↦ rw own refl
  | inr other ↦ rw other refl
]

flush-block : (block : ℕ) (lease : Lease) → (lease_flushed block lease).block ≡ lease.block
flush-block block lease = elim (cases_Bool (lease.block == block)) [
  | inl own ↦ rw own refl
  | inr other ↦ rw other refl
]

write-of : (block : ℕ) (ok : Bool) (lease : Option Lease) →
    block_of (note_write block ok lease) ≡ block_of lease
write-of block ok None = refl
write-of block ok (Some lease) = ap Some (write-block block ok lease)

flush-of : (block : ℕ) (lease : Option Lease) → block_of (note_flush block lease) ≡ block_of lease
flush-of block None = refl
flush-of block (Some lease) = ap Some (flush-block block lease)

abbrev is_block : Option ℕ → ℕ → Bool
is_block None k = false
is_block (Some own) k = own == k

lease-by : (lease : Option Lease) (k : ℕ) →
    is_lease lease k ≡ is_block (block_of lease) k
lease-by None k = refl
lease-by (Some lease) k = refl

same-lease : (one other : Option Lease) (k : ℕ) → block_of one ≡ block_of other →
    is_lease one k ≡ is_lease other k
same-lease one other k same =
    lease-by one k ∙ (ap (λ (o : Option ℕ). is_block o k) same ∙ sym (lease-by other k))

same-jobs : (old new : Job) → block_of new.first ≡ block_of old.first →
    block_of new.second ≡ block_of old.second → SameBlocks (states.Out old) (states.Out new)
same-jobs old new first second = record {
  has = λ k. rw (same-lease new.first old.first k first, same-lease new.second old.second k second)
      refl;
  job = λ one two is.
      let same : is.job ≡ old = (let outs : states.Out old ≡ states.Out is.job = is.out in cc) in
      record {
        job = new;
        out = refl;
        first_is = first ∙ (ap (λ (j : Job). block_of j.first) (sym same) ∙ is.first_is);
        second_is = second ∙ (ap (λ (j : Job). block_of j.second) (sym same) ∙ is.second_is);
      };
}

same-state : (s : State) → SameBlocks s s
same-state s = record { has = λ k. refl; job = λ first second is. is }

write-same : (block : ℕ) (ok : Bool) (s : State) → SameBlocks s (state_written block ok s)
write-same block ok states.Waiting = same-state states.Waiting
write-same block ok (states.Out job) =
    same-jobs job (record {
      first = note_write block ok job.first;
      second = note_write block ok
          job.second;
    })
    (write-of block ok job.first) (write-of block ok job.second)
write-same block ok states.Noop = same-state states.Noop
write-same block ok states.Unserved = same-state states.Unserved
write-same block ok states.Closed = same-state states.Closed

flush-same : (block : ℕ) (s : State) → SameBlocks s (state_flushed block s)
flush-same block states.Waiting = same-state states.Waiting
flush-same block (states.Out job) =
    same-jobs job (record {
      first = note_flush block job.first;
      second = note_flush block
          job.second;
    })
    (flush-of block job.first) (flush-of block job.second)
flush-same block states.Noop = same-state states.Noop
flush-same block states.Unserved = same-state states.Unserved
flush-same block states.Closed = same-state states.Closed

-- ---- an entry that is out stays so

doing-out : {S : Type 0} (now : Doing S) (s new : State) → is_out s ≡ true → SameBlocks s new →
    IsDoing now s → IsDoing now new
doing-out (doings.Waiting slots) s new out same is = (let none : is_out s ≡ false = rw is refl in
    cc)
doing-out doings.Marking s new out same is = (let none : is_out s ≡ false = rw is refl in cc)
doing-out (doings.Out first second) s new out same is = same.job first second is
doing-out (doings.Covered slots) s new out same is = (let none : is_out s ≡ false = rw is refl in
    cc)
doing-out doings.Closing s new out same is = (let none : is_out s ≡ false = rw is refl in cc)

stands-on : {S : Type 0} (entry : Option (Pending S)) (read : Option Reading) (t : Track)
    (new : State) → is_out t.state ≡ true → SameBlocks t.state new → StandsAt entry read t →
    StandsAt entry read (record t { state = new })
stands-on None None t new out same stands =
    (let none : is_out t.state ≡ false = rw stands refl in cc)
stands-on None (Some read) t new out same stands =
    (let none : is_out t.state ≡ false = rw stands.state refl in cc)
stands-on (Some e) None t new out same is = record {
  grant = is.grant;
  span = is.span;
  applied = is.applied;
  done = is.done;
  doing = doing-out e.doing t.state new out same is.doing;
  gate = is.gate;
  idle = λ applied k. same.has k ∙ is.idle applied k;
}
stands-on (Some e) (Some read) t new out same stands = absurd stands

pub follows-step : {S D B : Type 0} (view : TrackerView S D B) (core : Core) (place : ℕ)
    (new : State) (bytes : List ℕ) (loose : List Stretch) → Follows view core →
    is_out (track core.tracks place).state ≡ true →
    SameBlocks (track core.tracks place).state new →
    IsReached (record (with_state core place new) { bytes = bytes; loose = loose }) →
    Follows view (record (with_state core place new) { bytes = bytes; loose = loose })
follows-step view core place new bytes loose follows out same reached = record {
  reached = reached;
  up = follows.up;
  count = follows.count;
  long = follows.long;
  size = follows.size;
  sure = follows.sure;
  entries = λ q. elim (same_or_not q place) [
    | inl is ↦
        subst (λ (n : ℕ). StandsAt (entry_at view.entries n) (read_at view.reads n)
        (track (set core.tracks (place - 1) (record (track core.tracks place) { state = new })) n))
        (sym is)
        (stands-by refl refl (track-here core.tracks place (record (track core.tracks place) {
          state = new;
        }) inside.0 inside.1)
        (stands-on (entry_at view.entries place) (read_at view.reads place)
        (track core.tracks place) new out same (follows.entries place)))
    | inr apart ↦
        stands-by refl refl (track_beside core.tracks place q (record (track core.tracks place) {
          state = new;
        }) inside.0 apart) (follows.entries q)
  ];
  rise = follows.rise;
  reads_rise = follows.reads_rise;
  syncs = follows.syncs;
  many = follows.many;
  cells = follows.cells;
  lent = λ q block has. follows.lent q block (elim (same_or_not q place) [
    | inl is ↦
        subst (λ (n : ℕ). has_block (track core.tracks n).state block ≡ true) (sym is)
        (sym (same.has block)
        ∙ subst (λ (u : Track). has_block u.state block ≡ true)
        (ap (λ (n : ℕ). track (set core.tracks (place - 1) (record (track core.tracks place) {
          state = new;
        })) n) is
        ∙ track-here core.tracks place (record (track core.tracks place) { state = new }) inside.0
        inside.1) has)
    | inr apart ↦
        subst (λ (u : Track). has_block u.state block ≡ true)
        (track_beside core.tracks place q (record (track core.tracks place) { state = new })
        inside.0 apart) has
  ]);
  doubt = follows.doubt;
}
  where
    inside : (place ≡ 0 → ⊥) × (place - 1 < length core.tracks)
    inside = in-log is_out refl core.tracks place out

out-of-flush : (core : Core) (place block : ℕ) → may_flush core place block ≡ true →
    is_out (track core.tracks place).state ≡ true
out-of-flush core place block h =
    block_out (track core.tracks place).state block
    (both (nat_lt block FILE_BLOCKS) (has_block (track core.tracks place).state block) h).1

write-flush : (core : Core) (place block : ℕ) (left : Option (List ℕ)) →
    may_write core place block left ≡ true → may_flush core place block ≡ true
write-flush core place block None h = h
write-flush core place block (Some left) h =
    (both (may_flush core place block)
    (length left == end_in (track core.tracks place).span block - start_in
    (track core.tracks place).span block) h).0

pub follows-write : {S D B : Type 0} (view : TrackerView S D B) (core : Core) (place block : ℕ)
    (left : Option (List ℕ)) → Follows view core →
    may core (events.BlockWrite place block left) ≡ true →
    Follows view (after core (events.BlockWrite place block left))
follows-write view core place block None follows h =
    let t = track core.tracks place in
    let flush = (both (is_in_phase core.crashed (events.BlockWrite place block None))
    (may_write core place block None) h).1 in
    follows-step view core place (state_written block true t.state)
    (block_written core place block None).bytes (block_written core place block None).loose follows
    (out-of-flush core place block flush) (write-same block true t.state)
    (comes core (events.BlockWrite place block None) follows.reached h)
follows-write view core place block (Some left) follows h =
    let t = track core.tracks place in
    let flush = write-flush core place block (Some left)
    (both (is_in_phase core.crashed (events.BlockWrite place block (Some left)))
    (may_write core place block (Some left)) h).1 in
    follows-step view core place (state_written block false t.state)
    (block_written core place block (Some left)).bytes
    (block_written core place block (Some left)).loose follows
    (out-of-flush core place block flush) (write-same block false t.state)
    (comes core (events.BlockWrite place block (Some left)) follows.reached h)

pub follows-flush : {S D B : Type 0} (view : TrackerView S D B) (core : Core) (place block : ℕ)
    (ok : Bool) → Follows view core → may core (events.Flush place block ok) ≡ true →
    Follows view (after core (events.Flush place block ok))
follows-flush view core place block true follows h =
    let t = track core.tracks place in
    let flush = (both (is_in_phase core.crashed (events.Flush place block true))
    (may_flush core place block) h).1 in
    follows-step view core place (state_flushed block t.state) core.bytes
    (flushed core place block true).loose follows (out-of-flush core place block flush)
    (flush-same block t.state) (comes core (events.Flush place block true) follows.reached h)
follows-flush view core place block false follows h = follows
