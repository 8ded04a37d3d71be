-- A job's second block stands behind its first.
use Rattle.std.proofs.Common.{◌≡◌, inl, inr, ℕ, ◌-◌, ◌==◌, if◌then◌else◌, Bool, true, false, Option, Some, None, List, [], ◌∷◌, ◌++◌, length, get_or, arith, refl, ◌∙◌, length-append}
use Rattle.std.proofs.lemmas.Bool.{cases_lt}
use Rattle.std.proofs.lemmas.List.{get_or_append_left, get_or-append_right, get_or_past}
use Rattle.cfs_file.specs.declared.entry.Entry.{Entry}
use Rattle.cfs_core.specs.declared.flag.Flag.{Flag}
use Rattle.cfs_core.specs.declared.state.Lease.{Lease}
use Rattle.cfs_core.specs.declared.state.State.{State}
use Rattle.cfs_core.specs.declared.state.State.TheVariants.{Waiting, Out, Noop, Unserved, Closed}
use Rattle.cfs_core.specs.declared.track.Track.{Track}
use Rattle.cfs_core.specs.declared.event.Event.{Event}
use Rattle.cfs_core.specs.declared.event.Event.TheVariants as events
use Rattle.cfs_core.specs.declared.event.End.TheVariants as ends
use Rattle.cfs_core.specs.declared.event.SizeEnd.TheVariants as sizes
use Rattle.cfs_core.specs.declared.inode_core.Core.{Core}
use Rattle.cfs_core.specs.Fresh.{IsFresh}
use Rattle.cfs_core.specs.Words.{blank, track}
use Rattle.cfs_core.specs.Jobs.{job_from, lease_flushed, lease_of, lease_written, next_block, next_job, note_flush, note_write, is_wanted, state_flushed, state_written}
use Rattle.cfs_core.specs.After.{after, logged, with_track}
use Rattle.cfs_core.proofs.Apart.{seen}
use Rattle.cfs_core.proofs.Kept.{at}
use Rattle.cfs_core.proofs.LoggedCrash.{sure_at}
use Rattle.cfs_core.proofs.Order.{same_or_not, track_is}
use Rattle.cfs_core_laws.specs.Order.{ascends, is_out_sorted}
use Rattle.cfs_core_laws.proofs.Finds.{find-passes, wants}

abbrev pub AreSorted : Core → Type 0
AreSorted core = (k : ℕ) → is_out_sorted (at core k).state ≡ true

sorted-put : (core : Core) (place : ℕ) (t : Track) → is_out_sorted t.state ≡ true → AreSorted core →
    AreSorted (with_track core place t)
sorted-put core place t own all k = elim (seen core.tracks place t k) [
  | inl here ↦ rw here.1 own
  | inr same ↦ rw same (all k)
]

sorted-push : (core : Core) (entry : Entry) (t : Track) → is_out_sorted t.state ≡ true →
    AreSorted core → AreSorted (logged core entry t)
sorted-push core entry t own all k = elim (cases_lt k (length core.tracks)) [
  | inl within ↦
      let old : get_or (core.tracks ++ t ∷ []) k blank ≡ get_or core.tracks k blank =
      get_or_append_left core.tracks (t ∷ []) blank k within in
      rw old (all k)
  | inr past ↦ elim (same_or_not k (length core.tracks)) [
    | inl last ↦
        let now : get_or (core.tracks ++ t ∷ []) k blank ≡
        get_or (t ∷ []) (k - length core.tracks) blank =
        get_or-append_right core.tracks (t ∷ []) (length core.tracks) k blank refl past in
        let first : k - length core.tracks ≡ 0 = omega arith in
        rw (now, first) own
    | inr beyond ↦
        let none : get_or (core.tracks ++ t ∷ []) k blank ≡ blank =
        get_or_past (core.tracks ++ t ∷ []) k blank
        (omega (arith, length-append core.tracks (t ∷ []))) in
        rw none refl
  ]
]

-- what a job notes changes no number of a block
written-number : (block : ℕ) (ok : Bool) (lease : Lease) →
    (lease_written block ok lease).block ≡ lease.block
written-number block ok lease = pick (lease.block == block)
  where
    pick : (here : Bool) →
        (if here then record { block = lease.block; written = ok; flushed = false } else
        lease).block
        ≡ lease.block
    pick true = refl
    pick false = refl

flushed-number : (block : ℕ) (lease : Lease) →
    (lease_flushed block lease).block ≡ lease.block
flushed-number block lease = pick (lease.block == block)
  where
    pick : (here : Bool) →
        (if here then record {
          block = lease.block;
          written = lease.written;
          flushed =
              lease.written;
        }
        else lease).block
        ≡ lease.block
    pick true = refl
    pick false = refl

written-sorted : (block : ℕ) (ok : Bool) (one two : Option Lease) →
    ascends (note_write block ok one) (note_write block ok two) ≡ ascends one two
written-sorted block ok None None = refl
written-sorted block ok (Some one) None = refl
written-sorted block ok None (Some two) = refl
written-sorted block ok (Some one) (Some two) =
    rw (written-number block ok one, written-number block ok two) refl

flushed-sorted : (block : ℕ) (one two : Option Lease) →
    ascends (note_flush block one) (note_flush block two) ≡ ascends one two
flushed-sorted block None None = refl
flushed-sorted block (Some one) None = refl
flushed-sorted block None (Some two) = refl
flushed-sorted block (Some one) (Some two) =
    rw (flushed-number block one, flushed-number block two) refl

state-written : (s : State) (block : ℕ) (ok : Bool) → is_out_sorted s ≡ true →
    is_out_sorted (state_written block ok s) ≡ true
state-written Waiting block ok h = refl
state-written (Out job) block ok h = written-sorted block ok job.first job.second ∙ h
state-written Noop block ok h = refl
state-written Unserved block ok h = refl
state-written Closed block ok h = refl

state-flushed : (s : State) (block : ℕ) → is_out_sorted s ≡ true →
    is_out_sorted (state_flushed block s) ≡ true
state-flushed Waiting block h = refl
state-flushed (Out job) block h = flushed-sorted block job.first job.second ∙ h
state-flushed Noop block h = refl
state-flushed Unserved block h = refl
state-flushed Closed block h = refl

-- a job takes its second block behind its first
begins-sorted : (tags : List Flag) (t : Track) → is_out_sorted (Out (next_job tags t)) ≡ true
begins-sorted tags t = by t.applied (next_block tags t t.done)
  where
    second : (m : ℕ) (o : Option ℕ) → next_block tags t (Some m) ≡ o →
        ascends (lease_of (Some m)) (lease_of o) ≡ true
    second m None found = refl
    second m (Some n) found =
        (wants tags t (Some m) n
        (find-passes (is_wanted tags t (Some m)) 0 (length tags) n found)).above

    by : (applied : Bool) (o : Option ℕ) →
        is_out_sorted (Out (if applied then record { first = None; second = None }
        else job_from tags t o)) ≡ true
    by true o = refl
    by false None = refl
    by false (Some m) = second m (next_block tags t (Some m)) refl

-- the track of a place
sorted-at : (core : Core) (place : ℕ) → AreSorted core →
    is_out_sorted (track core.tracks place).state ≡ true
sorted-at core place all = elim (same_or_not place 0) [
  | inl none ↦ rw none refl
  | inr some ↦ rw (track_is core.tracks place (place - 1) some refl) (all (place - 1))
]

pub sorted-after : (core : Core) (event : Event) → AreSorted core → AreSorted (after core event)
sorted-after core (events.Tag block kept) all = all
sorted-after core (events.Admit entry grant true) all = sorted-push core entry _ refl all
sorted-after core (events.Admit entry grant false) all = all
sorted-after core (events.AdmitRead entry) all = sorted-push core entry _ refl all
sorted-after core (events.Serve place answer) all =
    sorted-put core place (record (track core.tracks place) { state = Closed }) refl all
sorted-after core (events.Mark place by true) all = sorted-put core place _ refl all
sorted-after core (events.Mark place by false) all =
    sorted-put core place _ (sorted-at core place all) all
sorted-after core (events.Dispatch place) all =
    sorted-put core place _ (begins-sorted core.tags (track core.tracks place)) all
sorted-after core (events.BlockWrite place block None) all =
    sorted-put core place _
    (state-written (track core.tracks place).state block true (sorted-at core place all)) all
sorted-after core (events.BlockWrite place block (Some left)) all =
    sorted-put core place _
    (state-written (track core.tracks place).state block false (sorted-at core place all)) all
sorted-after core (events.Flush place block true) all =
    sorted-put core place _
    (state-flushed (track core.tracks place).state block (sorted-at core place all)) all
sorted-after core (events.Flush place block false) all = all
sorted-after core (events.Finish place ends.Retired) all = sorted-put core place _ refl all
sorted-after core (events.Finish place ends.More) all = sorted-put core place _ refl all
sorted-after core (events.Finish place (ends.Back sizes.AsBefore gate applied)) all =
    sorted-put core place _ refl all
sorted-after core (events.Finish place (ends.Back sizes.Set gate applied)) all =
    sorted-put core place _ refl all
sorted-after core (events.Finish place (ends.Back sizes.Either gate applied)) all =
    sorted-put core place _ refl all
sorted-after core (events.Skip place) all = sorted-put core place _ refl all
sorted-after core (events.Trim block kept) all = all
sorted-after core events.Settle all = all
sorted-after core (events.Crash image) all = λ k. elim (sure_at core image k) [
  | inl now ↦ rw now.1 (all k)
  | inr none ↦ rw none.0 refl
]
sorted-after core events.Mount all = λ k. refl

pub sorted-fresh : (core : Core) → IsFresh core → AreSorted core
sorted-fresh core fresh k = let none : at core k ≡ blank = rw fresh.tracks refl in rw none refl

pub sorted-place : (core : Core) → AreSorted core → (place : ℕ) →
    is_out_sorted (track core.tracks place).state ≡ true
sorted-place core all place = sorted-at core place all
