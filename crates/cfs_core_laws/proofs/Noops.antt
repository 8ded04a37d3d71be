-- Until a crash nobody knows the gate of a no-op.
use Rattle.std.proofs.Common.{◌≡◌, inl, inr, ℕ, ◌-◌, Bool, true, false, Some, None, [], ◌∷◌, ◌++◌, length, get_or, arith, refl, length-append, nat_lt}
use Rattle.std.proofs.lemmas.Bool.{cases_lt}
use Rattle.std.proofs.lemmas.List.{get_or_append_left, get_or-append_right, get_or_past}
use Rattle.cfs_file.specs.declared.entry.Entry.{Entry}
use Rattle.cfs_file.specs.declared.sizes.TheConstants.{FILE_BLOCKS}
use Rattle.cfs_core.specs.declared.flag.Flag.TheVariants.{Unsure}
use Rattle.cfs_core.specs.declared.state.State.{State}
use Rattle.cfs_core.specs.declared.state.State.TheVariants.{Waiting, Out, Noop, Unserved, Closed}
use Rattle.cfs_core.specs.declared.track.Track.{Track}
use Rattle.cfs_core.specs.declared.event.Event.{Event}
use Rattle.cfs_core.specs.declared.event.Event.TheVariants as events
use Rattle.cfs_core.specs.declared.event.End.TheVariants as ends
use Rattle.cfs_core.specs.declared.event.SizeEnd.TheVariants as sizes
use Rattle.cfs_core.specs.declared.inode_core.Core.{Core}
use Rattle.cfs_core.specs.Fresh.{IsFresh}
use Rattle.cfs_core.specs.Words.{blank, has_block, is_noop, is_waiting, track}
use Rattle.cfs_core.specs.Jobs.{state_flushed, state_written}
use Rattle.cfs_core.specs.May.{case}
use Rattle.cfs_core.specs.After.{after, logged, with_track}
use Rattle.cfs_core.proofs.Apart.{seen}
use Rattle.cfs_core.proofs.Kept.{at}
use Rattle.cfs_core.proofs.Legal.{both}
use Rattle.cfs_core.proofs.Order.{first_of_and, same_or_not, writes}

abbrev pub IsIdle : Track → Type 0
IsIdle t = is_noop t.state ≡ true → t.gate ≡ Unsure

abbrev pub AreIdle : Core → Type 0
AreIdle core = core.crashed ≡ false → (k : ℕ) → IsIdle (at core k)

idle-put : (core : Core) (place : ℕ) (t : Track) → IsIdle t → ((k : ℕ) → IsIdle (at core k)) →
    (k : ℕ) → IsIdle (at (with_track core place t) k)
idle-put core place t own all k = elim (seen core.tracks place t k) [
  | inl here ↦ rw here.1 own
  | inr same ↦ rw same (all k)
]

idle-push : (core : Core) (entry : Entry) (t : Track) → IsIdle t → ((k : ℕ) → IsIdle (at core k)) →
    (k : ℕ) → IsIdle (at (logged core entry t) k)
idle-push core entry t own all k = elim (cases_lt k (length core.tracks)) [
  | inl within ↦
      let old : get_or (core.tracks ++ t ∷ []) k blank ≡ get_or core.tracks k blank =
      get_or_append_left core.tracks (t ∷ []) blank k within in
      rw old (all k)
  | inr past ↦ elim (same_or_not k (length core.tracks)) [
    | inl last ↦
        let now : get_or (core.tracks ++ t ∷ []) k blank ≡ get_or (t ∷ []) (k - length core.tracks)
        blank =
        get_or-append_right core.tracks (t ∷ []) (length core.tracks) k blank refl past in
        let first : k - length core.tracks ≡ 0 = omega arith in
        rw (now, first) own
    | inr beyond ↦
        let none : get_or (core.tracks ++ t ∷ []) k blank ≡ blank =
        get_or_past (core.tracks ++ t ∷ []) k blank
        (omega (arith, length-append core.tracks (t ∷ []))) in
        rw none (λ h. cc)
  ]
]

waits-no : (s : State) → is_waiting s ≡ true → is_noop s ≡ true → ⊥
waits-no Waiting h k = cc
waits-no (Out job) h k = cc
waits-no Noop h k = cc
waits-no Unserved h k = cc
waits-no Closed h k = cc

written-no : (s : State) (block : ℕ) (ok : Bool) → has_block s block ≡ true →
    is_noop (state_written block ok s) ≡ true → ⊥
written-no Waiting block ok h k = cc
written-no (Out job) block ok h k = cc
written-no Noop block ok h k = cc
written-no Unserved block ok h k = cc
written-no Closed block ok h k = cc

flushed-no : (s : State) (block : ℕ) → has_block s block ≡ true →
    is_noop (state_flushed block s) ≡ true → ⊥
flushed-no Waiting block h k = cc
flushed-no (Out job) block h k = cc
flushed-no Noop block h k = cc
flushed-no Unserved block h k = cc
flushed-no Closed block h k = cc

pub idle-after : (core : Core) (event : Event) → AreIdle core → case core event ≡ true →
    AreIdle (after core event)
idle-after core (events.Tag block kept) idle h = idle
idle-after core (events.Admit entry grant true) idle h = λ up. idle-push core entry _ (λ k. cc)
    (idle up)
idle-after core (events.Admit entry grant false) idle h = idle
idle-after core (events.AdmitRead entry) idle h = λ up. idle-push core entry _ (λ k. cc) (idle up)
idle-after core (events.Serve place answer) idle h =
    λ up. idle-put core place (record (track core.tracks place) { state = Closed }) (λ k. cc)
    (idle up)
idle-after core (events.Mark place by true) idle h = λ up. idle-put core place _ (λ k. refl)
    (idle up)
idle-after core (events.Mark place by false) idle h = λ up.
    let waits = first_of_and (is_waiting (track core.tracks place).state) _ h in
    idle-put core place _ (λ k. absurd (waits-no (track core.tracks place).state waits k)) (idle up)
idle-after core (events.Dispatch place) idle h = λ up. idle-put core place _ (λ k. cc) (idle up)
idle-after core (events.BlockWrite place block None) idle h = λ up.
    idle-put core place _
    (λ k. absurd
    (written-no (track core.tracks place).state block true (writes core place block None h) k))
    (idle up)
idle-after core (events.BlockWrite place block (Some left)) idle h = λ up.
    idle-put core place _
    (λ k. absurd
    (written-no (track core.tracks place).state block false
    (writes core place block (Some left) h) k)) (idle up)
idle-after core (events.Flush place block true) idle h = λ up.
    idle-put core place _
    (λ k. absurd
    (flushed-no (track core.tracks place).state block
    (both (nat_lt block FILE_BLOCKS) (has_block (track core.tracks place).state block) h).1 k))
    (idle up)
idle-after core (events.Flush place block false) idle h = idle
idle-after core (events.Finish place ends.Retired) idle h = λ up. idle-put core place _ (λ k. cc)
    (idle up)
idle-after core (events.Finish place ends.More) idle h = λ up. idle-put core place _ (λ k. cc)
    (idle up)
idle-after core (events.Finish place (ends.Back sizes.AsBefore gate applied)) idle h =
    λ up. idle-put core place _ (λ k. cc) (idle up)
idle-after core (events.Finish place (ends.Back sizes.Set gate applied)) idle h =
    λ up. idle-put core place _ (λ k. cc) (idle up)
idle-after core (events.Finish place (ends.Back sizes.Either gate applied)) idle h =
    λ up. idle-put core place _ (λ k. cc) (idle up)
idle-after core (events.Skip place) idle h = λ up. idle-put core place _ (λ k. cc) (idle up)
idle-after core (events.Trim block kept) idle h = idle
idle-after core events.Settle idle h = idle
idle-after core (events.Crash image) idle h = λ up. cc
idle-after core events.Mount idle h = λ up k noop. cc

pub idle-fresh : (core : Core) → IsFresh core → AreIdle core
idle-fresh core fresh up k = let none : at core k ≡ blank = rw fresh.tracks refl in
    rw none (λ h. cc)
