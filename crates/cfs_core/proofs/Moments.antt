-- The moments within an event may come where the event may.
use Rattle.std.proofs.Common.{◌≡◌, ℕ, Bool, true, false, ◌&&◌, ◌||◌, not, refl}
use Rattle.std.specs.List.{list_all}
use Rattle.cfs_core.specs.declared.flag.Flag.{Flag}
use Rattle.cfs_core.specs.declared.flag.Flag.TheVariants.{Off, On, Unsure}
use Rattle.cfs_core.specs.declared.track.Track.{Track}
use Rattle.cfs_core.specs.declared.event.Event.{Event}
use Rattle.cfs_core.specs.declared.event.Event.TheVariants as events
use Rattle.cfs_core.specs.declared.event.End.{End}
use Rattle.cfs_core.specs.declared.event.End.TheVariants as ends
use Rattle.cfs_core.specs.declared.event.SizeEnd.{SizeEnd}
use Rattle.cfs_core.specs.declared.event.SizeEnd.TheVariants as sizes
use Rattle.cfs_core.specs.declared.inode_core.Core.{Core}
use Rattle.cfs_core.specs.Words.{is_on, is_out, is_through, track}
use Rattle.cfs_core.specs.May.{ends_well, keeps_gate, may, may_finish, stands_at}
use Rattle.cfs_core.specs.Within.{closing_gate, failing_gate, setting_size, within}
use Rattle.cfs_core.proofs.Alive.{AreSound, is_sound, out_lives, sound_at}
use Rattle.cfs_core.proofs.Legal.{and_all, both, or_right}

same_gate : (gate : Flag) → keeps_gate gate gate ≡ true
same_gate Off = refl
same_gate On = refl
same_gate Unsure = refl

-- what is out is applied, or its gate is open
out_open : (t : Track) → is_out t.state ≡ true → is_sound t ≡ true →
    (t.applied || is_on t.gate) ≡ true
out_open t out sound = rw (out_lives t.state out) at sound

setting_ends : (core : Core) (place : ℕ) (gate : Flag) (applied : Bool) →
    (track core.tracks place).gate ≡ gate → (track core.tracks place).applied ≡ applied →
    (applied || is_on gate) ≡ true → (applied ≡ true → stands_at core place ≡ true) →
    ends_well core place (ends.Back sizes.Either gate applied) ≡ true
setting_ends core place gate true own is open_gate stand =
    rw (own, is) (and_all (keeps_gate gate gate) _ (same_gate gate)
    (and_all (stands_at core place) true (stand refl) refl))
setting_ends core place gate false own is open_gate stand =
    rw (own, is) (and_all (keeps_gate gate gate) (is_on gate) (same_gate gate) open_gate)

-- of an entry that is out, the size word may be being set
setting_may : (core : Core) (place : ℕ) → AreSound core → not core.crashed ≡ true →
    is_out (track core.tracks place).state ≡ true →
    ((track core.tracks place).applied ≡ true → stands_at core place ≡ true) →
    may core (setting_size place (track core.tracks place)) ≡ true
setting_may core place sound up out stand =
    and_all _ _ up (and_all _ _ out
    (setting_ends core place (track core.tracks place).gate
    (track core.tracks place).applied refl refl
    (out_open (track core.tracks place) out (sound_at core place sound)) stand))

-- of an entry that is out, and whose bytes stand, the gate may be being closed
closing_may : (core : Core) (place : ℕ) → not core.crashed ≡ true →
    is_out (track core.tracks place).state ≡ true → stands_at core place ≡ true →
    may core (closing_gate place) ≡ true
closing_may core place up out stand =
    and_all _ _ up (and_all _ _ out
    (and_all (stands_at core place) _ stand (or_right (track core.tracks place).applied true refl)))

-- an applied entry that is put back has its bytes
back_stands : (core : Core) (place : ℕ) (gate : Flag) (applied : Bool) →
    ends_well core place (ends.Back sizes.Set gate applied) ≡ true →
    (track core.tracks place).applied ≡ true → stands_at core place ≡ true
back_stands core place gate true h on =
    let kept = both (keeps_gate (track core.tracks place).gate gate) _ h in
    (both (stands_at core place) _ kept.1).0
back_stands core place gate false h on =
    let kept = both (keeps_gate (track core.tracks place).gate gate) _ h in
    let off : not (track core.tracks place).applied ≡ true =
    (both (not (track core.tracks place).applied) (is_on gate) kept.1).0 in
    cc

-- a Back with a closed gate may be one with a gate that may be open or closed
failing_may : (core : Core) (place : ℕ) (size : SizeEnd) (gate : Flag) (applied : Bool) →
    not core.crashed ≡ true → is_out (track core.tracks place).state ≡ true →
    ends_well core place (ends.Back size gate applied) ≡ true →
    list_all (may core) (failing_gate place size gate applied) ≡ true
failing_may core place size Off true up out h =
    and_all _ true (and_all _ _ up (and_all _ _ out h)) refl
failing_may core place size Off false up out h =
    absurd (never (not (track core.tracks place).applied) h)
  where
    never : (b : Bool) → (b && false) ≡ true → ⊥
    never true is = cc
    never false is = cc
failing_may core place size On applied up out h = refl
failing_may core place size Unsure applied up out h = refl

finish_within : (core : Core) (place : ℕ) (end : End) → AreSound core →
    may core (events.Finish place end) ≡ true →
    list_all (may core) (within core (events.Finish place end)) ≡ true
finish_within core place ends.Retired sound h =
    let phase = both (not core.crashed) (may_finish core place ends.Retired) h in
    let out =
    both (is_out (track core.tracks place).state) (ends_well core place ends.Retired) phase.1 in
    let end = both (is_through (track core.tracks place).state) (stands_at core place) out.1 in
    and_all _ _ (setting_may core place sound phase.0 out.0 (λ on. end.1))
    (and_all _ _ (closing_may core place phase.0 out.0 end.1) refl)
finish_within core place ends.More sound h = refl
finish_within core place (ends.Back sizes.AsBefore gate applied) sound h =
    let phase =
    both (not core.crashed) (may_finish core place (ends.Back sizes.AsBefore gate applied)) h in
    let out =
    both (is_out (track core.tracks place).state)
    (ends_well core place (ends.Back sizes.AsBefore gate applied)) phase.1 in
    failing_may core place sizes.AsBefore gate applied phase.0 out.0 out.1
finish_within core place (ends.Back sizes.Set gate applied) sound h =
    let phase =
    both (not core.crashed) (may_finish core place (ends.Back sizes.Set gate applied)) h in
    let out =
    both (is_out (track core.tracks place).state)
    (ends_well core place (ends.Back sizes.Set gate applied)) phase.1 in
    and_all _ _ (setting_may core place sound phase.0 out.0
    (back_stands core place gate applied out.1))
    (failing_may core place sizes.Set gate applied phase.0 out.0 out.1)
finish_within core place (ends.Back sizes.Either gate applied) sound h =
    let phase =
    both (not core.crashed) (may_finish core place (ends.Back sizes.Either gate applied)) h in
    let out =
    both (is_out (track core.tracks place).state)
    (ends_well core place (ends.Back sizes.Either gate applied)) phase.1 in
    failing_may core place sizes.Either gate applied phase.0 out.0 out.1

pub within-may : (core : Core) (event : Event) → AreSound core → may core event ≡ true →
    list_all (may core) (within core event) ≡ true
within-may core (events.Tag block kept) sound h = and_all _ _ h refl
within-may core (events.Admit entry grant kept) sound h = and_all _ _ h refl
within-may core (events.AdmitRead entry) sound h = refl
within-may core (events.Serve place answer) sound h = refl
within-may core (events.Mark place by kept) sound h = and_all _ _ h refl
within-may core (events.Dispatch place) sound h = refl
within-may core (events.BlockWrite place block left) sound h = refl
within-may core (events.Flush place block ok) sound h = refl
within-may core (events.Finish place end) sound h = finish_within core place end sound h
within-may core (events.Skip place) sound h = refl
within-may core (events.Trim block kept) sound h = and_all _ _ h refl
within-may core events.Settle sound h = refl
within-may core (events.Crash image) sound h = refl
within-may core events.Mount sound h = refl
