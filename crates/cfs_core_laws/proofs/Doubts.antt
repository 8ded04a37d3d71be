-- The request in doubt.
use Rattle.std.proofs.Common.{◌≡◌, ℕ, ◌+◌, ◌-◌, ◌≤◌, Bool, true, false, ◌&&◌, Option, Some, None, [], ◌∷◌, length, get_or, arith, refl, sym, ◌∙◌, length-append, is_none}
use Rattle.cfs_core.specs.declared.doubt.Doubt.{Doubt}
use Rattle.cfs_core.specs.declared.flag.Flag.{Flag}
use Rattle.cfs_core.specs.declared.flag.Flag.TheVariants.{Off, On, Unsure}
use Rattle.cfs_core.specs.declared.event.Event.{Event}
use Rattle.cfs_core.specs.declared.event.Event.TheVariants as events
use Rattle.cfs_core.specs.declared.event.End.{End}
use Rattle.cfs_core.specs.declared.event.End.TheVariants as ends
use Rattle.cfs_core.specs.declared.event.SizeEnd.TheVariants as sizes
use Rattle.cfs_core.specs.declared.inode_core.Core.{Core}
use Rattle.cfs_core.specs.declared.state.State.{State}
use Rattle.cfs_core.specs.declared.state.State.TheVariants.{Waiting, Out, Noop, Unserved, Closed}
use Rattle.cfs_core.specs.Fresh.{IsFresh}
use Rattle.cfs_core.specs.Words.{blank, flag_of, is_live, is_off, track}
use Rattle.cfs_core.specs.May.{is_next, may, is_change, fits, is_mapped, span_now}
use Rattle.cfs_core.specs.Medium.{file}
use Rattle.cfs_core.specs.After.{after, sure_doubt}
use Rattle.cfs_core.proofs.Kept.{IsKept}
use Rattle.cfs_core.proofs.Legal.{both}
use Rattle.cfs_core.proofs.Order.{IsOrdered, is_query_state, is_query_track, none_no, place_is, track_is}
use Rattle.cfs_core_laws.specs.InStep.{AreInStep}
use Rattle.cfs_core_laws.proofs.Along.{case-of}

-- its place, and its gate
abbrev pub IsPlaced : Core → Doubt → Type 0
IsPlaced core doubt = (1 ≤ doubt.entry.place) × (doubt.entry.place ≤ length core.log + 1) ×
    (core.crashed ≡ false → doubt.gate ≡ Unsure)

abbrev pub IsDoubted : Core → Type 0
IsDoubted core = (doubt : Doubt) → core.doubt ≡ Some doubt → IsPlaced core doubt

-- the same doubt, and a log that is no shorter
beside : (core other : Core) → other.doubt ≡ core.doubt → length core.log ≤ length other.log →
    other.crashed ≡ core.crashed → IsDoubted core → IsDoubted other
beside core other same longer phase was doubt is =
    let old = was doubt (sym same ∙ is) in
    (old.0, omega arith, λ up. old.2 (sym phase ∙ up))

finish-doubt : (core : Core) (place : ℕ) (end : End) →
    (after core (events.Finish place end)).doubt ≡ core.doubt
finish-doubt core place ends.Retired = refl
finish-doubt core place ends.More = refl
finish-doubt core place (ends.Back sizes.AsBefore gate applied) = refl
finish-doubt core place (ends.Back sizes.Set gate applied) = refl
finish-doubt core place (ends.Back sizes.Either gate applied) = refl

finish-log : (core : Core) (place : ℕ) (end : End) →
    (after core (events.Finish place end)).log ≡ core.log
finish-log core place ends.Retired = refl
finish-log core place ends.More = refl
finish-log core place (ends.Back sizes.AsBefore gate applied) = refl
finish-log core place (ends.Back sizes.Set gate applied) = refl
finish-log core place (ends.Back sizes.Either gate applied) = refl

finish-crashed : (core : Core) (place : ℕ) (end : End) →
    (after core (events.Finish place end)).crashed ≡ core.crashed
finish-crashed core place ends.Retired = refl
finish-crashed core place ends.More = refl
finish-crashed core place (ends.Back sizes.AsBefore gate applied) = refl
finish-crashed core place (ends.Back sizes.Set gate applied) = refl
finish-crashed core place (ends.Back sizes.Either gate applied) = refl

doubted-crash : (o : Option Doubt) (gate : Bool) (count : ℕ) (doubt : Doubt) →
    ((d : Doubt) → o ≡ Some d → (1 ≤ d.entry.place) × (d.entry.place ≤ count)) →
    sure_doubt o gate ≡ Some doubt → (1 ≤ doubt.entry.place) × (doubt.entry.place ≤ count)
doubted-crash None gate count doubt was is = cc
doubted-crash (Some d) gate count doubt was is =
    let same : doubt.entry ≡ d.entry = entry-is d (flag_of gate) doubt is in
    let old = was d refl in
    rw same old
  where
    entry-is : (d : Doubt) (g : Flag) (doubt : Doubt) → Some (record d { gate = g }) ≡ Some doubt →
        doubt.entry ≡ d.entry
    entry-is d g doubt is = cc

pub doubted-after : (core : Core) (event : Event) → IsKept core → IsDoubted core →
    may core event ≡ true → IsDoubted (after core event)
doubted-after core (events.Tag block kept) k was h =
    beside core (after core (events.Tag block kept)) refl (omega arith) refl was
doubted-after core (events.Admit entry grant true) k was h =
    let none = (both (is_none core.doubt) _ (case-of core (events.Admit entry grant true) h)).0 in
    λ doubt is. absurd (none_no core.doubt doubt none is)
doubted-after core (events.Admit entry grant false) k was h =
    let parts =
    both (is_none core.doubt)
    (is_next core entry &&
    (is_change entry.request &&
    (fits (file core) entry.request && is_mapped core.tags (span_now core entry.request))))
    (case-of core (events.Admit entry grant false) h) in
    let next =
    place_is core entry
    (both (is_next core entry)
    (is_change entry.request &&
    (fits (file core) entry.request && is_mapped core.tags (span_now core entry.request)))
    parts.1).0 in
    λ doubt is. let same : doubt.entry.place ≡ entry.place = its doubt is in
    (omega arith, omega arith, λ up. its-gate doubt is)
  where
    its : (d : Doubt) →
        Some (record {
          entry = entry;
          grant = grant;
          span = span_now core entry.request;
          gate =
              Unsure;
        }) ≡ Some d → d.entry.place ≡ entry.place
    its d is = cc

    its-gate : (d : Doubt) →
        Some (record {
          entry = entry;
          grant = grant;
          span = span_now core entry.request;
          gate =
              Unsure;
        }) ≡ Some d → d.gate ≡ Unsure
    its-gate d is = cc
doubted-after core (events.AdmitRead entry) k was h =
    beside core (after core (events.AdmitRead entry)) refl
    (omega (arith, length-append core.log (entry ∷ []))) refl was
doubted-after core (events.Serve place answer) k was h =
    beside core (after core (events.Serve place answer)) refl (omega arith) refl was
doubted-after core (events.Mark place by kept) k was h =
    beside core (after core (events.Mark place by kept)) refl (omega arith) refl was
doubted-after core (events.Dispatch place) k was h =
    beside core (after core (events.Dispatch place)) refl (omega arith) refl was
doubted-after core (events.BlockWrite place block None) k was h =
    beside core (after core (events.BlockWrite place block None)) refl (omega arith) refl was
doubted-after core (events.BlockWrite place block (Some left)) k was h =
    beside core (after core (events.BlockWrite place block (Some left))) refl (omega arith) refl was
doubted-after core (events.Flush place block true) k was h =
    beside core (after core (events.Flush place block true)) refl (omega arith) refl was
doubted-after core (events.Flush place block false) k was h =
    beside core (after core (events.Flush place block false)) refl (omega arith) refl was
doubted-after core (events.Finish place end) k was h =
    let log : (after core (events.Finish place end)).log ≡ core.log = finish-log core place end in
    beside core (after core (events.Finish place end)) (finish-doubt core place end)
    (rw log (omega arith)) (finish-crashed core place end) was
doubted-after core (events.Skip place) k was h = beside core (after core (events.Skip place)) refl
    (omega arith) refl was
doubted-after core (events.Trim block kept) k was h =
    beside core (after core (events.Trim block kept)) refl (omega arith) refl was
doubted-after core events.Settle k was h = λ doubt is. cc
doubted-after core (events.Crash image) k was h = λ doubt is.
    let places = doubted-crash core.doubt image.doubt (length core.log + 1) doubt
    (λ d has. ((was d has).0, (was d has).1)) is in
    (places.0, places.1, λ up. cc)
doubted-after core events.Mount k was h = λ doubt is. cc

pub doubted-fresh : (core : Core) → IsFresh core → IsDoubted core
doubted-fresh core fresh doubt is = let none : None ≡ Some doubt = sym fresh.doubt ∙ is in cc

query-dead : (s : State) → is_query_state s ≡ true → is_live s ≡ false
query-dead Waiting h = cc
query-dead (Out job) h = cc
query-dead Noop h = cc
query-dead Unserved h = refl
query-dead Closed h = refl

off-is : (f : Flag) → is_off f ≡ true → f ≡ Off
off-is Off h = refl
off-is On h = cc
off-is Unsure h = cc

-- what stands at a place behind the doubt
since : (core : Core) → IsOrdered core → (doubt : Doubt) → core.doubt ≡ Some doubt →
    1 ≤ doubt.entry.place → (place : ℕ) → doubt.entry.place ≤ place →
    is_query_track (track core.tracks place) ≡ true
since core ordered doubt is some place le =
    let at : track core.tracks place ≡ get_or core.tracks (place - 1) blank =
    track_is core.tracks place (place - 1) (λ none. absurd (omega arith)) refl in
    rw at (ordered.behind doubt (place - 1) is (omega arith))

pub in-step : (core : Core) → IsKept core → IsDoubted core → AreInStep core
in-step core kept doubted = record {
  tags = kept.blocks;
  tracks = kept.ordered.same;
  doubt = λ doubt is. record {
    from = (doubted doubt is).0;
    to = (doubted doubt is).1;
    gate = (doubted doubt is).2;
    since = λ place le. off-is (track core.tracks place).gate
        (both (is_off (track core.tracks place).gate)
        (is_query_state (track core.tracks place).state)
        (since core kept.ordered doubt is (doubted doubt is).0 place le)).0;
    quiet = λ place le. query-dead (track core.tracks place).state
        (both (is_off (track core.tracks place).gate)
        (is_query_state (track core.tracks place).state)
        (since core kept.ordered doubt is (doubted doubt is).0 place le)).1;
  };
}
