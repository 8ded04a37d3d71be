-- What was begun overlaps no earlier live entry, though it waits again.
use Rattle.std.proofs.Common.{◌≡◌, ◌⊎◌, inl, inr, ℕ, ◌+◌, ◌<◌, ◌≤◌, Bool, true, false, Option, None, length, arith, refl, ap, is_some}
use Rattle.std.proofs.lemmas.Bool.{cases_lt}
use Rattle.std.proofs.lemmas.List.{get_or_past}
use Rattle.cfs_file.specs.Span.{meets}
use Rattle.cfs_core.specs.declared.track.Track.{Track}
use Rattle.cfs_core.specs.declared.event.Event.{Event}
use Rattle.cfs_core.specs.declared.inode_core.Core.{Core}
use Rattle.cfs_core.specs.Fresh.{IsFresh}
use Rattle.cfs_core.specs.Words.{blank, is_live, is_out, is_waiting, track}
use Rattle.cfs_core.specs.May.{case}
use Rattle.cfs_core.specs.After.{after}
use Rattle.cfs_core.proofs.Apart.{out_busy, out_live, waiting_live}
use Rattle.cfs_core.proofs.Kept.{IsKept, at}
use Rattle.cfs_core.proofs.Order.{first_of_and}
use Rattle.cfs_core.proofs.StoredFrames.{no_clash}
use Rattle.cfs_core_laws.proofs.Lent.{track-next}
use Rattle.cfs_core_laws.proofs.Turns.{Turn, stays, begins, works, returns, dies, comes, goes, turn}

abbrev pub is_begun : Track → Bool
is_begun t = is_some t.done

abbrev pub AreBegunApart : Core → Type 0
AreBegunApart core = (i j : ℕ) → i < j → is_live (at core i).state ≡ true →
    is_begun (at core j) ≡ true → meets (at core i).span (at core j).span ≡ false

-- what is live was live, or is new
live-of : (core : Core) (event : Event) (i : ℕ) (now : Track) → Turn core event i now →
    is_live now.state ≡ true →
    ((is_live (at core i).state ≡ true) × (now.span ≡ (at core i).span)) ⊎ (length core.tracks ≤ i)
live-of core event i now (stays state span applied done) live = inl (rw (← state) live, span)
live-of core event i now (begins is may_be same) live =
    let waits : is_waiting (at core i).state ≡ true =
    rw (track-next core i) at
    (first_of_and (is_waiting (track core.tracks (i + 1)).state) _ may_be) in
    inl (waiting_live (at core i).state waits, ap (λ (t : Track). t.span) same)
live-of core event i now (works state out still blocks same) live =
    inl (out_live (at core i).state out, ap (λ (t : Track). t.span) same)
live-of core event i now (returns out home span) live = inl (out_live (at core i).state out, span)
live-of core event i now (dies dead span done) live =
    absurd (no_clash (is_live now.state) live dead)
live-of core event i now (comes past home done) live = inr past
live-of core event i now (goes same) live = let own : is_live blank.state ≡ true =
    rw same at live in cc

-- what was begun had been, or was out
begun-of : (core : Core) (event : Event) (j : ℕ) (now : Track) → Turn core event j now →
    is_begun now ≡ true →
    ((is_begun (at core j) ≡ true) ⊎ (is_out (at core j).state ≡ true)) ×
    (now.span ≡ (at core j).span)
begun-of core event j now (stays state span applied done) begun = (inl (rw (← done) begun), span)
begun-of core event j now (begins is may_be same) begun =
    (inl (rw same at begun), ap (λ (t : Track). t.span) same)
begun-of core event j now (works state out still blocks same) begun =
    (inr out, ap (λ (t : Track). t.span) same)
begun-of core event j now (returns out home span) begun = (inr out, span)
begun-of core event j now (dies dead span done) begun = (inl (rw (← done) begun), span)
begun-of core event j now (comes past home done) begun = absurd (none now.done done begun)
  where
    none : (o : Option ℕ) → o ≡ None → is_some o ≡ true → ⊥
    none o is some = let own : is_some o ≡ false = rw is refl in no_clash (is_some o) some own
begun-of core event j now (goes same) begun = let own : is_begun blank ≡ true = rw same at begun in
    cc

-- it is logged
begun-within : (core : Core) (j : ℕ) →
    (is_begun (at core j) ≡ true) ⊎ (is_out (at core j).state ≡ true) → j < length core.tracks
begun-within core j begun = elim (cases_lt j (length core.tracks)) [
  | inl within ↦ within
  | inr past ↦
      let none : at core j ≡ blank = get_or_past core.tracks j blank past in
      elim begun [
        | inl done ↦ let own : is_begun blank ≡ true = rw none at done in cc
        | inr out ↦ let own : is_out blank.state ≡ true = rw none at out in cc
      ]
]

pub begun-after : (core : Core) (event : Event) → IsKept core → AreBegunApart core →
    case core event ≡ true → AreBegunApart (after core event)
begun-after core event kept apart h i j less live begun =
    let first = live-of core event i (at (after core event) i) (turn core event h i) live in
    let second = begun-of core event j (at (after core event) j) (turn core event h j) begun in
    let within = begun-within core j second.0 in
    elim first [
      | inl old ↦ rw (old.1, second.1) (was old.0 second.0)
      | inr past ↦ absurd (omega arith)
    ]
  where
    was : is_live (at core i).state ≡ true →
        (is_begun (at core j) ≡ true) ⊎ (is_out (at core j).state ≡ true) →
        meets (at core i).span (at core j).span ≡ false
    was live_i begun_j = elim begun_j [
      | inl done ↦ apart i j less live_i done
      | inr out ↦ kept.apart i j less live_i (out_busy (at core j) out)
    ]

pub begun-fresh : (core : Core) → IsFresh core → AreBegunApart core
begun-fresh core fresh i j less live begun =
    let none : at core i ≡ blank = rw fresh.tracks refl in
    let own : is_live blank.state ≡ true = rw none at live in
    cc
