-- A read or sync comes, which has a place and no slot.
use Rattle.std.proofs.Common.{◌≡◌, ◌≢◌, inl, inr, ℕ, ◌+◌, ◌-◌, ◌≤◌, ◌==◌, Bool, true, false, Option, Some, None, List, [], ◌∷◌, ◌++◌, length, get_or, arith, refl, sym, ap, ◌∙◌}
use Rattle.std.proofs.lemmas.List.{length-append}
use Rattle.cfs_file.specs.declared.entry.Entry.{Entry}
use Rattle.cfs_core.specs.declared.doubt.Doubt.{Doubt}
use Rattle.cfs_core.specs.declared.event.Event.TheVariants as events
use Rattle.cfs_core.specs.declared.flag.Flag.{Flag}
use Rattle.cfs_core.specs.declared.flag.Flag.TheVariants.{Off}
use Rattle.cfs_core.specs.declared.inode_core.Core.{Core}
use Rattle.cfs_core.specs.declared.track.Track.{Track}
use Rattle.cfs_core.specs.After.{after, query_track}
use Rattle.cfs_core.specs.May.{span_now}
use Rattle.cfs_core.specs.Words.{blank, can_be, track}
use Rattle.cfs_core.proofs.Order.{same_or_not, track_is}
use Rattle.cfs_pmem.specs.Images.{IsImage}
use Rattle.cfs_pmem.specs.Objects.{IsEachImage}
use Rattle.cfs_medium.specs.QuietEvents.{ReadsMayCome}
use Rattle.cfs_medium.specs.Shows.{Holding, Shows, SlotFits, doubted, holding, is_gated, logged_at}
use Rattle.cfs_medium.specs.World.{World, head_words}
use Rattle.cfs_medium.proofs.SlotEvents.{entry-other, holding-same, track-other}

-- closed slots fit where the gate may be closed
shut-fits : (ino place : ℕ) (held : Holding) (slots : List (List ℕ)) → is_gated (head_words slots) ≡ false →
    held.gate ≡ Off → SlotFits ino place held slots
shut-fits ino place held slots shut off = record {
  gate = rw (off, shut) refl;
  number = λ gated. cc;
  mark = λ gated. cc;
  file = λ gated. cc;
  request = λ gated. cc;
}

off_shut : (open_ : Bool) → can_be Off open_ ≡ true → open_ ≡ false
off_shut true h = cc
off_shut false h = refl

-- behind the log nothing is known but of the doubt
blank_past : (tracks : List Track) (t : Track) → (track (tracks ++ t ∷ []) (length tracks + 1) ≡ t) × (track tracks (length tracks + 1) ≡ blank)
blank_past tracks t = (
  track_is (tracks ++ t ∷ []) (length tracks + 1) (length tracks) (λ zero_. omega (arith, zero_)) (omega arith) ∙ last tracks,
  track_is tracks (length tracks + 1) (length tracks) (λ zero_. omega (arith, zero_)) (omega arith) ∙ past tracks,
)
  where
    last : (ts : List Track) → get_or (ts ++ t ∷ []) (length ts) blank ≡ t
    last [] = refl
    last (u ∷ us) = last us

    past : (ts : List Track) → get_or ts (length ts) blank ≡ blank
    past [] = refl
    past (u ∷ us) = past us

pub reads-may-come : ReadsMayCome
reads-may-come ino core entry world shows allowed = record {
  shape = record {
    tags = shows.shape.tags;
    tracks = length-append core.tracks (read ∷ []) ∙ ap (λ (n : ℕ). n + 1) shows.shape.tracks ∙ sym (length-append core.log (entry ∷ []));
    doubt = λ d is.
        let fits = shows.shape.doubt d is in
        record {
          from = fits.from;
          to = omega (arith, fits.to, length-append core.log (entry ∷ []));
          apart = gate_off d.entry.place fits.apart;
        };
    loose = shows.shape.loose;
  };
  sizes = shows.sizes;
  size_now = shows.size_now;
  slots = λ at. slots_at at;
  blocks = shows.blocks;
}
  where
    read : Track
    read = query_track (span_now core entry.request)

    now : Core
    now = after core (events.AdmitRead entry)

    next : ℕ
    next = length core.tracks + 1

    gate_off : (at : ℕ) → (track core.tracks at).gate ≡ Off → (track now.tracks at).gate ≡ Off
    gate_off at off = elim (same_or_not at next) [
      | inl same ↦ ap (λ (k : ℕ). (track now.tracks k).gate) same ∙ ap (λ (t : Track). t.gate) (blank_past core.tracks read).0
      | inr other ↦ ap (λ (t : Track). t.gate) (track-other core.tracks read at other) ∙ off
    ]

    none_fits : (at : ℕ) (slots : List (List ℕ)) → at ≡ next → SlotFits ino at (logged_at core.log (track core.tracks at) at) slots →
        SlotFits ino at (logged_at now.log (track now.tracks at) at) slots
    none_fits at slots same fits =
        let was : (track core.tracks at).gate ≡ Off = ap (λ (k : ℕ). (track core.tracks k).gate) same ∙ ap (λ (t : Track). t.gate) (blank_past core.tracks read).1 in
        shut-fits ino at (logged_at now.log (track now.tracks at) at) slots (off_shut (is_gated (head_words slots)) (ap (λ (f : Flag). can_be f (is_gated (head_words slots))) (sym was) ∙ fits.gate)) (gate_off at was)

    new_fits : (doubt : Option Doubt) (at : ℕ) (slots : List (List ℕ)) → at ≡ next → SlotFits ino at (holding core doubt at) slots →
        SlotFits ino at (holding now doubt at) slots
    new_fits None at slots same fits = none_fits at slots same fits
    new_fits (Some d) at slots same fits = test (d.entry.place == at) refl
      where
        test : (b : Bool) → (d.entry.place == at) ≡ b → SlotFits ino at (holding now (Some d) at) slots
        test true is = rw is (rw is at fits)
        test false is = rw is (none_fits at slots same (rw is at fits))

    slots_at : (at : ℕ) (slots : List (List ℕ)) → IsEachImage IsImage (world.slots at) slots →
        SlotFits ino at (holding now core.doubt at) slots
    slots_at at slots each = elim (same_or_not at next) [
      | inl same ↦ new_fits core.doubt at slots same (shows.slots at slots each)
      | inr other ↦
          let known : logged_at now.log (track now.tracks at) at ≡ logged_at core.log (track core.tracks at) at =
          rw (entry-other core.log entry at (λ is. other (omega (arith, is, shows.shape.tracks))), track-other core.tracks read at other) refl in
          rw (holding-same core now core.doubt at known) (shows.slots at slots each)
    ]
