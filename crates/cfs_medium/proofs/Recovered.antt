-- A store that depicts an image recovers the file that the image recovers.
use Rattle.std.proofs.Common.{◌≡◌, ℕ, ◌+◌, true, Some, List, [], ◌∷◌, ◌++◌, map, refl, sym, ap, ◌∙◌}
use Rattle.cfs_file.specs.declared.entry.Entry.{Entry}
use Rattle.cfs_file.specs.declared.request.Request.{Request}
use Rattle.cfs_file.specs.File.{effect}
use Rattle.cfs_file.specs.Log.{file_of}
use Rattle.cfs_core.specs.declared.event.Event.{Event}
use Rattle.cfs_core.specs.declared.image.Image.{Image}
use Rattle.cfs_core.specs.declared.inode_core.Core.{Core}
use Rattle.cfs_core.specs.Fresh.{IsFresh}
use Rattle.cfs_core.specs.Good.{Rises}
use Rattle.cfs_core.specs.Medium.{in_doubt, is_image, live_entries, recovered, stored}
use Rattle.cfs_core.specs.Run.{IsRun, after_all}
use Rattle.cfs_core.proofs.KeptRuns.{runs-are-good}
use Rattle.cfs_medium.specs.Store.{Store, by_gate, entry_at, live_in, recovered_file, taken_through}
use Rattle.cfs_medium.specs.Depicts.{Depicts, entries_of}
use Rattle.cfs_medium.proofs.Blocks.{stored-same}
use Rattle.cfs_medium.proofs.Has.{Has, contains-had, has-contained}
use Rattle.cfs_medium.proofs.Slots.{live-apart, live-stands, stands-live}
use Rattle.cfs_medium.proofs.Sorted.{by_gate-rising, gates, one_gate}

-- entries as pairs of their place and their request

pub taken_through-entries : (file : List ℕ) (entries : List Entry) → taken_through file (map (λ e. (e.place, e.request)) entries) ≡ file_of file entries
taken_through-entries file [] = refl
taken_through-entries file (entry ∷ entries) = taken_through-entries (effect file entry.request) entries

pub rises-entries : (low : ℕ) (entries : List Entry) → Rises low (map (λ e. e.place) entries) → Rises low (gates (map (λ e. (e.place, e.request)) entries))
rises-entries low [] rises = tt
rises-entries low (entry ∷ entries) rises = (rises.0, rises-entries (entry.place + 1) entries rises.1)

-- what is live in the slots is, in order of the gates, what is live in the image
live-same : (ino : ℕ) (store : Store) (core : Core) (image : Image) → Depicts ino store core image →
    Rises 0 (map (λ e. e.place) (live_entries core image)) → by_gate (live_in ino store.slots) ≡ entries_of core image
live-same ino store core image is rises =
    by_gate-rising (live_in ino store.slots) (entries_of core image) (live-apart ino store.slots one_slot) pairs_rise into back
  where
    pairs_rise : Rises 0 (gates (entries_of core image))
    pairs_rise = rises-entries 0 (live_entries core image) rises

    among : (at : ℕ) (e : ℕ × Request) → entry_at ino store.slots at ≡ Some e → Has (entries_of core image) e
    among at e here = has-contained (entries_of core image) e (is.live at e here)

    one_slot : (first second : ℕ) (a b : ℕ × Request) → entry_at ino store.slots first ≡ Some a → entry_at ino store.slots second ≡ Some b →
        a.0 ≡ b.0 → first ≡ second
    one_slot first second a b at_first at_second same =
        let one : a ≡ b = one_gate 0 (entries_of core image) a b pairs_rise (among first a at_first) (among second b at_second) same in
        is.once first second a at_first (at_second ∙ ap (λ (e : ℕ × Request). Some e) (sym one))

    into : (e : ℕ × Request) → Has (live_in ino store.slots) e → Has (entries_of core image) e
    into e h = let slot = live-stands ino store.slots e h in among slot.0 e slot.1

    back : (e : ℕ × Request) → Has (entries_of core image) e → Has (live_in ino store.slots) e
    back e h =
        let slot = is.held e (contains-had (entries_of core image) e h) in
        stands-live ino store.slots slot.0 e slot.1

pub recovered-same : (ino : ℕ) (store : Store) (core : Core) (image : Image) → Depicts ino store core image →
    Rises 0 (map (λ e. e.place) (live_entries core image)) → recovered_file ino store ≡ recovered core image
recovered-same ino store core image is rises =
    ap (λ (f : List ℕ). taken_through f (by_gate (live_in ino store.slots))) (stored-same ino store core image is)
    ∙ (ap (taken_through (stored image)) (live-same ino store core image is rises)
    ∙ taken_through-entries (stored image) (live_entries core image))

pub run-recovered : (core : Core) (events : List Event) (image : Image) (ino : ℕ) (store : Store) → IsFresh core → IsRun core events →
    is_image (after_all core events) image ≡ true → Depicts ino store (after_all core events) image →
    recovered_file ino store ≡ file_of (after_all core events).base ((after_all core events).log ++ in_doubt (after_all core events).doubt image.doubt)
run-recovered core events image ino store fresh run allowed is =
    let good = runs-are-good core events fresh run in
    recovered-same ino store (after_all core events) image is (good.rises image allowed) ∙ good.recovers image allowed
