-- The core of an inode whose image is opened: its live entries are logged and wait, as a mount
-- finds them.
use Rattle.std.specs.Prelude.{◌≡◌, ℕ, ◌+◌, Bool, true, false, not, Option, Some, None, List, [], ◌∷◌, ◌++◌, map, filter}
use Rattle.std.specs.List.{list_all}
use Rattle.cfs_file.specs.declared.entry.Entry.{Entry}
use Rattle.cfs_core.specs.declared.track.Track.{Track}
use Rattle.cfs_core.specs.declared.doubt.Doubt.{Doubt}
use Rattle.cfs_core.specs.declared.event.Event.{Event}
use Rattle.cfs_core.specs.declared.event.Event.TheVariants as events
use Rattle.cfs_core.specs.declared.image.Image.{Image}
use Rattle.cfs_core.specs.declared.inode_core.Core.{Core}
use Rattle.cfs_core.specs.Words.{flag_of, track}
use Rattle.cfs_core.specs.Medium.{file, is_image, is_open, live_entries, recovered, stored}
use Rattle.cfs_core.specs.May.{may}
use Rattle.cfs_core.specs.Within.{within}
use Rattle.cfs_core.specs.Good.{IsGood}
use Rattle.cfs_core.specs.After.{change_track}
use Rattle.cfs_core.specs.Run.{IsRun, after_all}

-- the entries with the places from that number on
abbrev pub numbered : ℕ → List Entry → List Entry
numbered n [] = []
numbered n (entry ∷ entries) = record entry { place = n } ∷ numbered (n + 1) entries

-- of an entry whose gate is open: its grant and its span, nothing of its job, and no mark
abbrev pub opened_track : Track → Track
opened_track t = change_track t.grant t.span

abbrev pub opened_doubt : Option Doubt → Bool → List Track
opened_doubt None gate = []
opened_doubt (Some doubt) true = change_track doubt.grant doubt.span ∷ []
opened_doubt (Some doubt) false = []

-- those of the log's open entries, as in `open_entries`
abbrev pub open_tracks : List Track → Image → List Entry → List Track
open_tracks tracks image log =
    map (λ e. opened_track (track tracks e.place)) (filter (λ e. is_open image e.place) log)

-- the tracks of the live entries of an image, in their order
abbrev pub live_tracks : Core → Image → List Track
live_tracks core image =
    open_tracks core.tracks image core.log ++ opened_doubt core.doubt image.doubt

-- The image as a core: over the stored file its live entries, from place 1 on, each as its slot
-- holds it; nothing in doubt or unflushed, and each bit and the size known.
abbrev pub opened : Core → Image → Core
opened core image = record {
  base = stored image;
  log = numbered 1 (live_entries core image);
  tracks = live_tracks core image;
  doubt = None;
  size = image.size;
  sizes = [];
  tags = map (λ bit. flag_of bit) image.tags;
  bytes = image.bytes;
  loose = [];
  crashed = false;
}

-- a change that is asked for, admitted or in doubt
abbrev pub is_admission : Event → Bool
is_admission (events.Admit entry grant kept) = true
is_admission _ = false

pub record OpensWell (core : Core) (image : Image) : Type 0 where
  -- its file is the one that the image recovers
  pub file_is : file (opened core image) ≡ recovered core image
  -- every run of it is good
  pub good : (steps : List Event) → IsRun (opened core image) steps →
      IsGood (after_all (opened core image) steps)
  -- and the moments within an event may come where the event may
  pub moments : (steps : List Event) (event : Event) → IsRun (opened core image) steps →
      may (after_all (opened core image) steps) event ≡ true →
      list_all (may (after_all (opened core image) steps))
      (within (after_all (opened core image) steps) event)
      ≡ true
  -- until a change is admitted, every image that is left on the way recovers the same file again
  pub again : (steps : List Event) (left : Image) → IsRun (opened core image) steps →
      list_all (λ e. not (is_admission e)) steps ≡ true →
      is_image (after_all (opened core image) steps) left ≡ true →
      recovered (after_all (opened core image) steps) left ≡ recovered core image
