-- What the device steps of an event change, and the moments between them.
use Rattle.std.specs.Prelude.{ℕ, ◌==◌, Bool, true, false, ◌&&◌, if◌then◌else◌, Option, Some, None, List, [], ◌∷◌, ◌++◌, length, map, get_or, filter, not}
use Rattle.cfs_file.specs.declared.span.Span.{Span}
use Rattle.cfs_file.specs.File.{put}
use Rattle.cfs_core.specs.declared.doubt.Doubt.{Doubt}
use Rattle.cfs_core.specs.declared.event.End.{End}
use Rattle.cfs_core.specs.declared.event.End.TheVariants as ends
use Rattle.cfs_core.specs.declared.event.Event.{Event}
use Rattle.cfs_core.specs.declared.event.Event.TheVariants as events
use Rattle.cfs_core.specs.declared.event.SizeEnd.{SizeEnd}
use Rattle.cfs_core.specs.declared.event.SizeEnd.TheVariants as sizes
use Rattle.cfs_core.specs.declared.flag.Flag.{Flag}
use Rattle.cfs_core.specs.declared.flag.Flag.TheVariants.{Off, On, Unsure}
use Rattle.cfs_core.specs.declared.image.Image.{Image}
use Rattle.cfs_core.specs.declared.inode_core.Core.{Core}
use Rattle.cfs_core.specs.declared.track.Track.{Track}
use Rattle.cfs_core.specs.Words.{end_in, flag_of, payload_at, piece_in, sized, start_in, track}
use Rattle.cfs_core.specs.May.{in_block, span_now}
use Rattle.cfs_core.specs.After.{after, with_doubt, with_tag, with_track}
use Rattle.cfs_core.specs.Within.{within}

-- One device step, as a change of what is known of the core's part of the medium. What is written
-- may stand in an image or not, until it is persisted or flushed.
pub data Change : Type 0 where
  size_written : (size : ℕ) → Change
  size_persisted : Change
  -- the gate of a place's slot is closed, and its mark is set
  gate_written : (place : ℕ) → Change
  gate_persisted : (place : ℕ) → Change
  mark_written : (place : ℕ) → Change
  mark_persisted : (place : ℕ) → Change
  -- a slot that holds a request, its gate closed, comes into the core's part: no step
  slot_comes : (doubt : Doubt) → Change
  -- its gate is opened or closed
  doubt_written : (bit : Bool) → Change
  doubt_persisted : (bit : Bool) → Change
  tag_written : (block : ℕ) → (bit : Bool) → Change
  tag_flushed : (block : ℕ) → (bit : Bool) → Change
  bytes_written : (from : ℕ) → (to : ℕ) → (bytes : List ℕ) → Change
  block_flushed : (block : ℕ) → Change

-- an image has what it had, or the bit
abbrev pub written_to : Flag → Bool → Flag
written_to Off false = Off
written_to On true = On
written_to _ _ = Unsure

abbrev pub with_gate : Core → ℕ → Flag → Core
with_gate core place gate = with_track core place (record (track core.tracks place) { gate = gate })

abbrev pub with_mark : Core → ℕ → Flag → Core
with_mark core place mark = with_track core place (record (track core.tracks place) { mark = mark })

abbrev pub gated : Option Doubt → (Flag → Flag) → Option Doubt
gated None change = None
gated (Some doubt) change = Some (record doubt { gate = change doubt.gate })

abbrev pub changed : Core → Change → Core
changed core (size_written size) =
    record core { size = size; sizes = core.sizes ++ core.size ∷ [] }
changed core size_persisted = record core { sizes = [] }
changed core (gate_written place) =
    with_gate core place (written_to (track core.tracks place).gate false)
changed core (gate_persisted place) = with_gate core place Off
changed core (mark_written place) =
    with_mark core place (written_to (track core.tracks place).mark true)
changed core (mark_persisted place) = with_mark core place On
changed core (slot_comes doubt) = with_doubt core (Some doubt)
changed core (doubt_written bit) =
    with_doubt core (gated core.doubt (λ gate. written_to gate bit))
changed core (doubt_persisted bit) = with_doubt core (gated core.doubt (λ gate. flag_of bit))
changed core (tag_written block bit) =
    with_tag core block (written_to (get_or core.tags block Off) bit)
changed core (tag_flushed block bit) = with_tag core block (flag_of bit)
changed core (bytes_written from to bytes) =
    record core {
      bytes = put core.bytes from bytes;
      loose = core.loose ++ record { from = from; to = to } ∷ [];
    }
changed core (block_flushed block) =
    record core { loose = filter (λ s. not (in_block block s)) core.loose }

abbrev pub all_changed : Core → List Change → Core
all_changed core [] = core
all_changed core (change ∷ changes) = all_changed (changed core change) changes

-- ---- the changes of an event

-- what follows where the step before it was kept
abbrev pub where_kept : Bool → Change → List Change
where_kept true change = change ∷ []
where_kept false change = []

-- none where the word is right and persisted
abbrev pub size_changes : Core → ℕ → List Change
size_changes core size =
    if (core.size == size) && (length core.sizes == 0) then []
    else size_written size ∷ size_persisted ∷ []

abbrev pub closing : ℕ → List Change
closing place = gate_written place ∷ gate_persisted place ∷ []

abbrev pub back_sizes : Core → SizeEnd → ℕ → List Change
back_sizes core sizes.AsBefore size = []
back_sizes core sizes.Set size = size_changes core size
back_sizes core sizes.Either size = size_written size ∷ []

abbrev pub back_gates : ℕ → Flag → List Change
back_gates place On = []
back_gates place Unsure = gate_written place ∷ []
back_gates place Off = closing place

abbrev pub finish_changes : Core → ℕ → Track → End → List Change
finish_changes core place t ends.Retired =
    size_changes core (sized core.size t.span) ++ closing place
finish_changes core place t ends.More = []
finish_changes core place t (ends.Back size gate applied) =
    back_sizes core size (sized core.size t.span) ++ back_gates place gate

-- the part of a span in a block
abbrev pub part_written : Span → ℕ → List ℕ → List Change
part_written span block bytes = bytes_written (start_in span block) (end_in span block) bytes ∷ []

abbrev pub write_changes : Core → ℕ → ℕ → Option (List ℕ) → List Change
write_changes core place block None =
    part_written (track core.tracks place).span block
    (piece_in (payload_at core.log place) (track core.tracks place).span block)
write_changes core place block (Some left) =
    part_written (track core.tracks place).span block left

abbrev pub where_ok : Bool → List Change → List Change
where_ok true changes = changes
where_ok false changes = []

-- What its device steps change, one after another. A crash and a mount are no steps: those of a
-- mount are the steps of the core that is opened.
abbrev pub changes : Core → Event → List Change
changes core (events.Tag block kept) =
    tag_written block true ∷ where_kept kept (tag_flushed block true)
changes core (events.Admit entry grant kept) =
    slot_comes (record {
      entry = entry;
      grant = grant;
      span = span_now core entry.request;
      gate = Off;
    })
    ∷ doubt_written true ∷ where_kept kept (doubt_persisted true)
changes core (events.Mark place by kept) =
    mark_written place ∷ where_kept kept (mark_persisted place)
changes core (events.BlockWrite place block left) = write_changes core place block left
changes core (events.Flush place block ok) = where_ok ok (block_flushed block ∷ [])
changes core (events.Finish place end) = finish_changes core place (track core.tracks place) end
changes core (events.Skip place) = closing place
changes core (events.Trim block kept) =
    tag_written block false ∷ where_kept kept (tag_flushed block false)
changes core events.Settle = doubt_written false ∷ doubt_persisted false ∷ []
changes core _ = []

-- ---- the moments

-- before the first change, between each two, and after the last
abbrev pub EachMoment : (Core → Type 0) → Core → List Change → Type 0
EachMoment Holds core [] = Holds core
EachMoment Holds core (change ∷ changes) =
    Holds core × EachMoment Holds (changed core change) changes

-- the core before, the core after, and those of the failed events that `within` names
abbrev pub named : Core → Event → List Core
named core event = core ∷ after core event ∷ map (λ failed. after core failed) (within core event)

-- An admission that was kept gives its slot to the log, and so does a read, which has none.
abbrev pub logged_image : Event → Image → Image
logged_image (events.Admit entry grant true) image =
    record image {
      gates = image.gates ++ image.doubt ∷ [];
      marks = image.marks ++ false ∷ [];
      doubt = false;
    }
logged_image (events.AdmitRead entry) image =
    record image { gates = image.gates ++ false ∷ []; marks = image.marks ++ false ∷ [] }
logged_image _ image = image
