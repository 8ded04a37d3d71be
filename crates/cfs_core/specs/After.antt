-- What each event changes.
use Rattle.std.specs.Prelude.{ℕ, ◌-◌, Bool, true, false, not, if◌then◌else◌, Option, Some, None, List, [], ◌∷◌, ◌++◌, length, map, filter, get_or, set}
use Rattle.std.specs.List.{range_with_len}
use Rattle.cfs_file.specs.declared.entry.Entry.{Entry}
use Rattle.cfs_file.specs.declared.span.Span.{Span}
use Rattle.cfs_file.specs.File.{put}
use Rattle.cfs_core.specs.declared.flag.Flag.{Flag}
use Rattle.cfs_core.specs.declared.flag.Flag.TheVariants.{Off, On, Unsure}
use Rattle.cfs_core.specs.declared.state.State.{State}
use Rattle.cfs_core.specs.declared.state.State.TheVariants.{Waiting, Out, Noop, Unserved, Closed}
use Rattle.cfs_core.specs.declared.track.Track.{Track}
use Rattle.cfs_core.specs.declared.doubt.Doubt.{Doubt}
use Rattle.cfs_core.specs.declared.image.Image.{Image}
use Rattle.cfs_core.specs.declared.event.Event.{Event}
use Rattle.cfs_core.specs.declared.event.Event.TheVariants as events
use Rattle.cfs_core.specs.declared.event.End.{End}
use Rattle.cfs_core.specs.declared.event.End.TheVariants as ends
use Rattle.cfs_core.specs.declared.event.SizeEnd.{SizeEnd}
use Rattle.cfs_core.specs.declared.event.SizeEnd.TheVariants as sizes
use Rattle.cfs_core.specs.declared.inode_core.Core.{Core}
use Rattle.cfs_core.specs.Words.{blank, end_in, flag_of, payload_at, piece_in, sized, start_in, track}
use Rattle.cfs_core.specs.Jobs.{done_after, next_job, state_flushed, state_written}
use Rattle.cfs_core.specs.Medium.{image_now, recovered}
use Rattle.cfs_core.specs.May.{in_block, span_now}

-- the core with that track at a place, from 1
abbrev pub with_track : Core → ℕ → Track → Core
with_track core place t = record core { tracks = set core.tracks (place - 1) t }

abbrev pub with_state : Core → ℕ → State → Core
with_state core place state =
    with_track core place (record (track core.tracks place) { state = state })

abbrev pub with_tag : Core → ℕ → Flag → Core
with_tag core block flag = record core { tags = set core.tags block flag }

-- what is kept of a request that is admitted: its gate is open
abbrev pub change_track : ℕ → Span → Track
change_track grant span =
    record {
      grant = grant;
      span = span;
      state = Waiting;
      applied = false;
      done = None;
      gate = On;
      mark = Off;
    }

abbrev pub query_track : Span → Track
query_track span =
    record {
      grant = 0;
      span = span;
      state = Unserved;
      applied = false;
      done = None;
      gate = Off;
      mark = Off;
    }

-- logged, with what is kept of it
abbrev pub logged : Core → Entry → Track → Core
logged core entry t = record core { log = core.log ++ entry ∷ []; tracks = core.tracks ++ t ∷ [] }

abbrev pub admitted : Core → Entry → ℕ → Bool → Core
admitted core entry grant true =
    logged core entry (change_track grant (span_now core entry.request))
admitted core entry grant false =
    record core {
      doubt = Some (record {
        entry = entry;
        grant = grant;
        span = span_now core entry.request;
        gate = Unsure;
      });
    }

-- a mark that was kept makes a no-op, whatever becomes of its gate
abbrev pub marked : Track → Bool → Track
marked t true = record t { state = Noop; gate = Unsure; mark = On }
marked t false = record t { mark = Unsure }

-- bytes written into a block by a job; until the block is flushed an image may have any bytes there
abbrev pub written : Core → ℕ → ℕ → List ℕ → Bool → Core
written core place block bytes ok =
    record (with_state core place (state_written block ok (track core.tracks place).state)) {
      bytes = put core.bytes (start_in (track core.tracks place).span block) bytes;
      loose = core.loose
          ++ record {
            from = start_in (track core.tracks place).span block;
            to = end_in (track core.tracks place).span block;
          } ∷ [];
    }

abbrev pub block_written : Core → ℕ → ℕ → Option (List ℕ) → Core
block_written core place block None =
    written core place block (piece_in (payload_at core.log place)
    (track core.tracks place).span block) true
block_written core place block (Some left) = written core place block left false

abbrev pub flushed : Core → ℕ → ℕ → Bool → Core
flushed core place block true =
    record (with_state core place (state_flushed block (track core.tracks place).state)) {
      loose = filter (λ s. not (in_block block s)) core.loose;
    }
flushed core place block false = core

-- what becomes of the size word
abbrev pub with_size : Core → SizeEnd → ℕ → Core
with_size core sizes.AsBefore size = core
with_size core sizes.Set size = record core { size = size; sizes = [] }
with_size core sizes.Either size = record core { size = size; sizes = core.sizes ++ core.size ∷ [] }

abbrev pub retired : Track → Track
retired t = record t { state = Closed; gate = Off }

abbrev pub more_to_come : Track → Track
more_to_come t = record t { state = Waiting; done = done_after t.done t.state }

abbrev pub put_back : Track → Flag → Bool → Track
put_back t gate applied = record t { state = Waiting; gate = gate; applied = applied }

abbrev pub finished : Core → ℕ → Track → End → Core
finished core place t ends.Retired =
    with_size (with_track core place (retired t)) sizes.Set (sized core.size t.span)
finished core place t ends.More = with_track core place (more_to_come t)
finished core place t (ends.Back size gate applied) =
    with_size (with_track core place (put_back t gate applied)) size (sized core.size t.span)

-- each bit of the image is the only value of its flag
abbrev pub sure_track : Track → Bool → Bool → Track
sure_track t gate mark = record t { gate = flag_of gate; mark = flag_of mark }

abbrev pub sure_doubt : Option Doubt → Bool → Option Doubt
sure_doubt None gate = None
sure_doubt (Some doubt) gate = Some (record doubt { gate = flag_of gate })

abbrev pub with_doubt : Core → Option Doubt → Core
with_doubt core doubt = record core { doubt = doubt }

abbrev pub sure_tracks : List Track → List Bool → List Bool → List Track
sure_tracks tracks gates marks =
    map (λ k. sure_track (get_or tracks k blank) (get_or gates k false) (get_or marks k false))
    (range_with_len 0 (length tracks))

-- the image is the medium's only one; the log and the request in doubt stay
abbrev pub crashed_to : Core → Image → Core
crashed_to core image = record {
  base = core.base;
  log = core.log;
  tracks = sure_tracks core.tracks image.gates image.marks;
  doubt = sure_doubt core.doubt image.doubt;
  size = image.size;
  sizes = [];
  tags = map (λ bit. flag_of bit) image.tags;
  bytes = image.bytes;
  loose = [];
  crashed = true;
}

-- the file that was found is the base, and it is stored; nothing is logged or in doubt
abbrev pub mounted : Core → List ℕ → Core
mounted core found = record {
  base = found;
  log = [];
  tracks = [];
  doubt = None;
  size = length found;
  sizes = [];
  tags = core.tags;
  bytes = found;
  loose = [];
  crashed = false;
}

abbrev pub after : Core → Event → Core
after core (events.Tag block kept) = with_tag core block (if kept then On else Unsure)
after core (events.Admit entry grant kept) = admitted core entry grant kept
after core (events.AdmitRead entry) = logged core entry (query_track (span_now core entry.request))
after core (events.Serve place answer) = with_state core place Closed
after core (events.Mark place by kept) =
    with_track core place (marked (track core.tracks place) kept)
after core (events.Dispatch place) =
    with_state core place (Out (next_job core.tags (track core.tracks place)))
after core (events.BlockWrite place block left) = block_written core place block left
after core (events.Flush place block ok) = flushed core place block ok
after core (events.Finish place end) = finished core place (track core.tracks place) end
after core (events.Skip place) = with_track core place (retired (track core.tracks place))
after core (events.Trim block kept) = with_tag core block (if kept then Off else Unsure)
after core events.Settle = record core { doubt = None }
after core (events.Crash image) = crashed_to core image
after core events.Mount = mounted core (recovered core (image_now core))
