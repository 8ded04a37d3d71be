-- A tracker goes on to follow its core where one track is put.
use Rattle.std.proofs.Common.{◌≡◌, ◌∙◌, ap, ◌-◌, ◌<◌, get_or, inl, inr, length, List, [], Option, None, Some, refl, set, sym, true, ℕ, Bool, subst}
use Rattle.std.specs.Prelude.{option_map}
use Rattle.cfs_file.specs.declared.sizes.TheConstants.{FILE_BLOCKS}
use Rattle.cfs_core.specs.declared.flag.Flag.TheVariants as flags
use Rattle.cfs_core.specs.declared.inode_core.Core.{Core}
use Rattle.cfs_core.specs.declared.state.State.{State}
use Rattle.cfs_core.specs.declared.track.Track.{Track}
use Rattle.cfs_core.specs.Words.{has_block, track}
use Rattle.cfs_core.specs.After.{with_track}
use Rattle.cfs_core.proofs.Marks.{track_beside}
use Rattle.cfs_core.proofs.Order.{same_or_not}
use Rattle.cfs_core_laws.specs.Reached.{IsReached}
use Rattle.cfs_tracker.specs.declared.cell.Cell.{Cell}
use Rattle.cfs_tracker.specs.declared.cell.Cell.TheVariants as kinds
use Rattle.cfs_tracker.specs.declared.doing.Doing.{Doing}
use Rattle.cfs_tracker.specs.declared.pending.Pending.{Pending}
use Rattle.cfs_tracker.specs.declared.reading.Reading.{Reading}
use Rattle.cfs_tracker.specs.View.{TrackerView, doing, entry_at, entry_place, read_at, reading_place, with_entry}
use Rattle.cfs_tracker.specs.Cells.{cell_at}
use Rattle.cfs_tracker.specs.Follows.{CellStands, Follows, IsDoing, IsTrack, Rise, StandsAt, gate_for, is_dead}
use Rattle.cfs_tracker.proofs.Entries.{at-with, here-with, rise-with}
use Rattle.cfs_tracker.proofs.Tracks.{track-here}

pub stands-by : {S : Type 0} {entry other : Option (Pending S)} {read beside : Option Reading}
    {t was : Track} → entry ≡ other → read ≡ beside → t ≡ was → StandsAt other beside was →
    StandsAt entry read t
stands-by {S} {entry} {other} {read} {beside} {t} {was} one two three stands =
    subst (λ (e : Option (Pending S)). StandsAt e read t) (sym one)
    (subst (λ (r : Option Reading). StandsAt other r t) (sym two)
    (subst (λ (u : Track). StandsAt other beside u) (sym three) stands))

-- where an entry stands, no read does
pub no-read : {S : Type 0} (entry : Pending S) (read : Option Reading) (t : Track) →
    StandsAt (Some entry) read t → read ≡ None
no-read entry None t stands = refl
no-read entry (Some read) t stands = absurd stands

pub its-track : {S : Type 0} (entry : Pending S) (read : Option Reading) (t : Track) →
    StandsAt (Some entry) read t → IsTrack entry t
its-track entry None t stands = stands
its-track entry (Some read) t stands = absurd stands

-- the track of an entry that is found
pub track-of : {S D B : Type 0} (view : TrackerView S D B) (core : Core) (place : ℕ)
    (entry : Pending S) → Follows view core → entry_at view.entries place ≡ Some entry →
    IsTrack entry (track core.tracks place)
track-of view core place entry follows is =
    its-track entry (read_at view.reads place) (track core.tracks place)
    (stands-by (sym is) refl refl (follows.entries place))

pub read-of : {S D B : Type 0} (view : TrackerView S D B) (core : Core) (place : ℕ)
    (entry : Pending S) → Follows view core → entry_at view.entries place ≡ Some entry →
    read_at view.reads place ≡ None
read-of view core place entry follows is =
    no-read entry (read_at view.reads place) (track core.tracks place)
    (stands-by (sym is) refl refl (follows.entries place))

-- ---- the core stays

pub entries-are : {S D B : Type 0} (view : TrackerView S D B) (core : Core)
    {items entries : List (Pending S)} → items ≡ entries →
    Follows (record view { entries = entries }) core → Follows (record view { entries = items })
    core
entries-are {S} view core {items} {entries} same follows =
    subst (λ (es : List (Pending S)). Follows (record view { entries = es }) core) (sym same)
    follows

changed-one : {S : Type 0} (change : Pending S → Pending S) (entry : Option (Pending S))
    (read : Option Reading) (t : Track) →
    ((e : Pending S) → entry ≡ Some e → IsTrack e t → IsTrack (change e) t) →
    StandsAt entry read t → StandsAt (option_map change entry) read t
changed-one change None read t keeps stands = stands
changed-one change (Some entry) None t keeps stands = keeps entry refl stands
changed-one change (Some entry) (Some read) t keeps stands = stands

pub follows-changed : {S D B : Type 0} (view : TrackerView S D B) (core : Core) (place : ℕ)
    (change : Pending S → Pending S) → ((e : Pending S) → (change e).place ≡ e.place) →
    Follows view core →
    ((e : Pending S) → entry_at view.entries place ≡ Some e → IsTrack e (track core.tracks place) →
    IsTrack (change e) (track core.tracks place)) →
    Follows (record view { entries = with_entry place change view.entries }) core
follows-changed {S} view core place change stays follows keeps = record {
  reached = follows.reached;
  up = follows.up;
  count = follows.count;
  long = follows.long;
  size = follows.size;
  sure = follows.sure;
  entries = λ q. elim (same_or_not q place) [
    | inl same ↦ subst (λ (n : ℕ). StandsAt (entry_at (with_entry place change view.entries) n)
        (read_at view.reads n) (track core.tracks n)) (sym same)
        (stands-by (here-with view.entries place change stays) refl refl
        (changed-one change (entry_at view.entries place) (read_at view.reads place)
        (track core.tracks place) keeps (follows.entries place)))
    | inr apart ↦
        stands-by (at-with view.entries place q change stays apart) refl refl (follows.entries q)
  ];
  rise = rise-with 0 view.entries place change stays follows.rise;
  reads_rise = follows.reads_rise;
  syncs = follows.syncs;
  many = follows.many;
  cells = follows.cells;
  lent = follows.lent;
  doubt = follows.doubt;
}

pub follows-redo : {S D B : Type 0} (view : TrackerView S D B) (core : Core) (place : ℕ)
    (now : Doing S) → Follows view core →
    ((e : Pending S) → entry_at view.entries place ≡ Some e → IsTrack e (track core.tracks place) →
    IsTrack (doing now e) (track core.tracks place)) →
    Follows (record view { entries = with_entry place (doing now) view.entries }) core
follows-redo view core place now follows keeps =
    follows-changed view core place (doing now) (λ e. refl) follows keeps

-- another doing of the same state
pub redo-alike : {S : Type 0} (now : Doing S) (entry : Pending S) (t : Track) →
    ((s : State) → IsDoing entry.doing s → IsDoing now s) → is_dead entry.doing ≡ is_dead now →
    IsTrack entry t → IsTrack (doing now entry) t
redo-alike now entry t goes same is = record {
  grant = is.grant;
  span = is.span;
  applied = is.applied;
  done = is.done;
  doing = goes t.state is.doing;
  gate = is.gate ∙ ap (λ (dead : Bool). gate_for dead entry.applied) same;
  idle = is.idle;
}

-- ---- one track is put

pub record Puts {S D B : Type 0} (view : TrackerView S D B) (core : Core) (place : ℕ) (t : Track)
    (entries : List (Pending S)) (reads : List Reading) (cells : List (Cell B)) : Type 0 where
  pub some : place ≡ 0 → ⊥
  pub within : place - 1 < length core.tracks
  pub entries_beside : (q : ℕ) → (q ≡ place → ⊥) → entry_at entries q ≡ entry_at view.entries q
  pub reads_beside : (q : ℕ) → (q ≡ place → ⊥) → read_at reads q ≡ read_at view.reads q
  pub here : StandsAt (entry_at entries place) (read_at reads place) t
  pub unread : read_at reads place ≡ None
  pub rise : Rise entry_place 0 entries
  pub reads_rise : Rise reading_place 0 reads
  pub many : length cells ≡ FILE_BLOCKS
  pub cells_stand : (block : ℕ) → block < FILE_BLOCKS →
      CellStands (cell_at cells block) (get_or core.tags block flags.Off)
  pub lent : (block : ℕ) → has_block t.state block ≡ true → cell_at cells block ≡ kinds.Lent place
  pub lent_beside : (q block : ℕ) → (q ≡ place → ⊥) →
      has_block (track core.tracks q).state block ≡ true → cell_at cells block ≡ kinds.Lent q

pub follows-put : {S D B : Type 0} (view : TrackerView S D B) (core : Core) (place : ℕ) (t : Track)
    (entries : List (Pending S)) (reads : List Reading) (cells : List (Cell B)) (size : ℕ)
    (sizes : List ℕ) (stored : ℕ) (is_sure : Bool) → Follows view core →
    IsReached (record (with_track core place t) { size = size; sizes = sizes }) →
    size ≡ stored → (is_sure ≡ true → sizes ≡ []) → Puts view core place t entries reads cells →
    Follows (record view {
      entries = entries;
      reads = reads;
      cells = cells;
      stored = stored;
      is_sure = is_sure;
    }) (record (with_track core place t) { size = size; sizes = sizes })
follows-put {S} {D} {B} view core place t entries reads cells size sizes stored is_sure follows
    reached known sure puts = record {
      reached = reached;
      up = follows.up;
      count = follows.count;
      long = follows.long;
      size = known;
      sure = sure;
      entries = λ q. elim (same_or_not q place) [
        | inl same ↦ subst (λ (n : ℕ). StandsAt (entry_at entries n) (read_at reads n) (track (set
            core.tracks (place - 1) t) n)) (sym same)
            (stands-by refl refl (track-here core.tracks place t puts.some puts.within) puts.here)
        | inr apart ↦
            stands-by (puts.entries_beside q apart) (puts.reads_beside q apart)
            (track_beside core.tracks place q t puts.some apart) (follows.entries q)
      ];
      rise = puts.rise;
      reads_rise = puts.reads_rise;
      syncs = λ q read is. elim (same_or_not q place) [
        | inl same ↦
            let none : read_at reads q ≡ None = subst (λ (n : ℕ). read_at reads n ≡ None) (sym same)
            puts.unread in
            cc
        | inr apart ↦ follows.syncs q read (sym (puts.reads_beside q apart) ∙ is)
      ];
      many = puts.many;
      cells = puts.cells_stand;
      lent = λ q block has. elim (same_or_not q place) [
        | inl same ↦
            subst (λ (n : ℕ). cell_at cells block ≡ kinds.Lent n) (sym same)
            (puts.lent block
            (subst (λ (u : Track). has_block u.state block ≡ true)
            (ap (λ (n : ℕ). track (set core.tracks (place - 1) t) n) same ∙ track-here core.tracks
            place t puts.some puts.within) has))
        | inr apart ↦
            puts.lent_beside q block apart
            (subst (λ (u : Track). has_block u.state block ≡ true)
            (track_beside core.tracks place q t puts.some apart) has)
      ];
      doubt = follows.doubt;
    }

pub reads-are : {S D B : Type 0} (view : TrackerView S D B) (core : Core)
    {items reads : List Reading} → items ≡ reads →
    Follows (record view { reads = reads }) core → Follows (record view { reads = items }) core
reads-are view core {items} {reads} same follows =
    subst (λ (rs : List Reading). Follows (record view { reads = rs }) core) (sym same) follows

pub same-view : {S D B : Type 0} {core : Core} {view other : TrackerView S D B} → view ≡ other →
    Follows other core → Follows view core
same-view {S} {D} {B} {core} {view} {other} same follows =
    subst (λ (v : TrackerView S D B). Follows v core) (sym same) follows
