-- A tracker follows a fresh core.
use Rattle.std.proofs.Common.{◌≡◌, ◌∙◌, ap, get_or, inl, inr, List, [], ◌∷◌, None, refl, sym, true, zero, suc, ◌-◌, ℕ, subst, replicate}
use Rattle.std.proofs.lemmas.List.{length-replicate}
use Rattle.std.specs.Prelude.{Result, Ok, Err, IfOk}
use Rattle.std.specs.List.{list_all}
use Rattle.cfs_file.specs.declared.sizes.TheConstants.{FILE_BLOCKS}
use Rattle.cfs_core.specs.declared.flag.Flag.{Flag}
use Rattle.cfs_core.specs.declared.flag.Flag.TheVariants as flags
use Rattle.cfs_core.specs.declared.inode_core.Core.{Core}
use Rattle.cfs_core.specs.declared.state.State.TheVariants as states
use Rattle.cfs_core.specs.declared.track.Track.{Track}
use Rattle.cfs_core.specs.Words.{is_off, track}
use Rattle.cfs_core.specs.Fresh.{IsEmpty, IsFresh}
use Rattle.cfs_core.proofs.Freshly.{fresh-empty}
use Rattle.cfs_core.proofs.Order.{same_or_not, track_is}
use Rattle.cfs_core_laws.specs.Reached.IsReached.{begins}
use Rattle.cfs_tracker.specs.declared.cell.Cell.{Cell}
use Rattle.cfs_tracker.specs.declared.cell.Cell.TheVariants as kinds
use Rattle.cfs_tracker.specs.declared.tracker.Tracker.{Tracker}
use Rattle.cfs_tracker.specs.View.{TrackerView, read_at, view_of}
use Rattle.cfs_tracker.specs.Cells.{cell_at}
use Rattle.cfs_tracker.specs.Follows.{Follows}
use Rattle.cfs_tracker.specs.New.{IsLoaded, stored_view}
use Rattle.cfs_tracker.proofs.Tracks.{no-block}

no-track : (q : ℕ) → (track [] q).state ≡ states.Closed
no-track q = elim (same_or_not q 0) [
  | inl none ↦ rw none refl
  | inr some ↦ ap (λ (t : Track). t.state) (track_is [] q (q - 1) some refl)
]

pub follows-fresh : {S D B : Type 0} (view : TrackerView S D B) (core : Core) → IsFresh core →
    IsLoaded view core → Follows view core
follows-fresh {S} {D} view core fresh loaded = record {
  reached = begins core fresh;
  up = fresh.up;
  count = rw (fresh.log, loaded.count) refl;
  long = rw (fresh.log, loaded.long) refl;
  size = fresh.size ∙ sym loaded.stored;
  sure = λ sure. fresh.sizes;
  entries = λ q. rw (loaded.entries, loaded.reads, fresh.tracks) (no-track q);
  rise = rw loaded.entries tt;
  reads_rise = rw loaded.reads tt;
  syncs = λ q read is. (let none : read_at view.reads q ≡ None = rw loaded.reads refl in cc);
  many = loaded.many;
  cells = loaded.cells;
  lent = λ q block has.
      absurd (no-block (track core.tracks q).state block (rw fresh.tracks (no-track q)) has);
  doubt = rw (loaded.doubt, fresh.doubt) tt;
}

all-off : (tags : List Flag) (block : ℕ) → list_all is_off tags ≡ true →
    get_or tags block flags.Off ≡ flags.Off
all-off [] block h = refl
all-off (flags.Off ∷ tags) zero h = refl
all-off (flags.Off ∷ tags) (suc block) h = all-off tags block h
all-off (flags.On ∷ tags) block h = cc
all-off (flags.Unsure ∷ tags) block h = cc

no-cell : {B : Type 0} (n block : ℕ) → cell_at {B = B} (replicate n kinds.Hole) block ≡ kinds.Hole
no-cell zero block = refl
no-cell (suc n) zero = refl
no-cell (suc n) (suc block) = no-cell n block

pub follows-empty : {S D B : Type 0} (core : Core) → IsEmpty core →
    Follows {S = S} {D = D} {B = B} (stored_view 0) core
follows-empty {S} {D} {B} core empty =
    follows-fresh (stored_view 0) core (fresh-empty core empty) (record {
      count = refl;
      long = rw empty.base refl;
      stored = rw empty.base refl;
      entries = refl;
      reads = refl;
      many = length-replicate {A = Cell B} FILE_BLOCKS kinds.Hole;
      cells = λ block less.
          rw (no-cell {B = B} FILE_BLOCKS block) (all-off core.tags block empty.tags);
      doubt = refl;
    })

pub empty-ok : {S D B E : Type 0} (made : Result (Tracker S D B) E) →
    IfOk made (λ tracker. view_of tracker ≡ stored_view 0) →
    IfOk made (λ tracker. (core : Core) → IsEmpty core → Follows (view_of tracker) core)
empty-ok {S} {D} {B} (Ok tracker) is = λ core empty.
    subst (λ (view : TrackerView S D B). Follows view core) (sym is) (follows-empty core empty)
empty-ok (Err error) is = tt
