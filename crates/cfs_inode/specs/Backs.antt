-- A job comes back to its state.
use Rattle.std.specs.Prelude.{ℕ, ◌≡◌, Option, Some, None, List, [], ◌∷◌}
use Rattle.cfs_pmem.specs.declared.trace.Asked.{Asked}
use Rattle.cfs_pmem.specs.Images.{Seen, WordStep}
use Rattle.cfs_block.specs.BlockImages.{BlockStep}
use Rattle.cfs_core.specs.declared.event.End.{End}
use Rattle.cfs_core.specs.declared.event.Event.TheVariants as events
use Rattle.cfs_core.specs.declared.event.SizeEnd.TheVariants as sizes
use Rattle.cfs_job.specs.declared.lent.Lent.{Lent}
use Rattle.cfs_job.specs.Views.{JobView, TileView}
use Rattle.cfs_tracker.specs.declared.tile.Tile.{Tile}
use Rattle.cfs_tracker.specs.Finish.{IsOut, as_far, put_back}
use Rattle.cfs_inode.specs.Makes.{Makes}
use Rattle.cfs_inode.specs.Stands.{Together}
use Rattle.cfs_inode.specs.View.{Held, StateView}

-- a block that comes back from a job
abbrev pub tile_from : {B : Type 0} → Option (Lent B) → Option (Tile B)
tile_from None = None
tile_from (Some lent) = Some (record { block = lent.at; home = lent.block })

-- and as plain data
abbrev pub tile_back : Option TileView → Option (Tile (Seen BlockStep))
tile_back None = None
tile_back (Some tile) = Some (record { block = tile.at; home = tile.seen })

-- the slots that come back from a job
abbrev pub held_back : JobView → Held
held_back job = record { place = job.place; slots = job.slots }

abbrev pub told_tile : {B C : Type 0} → (B → C) → Option (Tile B) → Option (Tile C)
told_tile tell None = None
told_tile tell (Some tile) = Some (record { block = tile.block; home = tell tile.home })

-- a job's place, slots and blocks, as the tracker takes them back
pub record CameBack {S T B C : Type 0} (live : S → T) (block : B → C) (place : ℕ) (slots : S)
    (first second : Option (Tile B)) (own : ℕ) (held : T) (one two : Option (Tile C)) : Type 0 where
  pub place_is : place ≡ own
  pub slots_are : live slots ≡ held
  pub first_is : told_tile block first ≡ one
  pub second_is : told_tile block second ≡ two

-- ---- when they may be called

-- The job is of the state's file, and the state has the change at its place out, with its blocks.
pub record HasOut (state : StateView) (job : JobView) : Type 0 where
  pub ino_is : job.ino ≡ state.ino
  pub out : IsOut state.tracker job.place (tile_back job.first) (tile_back job.second)

-- ---- it is put back

-- the change waits again, as far as it was, and this is the size word
abbrev pub with_put_back : Seen WordStep → JobView → StateView → StateView
with_put_back size job state = record state {
  size = size;
  tracker = put_back job.place (held_back job) (tile_back job.first) (tile_back job.second)
      state.tracker;
}

-- a call by which a job ends is this event
abbrev pub EndMakes : End → List Asked → StateView → JobView → List Asked → StateView → Type 0
EndMakes end asked_old old job asked_new new =
    (jobs : List JobView) →
    Makes old.ino (Together old (job ∷ jobs)) (events.Finish job.place end ∷ []) asked_old
    asked_new (Together new jobs)

-- A job that is put back without a step.
abbrev pub PutsBack : StateView → JobView → StateView → Type 0
PutsBack old job new =
    (asked : List Asked) →
    EndMakes (as_far old.tracker job.place sizes.AsBefore) asked old job asked new
