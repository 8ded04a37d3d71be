-- The state of an inode as plain data.
use Rattle.std.specs.Prelude.{ℕ, List, ◌∷◌, map}
use Rattle.std.specs.Option.{option_map}
use Rattle.cfs_pmem.specs.Images.{Seen, WordStep}
use Rattle.cfs_block.specs.BlockImages.{BlockStep}
use Rattle.cfs_slot.specs.declared.doubt.Doubt.{Doubt}
use Rattle.cfs_slot.specs.declared.live.Live.{Live}
use Rattle.cfs_slot.specs.Reads.{regions_of}
use Rattle.cfs_slot.specs.Regions.{of_doubt, place_of, tails_of_doubt}
use Rattle.cfs_tracker.specs.declared.cell.Cell.{Cell}
use Rattle.cfs_tracker.specs.declared.cell.Cell.TheVariants as kinds
use Rattle.cfs_tracker.specs.declared.doing.Doing.{Doing}
use Rattle.cfs_tracker.specs.declared.doing.Doing.TheVariants as doings
use Rattle.cfs_tracker.specs.declared.in_doubt.InDoubt.{InDoubt}
use Rattle.cfs_tracker.specs.declared.pending.Pending.{Pending}
use Rattle.cfs_tracker.specs.View.{TrackerView, view_of}
use Rattle.cfs_inode.specs.declared.state.State.{State}

-- the slots of a request, the head first
abbrev pub Seens : Type 0
Seens = List (Seen WordStep)

-- the slots of a live request, with the place that its gate was opened with
pub record Held : Type 0 where
  pub place : ℕ
  pub slots : Seens

-- The inode number, the region of the size word, and what the run time knows, with the slots and
-- the blocks as they are.
pub record StateView : Type 0 where
  pub ino : ℕ
  pub size : Seen WordStep
  pub tracker : TrackerView Held Seens (Seen BlockStep)

-- ---- a tracker whose slots and blocks are told as something else

abbrev pub told_doing : {S T : Type 0} → (S → T) → Doing S → Doing T
told_doing tell (doings.Waiting slots) = doings.Waiting (tell slots)
told_doing tell doings.Marking = doings.Marking
told_doing tell (doings.Out first second) = doings.Out first second
told_doing tell (doings.Covered slots) = doings.Covered (tell slots)
told_doing tell doings.Closing = doings.Closing

abbrev pub told_entry : {S T : Type 0} → (S → T) → Pending S → Pending T
told_entry tell entry = record {
  place = entry.place;
  grant = entry.grant;
  span = entry.span;
  applied = entry.applied;
  done = entry.done;
  doing = told_doing tell entry.doing;
  passed = entry.passed;
}

abbrev pub told_doubt : {S T : Type 0} → (S → T) → InDoubt S → InDoubt T
told_doubt tell doubt = record {
  place = doubt.place;
  grant = doubt.grant;
  span = doubt.span;
  slots = option_map tell doubt.slots;
}

abbrev pub told_cell : {S T : Type 0} → (S → T) → Cell S → Cell T
told_cell tell kinds.Hole = kinds.Hole
told_cell tell (kinds.Home block) = kinds.Home (tell block)
told_cell tell (kinds.Unsure block) = kinds.Unsure (tell block)
told_cell tell (kinds.Lent place) = kinds.Lent place
told_cell tell (kinds.Moving is_sure) = kinds.Moving is_sure

abbrev pub told : {S D B T E C : Type 0} → (S → T) → (D → E) → (B → C) → TrackerView S D B →
    TrackerView T E C
told live doubt block view = record {
  count = view.count;
  long = view.long;
  stored = view.stored;
  is_sure = view.is_sure;
  entries = map (told_entry live) view.entries;
  reads = view.reads;
  cells = map (told_cell block) view.cells;
  doubt = option_map (told_doubt doubt) view.doubt;
}

-- ---- the view

abbrev pub held_of : {R : Type 0} {g : _} → (R → Seen WordStep) → Live R g → Held
held_of seen live = record { place = place_of live; slots = map seen (regions_of live) }

abbrev pub seens_of : {R : Type 0} {g : _} → (R → Seen WordStep) → Doubt R g → Seens
seens_of seen doubt = map seen (of_doubt doubt ∷ tails_of_doubt doubt)

abbrev pub state_view : {R B : Type 0} {g : _} → (R → Seen WordStep) → (B → Seen BlockStep) →
    State R B (Live R g) (Doubt R g) → StateView
state_view words bytes state = record {
  ino = state.ino;
  size = words state.size;
  tracker = told (held_of words) (seens_of words) bytes (view_of state.tracker);
}
