-- Blocks are tagged.
use Rattle.std.proofs.Common.{◌≡◌, arith, ◌<◌, cond, get_or, length, refl, set, true, false, ℕ, Bool, get_or-set_other}
use Rattle.std.proofs.lemmas.Grind.{get_or-set_at}
use Rattle.cfs_file.specs.declared.sizes.TheConstants.{FILE_BLOCKS}
use Rattle.cfs_core.specs.declared.event.Event.TheVariants as events
use Rattle.cfs_core.specs.declared.flag.Flag.{Flag}
use Rattle.cfs_core.specs.declared.flag.Flag.TheVariants as flags
use Rattle.cfs_core.specs.declared.inode_core.Core.{Core}
use Rattle.cfs_core.specs.Words.{is_on}
use Rattle.cfs_core.specs.May.{may}
use Rattle.cfs_core.specs.After.{after}
use Rattle.cfs_core_laws.specs.Reached.IsReached.{comes}
use Rattle.cfs_core_laws.proofs.Blanks.{tag-may}
use Rattle.cfs_core_laws.proofs.Doubts.{in-step}
use Rattle.cfs_core_laws.proofs.Whole.{whole}
use Rattle.cfs_tracker.specs.declared.cell.Cell.{Cell}
use Rattle.cfs_tracker.specs.declared.cell.Cell.TheVariants as kinds
use Rattle.cfs_tracker.specs.View.{TrackerView}
use Rattle.cfs_tracker.specs.Cells.{cell_at, is_bare, tagged_cell, with_cell}
use Rattle.cfs_tracker.specs.Follows.{CellStands, Follows}
use Rattle.cfs_tracker.proofs.Celling.{follows-cell, is_lent_cell}

bare-off : {B : Type 0} (cell : Cell B) (flag : Flag) → is_bare cell ≡ true →
    CellStands cell flag → is_on flag ≡ false
bare-off kinds.Hole flag h is = rw is refl
bare-off (kinds.Home block) flag h is = cc
bare-off (kinds.Unsure block) flag h is = cc
bare-off (kinds.Lent place) flag h is = cc
bare-off (kinds.Moving true) flag h is = cc
bare-off (kinds.Moving false) flag h is = rw is refl

bare-free : {B : Type 0} (cell : Cell B) → is_bare cell ≡ true → is_lent_cell cell ≡ false
bare-free kinds.Hole h = refl
bare-free (kinds.Home block) h = refl
bare-free (kinds.Unsure block) h = refl
bare-free (kinds.Lent place) h = cc
bare-free (kinds.Moving is_sure) h = refl

tagged-stands : {B : Type 0} (home : B) (kept : Bool) →
    CellStands (tagged_cell home kept) (cond kept flags.On flags.Unsure)
tagged-stands home true = refl
tagged-stands home false = refl

-- the core has a tag for each block of the file
pub tags-count : {S D B : Type 0} (view : TrackerView S D B) (core : Core) → Follows view core →
    length core.tags ≡ FILE_BLOCKS
tags-count view core follows =
    (in-step core (whole follows.reached).kept (whole follows.reached).doubted).tags

pub follows-tagged : {S D B : Type 0} (view : TrackerView S D B) (core : Core) (block : ℕ)
    (home : B) (kept : Bool) → block < FILE_BLOCKS →
    is_bare (cell_at view.cells block) ≡ true → Follows view core →
    (may core (events.Tag block kept) ≡ true)
    × Follows (with_cell block (tagged_cell home kept) view) (after core (events.Tag block kept))
follows-tagged view core block home kept less bare follows =
    let off = bare-off (cell_at view.cells block) (get_or core.tags block flags.Off) bare
    (follows.cells block less) in
    let may_be : may core (events.Tag block kept) ≡ true =
    tag-may core (whole follows.reached).kept (whole follows.reached).work.blocks.1 follows.up block
    kept less off in
    let flag : Flag = cond kept flags.On flags.Unsure in
    let now : get_or (set core.tags block flag) block flags.Off ≡ flag =
    get_or-set_at core.tags block block flag flags.Off refl
    (omega (arith, tags-count view core follows)) in (
      may_be,
      follows-cell view core block (tagged_cell home kept) (set core.tags block flag) follows
          (comes core (events.Tag block kept) follows.reached may_be) less
          (bare-free (cell_at view.cells block) bare)
          (λ other apart. get_or-set_other core.tags block other flag flags.Off apart)
          (rw now (tagged-stands home kept)),
    )
