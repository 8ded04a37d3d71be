-- The block of a file block comes to be another one, and what the state knows of it.
use Rattle.std.proofs.Common.{◌≡◌, ◌∙◌, ◌<◌, ◌==◌, ◌||◌, ap, arith, get_or, inl, inr, List}
use Rattle.std.proofs.Common.{length, Option, None, Some, refl, set, subst, sym, true, false}
use Rattle.std.proofs.Common.{ℕ, Bool}
use Rattle.std.proofs.lemmas.Bool.Decides.{nat_tests}
use Rattle.cfs_file.specs.declared.sizes.TheConstants.{FILE_BLOCKS}
use Rattle.cfs_pmem.specs.Images.{Seen}
use Rattle.cfs_block.specs.BlockImages.{BlockStep}
use Rattle.cfs_core.specs.declared.flag.Flag.{Flag}
use Rattle.cfs_core.specs.declared.flag.Flag.TheVariants as flags
use Rattle.cfs_core.specs.declared.inode_core.Core.{Core}
use Rattle.cfs_core.specs.declared.state.State.TheVariants as states
use Rattle.cfs_core.specs.Words.{has_block, is_lease, track}
use Rattle.cfs_core.proofs.Order.{same_or_not}
use Rattle.cfs_job.specs.Steps.{core_job, lease_in}
use Rattle.cfs_job.specs.Views.{JobView, TileView}
use Rattle.cfs_medium.specs.Shows.{Shows}
use Rattle.cfs_medium.specs.World.{World}
use Rattle.cfs_medium.specs.WorldCalls.{HasBlock, with_block}
use Rattle.cfs_medium.proofs.Worlds.{at_other, at_place}
use Rattle.cfs_tracker.specs.declared.cell.Cell.{Cell}
use Rattle.cfs_tracker.specs.declared.cell.Cell.TheVariants as kinds
use Rattle.cfs_tracker.specs.Cells.{cell_at, held_in, moving, with_cell}
use Rattle.cfs_tracker.specs.Follows.{CellStands, Follows}
use Rattle.cfs_tracker.specs.View.{TrackerView}
use Rattle.cfs_tracker.proofs.Celling.{cell-beside, cell-here, follows-cell, is_lent_cell}
use Rattle.cfs_tracker.proofs.Celling.{not-lent-cell}
use Rattle.cfs_inode.specs.Stands.{IsAtRest, IsHeld, JobStands, Stands, Together}
use Rattle.cfs_inode.specs.View.{StateView}
use Rattle.cfs_inode.specs.Trims.{with_block_cell}
use Rattle.cfs_inode.proofs.Replacing.{all-go}

-- ---- jobs

pub first-has : (job : JobView) (tile : TileView) → job.first ≡ Some tile →
    has_block (states.Out (core_job job)) tile.at ≡ true
first-has job tile is =
    let own : (tile.at == tile.at) ≡ true = grind (arith, nat_tests) in
    rw (is, own) refl

pub second-has : (job : JobView) (tile : TileView) → job.second ≡ Some tile →
    has_block (states.Out (core_job job)) tile.at ≡ true
second-has job tile is =
    let own : (tile.at == tile.at) ≡ true = grind (arith, nat_tests) in
    rw (is, own) (or-right (is_first job.first tile.at))
  where
    is_first : Option TileView → ℕ → Bool
    is_first tile block = is_lease (lease_in tile) block

    or-right : (b : Bool) → (b || true) ≡ true
    or-right true = refl
    or-right false = refl

pub held-beside : (tile : Option TileView) (block : ℕ) (here : Option (Seen BlockStep))
    (world next : World) → HasBlock block here world next →
    ((t : TileView) → tile ≡ Some t → t.at ≡ block → ⊥) → IsHeld tile world.blocks →
    IsHeld tile next.blocks
held-beside None block here world next has apart held = tt
held-beside (Some tile) block here world next has apart held =
    has.others tile.at (apart tile refl) ∙ held

-- no job has the block
abbrev pub IsWithNone : Core → ℕ → Type 0
IsWithNone core block = (place : ℕ) → has_block (track core.tracks place).state block ≡ true → ⊥

job-without : (ino block : ℕ) (job : JobView) (core now : Core) (world next : World)
    (here : Option (Seen BlockStep)) → HasBlock block here world next → IsWithNone core block →
    now.tracks ≡ core.tracks → JobStands ino job core world → JobStands ino job now next
job-without ino block job core now world next here has none same stands =
    let out : (at : ℕ) → has_block (states.Out (core_job job)) at ≡ true → at ≡ block → ⊥ =
    (λ at own is. none job.place (rw stands.state
    (subst (λ (k : ℕ). has_block (states.Out (core_job job)) k ≡ true) is own))) in
    record {
      ino_is = stands.ino_is;
      state = ap (λ ts. (track ts job.place).state) same ∙ stands.state;
      span = ap (λ ts. (track ts job.place).span) same ∙ stands.span;
      slots = has.slots job.place ∙ stands.slots;
      first = held-beside job.first block here world next has
          (λ t is. out t.at (first-has job t is)) stands.first;
      second = held-beside job.second block here world next has
          (λ t is. out t.at (second-has job t is)) stands.second;
    }

-- ---- the state

pub block-put : (block : ℕ) (here : Option (Seen BlockStep)) (world : World) →
    HasBlock block here world (with_block block here world)
block-put block here world = record {
  size = refl;
  slots = λ place. refl;
  here_is = at_place block here (world.blocks block);
  others = λ other apart. at_other other block here (world.blocks other) apart;
}

pub rest-set : (ino : ℕ) (cells : List (Cell (Seen BlockStep))) (block : ℕ)
    (cell : Cell (Seen BlockStep)) (k : ℕ) → block < length cells → IsAtRest ino block cell →
    IsAtRest ino k (cell_at cells k) → IsAtRest ino k (cell_at (set cells block cell) k)
rest-set ino cells block cell k less own rest = elim (same_or_not k block) [
  | inl same ↦
      subst (λ (n : ℕ). IsAtRest ino n (cell_at (set cells block cell) n)) (sym same)
      (subst (λ c. IsAtRest ino block c) (sym (cell-here cells block cell less)) own)
  | inr apart ↦
      subst (λ c. IsAtRest ino k c) (sym (cell-beside cells block k cell apart)) rest
]

-- What is to be shown where a block comes to stand for a file block that no job has.
pub record Retags (old : StateView) (block : ℕ) (cell : Cell (Seen BlockStep))
    (here : Option (Seen BlockStep)) (core now : Core) (world next : World) : Type 0 where
  pub less : block < FILE_BLOCKS
  pub has : HasBlock block here world next
  pub follows : Follows (with_cell block cell old.tracker) now
  pub shows : Shows old.ino now next
  pub tracks : now.tracks ≡ core.tracks
  pub free : IsWithNone core block
  pub held : (seen : Seen BlockStep) → held_in cell ≡ Some seen → here ≡ Some seen
  pub rest : IsAtRest old.ino block cell

retagged-blocks : (old : StateView) (block : ℕ) (cell : Cell (Seen BlockStep))
    (here : Option (Seen BlockStep)) (core now : Core) (world next : World) →
    Retags old block cell here core now world next → Stands old core world → (k : ℕ)
    (seen : Seen BlockStep) → k < FILE_BLOCKS →
    held_in (cell_at (set old.tracker.cells block cell) k) ≡ Some seen →
    next.blocks k ≡ Some seen
retagged-blocks old block cell here core now world next puts stands k seen less has =
    elim (same_or_not k block) [
      | inl same ↦
          let at : cell_at (set old.tracker.cells block cell) block ≡ cell =
          cell-here old.tracker.cells block cell (omega (arith, puts.less, stands.follows.many)) in
          let held : held_in cell ≡ Some seen =
          sym (ap held_in at) ∙ (ap (λ (n : ℕ).
          held_in (cell_at (set old.tracker.cells block cell) n)) (sym same) ∙ has) in
          ap (λ (n : ℕ). next.blocks n) same ∙ (puts.has.here_is ∙ puts.held seen held)
      | inr apart ↦
          puts.has.others k apart
          ∙ stands.blocks k seen less
          (ap held_in (sym (cell-beside old.tracker.cells block k cell apart)) ∙ has)
    ]

pub retagged : (old : StateView) (block : ℕ) (cell : Cell (Seen BlockStep))
    (here : Option (Seen BlockStep)) (jobs : List JobView) (core now : Core)
    (world next : World) → Retags old block cell here core now world next →
    Together old jobs core world → Together (with_block_cell block cell old) jobs now next
retagged old block cell here jobs core now world next puts together =
    let stands = together.stands in
    record {
      stands = record {
        follows = puts.follows;
        shows = puts.shows;
        size = puts.has.size ∙ stands.size;
        slots = λ place entry held there is.
            (let was = stands.slots place entry held there is in record {
              opened = was.opened;
              here = puts.has.slots place ∙ was.here;
            });
        doubt = λ doubt slots is has. puts.has.slots doubt.place ∙ stands.doubt doubt slots is has;
        blocks = retagged-blocks old block cell here core now world next puts stands;
        rest = λ k less.
            rest-set old.ino old.tracker.cells block cell k
            (omega (arith, puts.less, stands.follows.many)) puts.rest (stands.rest k less);
      };
      out = all-go old.ino jobs core now world next
          (λ job one. job-without old.ino block job core now world next here puts.has puts.free
          puts.tracks one) together.out;
      once = together.once;
    }

-- a block that is with no job
pub with-none : {S D B : Type 0} (view : TrackerView S D B) (core : Core) (block : ℕ) →
    is_lent_cell (cell_at view.cells block) ≡ false → Follows view core → IsWithNone core block
with-none view core block free follows = λ place has.
    not-lent-cell (cell_at view.cells block) place free (follows.lent place block has)

-- ---- it is taken out

moving-stands : {B : Type 0} (cell : Cell B) (flag : Flag) → CellStands cell flag →
    CellStands (moving cell) flag
moving-stands kinds.Hole flag is = is
moving-stands (kinds.Home home) flag is = is
moving-stands (kinds.Unsure home) flag is = is
moving-stands (kinds.Lent place) flag is = is
moving-stands (kinds.Moving is_sure) flag is = is

pub held-free : {B : Type 0} (cell : Cell B) (home : B) → held_in cell ≡ Some home →
    is_lent_cell cell ≡ false
held-free kinds.Hole home h = cc
held-free (kinds.Home x) home h = refl
held-free (kinds.Unsure x) home h = refl
held-free (kinds.Lent place) home h = cc
held-free (kinds.Moving is_sure) home h = cc

pub follows-moving : {S D B : Type 0} (view : TrackerView S D B) (core : Core) (block : ℕ)
    (home : B) → block < FILE_BLOCKS → held_in (cell_at view.cells block) ≡ Some home →
    Follows view core → Follows (with_cell block (moving (cell_at view.cells block)) view) core
follows-moving view core block home less has follows =
    follows-cell view core block (moving (cell_at view.cells block)) core.tags follows
    follows.reached less (held-free (cell_at view.cells block) home has)
    (λ other apart. refl)
    (moving-stands (cell_at view.cells block) (get_or core.tags block flags.Off)
    (follows.cells block less))
