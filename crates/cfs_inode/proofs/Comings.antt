-- A job comes back, and what the state knows of its place.
use Rattle.std.proofs.Common.{◌≡◌, ◌∙◌, ◌<◌, ap, inl, inr, length, length-set, set, suc, zero, List}
use Rattle.std.proofs.Common.{[], ◌∷◌, Option, None, Some, refl, subst, sym, ℕ, arith}
use Rattle.cfs_file.specs.declared.sizes.TheConstants.{FILE_BLOCKS}
use Rattle.cfs_pmem.specs.Images.{Seen, WordStep}
use Rattle.cfs_block.specs.BlockImages.{BlockStep}
use Rattle.cfs_core.specs.declared.inode_core.Core.{Core}
use Rattle.cfs_core.specs.declared.track.Track.{Track}
use Rattle.cfs_core.specs.Words.{track}
use Rattle.cfs_core.proofs.Order.{same_or_not}
use Rattle.cfs_job.specs.Views.{JobView, TileView}
use Rattle.cfs_medium.specs.Shows.{Shows}
use Rattle.cfs_medium.specs.World.{World}
use Rattle.cfs_tracker.specs.declared.cell.Cell.{Cell}
use Rattle.cfs_tracker.specs.declared.cell.Cell.TheVariants as kinds
use Rattle.cfs_tracker.specs.declared.in_doubt.InDoubt.{InDoubt}
use Rattle.cfs_tracker.specs.declared.pending.Pending.{Pending}
use Rattle.cfs_tracker.specs.Cells.{cell_at, held_in}
use Rattle.cfs_tracker.specs.Finish.{home}
use Rattle.cfs_tracker.specs.Follows.{Follows}
use Rattle.cfs_tracker.specs.View.{TrackerView, entry_at}
use Rattle.cfs_tracker.proofs.Celling.{cell-beside, cell-here}
use Rattle.cfs_inode.specs.Backs.{tile_back}
use Rattle.cfs_inode.specs.Stands.{AllStand, AreHeld, IsAtRest, IsBeside, IsHeld, JobStands, Stands}
use Rattle.cfs_inode.specs.Stands.{Together, slots_in}
use Rattle.cfs_inode.specs.View.{Held, Seens, StateView}

-- ---- the other jobs

pub others-go : (ino place : ℕ) (jobs : List JobView) (core now : Core) (world after : World) →
    ((job : JobView) → (job.place ≡ place → ⊥) → JobStands ino job core world →
    JobStands ino job now after) → IsBeside place jobs →
    AllStand ino jobs core world → AllStand ino jobs now after
others-go ino place [] core now world after go beside all = tt
others-go ino place (job ∷ jobs) core now world after go beside all =
    (go job beside.0 all.0, others-go ino place jobs core now world after go beside.1 all.1)

-- ---- the blocks

-- a block that is kept now came home from the job, or was kept before
pub held-home : (cells : List (Cell (Seen BlockStep))) (tile : Option TileView)
    (blocks : ℕ → Option (Seen BlockStep)) (block : ℕ) (seen : Seen BlockStep) →
    block < length cells → IsHeld tile blocks →
    (held_in (cell_at cells block) ≡ Some seen → blocks block ≡ Some seen) →
    held_in (cell_at (home (tile_back tile) cells) block) ≡ Some seen →
    blocks block ≡ Some seen
held-home cells None blocks block seen less held before has = before has
held-home cells (Some tile) blocks block seen less held before has =
    elim (same_or_not block tile.at) [
      | inl same ↦
          let here : cell_at (home (tile_back (Some tile)) cells) block ≡ kinds.Home tile.seen =
          ap (λ n. cell_at (home (tile_back (Some tile)) cells) n) same
          ∙ cell-here cells tile.at (kinds.Home tile.seen) (subst (λ n. n < length cells) same less)
          in
          let both : Some tile.seen ≡ Some seen = ap held_in (sym here) ∙ has in
          ap blocks same ∙ (held ∙ both)
      | inr apart ↦
          before (ap held_in (sym (cell-beside cells tile.at block (kinds.Home tile.seen) apart))
          ∙ has)
    ]

-- ---- the state

-- What is to be shown where a job comes back, of the size word, the state's tracker, the core and
-- the devices behind that.
pub record Returns (old : StateView) (job : JobView) (size : Seen WordStep)
    (tracker : TrackerView Held Seens (Seen BlockStep)) (core now : Core)
    (world after : World) : Type 0 where
  pub follows : Follows tracker now
  pub shows : Shows old.ino now after
  pub size_is : after.size ≡ size
  pub slots_are : (q : ℕ) → (q ≡ job.place → ⊥) → after.slots q ≡ world.slots q
  pub blocks_are : (block : ℕ) → after.blocks block ≡ world.blocks block
  pub tracks : (q : ℕ) → (q ≡ job.place → ⊥) → track now.tracks q ≡ track core.tracks q
  pub cells : tracker.cells
      ≡ home (tile_back job.second) (home (tile_back job.first) old.tracker.cells)
  pub entries : (q : ℕ) → (q ≡ job.place → ⊥) →
      entry_at tracker.entries q ≡ entry_at old.tracker.entries q
  pub here : (entry : Pending Held) (held : Held) →
      entry_at tracker.entries job.place ≡ Some entry → slots_in entry.doing ≡ Some held →
      AreHeld job.place held after
  pub doubt : tracker.doubt ≡ old.tracker.doubt
  pub beside : (doubt : InDoubt Seens) → old.tracker.doubt ≡ Some doubt →
      doubt.place ≡ job.place → ⊥

held-tile : (tile : Option TileView) (one other : ℕ → Option (Seen BlockStep)) →
    ((block : ℕ) → other block ≡ one block) → IsHeld tile one → IsHeld tile other
held-tile None one other same held = tt
held-tile (Some tile) one other same held = same tile.at ∙ held

returned-slots : (old : StateView) (job : JobView) (size : Seen WordStep)
    (tracker : TrackerView Held Seens (Seen BlockStep)) (core now : Core)
    (world after : World) → Returns old job size tracker core now world after →
    Stands old core world → (q : ℕ) (entry : Pending Held) (held : Held) →
    entry_at tracker.entries q ≡ Some entry → slots_in entry.doing ≡ Some held →
    AreHeld q held after
returned-slots old job size tracker core now world after puts stands q entry held there has =
    elim (same_or_not q job.place) [
      | inl same ↦
          subst (λ p. AreHeld p held after) (sym same)
          (puts.here entry held (ap (λ p. entry_at tracker.entries p) (sym same) ∙ there) has)
      | inr apart ↦
          let was = stands.slots q entry held (sym (puts.entries q apart) ∙ there) has in
          record { opened = was.opened; here = puts.slots_are q apart ∙ was.here }
    ]

kept-before : (old : StateView) (job : JobView) (core : Core) (world : World) →
    Stands old core world → JobStands old.ino job core world → (block : ℕ)
    (seen : Seen BlockStep) → block < FILE_BLOCKS →
    held_in (cell_at (home (tile_back job.second) (home (tile_back job.first) old.tracker.cells))
    block) ≡ Some seen →
    world.blocks block ≡ Some seen
kept-before old job core world stands out block seen less has =
    let many : block < length old.tracker.cells = omega (arith, less, stands.follows.many) in
    held-home (home (tile_back job.first) old.tracker.cells) job.second world.blocks block seen
    (subst (λ n. block < n) (sym (one-length job.first)) many) out.second
    (held-home old.tracker.cells job.first world.blocks block seen many out.first
    (λ kept. stands.blocks block seen less kept)) has
  where
    one-length : (tile : Option TileView) →
        length (home (tile_back tile) old.tracker.cells) ≡ length old.tracker.cells
    one-length None = refl
    one-length (Some tile) =
        length-set old.tracker.cells tile.at (kinds.Home tile.seen)

rest-at-home : (P : Cell (Seen BlockStep) → Type 0) (cells : List (Cell (Seen BlockStep)))
    (at k : ℕ) (seen : Seen BlockStep) → P (kinds.Home seen) → P (cell_at cells k) →
    P (cell_at (set cells at (kinds.Home seen)) k)
rest-at-home P [] at k seen own rest = rest
rest-at-home P (cell ∷ cells) zero zero seen own rest = own
rest-at-home P (cell ∷ cells) zero (suc k) seen own rest = rest
rest-at-home P (cell ∷ cells) (suc at) zero seen own rest = rest
rest-at-home P (cell ∷ cells) (suc at) (suc k) seen own rest =
    rest-at-home P cells at k seen own rest

rest-back : (ino block : ℕ) (cells : List (Cell (Seen BlockStep))) (tile : Option TileView) →
    IsAtRest ino block (cell_at cells block) →
    IsAtRest ino block (cell_at (home (tile_back tile) cells) block)
rest-back ino block cells None rest = rest
rest-back ino block cells (Some tile) rest =
    rest-at-home (λ cell. IsAtRest ino block cell) cells tile.at block tile.seen tt rest

pub returned : (old : StateView) (job : JobView) (jobs : List JobView) (size : Seen WordStep)
    (tracker : TrackerView Held Seens (Seen BlockStep)) (core now : Core)
    (world after : World) → Returns old job size tracker core now world after →
    Together old (job ∷ jobs) core world →
    Together (record old { size = size; tracker = tracker }) jobs now after
returned old job jobs size tracker core now world after puts together = record {
  stands = record {
    follows = puts.follows;
    shows = puts.shows;
    size = puts.size_is;
    slots = λ q entry held there has.
        returned-slots old job size tracker core now world after puts together.stands q entry held
        there has;
    doubt = λ doubt slots is has.
        let was : old.tracker.doubt ≡ Some doubt = sym puts.doubt ∙ is in
        puts.slots_are doubt.place (puts.beside doubt was)
        ∙ together.stands.doubt doubt slots was has;
    blocks = λ block seen less has.
        puts.blocks_are block
        ∙ kept-before old job core world together.stands together.out.0 block seen less
        (ap (λ cells. held_in (cell_at cells block)) (sym puts.cells) ∙ has);
    rest = λ block less.
        subst (λ cells. IsAtRest old.ino block (cell_at cells block)) (sym puts.cells)
        (rest-back old.ino block (home (tile_back job.first) old.tracker.cells) job.second
        (rest-back old.ino block old.tracker.cells job.first
        (together.stands.rest block less)));
  };
  out = others-go old.ino job.place jobs core now world after
      (λ other apart stands.
      let same = puts.tracks other.place apart in
      record {
        ino_is = stands.ino_is;
        state = ap (λ (t : Track). t.state) same ∙ stands.state;
        span = ap (λ (t : Track). t.span) same ∙ stands.span;
        slots = puts.slots_are other.place apart ∙ stands.slots;
        first = held-tile other.first world.blocks after.blocks puts.blocks_are stands.first;
        second = held-tile other.second world.blocks after.blocks puts.blocks_are stands.second;
      }) together.once.0 together.out.1;
  once = together.once.1;
}
