-- Steps on one block: what is left at each moment, and what the world shows behind them.
use Rattle.std.proofs.Common.{◌≡◌, ◌≢◌, inl, inr, ℕ, ◌+◌, ◌*◌, ◌/◌, ◌<◌, ◌==◌, Bool, true, false, if◌then◌else◌, Option, Some, None, List, length, get_or, arith, refl, sym, ap, subst, ◌∙◌}
use Rattle.std.proofs.Math.Path.{fun_ext}
use Rattle.cfs_file.specs.declared.sizes.TheConstants.{BLOCK_LEN, FILE_BLOCKS}
use Rattle.cfs_core.specs.declared.flag.Flag.TheVariants.{Off}
use Rattle.cfs_core.specs.declared.inode_core.Core.{Core}
use Rattle.cfs_core.proofs.Legal.{same_number}
use Rattle.cfs_core.proofs.Order.{same_or_not}
use Rattle.cfs_pmem.specs.declared.trace.Asked.{Asked}
use Rattle.cfs_pmem.specs.Asks.{AreStepsOn}
use Rattle.cfs_pmem.specs.Images.{Seen, devices_of, stepped}
use Rattle.cfs_pmem.specs.Moments.{Moments}
use Rattle.cfs_pmem.specs.Objects.{IsBehind}
use Rattle.cfs_pmem.proofs.AllMomentLemmas.{among}
use Rattle.cfs_pmem.proofs.MomentLemmas.{at_end}
use Rattle.cfs_block.specs.BlockImages.{BlockStep, Content, IsBlockImage}
use Rattle.cfs_medium.specs.BlockCalls.{DiffersIn, MayBe}
use Rattle.cfs_medium.specs.Laws.{BlocksMayChange}
use Rattle.cfs_medium.specs.Shows.{BlockFits, BlockShown, HasShape, ReadsAs, Recovers, RemainsFit, Shows}
use Rattle.cfs_medium.specs.World.{IsImageAt, MayRemain, Remains, World}
use Rattle.cfs_medium.specs.WorldCalls.{HasBlock, IsWorldCall, WorldMoments, of_block, with_block}
use Rattle.cfs_medium.proofs.LiveLeft.{fitting-recovers}
use Rattle.cfs_medium.proofs.Worlds.{at_other, at_place}

-- ---- worlds with another block

blocks-same : (block : ℕ) (here : Option (Seen BlockStep)) (world : World) → world.blocks block ≡ here →
    (other : ℕ) → (if other == block then here else world.blocks other) ≡ world.blocks other
blocks-same block here world is other = test (other == block) refl
  where
    test : (b : Bool) → (other == block) ≡ b →
        (if other == block then here else world.blocks other) ≡ world.blocks other
    test true same =
        rw same (sym is ∙ ap (λ (k : ℕ). world.blocks k) (sym (same_number other block same)))
    test false differs = rw differs refl

-- a world that has this block there already
pub same_block : (block : ℕ) (here : Option (Seen BlockStep)) (world : World) →
    world.blocks block ≡ here → with_block block here world ≡ world
same_block block here world is =
    ap (λ (f : ℕ → Option (Seen BlockStep)). record world { blocks = f })
    (fun_ext (blocks-same block here world is))

replaced : (block : ℕ) (old new : Option (Seen BlockStep)) (world : World) →
    HasBlock block new (with_block block old world) (with_block block new world)
replaced block old new world = record {
  size = refl;
  slots = λ place. refl;
  here_is = at_place block new (world.blocks block);
  others = λ other differs.
      at_other other block new (world.blocks other) differs
      ∙ sym (at_other other block old (world.blocks other) differs);
}

block_call : (block : ℕ) (world : World) (asked : List Asked) (seen now : Seen BlockStep) →
    IsBehind seen now → 0 < length asked → AreStepsOn (devices_of seen) asked →
    IsWorldCall asked (with_block block (Some seen) world) (with_block block (Some now) world)
block_call block world asked seen now behind some own =
    of_block block seen now (at_place block (Some seen) (world.blocks block)) behind
    (record { some = some; own = own }) (replaced block (Some seen) (Some now) world)

block_moments : (block : ℕ) (world : World) (P : Content → Type 0) (Q : Remains → Type 0)
    {asked_old asked_new : List Asked} {old new : Seen BlockStep} →
    ((seen : Seen BlockStep) →
    ((image : Content) → IsBlockImage seen.history image → P image) →
    (remains : Remains) → MayRemain (with_block block (Some seen) world) remains → Q remains) →
    Moments IsBlockImage P asked_old old asked_new new →
    WorldMoments Q asked_old (with_block block (Some old) world) asked_new
    (with_block block (Some new) world)
block_moments block world P Q {asked_old} {asked_new} {old} {new} gives moments =
    among tt
    (record {
      tick = λ step asked seen numbers some own.
          block_call block world asked seen (stepped step seen) (inr (step, refl)) some
          (rw numbers own);
      look = λ asked seen numbers some own.
          block_call block world asked seen seen (inl refl) some (rw numbers own);
      gives = gives;
    }) moments

-- ---- the other blocks

-- a block that the two cores know alike fits the one where it fits the other
other-fits : (ino block at : ℕ) (core now : Core) (content : Content) → DiffersIn block core now →
    at ≢ block → BlockFits ino at (get_or core.tags at Off) core.loose core.bytes content →
    BlockFits ino at (get_or now.tags at Off) now.loose now.bytes content
other-fits ino block at core now content differs other fits = record {
  tag_is = rw (differs.tags at other) fits.tag_is;
  free = fits.free;
  bytes_are = λ set k below firm.
      let outside : (BLOCK_LEN * at + k) / BLOCK_LEN ≢ block = λ is. other (omega (arith, is)) in
      fits.bytes_are set k below
      (sym (differs.loose (BLOCK_LEN * at + k) outside) ∙ firm)
      ∙ sym (differs.bytes (BLOCK_LEN * at + k) outside);
}

other-reads : (ino block at : ℕ) (core now : Core) (here : Option (Seen BlockStep)) →
    DiffersIn block core now → at ≢ block → ReadsAs ino at core.bytes here →
    ReadsAs ino at now.bytes here
other-reads ino block at core now None differs other reads = tt
other-reads ino block at core now (Some seen) differs other reads = λ set k below.
    let outside : (BLOCK_LEN * at + k) / BLOCK_LEN ≢ block = λ is. other (omega (arith, is)) in
    reads set k below ∙ sym (differs.bytes (BLOCK_LEN * at + k) outside)

beside-fits : (ino block : ℕ) (core now : Core) (world : World) (here : Option (Seen BlockStep))
    (remains : Remains) → Shows ino core world → DiffersIn block core now →
    MayRemain (with_block block here world) remains →
    BlockFits ino block (get_or now.tags block Off) now.loose now.bytes (remains.blocks block) →
    RemainsFit ino now remains
beside-fits ino block core now world here remains shows differs may fits = record {
  size = rw (differs.size, differs.sizes) (shows.sizes remains.size may.size);
  slots = λ place. rw (differs.held place)
      (shows.slots place (remains.slots place) (may.slots place));
  blocks = at_block;
}
  where
    at_block : (at : ℕ) → at < FILE_BLOCKS →
        BlockFits ino at (get_or now.tags at Off) now.loose now.bytes (remains.blocks at)
    at_block at within = elim (same_or_not at block) [
      | inl same ↦
          subst (λ k. BlockFits ino k (get_or now.tags k Off) now.loose now.bytes (remains.blocks k))
          (sym same) fits
      | inr other ↦
          let left : IsImageAt (world.blocks at) (remains.blocks at) =
          subst (λ o. IsImageAt o (remains.blocks at))
          (at_other at block here (world.blocks at) other) (may.blocks at) in
          other-fits ino block at core now (remains.blocks at) differs other
          ((shows.blocks at within).images (remains.blocks at) left)
    ]

pub block_shows : (ino block : ℕ) (core now : Core) (world : World) (here : Option (Seen BlockStep)) →
    Shows ino core world → DiffersIn block core now → HasShape now →
    BlockShown ino block (get_or now.tags block Off) now.loose now.bytes here →
    Shows ino now (with_block block here world)
block_shows ino block core now world here shows differs shape shown = record {
  shape = shape;
  sizes = λ words image. rw (differs.size, differs.sizes) (shows.sizes words image);
  size_now = shows.size_now ∙ sym differs.size;
  slots = λ place. rw (differs.held place) (shows.slots place);
  blocks = at_block;
}
  where
    at_block : (at : ℕ) → at < FILE_BLOCKS →
        BlockShown ino at (get_or now.tags at Off) now.loose now.bytes
        ((with_block block here world).blocks at)
    at_block at within = elim (same_or_not at block) [
      | inl same ↦
          subst (λ k. BlockShown ino k (get_or now.tags k Off) now.loose now.bytes
          ((with_block block here world).blocks k)) (sym same)
          (rw (at_place block here (world.blocks block)) shown)
      | inr other ↦
          rw (at_other at block here (world.blocks at) other)
          (record {
            images = λ content image. other-fits ino block at core now content differs other
                ((shows.blocks at within).images content image);
            reads = other-reads ino block at core now (world.blocks at) differs other
                (shows.blocks at within).reads;
          })
    ]

pub same_core : (block : ℕ) (core : Core) → DiffersIn block core core
same_core block core = record {
  size = refl;
  sizes = refl;
  held = λ place. refl;
  tags = λ at other. refl;
  loose = λ position other. refl;
  bytes = λ position other. refl;
}

pub blocks-change : BlocksMayChange
blocks-change ino n block call core now world seen new asked_old asked_new shows here differs good
    shape room fits reads moments = (
      subst (λ w. WorldMoments (Recovers ino n now) asked_old w asked_new
          (with_block block (Some new) world)) (same_block block (Some seen) world here)
          (block_moments block world (MayBe call seen) (Recovers ino n now) gives moments),
      block_shows ino block core now world (Some new) shows differs shape
          (record { images = λ content image. fits content (at_end moments content image); reads = reads }),
    )
  where
    gives : (at : Seen BlockStep) →
        ((content : Content) → IsBlockImage at.history content → MayBe call seen content) →
        (remains : Remains) → MayRemain (with_block block (Some at) world) remains →
        Recovers ino n now remains
    gives at each remains may =
        let left : IsImageAt (Some at) (remains.blocks block) =
        subst (λ o. IsImageAt o (remains.blocks block))
        (at_place block (Some at) (world.blocks block)) (may.blocks block) in
        fitting-recovers ino n now remains good shape
        (beside-fits ino block core now world (Some at) remains shows differs may
        (fits (remains.blocks block) (each (remains.blocks block) left))) room
