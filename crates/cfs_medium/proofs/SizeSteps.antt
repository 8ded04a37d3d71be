-- Steps on the size word, and devices that come and go: what is left at each moment, and what the
-- world shows behind them.
use Rattle.std.proofs.Common.{◌≡◌, inl, inr, ℕ, true, false, Option, Some, None, List, [], ◌∷◌, ◌+◌, ◌≤◌, length, get_or, arith, refl}
use Rattle.std.proofs.lemmas.Bool.Decides.{nat_tests}
use Rattle.cfs_core.specs.declared.flag.Flag.TheVariants.{Off}
use Rattle.cfs_core.specs.declared.inode_core.Core.{Core}
use Rattle.cfs_core.specs.Words.{can_be}
use Rattle.cfs_core.specs.Medium.{is_size}
use Rattle.cfs_core.specs.Good.{IsGood}
use Rattle.cfs_pmem.specs.declared.trace.Asked.{Asked}
use Rattle.cfs_pmem.specs.Images.{Seen, WordStep, IsImage, IsSetFrom, stepped, words_of}
use Rattle.cfs_pmem.specs.Moments.{Moments}
use Rattle.cfs_pmem.proofs.AllMomentLemmas.{among}
use Rattle.cfs_pmem.proofs.MomentLemmas.{at_end}
use Rattle.cfs_block.specs.BlockImages.{BlockStep, Content, content_of}
use Rattle.cfs_medium.specs.Differs.{DiffersInSize}
use Rattle.cfs_medium.specs.Laws.{BlocksMayCome, SizesMayBeSet, SlotsMayCome}
use Rattle.cfs_medium.specs.Shows.{BlockFits, BlockShown, HasShape, ReadsAs, Recovers, RemainsFit, Shows, SlotsShown, holding, is_for, is_gated}
use Rattle.cfs_medium.specs.Store.{tag_of}
use Rattle.cfs_medium.specs.World.{MayRemain, Remains, World, head_words}
use Rattle.cfs_medium.specs.WorldCalls.{AreShut, HasBlock, HasSlots, IsBare, WorldMoments, for_block, for_slots, of_size, with_block, with_size, with_slots}
use Rattle.cfs_medium.proofs.BlockSteps.{block_shows, same_core}
use Rattle.cfs_medium.proofs.LiveLeft.{fitting-recovers, shown-recovers}
use Rattle.cfs_medium.proofs.SlotSteps.{differs-none, slots_show}
use Rattle.cfs_medium.proofs.Worlds.{at_other, at_place}

-- ---- the size word

size-fits : (ino : ℕ) (core now : Core) (world : World) (seen : Seen WordStep) (remains : Remains) →
    Shows ino core world → DiffersInSize core now → MayRemain (with_size seen world) remains →
    is_size now (get_or remains.size 0 0) ≡ true → RemainsFit ino now remains
size-fits ino core now world seen remains shows differs may size = record {
  size = size;
  slots = λ place. rw (differs.held place)
      (shows.slots place (remains.slots place) (may.slots place));
  blocks = λ block within. rw (differs.tags, differs.loose, differs.bytes)
      ((shows.blocks block within).images (remains.blocks block) (may.blocks block));
}

-- at each moment of a call that sets the size word
pub size-moments : (ino n word : ℕ) (core now : Core) (world : World) (new : Seen WordStep)
    (asked_old asked_new : List Asked) → Shows ino core world → DiffersInSize core now → IsGood now →
    HasShape now → length now.log + 2 ≤ n →
    ((words : List ℕ) → IsSetFrom world.size 0 word words → is_size now (get_or words 0 0) ≡ true) →
    Moments IsImage (IsSetFrom world.size 0 word) asked_old world.size asked_new new →
    WorldMoments (Recovers ino n now) asked_old world asked_new (with_size new world)
size-moments ino n word core now world new asked_old asked_new shows differs good shape room fits moments =
    among tt
    (record {
      tick = λ step asked seen numbers some own.
          of_size (stepped step seen) (inr (step, refl)) (record { some = some; own = rw numbers own });
      look = λ asked seen numbers some own.
          of_size seen (inl refl) (record { some = some; own = rw numbers own });
      gives = gives;
    }) moments
  where
    gives : (seen : Seen WordStep) →
        ((words : List ℕ) → IsImage seen.history words → IsSetFrom world.size 0 word words) →
        (remains : Remains) → MayRemain (with_size seen world) remains → Recovers ino n now remains
    gives seen each remains may =
        fitting-recovers ino n now remains good shape
        (size-fits ino core now world seen remains shows differs may
        (fits remains.size (each remains.size may.size))) room

-- what the devices show with another region of the size word
pub size_shows : (ino : ℕ) (core now : Core) (world : World) (new : Seen WordStep) → Shows ino core world →
    DiffersInSize core now → HasShape now →
    ((words : List ℕ) → IsImage new.history words → is_size now (get_or words 0 0) ≡ true) →
    get_or (words_of new) 0 0 ≡ now.size → Shows ino now (with_size new world)
size_shows ino core now world new shows differs shape fits reads = record {
  shape = shape;
  sizes = fits;
  size_now = reads;
  slots = λ place. rw (differs.held place) (shows.slots place);
  blocks = λ block within. rw (differs.tags, differs.loose, differs.bytes) (shows.blocks block within);
}

pub sizes-set : SizesMayBeSet
sizes-set ino n word core now world new asked_old asked_new shows differs good shape room fits reads moments = (
  size-moments ino n word core now world new asked_old asked_new shows differs good shape room fits moments,
  size_shows ino core now world new shows differs shape (λ words image. fits words (at_end moments words image)) reads,
)

-- ---- slots and blocks that come and go

shut-fits : (ino place : ℕ) (core : Core) (seens : List (Seen WordStep)) → AreShut seens →
    can_be (holding core core.doubt place).gate false ≡ true →
    SlotsShown ino place (holding core core.doubt place) seens
shut-fits ino place core seens shut may_close slots images =
    let closed : is_gated (head_words slots) ≡ false = shut slots images in
    record {
      gate = rw closed may_close;
      number = λ gated. cc;
      mark = λ gated. cc;
      file = λ gated. cc;
      request = λ gated. cc;
    }

pub slots-come : SlotsMayCome
slots-come ino n place core world seens asked shows shut comes good room may_close = (
  record {
    distinct = tt;
    passed = record { asked = []; world = with_slots place seens world } ∷ [];
    ends = refl;
    asked = refl;
    each = (
      shown-recovers ino n core (with_slots place seens world) good behind room,
      for_slots place seens shut comes there,
      shown-recovers ino n core world good shows room,
    );
  },
  behind,
)
  where
    behind : Shows ino core (with_slots place seens world)
    behind = slots_show ino place core core world seens shows (differs-none place core) shows.shape
        (shut-fits ino place core seens comes may_close)

    there : HasSlots place seens world (with_slots place seens world)
    there = record {
      size = refl;
      here = at_place place seens (world.slots place);
      others = λ other differs. at_other other place seens (world.slots other) differs;
      blocks = λ block. refl;
    }

-- a block that no image tags
bare-shown : (ino block : ℕ) (core : Core) (here : Option (Seen BlockStep)) → IsBare here →
    can_be (get_or core.tags block Off) false ≡ true →
    ((seen : Seen BlockStep) → here ≡ Some seen → is_for ino block (content_of seen) ≡ false) →
    BlockShown ino block (get_or core.tags block Off) core.loose core.bytes here
bare-shown ino block core here bare may_clear untagged = record {
  images = λ content image. fits content (bare content image);
  reads = reads here untagged;
}
  where
    not_for : (content : Content) → content.tag ≡ 0 → is_for ino block content ≡ false
    not_for content tag =
        let differs : content.tag ≡ tag_of ino block → ⊥ = λ same. omega (arith, same, tag) in
        grind (arith, nat_tests)

    fits : (content : Content) → content.tag ≡ 0 →
        BlockFits ino block (get_or core.tags block Off) core.loose core.bytes content
    fits content tag =
        let other : is_for ino block content ≡ false = not_for content tag in
        record {
          tag_is = rw other may_clear;
          free = λ same. tag;
          bytes_are = λ set k below firm. cc;
        }

    reads : (here : Option (Seen BlockStep)) →
        ((seen : Seen BlockStep) → here ≡ Some seen → is_for ino block (content_of seen) ≡ false) →
        ReadsAs ino block core.bytes here
    reads None untagged = tt
    reads (Some seen) untagged = λ set k below.
        let other : is_for ino block (content_of seen) ≡ false = untagged seen refl in
        cc

pub blocks-come : BlocksMayCome
blocks-come ino n block core world here asked shows bare comes untagged good room may_clear = (
  record {
    distinct = tt;
    passed = record { asked = []; world = with_block block here world } ∷ [];
    ends = refl;
    asked = refl;
    each = (
      shown-recovers ino n core (with_block block here world) good behind room,
      for_block block here bare comes there,
      shown-recovers ino n core world good shows room,
    );
  },
  behind,
)
  where
    behind : Shows ino core (with_block block here world)
    behind = block_shows ino block core core world here shows (same_core block core) shows.shape
        (bare-shown ino block core here comes may_clear untagged)

    there : HasBlock block here world (with_block block here world)
    there = record {
      size = refl;
      slots = λ place. refl;
      here_is = at_place block here (world.blocks block);
      others = λ other differs. at_other other block here (world.blocks other) differs;
    }
