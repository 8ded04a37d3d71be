-- What a store that depicts an image recovers, and what is no matter to an inode.
use Rattle.std.specs.Prelude.{◌≡◌, ◌≢◌, ℕ, ◌+◌, ◌*◌, ◌/◌, ◌<◌, ◌≤◌, true, false, Option, None, Some, List, [], ◌∷◌, ◌++◌, length, map, get_or, set}
use Rattle.std.specs.List.{Contains}
use Rattle.cfs_file.specs.Log.{file_of}
use Rattle.cfs_file.specs.declared.sizes.TheConstants.{FILE_BLOCKS}
use Rattle.cfs_core.specs.declared.event.Event.{Event}
use Rattle.cfs_core.specs.declared.image.Image.{Image}
use Rattle.cfs_core.specs.declared.inode_core.Core.{Core}
use Rattle.cfs_core.specs.Fresh.{IsEmpty, IsFresh}
use Rattle.cfs_core.specs.Good.{IsGood, Rises}
use Rattle.cfs_core.specs.declared.flag.Flag.TheVariants.{Off, Unsure}
use Rattle.cfs_pmem.specs.declared.trace.Asked.{Asked}
use Rattle.cfs_pmem.specs.Images.{Seen, WordStep, IsImage, IsSetFrom, words_of}
use Rattle.cfs_pmem.specs.Moments.{Moments}
use Rattle.cfs_pmem.specs.Objects.{IsEachImage}
use Rattle.cfs_core.specs.Words.{can_be}
use Rattle.cfs_core.specs.Medium.{in_doubt, is_image, is_size, live_entries, recovered, stored}
use Rattle.cfs_core.specs.Run.{IsRun, after_all}
use Rattle.cfs_slot.specs.Words.{is_live, tails_of}
use Rattle.cfs_slot.specs.Tails.{numbers_in}
use Rattle.cfs_block.specs.BlockImages.{BlockStep, Content, IsBlockImage, content_of}
use Rattle.cfs_medium.specs.Store.{Store, entry_at, live_in, recovered_file, stored_file, tag_of}
use Rattle.cfs_medium.specs.Depicts.{Depicts, content_at}
use Rattle.cfs_medium.specs.Differs.{DiffersAt, DiffersInSize}
use Rattle.cfs_medium.specs.BlockCalls.{BlockCall, DiffersIn, MayBe}
use Rattle.cfs_medium.specs.Shows.{BlockFits, HasShape, ReadsAs, Recovers, RemainsFit, Shows, SlotFits, holding, is_for}
use Rattle.cfs_medium.specs.World.{AllRemains, Remains, World}
use Rattle.cfs_medium.specs.WorldCalls.{AreShut, IsBare, WorldMoments, with_block, with_size, with_slots}

-- A store that depicts an image stores the file that the image stores. Where the gates of the
-- image's live entries rise, it recovers the file that the image recovers.
abbrev pub DepictedStoresRecover : Type 0
DepictedStoresRecover =
    (ino : ℕ) (store : Store) (core : Core) (image : Image) → Depicts ino store core image →
    (stored_file ino store ≡ stored image)
    × (Rises 0 (map (λ e. e.place) (live_entries core image)) →
    recovered_file ino store ≡ recovered core image)

-- After every run, a store that depicts an image of the core recovers the file after the log, and
-- then the request in doubt exactly where its gate is open.
abbrev pub RunsAreRecovered : Type 0
RunsAreRecovered =
    (core : Core) (events : List Event) (image : Image) (ino : ℕ) (store : Store) → IsFresh core →
    IsRun core events →
    is_image (after_all core events) image ≡ true →
    Depicts ino store (after_all core events) image →
    recovered_file ino store ≡
    file_of (after_all core events).base
    ((after_all core events).log ++ in_doubt (after_all core events).doubt image.doubt)

-- the slot at a place is no tail of a live entry of the inode
abbrev pub IsNoTail : ℕ → List (List ℕ) → ℕ → Type 0
IsNoTail ino slots at =
    (head number : ℕ) → is_live ino (get_or slots head []) ≡ true →
    Contains (numbers_in (tails_of (get_or slots head []))) number → head / 16 * 16 + number ≢ at

-- A slot that is no live entry of the inode, and no tail of one, may come to hold any other words
-- that are no live entry of it.
abbrev pub SlotsOfOthersStay : Type 0
SlotsOfOthersStay =
    (ino at : ℕ) (slots : List (List ℕ)) (words : List ℕ) →
    is_live ino (get_or slots at []) ≡ false → IsNoTail ino slots at → is_live ino words ≡ false →
    live_in ino (set slots at words) ≡ live_in ino slots

-- the tag is that of no file block of the inode
abbrev pub IsOfOthers : ℕ → ℕ → Type 0
IsOfOthers ino tag = (block : ℕ) → block < FILE_BLOCKS → tag ≢ tag_of ino block

-- A block that is not the inode's may come to hold anything that is not the inode's.
abbrev pub BlocksOfOthersStay : Type 0
BlocksOfOthersStay =
    (ino at : ℕ) (store : Store) (content : Content) →
    IsOfOthers ino (content_at store.blocks at).tag → IsOfOthers ino content.tag →
    stored_file ino (record store { blocks = set store.blocks at content }) ≡ stored_file ino store

-- A block that is tagged for another inode, or free, is not the inode's.
abbrev pub TagsAreApart : Type 0
TagsAreApart =
    (ino : ℕ) → IsOfOthers ino 0 ×
    ((other block : ℕ) → other ≢ ino → block < FILE_BLOCKS → IsOfOthers ino (tag_of other block))

-- A store whose size word is 0, with no block and no live slot of the inode, depicts every image of
-- the empty core.
abbrev pub EmptyStoresDepict : Type 0
EmptyStoresDepict =
    (ino : ℕ) (store : Store) (core : Core) (image : Image) → IsEmpty core →
    is_image core image ≡ true → store.size ≡ 0 →
    ((at : ℕ) → entry_at ino store.slots at ≡ None) →
    ((at : ℕ) → IsOfOthers ino (content_at store.blocks at).tag) →
    Depicts ino store core image

-- What fits a good core recovers its file: the one after the log, and then the request in doubt
-- exactly where its gate was left open.
abbrev pub FittingRemainsRecover : Type 0
FittingRemainsRecover =
    (ino n : ℕ) (core : Core) (remains : Remains) → IsGood core → HasShape core →
    RemainsFit ino core remains → length core.log + 2 ≤ n → Recovers ino n core remains

-- So where the devices of an inode show a good core, a crash leaves that file, whatever it leaves.
abbrev pub ShownWorldsRecover : Type 0
ShownWorldsRecover =
    (ino n : ℕ) (core : Core) (world : World) → IsGood core → Shows ino core world →
    length core.log + 2 ≤ n → AllRemains world (Recovers ino n core)

-- The head of the slots at a number has a word set, and each image of them fits another core, which
-- differs from the one that the devices show at this number alone. Then whatever a crash leaves at
-- any moment recovers the other core's file, and behind the call the devices show it.
abbrev pub HeadsMayBeSet : Type 0
HeadsMayBeSet =
    (ino n place at word : ℕ) (core now : Core) (world : World) (head new : Seen WordStep)
    (tails : List (Seen WordStep)) (asked_old asked_new : List Asked) → Shows ino core world →
    world.slots place ≡ head ∷ tails → DiffersAt place core now → IsGood now → HasShape now →
    length now.log + 2 ≤ n →
    ((image : List ℕ) (rest : List (List ℕ)) → IsSetFrom head at word image →
    IsEachImage IsImage tails rest →
    SlotFits ino place (holding now now.doubt place) (image ∷ rest)) →
    Moments IsImage (IsSetFrom head at word) asked_old head asked_new new →
    WorldMoments (Recovers ino n now) asked_old world asked_new
    (with_slots place (new ∷ tails) world)
    × Shows ino now (with_slots place (new ∷ tails) world)

-- So a gate that may be open or closed may be closed, whether that fails or not: the core is the
-- same.
abbrev pub GatesMayClose : Type 0
GatesMayClose =
    (ino n place : ℕ) (core : Core) (world : World) (head new : Seen WordStep)
    (tails : List (Seen WordStep)) (asked_old asked_new : List Asked) → Shows ino core world →
    world.slots place ≡ head ∷ tails → IsGood core → length core.log + 2 ≤ n →
    (holding core core.doubt place).gate ≡ Unsure →
    Moments IsImage (IsSetFrom head 0 0) asked_old head asked_new new →
    WorldMoments (Recovers ino n core) asked_old world asked_new
    (with_slots place (new ∷ tails) world)
    × Shows ino core (with_slots place (new ∷ tails) world)

-- Slots whose gate is closed in every image show a core that knows it closed.
abbrev pub ShutSlotsShow : Type 0
ShutSlotsShow =
    (ino place : ℕ) (core now : Core) (world : World) → Shows ino core world →
    AreShut (world.slots place) → DiffersAt place core now → HasShape now →
    (holding now now.doubt place).gate ≡ Off → Shows ino now world

-- The block of a file block has its tag set, bytes written or is flushed, and each image of it fits
-- another core, which differs from the one that the devices show at this block alone. Then whatever
-- a crash leaves at any moment recovers the other core's file, and behind the call the devices show
-- it.
abbrev pub BlocksMayChange : Type 0
BlocksMayChange =
    (ino n block : ℕ) (call : BlockCall) (core now : Core) (world : World)
    (seen new : Seen BlockStep)
    (asked_old asked_new : List Asked) → Shows ino core world → world.blocks block ≡ Some seen →
    DiffersIn block core now → IsGood now → HasShape now → length now.log + 2 ≤ n →
    ((content : Content) → MayBe call seen content →
    BlockFits ino block (get_or now.tags block Off) now.loose now.bytes content) →
    ReadsAs ino block now.bytes (Some new) →
    Moments IsBlockImage (MayBe call seen) asked_old seen asked_new new →
    WorldMoments (Recovers ino n now) asked_old world asked_new (with_block block (Some new) world)
    × Shows ino now (with_block block (Some new) world)

-- And so of the size word.
abbrev pub SizesMayBeSet : Type 0
SizesMayBeSet =
    (ino n word : ℕ) (core now : Core) (world : World) (new : Seen WordStep)
    (asked_old asked_new : List Asked) → Shows ino core world → DiffersInSize core now →
    IsGood now →
    HasShape now → length now.log + 2 ≤ n →
    ((words : List ℕ) → IsSetFrom world.size 0 word words → is_size now (get_or words 0 0) ≡ true) →
    get_or (words_of new) 0 0 ≡ now.size →
    Moments IsImage (IsSetFrom world.size 0 word) asked_old world.size asked_new new →
    WorldMoments (Recovers ino n now) asked_old world asked_new (with_size new world)
    × Shows ino now (with_size new world)

-- Slots that no image has open may be taken away, and others may come in their place, without a
-- step.
abbrev pub SlotsMayCome : Type 0
SlotsMayCome =
    (ino n place : ℕ) (core : Core) (world : World) (seens : List (Seen WordStep))
    (asked : List Asked) →
    Shows ino core world → AreShut (world.slots place) → AreShut seens → IsGood core →
    length core.log + 2 ≤ n → can_be (holding core core.doubt place).gate false ≡ true →
    WorldMoments (Recovers ino n core) asked world asked (with_slots place seens world)
    × Shows ino core (with_slots place seens world)

-- And so may a block that no image has tagged.
abbrev pub BlocksMayCome : Type 0
BlocksMayCome =
    (ino n block : ℕ) (core : Core) (world : World) (here : Option (Seen BlockStep))
    (asked : List Asked) → Shows ino core world → IsBare (world.blocks block) → IsBare here →
    ((seen : Seen BlockStep) → here ≡ Some seen → is_for ino block (content_of seen) ≡ false) →
    IsGood core → length core.log + 2 ≤ n →
    can_be (get_or core.tags block Off) false ≡ true →
    WorldMoments (Recovers ino n core) asked world asked (with_block block here world)
    × Shows ino core (with_block block here world)
