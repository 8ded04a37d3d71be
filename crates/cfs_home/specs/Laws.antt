-- What the steps of a mount keep.
use Rattle.std.specs.Prelude.{ℕ, length, set, ◌+◌, ◌*◌, ◌<◌, ◌≡◌, ◌⊎◌, ◌==◌, if◌then◌else◌, Some}
use Rattle.std.specs.Prelude.{None, List, [], get_or}
use Rattle.std.specs.List.{Contains}
use Rattle.cfs_file.specs.declared.request.Request.{Request}
use Rattle.cfs_file.specs.declared.sizes.TheConstants.{BLOCK_LEN}
use Rattle.cfs_core.specs.declared.inode_core.Core.{Core}
use Rattle.cfs_core.specs.Fresh.{IsFresh}
use Rattle.cfs_pmem.specs.declared.trace.Asked.{Asked}
use Rattle.cfs_pmem.specs.AllMoments.{AreDistinct}
use Rattle.cfs_pmem.specs.Images.{Seen, WordStep, kept, words_of, wrote}
use Rattle.cfs_pmem.specs.Objects.{MomentsOf, seen_at}
use Rattle.cfs_block.specs.BlockImages.{BlockStep, Content, DiffersWithin, IsBlockImage, with_tag}
use Rattle.cfs_block.specs.Devices.{numbers_of}
use Rattle.cfs_slot.specs.Words.{gate_of}
use Rattle.cfs_medium.specs.Depicts.{content_at}
use Rattle.cfs_medium.specs.Store.{block_for, entry_at}
use Rattle.cfs_home.specs.Calls.{HaveBlocksOf, HaveWordsOf, IsPiece, MountMoments, SetsFirst}
use Rattle.cfs_home.specs.Calls.{SetsTagAt, with_size}
use Rattle.cfs_home.specs.Disks.{AllStay, AreFiles, AreReady, BlocksBeside, BlocksHold}
use Rattle.cfs_home.specs.Disks.{ChangesBlock, ClosesSlot, Disk, File, IsDead, IsLowest, IsMapped}
use Rattle.cfs_home.specs.Disks.{IsNoNode, IsNoTag, SetsSize, WritesBlocks, part_of, recovered_in}
use Rattle.cfs_home.specs.Disks.{shut, stored_in}
use Rattle.cfs_home.specs.Ends.{AreDrained, IsClosedOrLive, IsDrained, IsLoaded}
use Rattle.cfs_home.specs.Parts.{BytesMoved, Closed, IsHome, IsPlaced, IsSound, Keeps, Part}
use Rattle.cfs_home.specs.Parts.{SizeMoved, size_after}

-- A mount may stop behind any step for the lowest entry, and another mount finds the same file.
abbrev pub PartsAreKept : Type 0
PartsAreKept =
    (first second : Part) → IsSound first →
    (BytesMoved first second → Keeps first second)
    × ((entry : ℕ × Request) (rest : List (ℕ × Request)) →
    SizeMoved first second entry rest → Keeps first second)
    × ((entry : ℕ × Request) (rest : List (ℕ × Request)) →
    Closed first second entry rest → Keeps first second)

-- A slot whose gate is closed is no live entry any more. All others are what they were, also those
-- that have it as a tail.
abbrev pub ShutSlotsLeaveOthers : Type 0
ShutSlotsLeaveOthers =
    (ino at : ℕ) (slots : List (List ℕ)) (other : ℕ) →
    entry_at ino (shut at slots) other ≡ (if other == at then None else entry_at ino slots other)

-- What a mount may do for the lowest live entry of one of the files, so that it may stop there.

-- write and flush its blocks, in any order
abbrev pub WritesKeepAll : Type 0
WritesKeepAll =
    (files : List File) (file : File) (at : ℕ) (entry : ℕ × Request) (rest : List (ℕ × Request))
    (first second : Disk) → AreFiles files → Contains files file → AreReady files first →
    IsLowest file at entry rest first → WritesBlocks file entry.1 first second →
    AllStay files first second

-- set its size word
abbrev pub SizesKeepAll : Type 0
SizesKeepAll =
    (files : List File) (file : File) (at : ℕ) (entry : ℕ × Request) (rest : List (ℕ × Request))
    (first second : Disk) → AreFiles files → Contains files file → AreReady files first →
    IsLowest file at entry rest first →
    SetsSize file.node (size_after entry.1 (first.sizes file.node)) first second →
    AllStay files first second

-- close its gate, once it is home
abbrev pub ClosesKeepAll : Type 0
ClosesKeepAll =
    (files : List File) (file : File) (at : ℕ) (entry : ℕ × Request) (rest : List (ℕ × Request))
    (first second : Disk) → AreFiles files → Contains files file → AreReady files first →
    IsLowest file at entry rest first → IsHome (part_of file first) entry.1 →
    ClosesSlot at first second → AllStay files first second

-- It is home once its bytes stand in the blocks of the file, and its size word is set.
abbrev pub HeldAreHome : Type 0
HeldAreHome =
    (file : File) (request : Request) (disk : Disk) → IsPlaced request →
    IsMapped file.ino request disk.blocks → BlocksHold file.ino request disk.blocks →
    size_after request (disk.sizes file.node) ≡ disk.sizes file.node →
    IsHome (part_of file disk) request

-- And what it may do that is no matter to any of them.

-- close a slot that is no live entry of a file
abbrev pub DeadSlotsMayClose : Type 0
DeadSlotsMayClose =
    (files : List File) (at : ℕ) (first second : Disk) → AreReady files first →
    IsDead files (get_or first.slots at []) → ClosesSlot at first second →
    AllStay files first second

-- set the size word of a record that is no file's
abbrev pub OtherSizesMayBeSet : Type 0
OtherSizesMayBeSet =
    (files : List File) (node size : ℕ) (first second : Disk) → AreReady files first →
    IsNoNode files node → SetsSize node size first second → AllStay files first second

-- untag a block that is no file's
abbrev pub OtherBlocksMayChange : Type 0
OtherBlocksMayChange =
    (files : List File) (at : ℕ) (content : Content) (first second : Disk) →
    AreReady files first →
    IsNoTag files (content_at first.blocks at).tag → IsNoTag files content.tag →
    ChangesBlock at content first second → AllStay files first second

-- So step follows step.
abbrev pub StaysGoOn : Type 0
StaysGoOn =
    (files : List File) (first second third : Disk) → AllStay files first second →
    AreReady files second
    × (AllStay files second third → AllStay files first third)

-- Where no live entry of a file is left, it is stored as a mount would have found it at the start.
abbrev pub EndsAreStored : Type 0
EndsAreStored =
    (files : List File) (file : File) (first last : Disk) → Contains files file →
    AllStay files first last → IsDrained file last →
    stored_in file last ≡ recovered_in file first

-- A slot is closed or live once it was closed, and stays so whatever slot is closed.
abbrev pub ShutSlotsAreSwept : Type 0
ShutSlotsAreSwept =
    (files : List File) (at other : ℕ) (slots : List (List ℕ)) →
    (other ≡ at) ⊎ IsClosedOrLive files (get_or slots other []) →
    IsClosedOrLive files (get_or (shut at slots) other [])

-- So where no live entry of any file is left, no gate is open.
abbrev pub EndsAreClosed : Type 0
EndsAreClosed =
    (files : List File) (last : Disk) →
    ((at : ℕ) → IsClosedOrLive files (get_or last.slots at [])) → AreDrained files last →
    (at : ℕ) → gate_of (get_or last.slots at []) ≡ 0

-- A run may begin with a core that is loaded then. Its base is the file that a mount would have
-- found at the start.
abbrev pub LoadedAreFresh : Type 0
LoadedAreFresh =
    (files : List File) (file : File) (first last : Disk) (core : Core) → Contains files file →
    AllStay files first last → IsDrained file last → IsLoaded file last core →
    IsFresh core × (core.base ≡ recovered_in file first)

-- There is such a core.
abbrev pub LoadedAreThere : Type 0
LoadedAreThere = (file : File) (disk : Disk) → (core : Core) × IsLoaded file disk core

-- It has the bytes of each block that is tagged for the file.
abbrev pub LoadedHaveBlocks : Type 0
LoadedHaveBlocks =
    (file : File) (disk : Disk) (core : Core) (block k : ℕ) (content : Content) →
    IsLoaded file disk core → block_for file.ino block disk.blocks ≡ Some content →
    k < BLOCK_LEN → get_or content.bytes k 0 ≡ get_or core.bytes (BLOCK_LEN * block + k) 0

-- ---- calls on the devices

-- A mount may stop at any moment of a call, where what the call does leaves the files: of writes
-- and flushes of the blocks of a request,
abbrev pub WritesMayStop : Type 0
WritesMayStop =
    (files : List File) (file : File) (request : Request) (start first : Disk)
    (regions : List (Seen WordStep)) (old new : List (Seen BlockStep))
    (asked_old asked_new : List Asked) →
    ((second : Disk) → WritesBlocks file request first second → AllStay files start second) →
    HaveWordsOf first regions →
    AreDistinct (numbers_of (record { regions = regions; blocks = old })) →
    MomentsOf IsBlockImage (λ contents. BlocksBeside file.ino request first.blocks contents)
    asked_old old asked_new new →
    MountMoments files start asked_old (record { regions = regions; blocks = old })
    asked_new (record { regions = regions; blocks = new })

-- of the setting of a size word,
abbrev pub SizesMayStop : Type 0
SizesMayStop =
    (files : List File) (node size : ℕ) (start first : Disk) (old new : List (Seen WordStep))
    (blocks : List (Seen BlockStep)) (asked_old asked_new : List Asked) →
    ((second : Disk) → SetsSize node size first second → AllStay files start second) →
    AllStay files start first → node < 256 → 0 < length (words_of (seen_at old (67 + node))) →
    HaveWordsOf first old → HaveBlocksOf first blocks →
    AreDistinct (numbers_of (record { regions = old; blocks = blocks })) →
    SetsFirst (67 + node) size asked_old old asked_new new →
    MountMoments files start asked_old (record { regions = old; blocks = blocks })
    asked_new (record { regions = new; blocks = blocks })

-- of the closing of a gate,
abbrev pub ClosesMayStop : Type 0
ClosesMayStop =
    (files : List File) (at : ℕ) (start first : Disk) (old new : List (Seen WordStep))
    (blocks : List (Seen BlockStep)) (asked_old asked_new : List Asked) →
    ((second : Disk) → ClosesSlot at first second → AllStay files start second) →
    AllStay files start first → HaveWordsOf first old → HaveBlocksOf first blocks →
    AreDistinct (numbers_of (record { regions = old; blocks = blocks })) →
    SetsFirst (323 + at) 0 asked_old old asked_new new →
    MountMoments files start asked_old (record { regions = old; blocks = blocks })
    asked_new (record { regions = new; blocks = blocks })

-- and of the setting of a tag.
abbrev pub TagsMayStop : Type 0
TagsMayStop =
    (files : List File) (at tag : ℕ) (start first : Disk) (regions : List (Seen WordStep))
    (old new : List (Seen BlockStep)) (asked_old asked_new : List Asked) →
    ((second : Disk) → ChangesBlock at (with_tag tag (content_at first.blocks at)) first second →
    AllStay files start second) →
    AllStay files start first → HaveWordsOf first regions → HaveBlocksOf first old →
    AreDistinct (numbers_of (record { regions = regions; blocks = old })) →
    SetsTagAt at tag asked_old old asked_new new →
    MountMoments files start asked_old (record { regions = regions; blocks = old })
    asked_new (record { regions = regions; blocks = new })

-- A write into such a range of a block, torn or not, leaves the blocks of a request as they may be.
abbrev pub PiecesAreBeside : Type 0
PiecesAreBeside =
    (ino : ℕ) (request : Request) (first contents : List Content) (at from len : ℕ)
    (content : Content) → IsPiece ino request first at from len →
    BlocksBeside ino request first contents →
    DiffersWithin from len (content_at contents at) content →
    BlocksBeside ino request first (set contents at content)

-- ---- what a crash leaves behind a call

-- once a size word is set and persisted, the disk with that size alone
abbrev pub SizesAreSet : Type 0
SizesAreSet =
    (node size : ℕ) (disk : Disk) (old : List (Seen WordStep)) (new : Seen WordStep) →
    node < 256 → 67 + node < length old → 0 < length (words_of (seen_at old (67 + node))) →
    HaveWordsOf disk old → new ≡ kept (wrote 0 size (seen_at old (67 + node))) →
    HaveWordsOf (with_size node size disk) (set old (67 + node) new)

-- once a gate is closed and persisted, the disk with that slot shut alone
abbrev pub GatesAreClosed : Type 0
GatesAreClosed =
    (at : ℕ) (disk : Disk) (old : List (Seen WordStep)) (new : Seen WordStep) →
    323 + at < length old → HaveWordsOf disk old →
    new ≡ kept (wrote 0 0 (seen_at old (323 + at))) →
    HaveWordsOf (record disk { slots = shut at disk.slots }) (set old (323 + at) new)
