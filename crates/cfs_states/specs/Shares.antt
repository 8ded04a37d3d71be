-- What each record has of a store while its blocks are handed out by their tags.
use Rattle.std.specs.Prelude.{ℕ, ◌+◌, ◌-◌, ◌/◌, ◌%◌, ◌<◌, ◌≡◌, ◌==◌, ◌&&◌, ◌⊎◌, ◌++◌, ◌^◌, not, Bool}
use Rattle.std.specs.Prelude.{true, false, Option, Some, None, List, [], ◌∷◌, filter, get_or, length}
use Rattle.std.specs.Prelude.{map, nat_eq, if◌then◌else◌}
use Rattle.std.specs.HashMap.{get}
use Rattle.std.specs.List.Sorted.{IsPermutation}
use Rattle.std.specs.Option.{option_map, option_map_or}
use Rattle.cfs_pmem.specs.Images.{IsSure, Seen, WordStep, words_of}
use Rattle.cfs_block.specs.BlockImages.{BlockStep, content_of}
use Rattle.cfs_block.specs.declared.mem_block.MemBlock.{MemBlock}
use Rattle.cfs_block.specs.MemoryBlocks.{seen_of}
use Rattle.cfs_inode.specs.New.{AreMapped, MappedSeen, stored_state, told_mapped}
use Rattle.cfs_active.specs.Loads.{IsLoadable}
use Rattle.cfs_active.specs.Memory.{words_seen}
use Rattle.cfs_active.specs.View.{ActiveView}
use Rattle.cfs_survey.specs.Mapped.{BlockMap}
use Rattle.cfs_states.specs.declared.share.Share.{Share}
use Rattle.cfs_states.specs.declared.shares.Shares.{Shares}
use Rattle.cfs_states.specs.Stored.{is_free, none_or}

-- ---- blocks by their tags

-- a tagged block, with its number in its file
abbrev pub mapped_of : Seen BlockStep → MappedSeen
mapped_of seen = record { at = ((content_of seen).tag - 1) % 65536; block = seen }

-- the block is tagged for a file with this inode number
abbrev pub is_of : ℕ → Seen BlockStep → Bool
is_of ino seen = not (is_free seen) && ((content_of seen).tag / 65536 == ino)

-- the blocks of a file, in the order of the store
abbrev pub share_of : ℕ → List (Seen BlockStep) → List MappedSeen
share_of ino blocks = map mapped_of (filter (is_of ino) blocks)

-- ---- blocks by their records, which a map has by inode number

abbrev pub record_of : BlockMap → Seen BlockStep → Option ℕ
record_of records seen =
    if is_free seen then None else get nat_eq records ((content_of seen).tag / 65536)

abbrev pub is_at : BlockMap → ℕ → Seen BlockStep → Bool
is_at records node seen = option_map_or (λ other. other == node) (record_of records seen) false

-- the blocks of a record, in the order of the store
abbrev pub share_at : BlockMap → ℕ → List (Seen BlockStep) → List MappedSeen
share_at records node blocks = map mapped_of (filter (is_at records node) blocks)

-- the block is free, or belongs to a record
pub record IsKnown (records : BlockMap) (seen : Seen BlockStep) : Type 0 where
  pub record_is : (is_free seen ≡ true) ⊎ ((node : ℕ) × (record_of records seen ≡ Some node))

-- there are so many records
abbrev pub AreBelow : ℕ → BlockMap → Type 0
AreBelow count records =
    (ino node : ℕ) → get nat_eq records ino ≡ Some node → node < count

-- ---- what a record has

-- Its size region and, where it is a file's, the inode number and the blocks so far.
pub record ShareView : Type 0 where
  pub size : Seen WordStep
  pub owner : Option ℕ
  pub blocks : List MappedSeen

abbrev pub share_view : Share → ShareView
share_view share = record {
  size = words_seen share.size;
  owner = share.owner;
  blocks = map (told_mapped seen_of) share.blocks.items;
}

abbrev pub views_of : Shares → List ShareView
views_of shares = map share_view shares.of_records.items

-- the blocks that no record has
abbrev pub free_in : Shares → List MemBlock
free_in shares = map (λ free. free.block) shares.free.items

abbrev pub with_mapped : List MappedSeen → ShareView → ShareView
with_mapped more share = record share { blocks = share.blocks ++ more }

-- each of the records from a number on has its blocks among these, behind those that it had
abbrev pub handed : BlockMap → List (Seen BlockStep) → ℕ → List ShareView → List ShareView
handed records blocks node [] = []
handed records blocks node (share ∷ shares) =
    with_mapped (share_at records node blocks) share ∷ handed records blocks (node + 1) shares

-- ---- the state of a record's file

-- These are the blocks of the share, ascending by their numbers in the file.
abbrev pub IsOrderOf : ℕ → List MappedSeen → List MappedSeen → Type 0
IsOrderOf ino blocks ordered = AreMapped ino 0 ordered × IsPermutation ordered blocks

abbrev pub loaded_as : Seen WordStep → List MappedSeen → ℕ → ActiveView
loaded_as size ordered ino =
    record { state = stored_state ino size (get_or (words_of size) 0 0) ordered; jobs = [] }

-- a share of which a state can be made
pub record CanLoad (ino : ℕ) (size : Seen WordStep) (blocks : List MappedSeen) : Type 0 where
  pub number : ino < 2 ^ 32
  pub sized : 0 < length (words_of size)
  pub sure : IsSure size
  pub ordered : List MappedSeen
  pub is : IsOrderOf ino blocks ordered
  pub file : IsLoadable (get_or (words_of size) 0 0) ordered

-- of each record with a file
abbrev pub CanLoadOf : Option ℕ → Seen WordStep → List MappedSeen → Type 0
CanLoadOf None size blocks = Unit {0}
CanLoadOf (Some ino) size blocks = CanLoad ino size blocks

abbrev pub CanLoadShare : ShareView → Type 0
CanLoadShare share = CanLoadOf share.owner share.size share.blocks

abbrev pub IsOrderIn : Option ℕ → List MappedSeen → List MappedSeen → Type 0
IsOrderIn None blocks ordered = Unit {0}
IsOrderIn (Some ino) blocks ordered = IsOrderOf ino blocks ordered

abbrev pub IsOrderOfShare : ShareView → List MappedSeen → Type 0
IsOrderOfShare share ordered = IsOrderIn share.owner share.blocks ordered

abbrev pub state_of : ShareView → List MappedSeen → Option ActiveView
state_of share ordered = option_map (loaded_as share.size ordered) share.owner

abbrev pub region_of : ShareView → Option (Seen WordStep)
region_of share = none_or share.size share.owner
