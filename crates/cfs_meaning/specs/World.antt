-- A world: all that a line of a script can find or change.
use Rattle.std.specs.Prelude.{ℕ, ◌==◌, Bool, false, not, ◌&&◌, ◌||◌, if◌then◌else◌, Option, Some}
use Rattle.std.specs.Prelude.{None, List, [], ◌∷◌, map, filter, find, replicate, get_or, set}
use Rattle.std.specs.Prelude.{nat_lt, is_some, unwrap_or}
use Rattle.std.specs.Option.{option_map}
use Rattle.std.specs.List.{flat_map, list_any}
use Rattle.cfs_cred.specs.declared.credential.Credential.{Credential}
use Rattle.cfs_core.specs.declared.inode_core.Core.{Core}
use Rattle.cfs_core.specs.declared.flag.Flag.TheVariants.{Off}
use Rattle.cfs_file.specs.declared.sizes.TheConstants.{FILE_BLOCKS}
use Rattle.cfs_dir.specs.declared.change.Change.{Change}
use Rattle.cfs_dir.specs.Namespace.{node_of}
use Rattle.cfs_grants.specs.declared.grant.Grant.{Grant}
use Rattle.cfs_requests.specs.Steps.{NameEntry}
use Rattle.cfs_meaning.specs.Drive.{Drive}
use Rattle.cfs_meaning.specs.NameSteps.{Order, tree_of}
use Rattle.cfs_meaning.specs.Steps.{slot}

-- ---- what there is

-- An open descriptor: the grant that the open gave, the caller's number for it, whether each write
-- goes to the end, the position, and the places of the reads and syncs that it made.
pub record Descriptor : Type 0 where
  pub fd : ℕ
  pub grant : Grant
  pub appends : Bool
  pub position : ℕ
  pub posted : List ℕ

pub record Caller : Type 0 where
  pub number : ℕ
  pub credential : Credential
  pub descriptors : List Descriptor

-- the numbers of a queue's slots that are free, and of those that came back and are not yet
-- collected, ascending
pub record Queue : Type 0 where
  pub free : List ℕ
  pub returned : List ℕ

-- a request of a file that has slots: the number in its gate, its queue, and its slots, the head
-- first
pub record Held : Type 0 where
  pub gate : ℕ
  pub queue : ℕ
  pub slots : List ℕ

-- A file of the tree, or a removed one that is not purged yet: its core, and which devices the core
-- speaks of: the size word of its record, the slots of its requests, and the number of the block
-- that each of its file blocks has.
pub record File : Type 0 where
  pub ino : ℕ
  pub rec : ℕ
  pub core : Core
  pub held : List Held
  pub blocks : List (ℕ × ℕ)
  -- how often the entry of a place was passed over
  pub passed : ℕ → ℕ
  -- a purge has begun: the core has ended
  pub ended : Bool

-- The tree and the grants as the mount found them and as they are, with the requests between. The
-- journal has so many records behind the number `through`, which the checkpoint stands for. The
-- next record may be in doubt, and so may the selector.
pub record Names : Type 0 where
  pub base : Order
  pub log : List NameEntry
  pub now : Order
  pub through : ℕ
  pub records : ℕ
  pub doubt : Option Change
  pub selector_unsure : Bool

-- mounted; or crashed, with no mount since; or with a mount since that failed
pub data Phase : Type 0 where
  Up : Phase
  Down : Phase
  Failed : Phase

pub record World : Type 0 where
  pub drive : Drive
  pub phase : Phase
  pub names : Names
  pub files : List File
  -- the numbers of the free blocks, ascending
  pub free : List ℕ
  pub queues : List Queue
  pub callers : List Caller

-- ---- finding

-- the core of an empty file without blocks
abbrev pub empty_core : Core
empty_core = record {
  base = [];
  log = [];
  tracks = [];
  doubt = None;
  size = 0;
  sizes = [];
  tags = replicate FILE_BLOCKS Off;
  bytes = [];
  loose = [];
  crashed = false;
}

abbrev pub new_file : ℕ → ℕ → File
new_file ino rec = record {
  ino = ino;
  rec = rec;
  core = empty_core;
  held = [];
  blocks = [];
  passed = λ place. 0;
  ended = false;
}

abbrev pub find_file : World → ℕ → Option File
find_file world ino = find (λ f. f.ino == ino) world.files

abbrev pub file_in : World → ℕ → File
file_in world ino = unwrap_or (find_file world ino) (new_file 0 0)

abbrev pub core_in : World → ℕ → Core
core_in world ino = (file_in world ino).core

abbrev pub caller_in : World → ℕ → Option Caller
caller_in world c = find (λ x. x.number == c) world.callers

abbrev pub open_of : Option Caller → List Descriptor
open_of None = []
open_of (Some caller) = caller.descriptors

abbrev pub descriptor_in : World → ℕ → ℕ → Option Descriptor
descriptor_in world c fd = find (λ d. d.fd == fd) (open_of (caller_in world c))

abbrev pub credential_in : World → ℕ → Credential
credential_in world c =
    unwrap_or (option_map (λ x. x.credential) (caller_in world c)) (record { uid = 0; gid = 0 })

abbrev pub all_open : World → List Descriptor
all_open world = flat_map (λ x. x.descriptors) world.callers

abbrev pub queue_in : World → ℕ → Queue
queue_in world q = get_or world.queues q (record { free = []; returned = [] })

-- what holds slots for the gate, and the device numbers of its slots and of its head
abbrev pub held_at : File → ℕ → Held
held_at f gate =
    unwrap_or (find (λ h. h.gate == gate) f.held) (record { gate = 0; queue = 0; slots = [] })

abbrev pub devices_of : Held → List ℕ
devices_of h = map (slot h.queue) h.slots

abbrev pub head_of : Held → ℕ
head_of h = slot h.queue (get_or h.slots 0 0)

-- the number of the block at a file block
abbrev pub block_of : File → ℕ → Option ℕ
block_of f k = option_map (λ x. x.1) (find (λ x. x.0 == k) f.blocks)

abbrev pub is_in_tree : World → ℕ → Bool
is_in_tree world ino = is_some (node_of (tree_of world.names.now).nodes ino)

abbrev pub is_open : World → ℕ → Bool
is_open world ino = list_any (λ d. d.grant.ino == ino) (all_open world)

-- a file is there while it is in the tree or a descriptor has it
abbrev pub is_there : World → ℕ → Bool
is_there world ino =
    is_some (find_file world ino) && (is_in_tree world ino || is_open world ino)

-- a record is used by a node, or by a removed file that is not purged
abbrev pub is_used : World → ℕ → Bool
is_used world rec =
    list_any (λ n. n.rec == rec) (tree_of world.names.now).nodes
    || list_any (λ f. f.rec == rec) world.files

-- ---- changing

abbrev pub replaces : File → File → File
replaces new f = if f.ino == new.ino then new else f

-- the file stands in place of the one with its inode number
abbrev pub with_file : File → World → World
with_file f world = record world { files = map (replaces f) world.files }

abbrev pub with_core : ℕ → Core → World → World
with_core ino core world = with_file (record (file_in world ino) { core = core }) world

abbrev pub with_drive : (Drive → Drive) → World → World
with_drive change world = record world { drive = change world.drive }

abbrev pub with_names : (Names → Names) → World → World
with_names change world = record world { names = change world.names }

abbrev pub with_queue : ℕ → (Queue → Queue) → World → World
with_queue q change world =
    record world { queues = set world.queues q (change (queue_in world q)) }

-- the caller's descriptors change
abbrev pub changes_own : ℕ → (List Descriptor → List Descriptor) → Caller → Caller
changes_own c change x =
    if x.number == c then record x { descriptors = change x.descriptors } else x

abbrev pub with_descriptors : ℕ → (List Descriptor → List Descriptor) → World → World
with_descriptors c change world =
    record world { callers = map (changes_own c change) world.callers }

abbrev pub with_descriptor : ℕ → Descriptor → World → World
with_descriptor c d world =
    with_descriptors c (λ opened. map (λ o. if o.fd == d.fd then d else o) opened) world

abbrev pub without_descriptors : Caller → Caller
without_descriptors x = record x { descriptors = [] }

-- ascending, with one more, and with several
abbrev pub placed : ℕ → List ℕ → List ℕ
placed n [] = n ∷ []
placed n (first ∷ rest) = if nat_lt n first then n ∷ first ∷ rest else first ∷ placed n rest

abbrev pub all_placed : List ℕ → List ℕ → List ℕ
all_placed [] to = to
all_placed (n ∷ ns) to = placed n (all_placed ns to)

abbrev pub without : List ℕ → List ℕ → List ℕ
without some ns = filter (λ n. not (list_any (λ m. n == m) some)) ns
