-- What a store says when it is mounted, the steps of a mount, and the world that stands behind it.
use Rattle.std.specs.Prelude.{ℕ, ◌+◌, ◌-◌, ◌*◌, ◌/◌, ◌%◌, ◌==◌, Bool, false, not, ◌&&◌, ◌||◌}
use Rattle.std.specs.Prelude.{if◌then◌else◌, None, List, [], ◌∷◌, ◌++◌, length, map, filter, take}
use Rattle.std.specs.Prelude.{drop, get_or, replicate, nat_le}
use Rattle.std.specs.List.{flat_map, list_any, range_with_len}
use Rattle.cfs_file.specs.declared.request.Request.{Request}
use Rattle.cfs_file.specs.declared.request.Request.TheVariants as requests
use Rattle.cfs_file.specs.declared.span.Span.{Span}
use Rattle.cfs_file.specs.declared.sizes.TheConstants.{BLOCK_LEN, FILE_BLOCKS}
use Rattle.cfs_file.specs.Span.{meets, span}
use Rattle.cfs_core.specs.declared.inode_core.Core.{Core}
use Rattle.cfs_core.specs.Words.{block_span, flag_of, payload_of, piece_in, sized, start_in}
use Rattle.cfs_block.specs.BlockOps.{flush, get_tag, put_bytes}
use Rattle.cfs_pmem.specs.Images.{words_of}
use Rattle.cfs_dir.specs.declared.change.Change.{Change}
use Rattle.cfs_dir.specs.declared.node.Node.{Node}
use Rattle.cfs_dir.specs.Namespace.{Namespace, is_directory}
use Rattle.cfs_slot.specs.Tails.{numbers_in, tails_at}
use Rattle.cfs_slot.specs.Words.{gate_of, ino_of, is_live, mark_of, request_of, tails_of}
use Rattle.cfs_journal.specs.Standing.{changes_above}
use Rattle.cfs_ckpt.specs.Loads.{loaded}
use Rattle.cfs_names.specs.Recovered.{recovered}
use Rattle.cfs_image.specs.Layout.{queues_of}
use Rattle.cfs_medium.specs.Store.{Store, stored_file, tag_of}
use Rattle.cfs_meaning.specs.Drive.{Block, Drive, Op, content_at, words_at}
use Rattle.cfs_meaning.specs.NameSteps.{new_order}
use Rattle.cfs_meaning.specs.Steps.{gate_closed, journal_record, selector, size_word, slot}
use Rattle.cfs_meaning.specs.Steps.{table_copy, tag_kept, word_kept, words_read}
use Rattle.cfs_meaning.specs.World.{Caller, File, Names, Up, World, all_placed, empty_core}
use Rattle.cfs_meaning.specs.World.{new_file, without_descriptors}
use Rattle.cfs_meaning.specs.Inode.{part_read}
use Rattle.cfs_meaning.specs.Ways.{Now, Way, each, steps, when, ◌>>=◌, ◌>>◌}

-- ---- the recovered tree

-- the words of the selector, the two copies of the table and the journal's records
abbrev pub tree_words : Drive → List (List ℕ)
tree_words drive = map words_of (take 67 drive.regions)

abbrev pub recovered_tree : Drive → Namespace
recovered_tree drive = recovered (tree_words drive)

-- the number that the selector names, and the changes that the journal has above it
abbrev pub through_in : Drive → ℕ
through_in drive = (loaded (tree_words drive)).through

abbrev pub changes_in : Drive → List Change
changes_in drive = changes_above (through_in drive) (drop 3 (tree_words drive))

abbrev pub files_of : Namespace → List Node
files_of tree = filter (λ node. not (is_directory node.kind)) tree.nodes

abbrev pub is_file : Namespace → ℕ → Bool
is_file tree ino = list_any (λ node. node.ino == ino) (files_of tree)

abbrev pub has_record : Namespace → ℕ → Bool
has_record tree rec = list_any (λ node. node.rec == rec) (files_of tree)

-- by ascending inode number
abbrev pub files_ascending : Namespace → List Node
files_ascending tree =
    flat_map (λ ino. filter (λ node. node.ino == ino) (files_of tree))
    (all_placed (map (λ node. node.ino) (files_of tree)) [])

-- ---- what a store has of a file

-- the words of all slots in device order, and the contents of all blocks
abbrev pub slots_in : Drive → List (List ℕ)
slots_in drive = map words_of (drop 323 drive.regions)

abbrev pub block_numbers : Drive → List ℕ
block_numbers drive = range_with_len 0 (length drive.blocks)

abbrev pub size_in : Drive → ℕ → ℕ
size_in drive rec = get_or (words_at drive (size_word rec)) 0 0

abbrev pub store_of : Drive → ℕ → Store
store_of drive rec = record {
  size = size_in drive rec;
  slots = slots_in drive;
  blocks = map (content_at drive) (block_numbers drive);
}

-- the file blocks that have a block, with its number
abbrev pub mapped : Drive → ℕ → List (ℕ × ℕ)
mapped drive ino =
    flat_map (λ k. map (λ b. (k, b))
    (filter (λ b. (content_at drive b).tag == tag_of ino k) (block_numbers drive)))
    (range_with_len 0 FILE_BLOCKS)

-- ---- the steps of a mount

-- the survey reads each word and tag that it looks at once
abbrev pub surveyed : Drive → List Op
surveyed drive =
    words_read selector 1
    ++ (words_read (table_copy (get_or (words_at drive selector) 0 0 % 2)) 3073
    ++ (flat_map (λ j. words_read (journal_record j) 16) (range_with_len 0 64)
    ++ (flat_map (λ rec. words_read (size_word rec) 1) (range_with_len 0 256)
    ++ (flat_map (λ r. words_read r 6) (range_with_len 323 (length drive.regions - 323))
    ++ map (λ b. Block b get_tag) (block_numbers drive)))))

-- the slots by their places in device order
abbrev pub slot_places : Drive → List ℕ
slot_places drive = range_with_len 0 (length (slots_in drive))

abbrev pub slot_words : Drive → ℕ → List ℕ
slot_words drive at = get_or (slots_in drive) at []

-- its gate is open, but it is a no-op or no file's
abbrev pub is_stale : Namespace → List ℕ → Bool
is_stale tree words =
    not (gate_of words == 0) && ((mark_of words == 1) || not (is_file tree (ino_of words)))

-- the live entries of a file, by ascending gate: the gate, and the place of the slot
abbrev pub put_entry : ℕ × ℕ → List (ℕ × ℕ) → List (ℕ × ℕ)
put_entry entry [] = entry ∷ []
put_entry entry (first ∷ rest) =
    if nat_le entry.0 first.0 then entry ∷ first ∷ rest else first ∷ put_entry entry rest

abbrev pub by_gate : List (ℕ × ℕ) → List (ℕ × ℕ)
by_gate [] = []
by_gate (entry ∷ rest) = put_entry entry (by_gate rest)

abbrev pub live_slots : Drive → ℕ → List (ℕ × ℕ)
live_slots drive ino =
    by_gate (map (λ at. (gate_of (slot_words drive at), at))
    (filter (λ at. is_live ino (slot_words drive at)) (slot_places drive)))

-- its request, and the device numbers of its slots, the head first
abbrev pub request_at : Drive → ℕ → Request
request_at drive at = request_of (slot_words drive at) (tails_at (slots_in drive) at)

abbrev pub devices_at : Drive → ℕ → List ℕ
devices_at drive at = map (slot (at / 16)) (at % 16 ∷ numbers_in (tails_of (slot_words drive at)))

-- the positions of a request, which is no append
abbrev pub positions_of : Request → Span
positions_of request = span request 0

-- the part of a live entry in a block: its payload is read, and the part is written
abbrev pub part_written : Drive → ℕ → ℕ × ℕ → List Op
part_written drive at x =
    let request : Request = request_at drive at in
    let s : Span = positions_of request in
    part_read (devices_at drive at) (payload_of request) s x.0
    ++ Block x.1
    (put_bytes (start_in s x.0 - BLOCK_LEN * x.0) (piece_in (payload_of request) s x.0)) ∷ []

abbrev pub flushed : ℕ × ℕ → List Op
flushed x = Block x.1 flush ∷ []

-- of a write all blocks are written and then all flushed, of a truncate one by one
abbrev pub entry_written : Drive → ℕ → Request → List (ℕ × ℕ) → List Op
entry_written drive at (requests.Truncate n) blocks =
    flat_map (λ x. part_written drive at x ++ flushed x) blocks
entry_written drive at other blocks =
    flat_map (part_written drive at) blocks ++ flat_map flushed blocks

abbrev pub its_blocks : Drive → ℕ → Span → List (ℕ × ℕ)
its_blocks drive ino s = filter (λ x. meets s (block_span x.0)) (mapped drive ino)

-- its blocks, the size word where it changes, and its gate
abbrev pub bring_home : Node → ℕ × ℕ → Way (Unit {0})
bring_home node entry = do
  world ← Now
  let drive = world.drive
  let request = request_at drive entry.1
  let s = positions_of request
  let old = size_in drive node.rec
  let new = sized old s
  steps (entry_written drive entry.1 request (its_blocks drive node.ino s))
  when (not (new == old)) (steps (word_kept (size_word node.rec) 0 new))
  steps (gate_closed (323 + entry.1))

-- the gates that are closed without more ado, the tags of no file, and the size words of no file
abbrev pub stale_closed : Drive → Namespace → List Op
stale_closed drive tree =
    flat_map (λ at. gate_closed (323 + at))
    (filter (λ at. is_stale tree (slot_words drive at)) (slot_places drive))

abbrev pub is_lost_tag : Namespace → ℕ → Bool
is_lost_tag tree tag = not (tag == 0) && not (is_file tree (tag / 65536))

abbrev pub lost_untagged : Drive → Namespace → List Op
lost_untagged drive tree =
    flat_map (λ b. tag_kept b 0)
    (filter (λ b. is_lost_tag tree (content_at drive b).tag) (block_numbers drive))

abbrev pub is_lost_size : Drive → Namespace → ℕ → Bool
is_lost_size drive tree rec = not (size_in drive rec == 0) && not (has_record tree rec)

abbrev pub lost_cleared : Drive → Namespace → List Op
lost_cleared drive tree =
    flat_map (λ rec. word_kept (size_word rec) 0 0)
    (filter (is_lost_size drive tree) (range_with_len 0 256))

abbrev pub mount_steps : Way (Unit {0})
mount_steps = do
  world ← Now
  let drive = world.drive
  let tree = recovered_tree drive
  steps (surveyed drive)
  steps (stale_closed drive tree)
  each (files_ascending tree) (λ node. each (live_slots drive node.ino) (bring_home node))
  steps (lost_untagged drive tree)
  steps (lost_cleared drive tree)

-- how many live entries the files of a store have
abbrev pub live_count : Drive → ℕ
live_count drive =
    length (flat_map (λ node. live_slots drive node.ino) (files_of (recovered_tree drive)))

-- ---- the mounted world

abbrev pub is_mapped : Drive → ℕ → ℕ → Bool
is_mapped drive ino k = list_any (λ x. x.0 == k) (mapped drive ino)

-- nothing is logged; the base is what is stored
abbrev pub mounted_core : Drive → Node → Core
mounted_core drive node =
    let base : List ℕ = stored_file node.ino (store_of drive node.rec) in
    record empty_core {
      base = base;
      size = length base;
      tags = map (λ k. flag_of (is_mapped drive node.ino k)) (range_with_len 0 FILE_BLOCKS);
      bytes = base;
    }

abbrev pub mounted_file : Drive → Node → File
mounted_file drive node = record (new_file node.ino node.rec) {
  core = mounted_core drive node;
  blocks = mapped drive node.ino;
}

abbrev pub mounted_names : ℕ → Drive → Names
mounted_names queues drive = record {
  base = new_order queues (recovered_tree drive);
  log = [];
  now = new_order queues (recovered_tree drive);
  through = through_in drive;
  records = length (changes_in drive);
  doubt = None;
  selector_unsure = false;
}

abbrev pub queue_count : Drive → ℕ
queue_count drive = queues_of (length drive.regions)

-- The world of a store whose gates are closed: places, places of requests on names and grants begin
-- at 1, nothing is open, and the callers are these.
abbrev pub mounted_world : List Caller → Drive → World
mounted_world callers drive = record {
  drive = drive;
  phase = Up;
  names = mounted_names (queue_count drive) drive;
  files = map (mounted_file drive) (files_of (recovered_tree drive));
  free = filter (λ b. (content_at drive b).tag == 0) (block_numbers drive);
  queues = replicate (queue_count drive) (record { free = range_with_len 0 16; returned = [] });
  callers = map without_descriptors callers;
}
