-- Devices from which a mount makes a world that they show: all that a store says stands in its
-- tables, size words and blocks, and nothing of it is in doubt.
use Rattle.std.specs.Prelude.{◌≡◌, ℕ, ◌+◌, ◌*◌, ◌<◌, ◌≤◌, List, get_or, length, map, replicate}
use Rattle.std.specs.List.{All, range_with_len}
use Rattle.cfs_file.specs.declared.sizes.TheConstants.{BLOCK_LEN, FILE_BLOCKS, LONGEST_FILE}
use Rattle.cfs_pmem.specs.Images.{IsSure}
use Rattle.cfs_block.specs.BlockImages.{IsSureBlock}
use Rattle.cfs_dir.specs.declared.node.Node.{Node}
use Rattle.cfs_dir.specs.Tree.{IsTree}
use Rattle.cfs_image.specs.Fresh.{new_content, new_words}
use Rattle.cfs_image.specs.Layout.{region_count}
use Rattle.cfs_medium.specs.Store.{tag_of}
use Rattle.cfs_script.specs.declared.form.Form.TheVariants as forms
use Rattle.cfs_script.specs.declared.line.Line.{Line}
use Rattle.cfs_print.specs.declared.out_line.OutLine.{OutLine}
use Rattle.cfs_meaning.specs.Drive.{Drive, content_at}
use Rattle.cfs_meaning.specs.Steps.{size_word}
use Rattle.cfs_meaning.specs.World.{Caller, Down, Up, World}
use Rattle.cfs_meaning.specs.Mounting.{files_of, mounted_world, recovered_tree, size_in}
use Rattle.cfs_meaning.specs.Play.{Step}
use Rattle.cfs_meaning.specs.Laws.{AreReached}
use Rattle.cfs_meaning.specs.Devices.{HasWord, IsEven, IsShown, NoneHasEnded}
use Rattle.cfs_meaning.specs.Scripts.{loaded}

-- the file of a node is none too long, and its blocks have zeros past its size
pub record IsFileHome (drive : Drive) (node : Node) : Type 0 where
  pub size : size_in drive node.rec ≤ LONGEST_FILE
  pub zeros : (b k p : ℕ) → b < length drive.blocks → k < FILE_BLOCKS →
      (content_at drive b).tag ≡ tag_of node.ino k → p < BLOCK_LEN →
      size_in drive node.rec ≤ BLOCK_LEN * k + p → get_or (content_at drive b).bytes p 0 ≡ 0

-- What stands in each region and block is all that a crash may leave, each size word is there, and
-- the tables and the journal tell a tree.
pub record IsHome (drive : Drive) : Type 0 where
  pub regions : All IsSure drive.regions
  pub blocks : All IsSureBlock drive.blocks
  pub even : IsEven drive
  pub sizes : (rec : ℕ) → rec < 256 → HasWord drive (size_word rec)
  pub tree : IsTree (recovered_tree drive).nodes (recovered_tree drive).next
  pub files : All (IsFileHome drive) (files_of (recovered_tree drive))

-- where the laws on shown worlds begin
pub record Begins (world : World) : Type 0 where
  pub shown : IsShown world
  pub reached : AreReached world
  pub open_ : NoneHasEnded world

-- A mount makes of such devices a world that they show, whoever the callers are.
abbrev pub HomesAreShown : Type 0
HomesAreShown =
    (callers : List Caller) (drive : Drive) → IsHome drive → Begins (mounted_world callers drive)

-- So does a line that mounts, where its steps have left such devices.
abbrev pub MountsShow : Type 0
MountsShow =
    (old new : World) (line : Line) (out : List OutLine) → line.form ≡ forms.Mount →
    old.phase ≡ Down → Step line old out new → new.phase ≡ Up → IsHome new.drive → Begins new

-- the devices of a new store of so many blocks and queues
abbrev pub new_drive : ℕ → ℕ → Drive
new_drive blocks queues =
    loaded (map new_words (range_with_len 0 (region_count queues))) (replicate blocks new_content)

-- They are such devices.
abbrev pub NewStoresAreHome : Type 0
NewStoresAreHome = (blocks queues : ℕ) → IsHome (new_drive blocks queues)
