-- How the journal and the checkpoint stand for a world's tree, and the lines on names.
use Rattle.std.specs.Prelude.{◌≡◌, ◌≢◌, ℕ, Bool, true, false, ◌<◌, ◌^◌, List, [], ◌∷◌, drop, get_or}
use Rattle.std.specs.Prelude.{length, take}
use Rattle.cfs_dir.specs.declared.change.Change.{Change}
use Rattle.cfs_dir.specs.Change.{IsTellable, changed}
use Rattle.cfs_dir.specs.Namespace.{Namespace}
use Rattle.cfs_dir.specs.Path.{ArePathNames}
use Rattle.cfs_dir.specs.Tree.{IsTree}
use Rattle.cfs_pmem.specs.AllMoments.{AreDistinct}
use Rattle.cfs_pmem.specs.Images.{AllImages, Seen, WordStep}
use Rattle.cfs_pmem.specs.Objects.{all_devices}
use Rattle.cfs_journal.specs.Standing.{Standing}
use Rattle.cfs_ckpt.specs.Selects.{Selects}
use Rattle.cfs_names.specs.Behind.{AreBehind}
use Rattle.cfs_requests.specs.Steps.{NameRequest, makes_directory, moves_node, opens_file}
use Rattle.cfs_requests.specs.Steps.{removes_directory, unlinks_file}
use Rattle.cfs_script.specs.declared.form.Form.{Form}
use Rattle.cfs_script.specs.declared.form.Form.TheVariants as forms
use Rattle.cfs_script.specs.declared.line.Line.{Line}
use Rattle.cfs_print.specs.declared.out_line.OutLine.{OutLine}
use Rattle.cfs_meaning.specs.Drive.{Drive, region_at}
use Rattle.cfs_meaning.specs.Steps.{size_word}
use Rattle.cfs_meaning.specs.NameSteps.{changes_of, tree_of}
use Rattle.cfs_meaning.specs.Names.{files_made, free_record}
use Rattle.cfs_meaning.specs.World.{Caller, File, Up, World, credential_in, is_used}
use Rattle.cfs_meaning.specs.Mounting.{mounted_world}
use Rattle.cfs_meaning.specs.Home.{new_drive}
use Rattle.cfs_meaning.specs.Devices.{HasWord, IsShown, OfEachFile}
use Rattle.cfs_meaning.specs.Play.{Step}
use Rattle.cfs_meaning.specs.Stock.{AreMappedOnce}

-- the selector, the two copies of the table, and the 64 records
abbrev pub front_in : Drive → List (Seen WordStep)
front_in drive = take 67 drive.regions

abbrev pub tables_in : Drive → List (Seen WordStep)
tables_in drive = take 3 (front_in drive)

abbrev pub records_in : Drive → List (Seen WordStep)
records_in drive = drop 3 (front_in drive)

-- The journal holds changes behind the number of the checkpoint, and perhaps the one in doubt; the
-- selector selects a whole copy; and whatever is loaded, the changes lead from there to the tree.
pub record IsTreeStored (tree : Namespace) (world : World) : Type 0 where
  pub changes : List Change
  pub count : length changes ≡ world.names.records
  pub journal :
      Standing world.names.through changes world.names.doubt (records_in world.drive)
  pub word : ℕ
  pub selector : Selects word world.names.selector_unsure (tables_in world.drive)
  pub behind : AreBehind world.names.through changes tree (tables_in world.drive)
  pub distinct : AreDistinct (all_devices (front_in world.drive))
  pub whole : IsTree tree.nodes tree.next

abbrev pub IsStored : World → Type 0
IsStored world = IsTreeStored (tree_of world.names.now) world

-- The tree of a new store, as it is mounted, is stored.
abbrev pub NewStoresAreStored : Type 0
NewStoresAreStored =
    (callers : List Caller) (blocks queues : ℕ) →
    IsStored (mounted_world callers (new_drive blocks queues))

-- the lines that change nothing of the tree: all but those on names, a crash and a mount
abbrev pub keeps_tree : Form → Bool
keeps_tree (forms.Open c path flags mode) = false
keeps_tree (forms.Mkdir c path mode) = false
keeps_tree (forms.Unlink c path) = false
keeps_tree (forms.Rmdir c path) = false
keeps_tree (forms.Rename c from to) = false
keeps_tree (forms.Crash k) = false
keeps_tree forms.Mount = false
keeps_tree (forms.Cut n k) = false
keeps_tree other = true

-- They keep it stored, whatever fails.
abbrev pub LinesKeepStored : Type 0
LinesKeepStored =
    (old new : World) (line : Line) (out : List OutLine) → keeps_tree line.form ≡ true →
    IsStored old → Step line old out new → IsStored new

-- ---- the lines on names

-- A file may begin: it has a number and a record of its own, whose size word is 0 in each image.
pub record MayBegin (world : World) (f : File) : Type 0 where
  pub number : f.ino ≢ 0
  pub low : f.rec < 256
  pub size : HasWord world.drive (size_word f.rec)
  pub clear : AllImages (region_at world.drive (size_word f.rec)) (λ words. get_or words 0 0 ≡ 0)
  pub other : OfEachFile (λ g. (g.ino ≢ f.ino) × (g.rec ≢ f.rec)) world.files

-- Nothing changes of the tree, or one thing, which its words tell, and behind which it is a tree
-- again; and a file that begins may.
abbrev pub AreWell : World → List Change → Type 0
AreWell world [] = Unit {0}
AreWell world (change ∷ rest) =
    IsTellable change
    × IsTree (changed (tree_of world.names.now) change).nodes
    (changed (tree_of world.names.now) change).next
    × (rest ≡ []) × OfEachFile (MayBegin world) (files_made change)

-- so of what a request changes
abbrev pub ChangesWell : World → NameRequest → Type 0
ChangesWell world request =
    AreWell world (changes_of world.names.now request (free_record world))

-- a line on names whose request does
abbrev pub NamesSuit : World → Form → Type 0
NamesSuit world (forms.Open c path flags mode) =
    ChangesWell world (opens_file (credential_in world c) path flags mode)
NamesSuit world (forms.Mkdir c path mode) =
    ChangesWell world (makes_directory (credential_in world c) path mode)
NamesSuit world (forms.Unlink c path) =
    ChangesWell world (unlinks_file (credential_in world c) path)
NamesSuit world (forms.Rmdir c path) =
    ChangesWell world (removes_directory (credential_in world c) path)
NamesSuit world (forms.Rename c from to) =
    ChangesWell world (moves_node (credential_in world c) from to)
NamesSuit world other = ⊥

-- It keeps a mounted world shown, and stored, whether it is answered or refused, and whatever step
-- of the journal, of a checkpoint or of a purge is refused.
abbrev pub NamesKeepShown : Type 0
NamesKeepShown =
    (old new : World) (line : Line) (out : List OutLine) → old.phase ≡ Up →
    NamesSuit old line.form → AreMappedOnce old → IsStored old → IsShown old →
    Step line old out new → IsShown new × IsStored new

-- Each record that no node and no file has is there, and has a size word that is 0 in each image;
-- and each file has a number that was given.
pub record AreClear (world : World) : Type 0 where
  pub words : (rec : ℕ) → is_used world rec ≡ false → rec < 256 →
      HasWord world.drive (size_word rec)
  pub clear : (rec : ℕ) → is_used world rec ≡ false → rec < 256 →
      AllImages (region_at world.drive (size_word rec)) (λ words. get_or words 0 0 ≡ 0)
  pub numbers : OfEachFile (λ f. f.ino < (tree_of world.names.now).next) world.files

-- So it is where a new store is mounted.
abbrev pub NewStoresAreClear : Type 0
NewStoresAreClear =
    (callers : List Caller) (blocks queues : ℕ) →
    AreClear (mounted_world callers (new_drive blocks queues))

-- The names of a line's paths, and the bounds of its words. A file is made on a clear record.
abbrev pub IsBounded : World → Form → Type 0
IsBounded world (forms.Open c path flags mode) =
    ArePathNames path × (mode < 512) × ((credential_in world c).uid < 2 ^ 32)
    × ((credential_in world c).gid < 2 ^ 32) × AreClear world
IsBounded world (forms.Mkdir c path mode) =
    ArePathNames path × (mode < 512) × ((credential_in world c).uid < 2 ^ 32)
    × ((credential_in world c).gid < 2 ^ 32)
IsBounded world (forms.Unlink c path) = ArePathNames path
IsBounded world (forms.Rmdir c path) = ArePathNames path
IsBounded world (forms.Rename c from to) = ArePathNames from × ArePathNames to
IsBounded world other = ⊥

-- Such a line on names changes a tree well.
abbrev pub LinesChangeWell : Type 0
LinesChangeWell =
    (world : World) (form : Form) → IsStored world → IsBounded world form → NamesSuit world form
