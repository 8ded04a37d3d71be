-- When the devices of a store show a world: each image of them fits it.
use Rattle.std.specs.Prelude.{◌≡◌, ◌≢◌, ◌⊎◌, ℕ, ◌+◌, ◌<◌, Bool, true, false, not, ◌||◌, Some, List}
use Rattle.std.specs.Prelude.{[]}
use Rattle.std.specs.Prelude.{◌∷◌, length, map, take, get_or, is_some}
use Rattle.std.specs.List.{All, Contains, list_any}
use Rattle.std.specs.Option.{option_map}
use Rattle.cfs_file.specs.declared.sizes.TheConstants.{BLOCK_LEN}
use Rattle.cfs_core.specs.declared.inode_core.Core.{Core}
use Rattle.cfs_core.specs.declared.doubt.Doubt.{Doubt}
use Rattle.cfs_core.specs.declared.flag.Flag.TheVariants.{Off}
use Rattle.cfs_core.specs.declared.track.Track.{Track}
use Rattle.cfs_core.specs.Words.{blank, is_live, is_off}
use Rattle.cfs_pmem.specs.Images.{IsImage, Seen, WordStep, words_kept, words_of}
use Rattle.cfs_pmem.specs.Objects.{IsEachImage}
use Rattle.cfs_block.specs.BlockImages.{BlockStep, content_kept, content_of}
use Rattle.cfs_medium.specs.World as media
use Rattle.cfs_medium.specs.World.{AllRemains}
use Rattle.cfs_medium.specs.Shows.{Recovers, Shows}
use Rattle.cfs_names.specs.Recovered.{IsTreeOr, recovered}
use Rattle.cfs_script.specs.declared.form.Form.{Form}
use Rattle.cfs_script.specs.declared.form.Form.TheVariants as forms
use Rattle.cfs_script.specs.declared.line.Line.{Line}
use Rattle.cfs_print.specs.declared.out_line.OutLine.{OutLine}
use Rattle.cfs_meaning.specs.Drive.{Drive, block_at, region_at}
use Rattle.cfs_meaning.specs.NameSteps.{tree_of}
use Rattle.cfs_meaning.specs.Steps.{size_word}
use Rattle.cfs_meaning.specs.World.{Descriptor, File, Up, World, block_of, core_in, descriptor_in}
use Rattle.cfs_meaning.specs.World.{devices_of, file_in, held_at}
use Rattle.cfs_meaning.specs.Laws.{AreReached, HaveNoMount}
use Rattle.cfs_meaning.specs.Play.{Run, Step, crashed}

-- P holds of each file
abbrev pub OfEachFile : (File → Type 0) → List File → Type 0
OfEachFile P [] = Unit {0}
OfEachFile P (f ∷ files) = P f × OfEachFile P files

-- ---- files

-- what a core speaks of: the region of the file's size word, the slots of each request, and the
-- block of each file block
abbrev pub devices_of_file : Drive → File → media.World
devices_of_file drive f = record {
  size = region_at drive (size_word f.rec);
  slots = λ gate. map (region_at drive) (devices_of (held_at f gate));
  blocks = λ k. option_map (block_at drive) (block_of f k);
}

-- they show the core, unless it has ended
abbrev pub IsFileShown : Drive → File → Type 0
IsFileShown drive f = f.ended ≡ false → Shows f.ino f.core (devices_of_file drive f)

-- One region or block is of two files, or twice of one, only where both are the same.
pub record AreApart (f g : File) : Type 0 where
  pub records : f.rec ≡ g.rec → f.ino ≡ g.ino
  pub slots : (gate other device : ℕ) → Contains (devices_of (held_at f gate)) device →
      Contains (devices_of (held_at g other)) device → (f.ino ≡ g.ino) × (gate ≡ other)
  pub blocks : (j k b : ℕ) → block_of f j ≡ Some b → block_of g k ≡ Some b →
      (f.ino ≡ g.ino) × (j ≡ k)

abbrev pub AllApart : List File → Type 0
AllApart files = OfEachFile (λ f. OfEachFile (AreApart f) files) files

-- a region of the drive, with a word at least
pub record HasWord (drive : Drive) (r : ℕ) : Type 0 where
  pub within : r < length drive.regions
  pub word : 0 < length (words_of (region_at drive r))

-- The file has a number and a size word. Its slots are some of the drive's regions, and the head of
-- a request is none of its tails. Its blocks are some of the drive's.
pub record IsPlaced (drive : Drive) (f : File) : Type 0 where
  pub number : f.ino ≢ 0
  pub low : f.rec < 256
  pub size : HasWord drive (size_word f.rec)
  pub slots : (gate r : ℕ) → Contains (devices_of (held_at f gate)) r → HasWord drive r
  pub heads : (gate s : ℕ) (tails : List ℕ) → (held_at f gate).slots ≡ s ∷ tails →
      Contains tails s → ⊥
  pub blocks : (k b : ℕ) → block_of f k ≡ Some b → b < length drive.blocks

-- a request that is live, or whose gate may be open
abbrev pub needs_slots : Track → Bool
needs_slots t = is_live t.state || not (is_off t.gate)

-- No crash came to the core. Each request that needs slots has them, and so has the one in doubt,
-- and a file block that may be tagged has a block.
pub record IsEquipped (f : File) : Type 0 where
  pub up : f.core.crashed ≡ false
  pub slots : (k : ℕ) → needs_slots (get_or f.core.tracks k blank) ≡ true →
      0 < length (held_at f (k + 1)).slots
  pub doubt : (doubt : Doubt) → f.core.doubt ≡ Some doubt →
      0 < length (held_at f doubt.entry.place).slots
  pub blocks : (k : ℕ) → is_off (get_or f.core.tags k Off) ≡ false → is_some (block_of f k) ≡ true

-- unless its core has ended
abbrev pub IsFileEquipped : File → Type 0
IsFileEquipped f = f.ended ≡ false → IsEquipped f

-- each file has a number of its own
abbrev pub HaveOwnNumbers : List File → Type 0
HaveOwnNumbers [] = Unit {0}
HaveOwnNumbers (f ∷ files) = OfEachFile (λ g. g.ino ≢ f.ino) files × HaveOwnNumbers files

-- a region has as many words as at its newest persist, and a block so many bytes as at its newest
-- flush
abbrev pub IsEvenRegion : Seen WordStep → Type 0
IsEvenRegion seen = length (words_kept seen.history) ≡ length (words_of seen)

abbrev pub IsEvenBlock : Seen BlockStep → Type 0
IsEvenBlock seen =
    (length (content_kept seen.history).bytes ≡ BLOCK_LEN)
    × (length (content_of seen).bytes ≡ BLOCK_LEN)

pub record IsEven (drive : Drive) : Type 0 where
  pub regions : All IsEvenRegion drive.regions
  pub blocks : All IsEvenBlock drive.blocks

-- ---- the tree

-- each image of the selector, the two tables and the journal recovers the tree, or the tree with
-- the change in doubt
abbrev pub IsTreeShown : World → Type 0
IsTreeShown world =
    (images : List (List ℕ)) → IsEachImage IsImage (take 67 world.drive.regions) images →
    IsTreeOr (tree_of world.names.now) world.names.doubt (recovered images)

-- ---- the world

pub record IsShown (world : World) : Type 0 where
  pub files : OfEachFile (IsFileShown world.drive) world.files
  pub apart : AllApart world.files
  pub placed : OfEachFile (IsPlaced world.drive) world.files
  pub equipped : OfEachFile IsFileEquipped world.files
  pub numbers : HaveOwnNumbers world.files
  pub even : IsEven world.drive
  pub tree : IsTreeShown world

-- Whatever a crash leaves of a file's devices recovers the file after its log, and then the request
-- in doubt where its gate was left open.
abbrev pub IsRecovered : Drive → File → Type 0
IsRecovered drive f =
    f.ended ≡ false →
    AllRemains (devices_of_file drive f) (Recovers f.ino (length f.core.log + 2) f.core)

-- So it is of a world that is shown.
abbrev pub ShownFilesRecover : Type 0
ShownFilesRecover =
    (world : World) → IsShown world → AreReached world →
    OfEachFile (IsRecovered world.drive) world.files

-- lines that are proved to keep that
abbrev pub keeps_shown : Form → Bool
keeps_shown (forms.Caller c uid gid) = true
keeps_shown (forms.Lseek c fd seek) = true
keeps_shown (forms.Read c fd n) = true
keeps_shown (forms.Pread c fd offset n) = true
keeps_shown (forms.Fsync c fd) = true
keeps_shown (forms.Post c fd offset n) = true
keeps_shown (forms.Serve c fd place) = true
keeps_shown (forms.Dispatch ino place) = true
keeps_shown (forms.Apply ino place) = true
keeps_shown (forms.Finish ino place) = true
keeps_shown (forms.Skip ino place) = true
keeps_shown (forms.Trim ino) = true
keeps_shown (forms.Settle ino) = true
keeps_shown forms.Turn = true
keeps_shown forms.Drain = true
keeps_shown (forms.Queue c fd) = true
keeps_shown (forms.Stop n) = true
keeps_shown forms.Mount = true
keeps_shown (forms.Fail device k) = true
keeps_shown (forms.FailRead device k) = true
keeps_shown other = false

-- no entry waits or is out
abbrev pub NothingLive : Core → Type 0
NothingLive core = list_any (λ t. is_live t.state) core.tracks ≡ false

-- no core has ended
abbrev pub NoneHasEnded : World → Type 0
NoneHasEnded world = OfEachFile (λ f. f.ended ≡ false) world.files

-- nothing of the file that is open there is live
abbrev pub IsRead : ℕ → ℕ → World → Type 0
IsRead c fd world =
    (d : Descriptor) → descriptor_in world c fd ≡ Some d → NothingLive (core_in world d.grant.ino)

-- A worker's line is about files whose cores have not ended; so is one that reads, or else what is
-- read has nothing in its way.
abbrev pub Suits : World → Form → Type 0
Suits world (forms.Apply ino place) = (file_in world ino).ended ≡ false
Suits world (forms.Finish ino place) = (file_in world ino).ended ≡ false
Suits world (forms.Skip ino place) = (file_in world ino).ended ≡ false
Suits world (forms.Settle ino) = (file_in world ino).ended ≡ false
Suits world (forms.Trim ino) = NoneHasEnded world
Suits world forms.Turn = NoneHasEnded world
Suits world forms.Drain = NoneHasEnded world
Suits world (forms.Read c fd n) = NoneHasEnded world ⊎ IsRead c fd world
Suits world (forms.Pread c fd offset n) = NoneHasEnded world ⊎ IsRead c fd world
Suits world (forms.Fsync c fd) = NoneHasEnded world ⊎ IsRead c fd world
Suits world (forms.Serve c fd place) = NoneHasEnded world ⊎ IsRead c fd world
Suits world other = Unit {0}

abbrev pub LinesKeepShown : Type 0
LinesKeepShown =
    (old new : World) (line : Line) (out : List OutLine) → old.phase ≡ Up →
    keeps_shown line.form ≡ true → Suits old line.form → AreReached old → IsShown old →
    Step line old out new → IsShown new

-- ---- crashes

-- What a crash may leave behind a crash, it may leave before it: a file that is recovered stays so.
abbrev pub CrashesLeaveLess : Type 0
CrashesLeaveLess =
    (k : ℕ) (drive : Drive) (f : File) → IsEven drive → IsRecovered drive f →
    IsRecovered (crashed k drive) f

-- whatever a crash leaves recovers the files and the tree
pub record IsSaved (world : World) : Type 0 where
  pub files : OfEachFile (IsRecovered world.drive) world.files
  pub tree : IsTreeShown world
  pub even : IsEven world.drive

-- Behind a crash of a world that is shown it does,
abbrev pub CrashesRecover : Type 0
CrashesRecover =
    (old new : World) (line : Line) (k : ℕ) (out : List OutLine) → line.form ≡ forms.Crash k →
    AreReached old → IsShown old → Step line old out new →
    IsSaved new

-- and so it does until the next mount, whatever is tried, and crashes again.
abbrev pub CrashedRunsRecover : Type 0
CrashedRunsRecover =
    (old new : World) (lines : List Line) (outs : List OutLine) → HaveNoMount lines →
    Run old lines outs new → (old.phase ≡ Up → ⊥) → IsSaved old → IsSaved new
