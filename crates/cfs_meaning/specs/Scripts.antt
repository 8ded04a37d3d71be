-- What playing a script on an image does.
use Rattle.std.specs.Prelude.{◌≡◌, ℕ, List, [], length, map, Ok}
use Rattle.std.specs.List.{enumerate_from}
use Rattle.cfs_pmem.specs.Images as regions
use Rattle.cfs_pmem.specs.Images.{words_of}
use Rattle.cfs_block.specs.BlockImages as blocks
use Rattle.cfs_block.specs.BlockImages.{Content, content_of}
use Rattle.cfs_image.specs.Held.{AreHeld}
use Rattle.cfs_image.specs.Image.{image_of}
use Rattle.cfs_script.specs.declared.line.Line.{Line}
use Rattle.cfs_print.specs.declared.out_line.OutLine.{OutLine}
use Rattle.cfs_meaning.specs.Drive.{Drive}
use Rattle.cfs_meaning.specs.World.{World}
use Rattle.cfs_meaning.specs.Mounting.{mount_steps, mounted_world}
use Rattle.cfs_meaning.specs.Play.{Run}

-- the devices of an image as it is loaded, under a power that was asked and told nothing
abbrev pub loaded : List (List ℕ) → List Content → Drive
loaded words contents = record {
  asked = [];
  regions = map (λ w. regions.began w.0 w.1) (enumerate_from 0 words);
  blocks = map (λ c. blocks.began c.0 c.1) (enumerate_from (length words) contents);
}

-- the image of the words and bytes that stand now
abbrev pub saved : Drive → List ℕ
saved drive = image_of (map words_of drive.regions) (map content_of drive.blocks)

-- The image is that of a store, which was mounted; the lines were played from there on and printed
-- this; and what stood then is the new image.
pub record Plays (image : List ℕ) (lines : List Line) (out : List OutLine)
    (new_image : List ℕ) : Type 0 where
  pub words : List (List ℕ)
  pub contents : List Content
  pub held : AreHeld words contents
  pub is_image : image ≡ image_of words contents
  pub home : World
  pub mounts : mount_steps (mounted_world [] (loaded words contents)) (Ok tt) home
  pub end : World
  pub run : Run (mounted_world [] home.drive) lines out end
  pub saves : new_image ≡ saved end.drive
