-- A file that begins empty is shown by its devices.
use Rattle.std.proofs.Common.{◌≡◌, ◌≢◌, ℕ, zero, suc, ◌-◌, ◌<◌, Bool, true, false}
use Rattle.std.proofs.Common.{None, List, [], ◌∷◌, ◌++◌, get_or, replicate, refl, sym, ap}
use Rattle.std.proofs.Common.{◌∙◌, subst, arith, if◌then◌else◌}
use Rattle.std.specs.Prelude.{◌==◌}
use Rattle.std.specs.List.{Contains}
use Rattle.std.proofs.lemmas.List.{append-nil, length-replicate}
use Rattle.cfs_file.specs.declared.sizes.TheConstants.{FILE_BLOCKS}
use Rattle.cfs_core.specs.declared.flag.Flag.TheVariants.{Off}
use Rattle.cfs_core.specs.Medium.{is_size}
use Rattle.cfs_core.specs.Words.{blank, can_be, is_off, track}
use Rattle.cfs_dir.specs.declared.change.Change.{Change}
use Rattle.cfs_dir.specs.declared.change.Change.TheVariants as changes
use Rattle.cfs_dir.specs.Namespace.{is_directory}
use Rattle.cfs_pmem.specs.Images.{AllImages, IsImage, WordStep}
use Rattle.cfs_pmem.specs.Objects.{IsEachImage}
use Rattle.cfs_pmem.proofs.ImageLemmas.{now_is_image}
use Rattle.cfs_medium.specs.Shows.{BlockFits, BlockShown, Shows, SlotFits, holding, is_for}
use Rattle.cfs_medium.specs.World as media
use Rattle.cfs_meaning.specs.Drive.{Drive, region_at}
use Rattle.cfs_meaning.specs.Steps.{size_word}
use Rattle.cfs_meaning.specs.World.{File, World, empty_core, new_file}
use Rattle.cfs_meaning.specs.Names.{files_made}
use Rattle.cfs_meaning.specs.Devices.{AreApart, HaveOwnNumbers, IsFileEquipped}
use Rattle.cfs_meaning.specs.Devices.{IsFileShown, IsPlaced, OfEachFile, devices_of_file}
use Rattle.cfs_meaning.specs.Trees.{MayBegin}
use Rattle.cfs_meaning.proofs.Keyed.{files-joined}
use Rattle.cfs_meaning.proofs.ShownBlocks.{flag-off}
use Rattle.cfs_meaning.proofs.ShownFiles.{files-both, files-map}
use Rattle.cfs_meaning.proofs.ShownTrees.{AreFilesShown}

-- ---- an empty core

off-at : (n k : ℕ) → get_or (replicate n Off) k Off ≡ Off
off-at zero k = refl
off-at (suc n) zero = refl
off-at (suc n) (suc k) = off-at n k

blank-at : (place : ℕ) → track [] place ≡ blank
blank-at place = by-test (place == 0)
  where
    by-test : (b : Bool) → (if b then blank else get_or [] (place - 1) blank) ≡ blank
    by-test true = refl
    by-test false = refl

no-slots : (ino place : ℕ) (slots : List (List ℕ)) → IsEachImage {Form = WordStep} IsImage [] slots →
    SlotFits ino place (holding empty_core None place) slots
no-slots ino place [] images = record {
  gate = ap (λ t. can_be t.gate false) (blank-at place);
  number = λ open_. absurd (cc);
  mark = λ open_. absurd (cc);
  file = λ open_. absurd (cc);
  request = λ open_. absurd (cc);
}
no-slots ino place (words ∷ slots) images = absurd images

no-block : (ino block : ℕ) →
    BlockShown ino block (get_or (replicate FILE_BLOCKS Off) block Off) [] [] None
no-block ino block = record {
  images = λ content is. subst
      (λ c. BlockFits ino block (get_or (replicate FILE_BLOCKS Off) block Off) [] [] c) (sym is)
      (record {
        tag_is = ap (λ flag. can_be flag (is_for ino block media.nothing)) (off-at FILE_BLOCKS block)
            ∙ ap (λ b. can_be Off b) (flag-off ino block);
        free = λ other. refl;
        bytes_are = λ own. absurd (clash own);
      });
  reads = tt;
}
  where
    clash : is_for ino block media.nothing ≡ true → ⊥
    clash own = let wrong : true ≡ false = sym own ∙ flag-off ino block in absurd (cc)

-- a size word that is 0
size-zero : (n : ℕ) → n ≡ 0 → is_size empty_core n ≡ true
size-zero n is = ap (is_size empty_core) is

new-shows : (drive : Drive) (ino rec : ℕ) →
    AllImages (region_at drive (size_word rec)) (λ words. get_or words 0 0 ≡ 0) →
    Shows ino empty_core (devices_of_file drive (new_file ino rec))
new-shows drive ino rec clear = record {
  shape = record {
    tags = length-replicate FILE_BLOCKS Off;
    tracks = refl;
    doubt = λ d is. absurd (cc);
    loose = λ p is. absurd (cc);
  };
  sizes = λ words image. size-zero (get_or words 0 0) (clear words image);
  size_now = clear _ (now_is_image (region_at drive (size_word rec)).history);
  slots = λ place slots images. no-slots ino place slots images;
  blocks = λ block low. no-block ino block;
}

-- ---- among the other files

none-in : (d : ℕ) → Contains [] d → ⊥
none-in d is = let wrong : is.0 < 0 = is.1 in omega (arith, wrong)

new-placed : (world : World) (ino rec : ℕ) → MayBegin world (new_file ino rec) →
    IsPlaced world.drive (new_file ino rec)
new-placed world ino rec may = record {
  number = may.number;
  low = may.low;
  size = may.size;
  slots = λ gate r is. absurd (none-in r is);
  heads = λ gate s tails is. absurd (cc);
  blocks = λ k b is. absurd (cc);
}

new-equipped : (ino rec : ℕ) → IsFileEquipped (new_file ino rec)
new-equipped ino rec up = record {
  up = refl;
  slots = λ k needs. absurd (cc);
  doubt = λ d is. absurd (cc);
  blocks = λ k tagged.
      let wrong : true ≡ false = sym (ap is_off (off-at FILE_BLOCKS k)) ∙ tagged in absurd (cc);
}

new-apart : (ino rec : ℕ) (g : File) → (g.ino ≢ ino) × (g.rec ≢ rec) →
    AreApart (new_file ino rec) g
new-apart ino rec g other = record {
  records = λ same. absurd (other.1 (sym same));
  slots = λ gate at d one more. absurd (none-in d one);
  blocks = λ j k b one more. absurd (cc);
}

apart-new : (ino rec : ℕ) (g : File) → (g.ino ≢ ino) × (g.rec ≢ rec) →
    AreApart g (new_file ino rec)
apart-new ino rec g other = record {
  records = λ same. absurd (other.1 same);
  slots = λ gate at d one more. absurd (none-in d more);
  blocks = λ j k b one more. absurd (cc);
}

itself-apart : (ino rec : ℕ) → AreApart (new_file ino rec) (new_file ino rec)
itself-apart ino rec = record {
  records = λ same. refl;
  slots = λ gate at d one more. absurd (none-in d one);
  blocks = λ j k b one more. absurd (cc);
}

numbers-more : (files : List File) (new : File) → HaveOwnNumbers files →
    OfEachFile (λ g. g.ino ≢ new.ino) files → HaveOwnNumbers (files ++ new ∷ [])
numbers-more [] new own other = (tt, tt)
numbers-more (f ∷ files) new own other = (
  files-joined (λ g. g.ino ≢ f.ino) files (new ∷ []) own.0 ((λ same. other.0 (sym same)), tt),
  numbers-more files new own.1 other.1,
)

begun-one : (world : World) (ino rec : ℕ) → AreFilesShown world →
    MayBegin world (new_file ino rec) →
    AreFilesShown (record world { files = world.files ++ new_file ino rec ∷ [] })
begun-one world ino rec shown may = record {
  files = files-joined (IsFileShown world.drive) world.files (new ∷ []) shown.files
      ((λ up. new-shows world.drive ino rec may.clear), tt);
  apart = files-joined (λ f. OfEachFile (AreApart f) (world.files ++ new ∷ [])) world.files
      (new ∷ [])
      (files-both (λ f. OfEachFile (AreApart f) world.files)
      (λ f. (f.ino ≢ ino) × (f.rec ≢ rec)) (λ f. OfEachFile (AreApart f) (world.files ++ new ∷ []))
      (λ f all other. files-joined (AreApart f) world.files (new ∷ []) all
      (apart-new ino rec f other, tt)) world.files shown.apart may.other) (
        files-joined (AreApart new) world.files (new ∷ [])
            (files-map (λ g. (g.ino ≢ ino) × (g.rec ≢ rec)) (AreApart new)
            (λ g other. new-apart ino rec g other) world.files may.other)
            (itself-apart ino rec, tt),
        tt,
      );
  placed = files-joined (IsPlaced world.drive) world.files (new ∷ []) shown.placed
      (new-placed world ino rec may, tt);
  equipped = files-joined IsFileEquipped world.files (new ∷ []) shown.equipped
      (new-equipped ino rec, tt);
  numbers = numbers-more world.files new shown.numbers
      (files-map (λ g. (g.ino ≢ ino) × (g.rec ≢ rec)) (λ g. g.ino ≢ ino) (λ g other. other.0)
      world.files may.other);
  even = shown.even;
}
  where
    new : File
    new = new_file ino rec

with-none : (world : World) → AreFilesShown world →
    AreFilesShown (record world { files = world.files ++ [] })
with-none world shown =
    subst (λ files. AreFilesShown (record world { files = files }))
    (sym (append-nil world.files)) shown

pub begun-shown : (world : World) (change : Change) → AreFilesShown world →
    OfEachFile (MayBegin world) (files_made change) →
    AreFilesShown (record world { files = world.files ++ files_made change })
begun-shown world (changes.Create node) shown may = by-test (is_directory node.kind) may
  where
    by-test : (b : Bool) →
        OfEachFile (MayBegin world) (if b then [] else new_file node.ino node.rec ∷ []) →
        AreFilesShown (record world {
          files = world.files ++ (if b then [] else new_file node.ino node.rec ∷ []);
        })
    by-test true none = with-none world shown
    by-test false one = begun-one world node.ino node.rec shown one.0
begun-shown world (changes.Remove rec ino) shown may = with-none world shown
begun-shown world (changes.Move node replaced) shown may = with-none world shown
