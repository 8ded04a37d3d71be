-- A job's steps on the blocks of a file keep a world shown by its devices.
use Rattle.std.proofs.Common.{◌≡◌, ◌≢◌, ℕ, ◌+◌, ◌*◌, ◌<◌, Bool, true, false, Option, Some, None}
use Rattle.std.proofs.Common.{List, length, get_or, set, refl, sym, ap, ◌∙◌, subst, if◌then◌else◌}
use Rattle.std.proofs.Common.{arith}
use Rattle.std.specs.Prelude.{◌==◌, unwrap_or}
use Rattle.std.specs.List.{All}
use Rattle.std.specs.Option.{option_map}
use Rattle.std.proofs.Math.Path.{fun_ext}
use Rattle.std.proofs.lemmas.Bool.{eqb-false, eqb-true, ne_eqb}
use Rattle.std.proofs.lemmas.List.{get_or-set_other, get_or-set_same, length-set}
use Rattle.cfs_file.specs.declared.sizes.TheConstants.{FILE_BLOCKS}
use Rattle.cfs_core.specs.declared.flag.Flag.{Flag}
use Rattle.cfs_core.specs.declared.flag.Flag.TheVariants.{Off, On, Unsure}
use Rattle.cfs_core.specs.declared.inode_core.Core.{Core}
use Rattle.cfs_core.specs.Words.{can_be, is_on}
use Rattle.cfs_pmem.specs.declared.trace.Asked.{Asked}
use Rattle.cfs_pmem.specs.Images.{Seen}
use Rattle.cfs_block.specs.BlockImages.{BlockStep}
use Rattle.cfs_medium.specs.Shows.{Shows, is_for}
use Rattle.cfs_medium.specs.World as media
use Rattle.cfs_medium.specs.WorldCalls.{with_block}
use Rattle.cfs_meaning.specs.Drive.{Drive, block_at}
use Rattle.cfs_meaning.specs.World.{File, World, block_of, core_in, file_in, find_file, new_file}
use Rattle.cfs_meaning.specs.World.{with_core}
use Rattle.cfs_meaning.specs.Devices.{AreApart, IsEvenBlock, IsFileEquipped, IsFileShown, IsPlaced}
use Rattle.cfs_meaning.specs.Devices.{IsShown, OfEachFile, devices_of_file}
use Rattle.cfs_meaning.proofs.ShownFiles.{all-numbered, files-both, found-in, one-replaced}
use Rattle.cfs_meaning.proofs.ShownFiles.{own-replaced, placed-within, replaced-but, still-apart}
use Rattle.cfs_meaning.proofs.ShownFiles.{still-within}
use Rattle.cfs_meaning.proofs.ShownNeeds.{NeedsLess, less-equipped}

-- ---- one block changes

-- the drive with another block at a number
abbrev pub with_seen : ℕ → Seen BlockStep → List Asked → Drive → Drive
with_seen b seen asked drive =
    record drive { asked = asked; blocks = set drive.blocks b seen }

-- the devices of a file that has not the block
others-devices : (drive : Drive) (b : ℕ) (seen : Seen BlockStep) (asked : List Asked) (g : File) →
    ((j n : ℕ) → block_of g j ≡ Some n → n ≢ b) →
    devices_of_file (with_seen b seen asked drive) g ≡ devices_of_file drive g
others-devices drive b seen asked g other =
    ap (λ (f : ℕ → Option (Seen BlockStep)). record (devices_of_file drive g) { blocks = f })
    (fun_ext (λ j. by-block j (block_of g j) refl))
  where
    by-block : (j : ℕ) (o : Option ℕ) → block_of g j ≡ o →
        option_map (block_at (with_seen b seen asked drive)) o ≡ option_map (block_at drive) o
    by-block j None is = refl
    by-block j (Some n) is =
        ap (λ (s : Seen BlockStep). Some s)
        (get_or-set_other drive.blocks b n seen _ (other j n is))

-- the devices of the file that has it
own-devices : (drive : Drive) (b k : ℕ) (seen : Seen BlockStep) (asked : List Asked) (g : File) →
    block_of g k ≡ Some b → b < length drive.blocks →
    ((j n : ℕ) → block_of g j ≡ Some n → j ≢ k → n ≢ b) →
    devices_of_file (with_seen b seen asked drive) g
    ≡ with_block k (Some seen) (devices_of_file drive g)
own-devices drive b k seen asked g here low other =
    ap (λ (f : ℕ → Option (Seen BlockStep)). record (devices_of_file drive g) { blocks = f })
    (fun_ext (λ j. by-test j (j == k) refl))
  where
    by-block : (j : ℕ) → j ≢ k → (o : Option ℕ) → block_of g j ≡ o →
        option_map (block_at (with_seen b seen asked drive)) o ≡ option_map (block_at drive) o
    by-block j apart None is = refl
    by-block j apart (Some n) is =
        ap (λ (s : Seen BlockStep). Some s)
        (get_or-set_other drive.blocks b n seen _ (other j n is apart))

    by-test : (j : ℕ) (t : Bool) → (j == k) ≡ t →
        option_map (block_at (with_seen b seen asked drive)) (block_of g j)
        ≡ (if t then Some seen else option_map (block_at drive) (block_of g j))
    by-test j true is =
        ap (λ o. option_map (block_at (with_seen b seen asked drive)) o)
        (ap (block_of g) (eqb-true j k is) ∙ here)
        ∙ ap (λ (s : Seen BlockStep). Some s) (get_or-set_same drive.blocks b seen _ low)
    by-test j false is = by-block j (eqb-false j k is) (block_of g j) refl

all-set : (xs : List (Seen BlockStep)) (b : ℕ) (seen : Seen BlockStep) → IsEvenBlock seen →
    All IsEvenBlock xs → All IsEvenBlock (set xs b seen)
all-set xs b seen here all = λ j d low. by-test j d low (j == b) refl
  where
    by-test : (j : ℕ) (d : Seen BlockStep) → j < length (set xs b seen) → (t : Bool) →
        (j == b) ≡ t → IsEvenBlock (get_or (set xs b seen) j d)
    by-test j d low true is =
        let same : j ≡ b = eqb-true j b is in
        let within : b < length xs = omega (arith, length-set xs b seen) in
        subst IsEvenBlock
        (sym (ap (λ n. get_or (set xs b seen) n d) same ∙ get_or-set_same xs b seen d within)) here
    by-test j d low false is =
        subst IsEvenBlock (sym (get_or-set_other xs b j seen d (eqb-false j b is)))
        (all j d (omega (arith, length-set xs b seen)))

-- The block of a file block becomes another, and the file's core one that its devices show then.
pub block-shown : (world : World) (ino k b : ℕ) (seen : Seen BlockStep) (core : Core)
    (asked : List Asked) → (f : File) → find_file world ino ≡ Some f →
    block_of (file_in world ino) k ≡ Some b → IsEvenBlock seen →
    ((file_in world ino).ended ≡ false → Shows (file_in world ino).ino core
    (with_block k (Some seen) (devices_of_file world.drive (file_in world ino)))) →
    NeedsLess (core_in world ino) core → IsShown world →
    IsShown (record (with_core ino core world) { drive = with_seen b seen asked world.drive })
block-shown world ino k b seen core asked f found here full shows less shown = record {
  files = replaced-but
      (λ g. IsFileShown world.drive g × AreApart old g) (IsFileShown changed) new world.files
      (λ up. subst (Shows old.ino core)
      (sym (own-devices world.drive b k seen asked old here low own)) (shows up))
      (λ g other holds up. subst (Shows g.ino g.core)
      (sym (others-devices world.drive b seen asked g (apart g other holds.1)))
      (holds.0 up))
      (files-both (IsFileShown world.drive) (AreApart old) _ (λ g a c. (a, c)) world.files
      shown.files all);
  apart = still-apart world ino new (still-within core old.passed old)
      (all-numbered world shown) shown.apart;
  placed = replaced-but (IsPlaced world.drive) (IsPlaced changed) new world.files
      (still new (placed-within world.drive new old (still-within core old.passed old) old_placed))
      (λ g other h. still g h) shown.placed;
  equipped = one-replaced IsFileEquipped IsFileEquipped world ino new refl
      (all-numbered world shown) (λ has up. less-equipped old core less (has up)) shown.equipped
      shown.equipped;
  numbers = own-replaced new world.files shown.numbers;
  even = record {
    regions = shown.even.regions;
    blocks = all-set world.drive.blocks b seen full shown.even.blocks;
  };
  tree = shown.tree;
}
  where
    old : File
    old = file_in world ino

    new : File
    new = record (file_in world ino) { core = core }

    changed : Drive
    changed = with_seen b seen asked world.drive

    same : old ≡ f
    same = ap (λ o. unwrap_or o (new_file 0 0)) found

    all : OfEachFile (AreApart old) world.files
    all = subst (λ g. OfEachFile (AreApart g) world.files) (sym same)
        (found-in (λ g. OfEachFile (AreApart g) world.files) world ino f found shown.apart)

    itself : AreApart old old
    itself = subst (AreApart old) (sym same) (found-in (AreApart old) world ino f found all)

    old_placed : IsPlaced world.drive old
    old_placed = subst (IsPlaced world.drive) (sym same)
        (found-in (IsPlaced world.drive) world ino f found shown.placed)

    low : b < length world.drive.blocks
    low = old_placed.blocks k b here

    own : (j n : ℕ) → block_of old j ≡ Some n → j ≢ k → n ≢ b
    own j n is apart same_b =
        apart (itself.blocks j k b (is ∙ ap (λ m. Some m) same_b) here).1

    apart : (g : File) → g.ino ≢ new.ino → AreApart old g → (j n : ℕ) → block_of g j ≡ Some n →
        n ≢ b
    apart g other holds j n is same_b =
        other (sym (holds.blocks k j b here (is ∙ ap (λ m. Some m) same_b)).0)

    still : (g : File) → IsPlaced world.drive g → IsPlaced changed g
    still g placed = record {
      number = placed.number;
      low = placed.low;
      size = record { within = placed.size.within; word = placed.size.word };
      slots = λ gate r is.
          let has = placed.slots gate r is in record { within = has.within; word = has.word };
      heads = placed.heads;
      blocks = λ j n is.
          let within = placed.blocks j n is in
          let same_len = length-set world.drive.blocks b seen in omega (arith, within, same_len);
    }

-- ---- a job's block is mapped

pub flag-off : (ino k : ℕ) → is_for ino k media.nothing ≡ false
flag-off ino k = ne_eqb 0 (ino * 65536 + k + 1) (λ is. omega (arith, is))

-- a file block that is tagged in every image has a block
pub mapped-has : (drive : Drive) (f : File) (k : ℕ) → Shows f.ino f.core (devices_of_file drive f) →
    k < FILE_BLOCKS → is_on (get_or f.core.tags k Off) ≡ true → (b : ℕ) × (block_of f k ≡ Some b)
mapped-has drive f k shows low on = by-block (block_of f k) refl
  where
    none-on : (flag : Flag) → is_on flag ≡ true →
        can_be flag false ≡ true → ⊥
    none-on Off is may_be = absurd (cc)
    none-on On is may_be = absurd (cc)
    none-on Unsure is may_be = absurd (cc)

    by-block : (o : Option ℕ) → block_of f k ≡ o → (b : ℕ) × (block_of f k ≡ Some b)
    by-block (Some b) is = (b, is)
    by-block None is =
        let fits = (shows.blocks k low).images media.nothing
        (subst (λ o. media.IsImageAt (option_map (block_at drive) o) media.nothing) (sym is)
        refl) in
        absurd (none-on (get_or f.core.tags k Off) on
        (ap (λ t. can_be (get_or f.core.tags k Off) t)
        (sym (flag-off f.ino k)) ∙ fits.tag_is))
