-- Regions of the tree change: files stay shown by their devices, and the journal and the checkpoint
-- stand for a tree.
use Rattle.std.proofs.Common.{◌≡◌, ℕ, ◌+◌, ◌<◌, ◌≤◌, List}
use Rattle.std.proofs.Common.{length, map, drop, take, set, sym, ap, ◌∙◌, subst, arith}
use Rattle.std.proofs.lemmas.List.{drop-set-add, get_or-drop, get_or-take, length-drop, length-take}
use Rattle.std.proofs.lemmas.List.{map-set, set-get_or, take-set-le}
use Rattle.std.proofs.Math.Seq.{take-set-lt}
use Rattle.cfs_dir.specs.declared.change.Change.{Change}
use Rattle.cfs_dir.specs.Namespace.{Namespace}
use Rattle.cfs_dir.specs.Tree.{IsTree}
use Rattle.cfs_pmem.specs.AllMoments.{AreDistinct}
use Rattle.cfs_pmem.specs.declared.trace.Asked.{Asked}
use Rattle.cfs_pmem.specs.Images.{Seen, WordStep, devices_of}
use Rattle.cfs_pmem.specs.Objects.{all_devices, seen_at}
use Rattle.cfs_journal.specs.Standing.{Standing}
use Rattle.cfs_ckpt.specs.Selects.{Selects}
use Rattle.cfs_medium.specs.Shows.{Shows}
use Rattle.cfs_names.specs.Behind.{AreBehind}
use Rattle.cfs_names.specs.Recovered.{IsTreeOr, recovered}
use Rattle.cfs_meaning.specs.Drive.{Drive, region_at}
use Rattle.cfs_meaning.specs.NameSteps.{tree_of}
use Rattle.cfs_meaning.specs.World.{File, Names, World, held_at}
use Rattle.cfs_meaning.specs.Devices.{AllApart, HaveOwnNumbers, IsEven, IsFileEquipped, IsFileShown}
use Rattle.cfs_meaning.specs.Devices.{IsPlaced, IsShown, OfEachFile}
use Rattle.cfs_meaning.specs.Trees.{IsTreeStored, front_in, records_in, tables_in}
use Rattle.cfs_meaning.proofs.RegionOps.{IsLike, as-long}
use Rattle.cfs_meaning.proofs.ShownFiles.{files-map}
use Rattle.cfs_meaning.proofs.ShownRegions.{IsAsLong, IsAside, all-set, device-high, others-regions}
use Rattle.cfs_meaning.proofs.ShownRegions.{placed-changed, with_words}
use Rattle.cfs_meaning.proofs.TreeRests.{stored-recovers}

-- ---- files

-- what is shown beside the tree
pub record AreFilesShown (world : World) : Type 0 where
  pub files : OfEachFile (IsFileShown world.drive) world.files
  pub apart : AllApart world.files
  pub placed : OfEachFile (IsPlaced world.drive) world.files
  pub equipped : OfEachFile IsFileEquipped world.files
  pub numbers : HaveOwnNumbers world.files
  pub even : IsEven world.drive

pub files-shown : (world : World) → IsShown world → AreFilesShown world
files-shown world shown = record {
  files = shown.files;
  apart = shown.apart;
  placed = shown.placed;
  equipped = shown.equipped;
  numbers = shown.numbers;
  even = shown.even;
}

-- a region of the tree is none of a file's
front-aside : (drive : Drive) (r : ℕ) → r < 67 → (f : File) → IsAside r f
front-aside drive r low f = record {
  size = λ is. omega (arith, is, low);
  slots = λ gate d is same.
      let high = device-high (held_at f gate) d is in omega (arith, high, same, low);
}

pub front-changed : (world : World) (r : ℕ) (seen : Seen WordStep) (asked : List Asked)
    (n : Names) → r < 67 → IsAsLong (region_at world.drive r) seen → AreFilesShown world →
    AreFilesShown (record world { drive = with_words r seen asked world.drive; names = n })
front-changed world r seen asked n low long shown = record {
  files = files-map (IsFileShown world.drive)
      (IsFileShown (with_words r seen asked world.drive))
      (λ f shows up. subst (Shows f.ino f.core)
      (sym (others-regions world.drive r seen asked f (front-aside world.drive r low f)))
      (shows up)) world.files shown.files;
  apart = shown.apart;
  placed = files-map (IsPlaced world.drive) (IsPlaced (with_words r seen asked world.drive))
      (λ f placed. placed-changed world.drive r seen asked long f placed) world.files
      shown.placed;
  equipped = shown.equipped;
  numbers = shown.numbers;
  even = record {
    regions = all-set world.drive.regions r seen long.even shown.even.regions;
    blocks = shown.even.blocks;
  };
}

pub names-changed : (world : World) (n : Names) → AreFilesShown world →
    AreFilesShown (record world { names = n })
names-changed world n shown = record {
  files = shown.files;
  apart = shown.apart;
  placed = shown.placed;
  equipped = shown.equipped;
  numbers = shown.numbers;
  even = shown.even;
}

-- ---- the regions of the tree

devices-stay : (seens : List (Seen WordStep)) (at : ℕ) (new : Seen WordStep) →
    devices_of new ≡ devices_of (seen_at seens at) →
    all_devices (set seens at new) ≡ all_devices seens
devices-stay seens at new same =
    map-set devices_of seens at new
    ∙ ap (λ (ds : List ℕ). set (map devices_of seens) at ds) same
    ∙ sym (map-set devices_of seens at (seen_at seens at))
    ∙ ap (λ (ss : List (Seen WordStep)). map devices_of ss) (set-get_or seens at _)

-- the regions are there
pub front-long : (tree : Namespace) (world : World) → IsTreeStored tree world →
    67 ≤ length world.drive.regions
front-long tree world stored =
    let records = stored.journal.size in
    let cut = length-drop 3 (front_in world.drive) in
    let first = length-take 67 world.drive.regions in
    omega (arith, records, cut, first)

pub front-set : (drive : Drive) (r : ℕ) (new : Seen WordStep) (asked : List Asked) → r < 67 →
    front_in (with_words r new asked drive) ≡ set (front_in drive) r new
front-set drive r new asked low = take-set-lt 67 drive.regions r new low

pub front-at : (drive : Drive) (r : ℕ) → r < 67 → seen_at (front_in drive) r ≡ region_at drive r
front-at drive r low = get_or-take 67 drive.regions r _ low

pub record-at : (drive : Drive) (p : ℕ) → p < 64 →
    seen_at (records_in drive) p ≡ region_at drive (3 + p)
record-at drive p low =
    get_or-drop 3 (front_in drive) p _ ∙ front-at drive (3 + p) (omega (arith, low))

pub distinct-set : (drive : Drive) (r : ℕ) (new : Seen WordStep) (asked : List Asked) → r < 67 →
    devices_of new ≡ devices_of (region_at drive r) → AreDistinct (all_devices (front_in drive)) →
    AreDistinct (all_devices (front_in (with_words r new asked drive)))
distinct-set drive r new asked low same distinct =
    subst AreDistinct
    (sym (ap all_devices (front-set drive r new asked low)
    ∙ devices-stay (front_in drive) r new (same ∙ ap devices_of (sym (front-at drive r low)))))
    distinct

-- ---- a record changes

-- files are shown, the journal and the checkpoint stand for one tree, and the world has another
pub record IsStoring (tree now : Namespace) (world : World) : Type 0 where
  pub files : AreFilesShown world
  pub stored : IsTreeStored tree world
  pub now_is : tree_of world.names.now ≡ now

pub storing-shown : (tree : Namespace) (world : World) → IsStoring tree tree world → IsShown world
storing-shown tree world storing = record {
  files = storing.files.files;
  apart = storing.files.apart;
  placed = storing.files.placed;
  equipped = storing.files.equipped;
  numbers = storing.files.numbers;
  even = storing.files.even;
  tree = λ images each.
      subst (λ t. IsTreeOr t world.names.doubt (recovered images)) (sym storing.now_is)
      (stored-recovers tree world storing.stored images each);
}

-- what the names say of the selector and the tree is as it was
pub record IsBeside (old new : Names) : Type 0 where
  pub now : tree_of new.now ≡ tree_of old.now
  pub unsure : new.selector_unsure ≡ old.selector_unsure

pub record-changed : (tree after now : Namespace) (world : World) (p : ℕ) (new : Seen WordStep)
    (asked : List Asked) (n : Names) (changes : List Change) → p < 64 →
    IsStoring tree now world → IsLike (region_at world.drive (3 + p)) new →
    IsBeside world.names n → length changes ≡ n.records →
    Standing n.through changes n.doubt (set (records_in world.drive) p new) →
    AreBehind n.through changes after (tables_in world.drive) → IsTree after.nodes after.next →
    IsStoring after now
    (record world { drive = with_words (3 + p) new asked world.drive; names = n })
record-changed tree after now world p new asked n changes low storing like beside count standing
    behind whole =
    let r : ℕ = 3 + p in
    let below : r < 67 = omega (arith, low) in
    let drive : Drive = world.drive in
    let changed : Drive = with_words r new asked drive in
    let front = front-set drive r new asked below in
    let long = front-long tree world storing.stored in
    let tables : tables_in changed ≡ tables_in drive =
    ap (take 3) front ∙ take-set-le 3 (front_in drive) r new (omega arith) in
    let records : records_in changed ≡ set (records_in drive) p new =
    ap (drop 3) front ∙ drop-set-add 3 (front_in drive) p new in
    record {
      files = front-changed world r new asked n below
          (as-long (region_at drive r) new like
          (storing.files.even.regions r _ (omega (arith, below, long)))) storing.files;
      stored = record {
        changes = changes;
        count = count;
        journal = subst (λ list. Standing n.through changes n.doubt list) (sym records) standing;
        word = storing.stored.word;
        selector = subst (λ unsure. Selects storing.stored.word unsure (tables_in changed))
            (sym beside.unsure)
            (subst (λ list. Selects storing.stored.word world.names.selector_unsure list)
            (sym tables) storing.stored.selector);
        behind = subst (λ list. AreBehind n.through changes after list) (sym tables) behind;
        distinct = distinct-set drive r new asked below like.devices storing.stored.distinct;
        whole = whole;
      };
      now_is = beside.now ∙ storing.now_is;
    }
