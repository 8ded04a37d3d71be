-- A stored file has a fresh core, and its state stands for it.
use Rattle.std.proofs.Common.{◌≡◌, ◌∙◌, ℕ, ◌<◌, ◌≤◌, inl, inr, Bool, true, nat_lt}
use Rattle.std.proofs.Common.{Option, Some, None, List, [], ◌∷◌, length, map}
use Rattle.std.proofs.Common.{arith, refl, sym, ap}
use Rattle.std.specs.Prelude.{◌==◌, find, is_some}
use Rattle.std.specs.List.{Contains}
use Rattle.std.specs.Option.{option_map}
use Rattle.std.proofs.lemmas.Bool.{cases_Bool, cases_lt}
use Rattle.std.proofs.lemmas.Bool.Decides.{nat_tests}
use Rattle.std.proofs.lemmas.List.Elements.{All-contains}
use Rattle.std.proofs.lemmas.List.FromFn.{length-map-range_with_len}
use Rattle.cfs_file.specs.declared.sizes.TheConstants.{FILE_BLOCKS, LONGEST_FILE}
use Rattle.cfs_core.specs.declared.inode_core.Core.{Core}
use Rattle.cfs_core.specs.Fresh.{IsFresh}
use Rattle.cfs_core.specs.Words.{flag_of}
use Rattle.cfs_pmem.specs.Images.{Seen, WordStep}
use Rattle.cfs_pmem.specs.Objects.{seen_at}
use Rattle.cfs_block.specs.BlockImages.{BlockStep, Content, content_of}
use Rattle.cfs_medium.specs.Store.{block_for, byte_in, entry_at, tag_of}
use Rattle.cfs_home.specs.Disks.{AllStay, Disk, File, IsReady}
use Rattle.cfs_home.specs.Ends.{IsLoaded}
use Rattle.cfs_home.proofs.Ends.{loaded-blocks, loaded-fresh, loaded-there}
use Rattle.cfs_inode.specs.New.{HasFile, IsStored, seen_for}
use Rattle.cfs_inode.proofs.News.{stored-stands}
use Rattle.cfs_states.specs.Laws.{StoredStatesStand}
use Rattle.cfs_states.specs.Stored.{AreStored, mapped_in, size_word}
use Rattle.cfs_states.proofs.Mapped.{in-for, in-mapped, past-for}

abbrev Block : Type 0
Block = Seen BlockStep

-- ---- the disk of a stored store

abbrev disk_from : List (Seen WordStep) → List Block → Disk
disk_from sizes blocks = record {
  front = [];
  sizes = size_word sizes;
  slots = [];
  blocks = map content_of blocks;
}

no-entry : (ino at : ℕ) → entry_at ino [] at ≡ None
no-entry ino at = refl

ready : (files : List File) (file : File) (sizes : List (Seen WordStep)) (blocks : List Block) →
    AreStored files sizes blocks → Contains files file → IsReady file (disk_from sizes blocks)
ready files file sizes blocks stored among = record {
  sound = record {
    fits = All-contains (λ f. size_word sizes f.node ≤ LONGEST_FILE) files file stored.fits among;
    placed = tt;
    zero_past = λ position past none. stored.zero_past file position among past;
  };
  once = λ first second entry other here there same.
      absurd (let none = no-entry file.ino first in cc);
}

stay : (files : List File) (sizes : List (Seen WordStep)) (blocks : List Block) →
    AreStored files sizes blocks →
    AllStay files (disk_from sizes blocks) (disk_from sizes blocks)
stay files sizes blocks stored = record {
  front = refl;
  each = λ file among. record {
    recovers = refl;
    ready = ready files file sizes blocks stored among;
  };
}

-- ---- its blocks

find-map : {X Y : Type 0} (f : X → Y) (p : Y → Bool) (xs : List X) →
    find p (map f xs) ≡ option_map f (find (λ x. p (f x)) xs)
find-map f p [] = refl
find-map {X} {Y} f p (x ∷ xs) = elim (cases_Bool (p (f x))) [
  | inl here ↦ rw here refl
  | inr other ↦ rw other (find-map f p xs)
]

block-is : (ino block : ℕ) (blocks : List Block) → block < FILE_BLOCKS →
    block_for ino block (map content_of blocks)
    ≡ option_map content_of (seen_for (mapped_in ino blocks) block)
block-is ino block blocks less =
    let test : nat_lt block FILE_BLOCKS ≡ true = grind (arith, nat_tests) in
    rw test (find-map content_of (λ content. content.tag == tag_of ino block) blocks
    ∙ ap (option_map content_of) (sym (in-for ino blocks block less)))

some-map : {X Y : Type 0} (f : X → Y) (o : Option X) → is_some (option_map f o) ≡ is_some o
some-map f None = refl
some-map f (Some x) = refl

-- ---- the core

has-file : (file : File) (sizes : List (Seen WordStep)) (blocks : List Block) (core : Core) →
    IsFresh core → IsLoaded file (disk_from sizes blocks) core →
    HasFile core (size_word sizes file.node) (mapped_in file.ino blocks)
has-file file sizes blocks core fresh loaded = record {
  fresh = fresh;
  long = ap length loaded.base
      ∙ length-map-range_with_len (λ p. byte_in file.ino (map content_of blocks) p) 0
      (size_word sizes file.node);
  tags = λ block less. loaded.tags block
      ∙ ap (λ (o : Option Content). flag_of (is_some o)) (block-is file.ino block blocks less)
      ∙ ap flag_of (some-map content_of (seen_for (mapped_in file.ino blocks) block));
  bytes = λ block seen here k less. elim (cases_lt block FILE_BLOCKS) [
    | inl within ↦
        loaded-blocks file (disk_from sizes blocks) core block k (content_of seen) loaded
        (block-is file.ino block blocks within ∙ ap (option_map content_of) here) less
    | inr past ↦ absurd (let none = past-for file.ino blocks block past in cc)
  ];
}

pub is-stored : (files : List File) (file : File) (sizes : List (Seen WordStep))
    (blocks : List Block) → AreStored files sizes blocks → Contains files file →
    IsStored file.ino (seen_at sizes file.node) (size_word sizes file.node)
    (mapped_in file.ino blocks)
is-stored files file sizes blocks stored among = record {
  sure = stored.sure file.node _
      (All-contains (λ f. f.node < length sizes) files file stored.records among);
  size_is = refl;
  mapped = in-mapped file.ino blocks stored.sure_blocks;
}

pub stored-core : StoredStatesStand
stored-core files file sizes blocks stored among =
    let core = loaded-there file (disk_from sizes blocks) in
    let fresh = loaded-fresh files file (disk_from sizes blocks) (disk_from sizes blocks) core.0
    among (stay files sizes blocks stored) refl core.1 in
    let has = has-file file sizes blocks core.0 fresh.0 core.1 in (
      core.0,
      record {
        has = has;
        base = core.1.base;
        together = stored-stands file.ino (seen_at sizes file.node) (size_word sizes file.node)
            (mapped_in file.ino blocks) (is-stored files file sizes blocks stored among) core.0 has;
      },
    )
