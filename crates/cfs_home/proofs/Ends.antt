-- Where a mount ends: each file is stored, no gate is open, and a core of it is fresh.
use Rattle.std.proofs.Common.{◌≡◌, ◌∙◌, inl, inr, ℕ, suc, ◌+◌, ◌*◌, ◌/◌, ◌%◌, ◌≤◌, nat_lt, Bool}
use Rattle.std.proofs.Common.{true, false, if◌then◌else◌, Option, Some, None, List, [], ◌∷◌, length}
use Rattle.std.proofs.Common.{map, get_or, set, arith, refl, sym, ap, subst}
use Rattle.std.specs.Prelude.{is_some}
use Rattle.std.specs.List.{list_all, range_with_len}
use Rattle.std.proofs.lemmas.Bool.{cases_lt}
use Rattle.std.proofs.lemmas.Bool.Decides.{nat_tests}
use Rattle.std.proofs.lemmas.List.{get_or_past, get_or-set_other, get_or-set_same, set_past}
use Rattle.std.proofs.lemmas.List.FromFn.{get_or-map-range_with_len, length-map-range_with_len}
use Rattle.cfs_file.specs.declared.request.Request.{Request}
use Rattle.cfs_file.specs.declared.sizes.TheConstants.{BLOCK_LEN, FILE_BLOCKS, LONGEST_FILE}
use Rattle.cfs_core.specs.declared.flag.Flag.{Flag}
use Rattle.cfs_core.specs.declared.flag.Flag.TheVariants.{Off}
use Rattle.cfs_core.specs.declared.inode_core.Core.{Core}
use Rattle.cfs_core.specs.declared.stretch.Stretch.{Stretch}
use Rattle.cfs_core.specs.Fresh.{IsFresh, is_sure}
use Rattle.cfs_core.specs.Medium.{is_loose, rests, rests_as}
use Rattle.cfs_core.specs.Words.{flag_of, is_off}
use Rattle.cfs_core.proofs.Legal.{and_all}
use Rattle.cfs_core.proofs.Order.{same_or_not}
use Rattle.cfs_block.specs.BlockImages.{Content}
use Rattle.cfs_slot.specs.Words.{gate_of, is_live, request_of}
use Rattle.cfs_slot.specs.Tails.{tails_at}
use Rattle.cfs_medium.specs.Store.{block_for, byte_in, byte_of, entry_at, live_in, taken_through}
use Rattle.cfs_medium.proofs.Has.{Has}
use Rattle.cfs_medium.proofs.Slots.{stands-live}
use Rattle.cfs_medium.proofs.Sorted.{by_gate-has}
use Rattle.cfs_home.specs.Disks.{Disk, File, IsReady, part_of, shut, stored_in}
use Rattle.cfs_home.specs.Ends.{IsClosedOrLive, IsDrained, IsLoaded}
use Rattle.cfs_home.specs.Laws.{EndsAreClosed, EndsAreStored, LoadedAreFresh, LoadedAreThere}
use Rattle.cfs_home.specs.Laws.{LoadedHaveBlocks, ShutSlotsAreSwept}
use Rattle.cfs_home.specs.Parts.{SomeTouches}
use Rattle.cfs_home.proofs.Parts.{long-stored, stored-beside}

-- ---- what is stored

pub ends-stored : EndsAreStored
ends-stored files file first last among stay drained =
    sym (ap (taken_through (stored_in file last)) drained) ∙ (stay.each file among).recovers

-- ---- what is closed

set-gate : (words : List ℕ) → gate_of (set words 0 0) ≡ 0
set-gate [] = refl
set-gate (gate ∷ words) = refl

shut-gate : (at other : ℕ) (slots : List (List ℕ)) → other ≡ at →
    gate_of (get_or (shut at slots) other []) ≡ 0
shut-gate at other slots same =
    ap (λ (k : ℕ). gate_of (get_or (shut at slots) k [])) same ∙ elim (cases_lt at (length slots)) [
      | inl within ↦
          ap gate_of (get_or-set_same slots at (set (get_or slots at []) 0 0) [] within)
          ∙ set-gate (get_or slots at [])
      | inr past ↦
          ap (λ (list : List (List ℕ)). gate_of (get_or list at []))
          (set_past slots at (set (get_or slots at []) 0 0) past)
          ∙ ap gate_of (get_or_past slots at [] past)
    ]

pub shut-swept : ShutSlotsAreSwept
shut-swept files at other slots (inl same) = inl (shut-gate at other slots same)
shut-swept files at other slots (inr swept) = elim (same_or_not other at) [
  | inl same ↦ inl (shut-gate at other slots same)
  | inr differs ↦ subst (IsClosedOrLive files)
      (sym (get_or-set_other slots at other (set (get_or slots at []) 0 0) [] differs)) swept
]

-- a live slot is among the live entries
live-among : (file : File) (disk : Disk) (at : ℕ) →
    is_live file.ino (get_or disk.slots at []) ≡ true → IsDrained file disk → ⊥
live-among file disk at live drained =
    subst (λ (es : List (ℕ × Request)). Has es entry) drained
    (by_gate-has (live_in file.ino disk.slots) entry
    (stands-live file.ino disk.slots at entry here))
  where
    words : List ℕ
    words = get_or disk.slots at []

    entry : ℕ × Request
    entry = (gate_of words, request_of words (tails_at disk.slots at))

    here : entry_at file.ino disk.slots at ≡ Some entry
    here = ap (λ (b : Bool). if b then Some entry else None) live

pub ends-closed : EndsAreClosed
ends-closed files last swept drained at = elim (swept at) [
  | inl is_closed ↦ is_closed
  | inr live ↦ absurd (live-among live.0 last at live.1.1 (drained live.0 live.1.0))
]

-- ---- what is loaded

flag-sure : (b : Bool) → is_sure (flag_of b) ≡ true
flag-sure true = refl
flag-sure false = refl

all-sure : (flags : List Flag) → ((k : ℕ) → is_sure (get_or flags k Off) ≡ true) →
    list_all is_sure flags ≡ true
all-sure [] each = refl
all-sure (flag ∷ flags) each =
    and_all (is_sure flag) (list_all is_sure flags) (each 0)
    (all-sure flags (λ k. each (suc k)))

-- the byte rests that is stored, and in the base
rests-flag : (here : Option Content) (k stands byte : ℕ) → stands ≡ byte_of here k →
    byte ≡ byte_of here k → rests_as (flag_of (is_some here)) false stands byte ≡ true
rests-flag None k stands byte stands_is byte_is = grind (arith, nat_tests)
rests-flag (Some content) k stands byte stands_is byte_is =
    let same : stands ≡ byte = stands_is ∙ sym byte_is in grind (arith, nat_tests)

blank-flag : (here : Option Content) (k byte : ℕ) → byte ≡ byte_of here k →
    is_off (flag_of (is_some here)) ≡ true → byte ≡ 0
blank-flag None k byte is off = is
blank-flag (Some content) k byte is off = cc

-- where no entry is live, the stored file has the stored byte at each position
stored-drained : (file : File) (disk : Disk) (p : ℕ) → IsReady file disk → IsDrained file disk →
    get_or (stored_in file disk) p 0 ≡ byte_in file.ino disk.blocks p
stored-drained file disk p ready drained =
    stored-beside (part_of file disk) p ready.sound
    (λ touched. subst (λ (es : List (ℕ × Request)). SomeTouches es p) drained touched)

load-fresh : (file : File) (disk : Disk) (core : Core) → IsReady file disk → IsDrained file disk →
    IsLoaded file disk core → IsFresh core
load-fresh file disk core ready drained loaded = record {
  fits = let long = ap length loaded.base in
      let stored = long-stored (disk.sizes file.node) (part_of file disk).byte in
      omega (arith, long, stored, ready.sound.fits);
  log = loaded.log;
  tracks = loaded.tracks;
  doubt = loaded.doubt;
  size = loaded.size
      ∙ (sym (long-stored (disk.sizes file.node) (part_of file disk).byte)
      ∙ sym (ap length loaded.base));
  sizes = loaded.sizes;
  blocks = loaded.blocks;
  tags = all-sure core.tags (λ k. ap is_sure (loaded.tags k)
      ∙ flag-sure (is_some (block_for file.ino k disk.blocks)));
  bytes = resting;
  blank = λ p off. blank-flag (here p) (p % BLOCK_LEN) (get_or core.bytes p 0) (loaded.bytes p)
      (sym (ap is_off (loaded.tags (p / BLOCK_LEN))) ∙ off);
  loose = loaded.loose;
  up = loaded.up;
}
  where
    here : ℕ → Option Content
    here p = block_for file.ino (p / BLOCK_LEN) disk.blocks

    base_is : (p : ℕ) → get_or core.base p 0 ≡ byte_in file.ino disk.blocks p
    base_is p =
        ap (λ (base : List ℕ). get_or base p 0) loaded.base
        ∙ stored-drained file disk p ready drained

    resting : (p : ℕ) → rests core p (get_or core.base p 0) ≡ true
    resting p =
        ap (λ (flag : Flag). rests_as flag (is_loose core.loose p) (get_or core.bytes p 0)
        (get_or core.base p 0)) (loaded.tags (p / BLOCK_LEN))
        ∙ (ap (λ (loose : List Stretch). rests_as (flag_of (is_some (here p))) (is_loose loose p)
        (get_or core.bytes p 0) (get_or core.base p 0)) loaded.loose
        ∙ rests-flag (here p) (p % BLOCK_LEN) (get_or core.bytes p 0) (get_or core.base p 0)
        (loaded.bytes p) (base_is p))

pub loaded-fresh : LoadedAreFresh
loaded-fresh files file first last core among stay drained loaded = (
  load-fresh file last core (stay.each file among).ready drained loaded,
  loaded.base ∙ ends-stored files file first last among stay drained,
)

-- ---- there is such a core

-- a number that does not compute, so that no list of so many members is written out
abstract-number : (n : ℕ) → (m : ℕ) × (m ≡ n)
abstract-number n = (n, refl)

load : ℕ → ℕ → File → Disk → Core
load blocks bytes file disk = record {
  base = stored_in file disk;
  log = [];
  tracks = [];
  doubt = None;
  size = disk.sizes file.node;
  sizes = [];
  tags = map (λ block. flag_of (is_some (block_for file.ino block disk.blocks)))
      (range_with_len 0 blocks);
  bytes = map (λ p. byte_in file.ino disk.blocks p) (range_with_len 0 bytes);
  loose = [];
  crashed = false;
}

past-tag : (ino block : ℕ) (blocks : List Content) → FILE_BLOCKS ≤ block →
    block_for ino block blocks ≡ None
past-tag ino block blocks past =
    let test : nat_lt block FILE_BLOCKS ≡ false = grind (arith, nat_tests) in rw test refl

load-loaded : (blocks bytes : ℕ) (file : File) (disk : Disk) → blocks ≡ FILE_BLOCKS →
    bytes ≡ LONGEST_FILE → IsLoaded file disk (load blocks bytes file disk)
unfolding load
load-loaded blocks bytes file disk blocks_is bytes_is = record {
  base = refl;
  log = refl;
  tracks = refl;
  doubt = refl;
  size = refl;
  sizes = refl;
  blocks = length-map-range_with_len tag 0 blocks ∙ blocks_is;
  tags = tags;
  bytes = bytes_at;
  loose = refl;
  up = refl;
}
  where
    tag : ℕ → Flag
    tag block = flag_of (is_some (block_for file.ino block disk.blocks))

    tags : (block : ℕ) → get_or (map tag (range_with_len 0 blocks)) block Off ≡ tag block
    tags block = elim (cases_lt block blocks) [
      | inl within ↦ get_or-map-range_with_len tag 0 blocks block block Off within (omega arith)
      | inr past ↦
          get_or_past (map tag (range_with_len 0 blocks)) block Off
          (omega (arith, length-map-range_with_len tag 0 blocks))
          ∙ sym (ap (λ (o : Option Content). flag_of (is_some o))
          (past-tag file.ino block disk.blocks (omega arith)))
    ]

    byte : ℕ → ℕ
    byte p = byte_in file.ino disk.blocks p

    bytes_at : (p : ℕ) → get_or (map byte (range_with_len 0 bytes)) p 0 ≡ byte p
    bytes_at p = elim (cases_lt p bytes) [
      | inl within ↦ get_or-map-range_with_len byte 0 bytes p p 0 within (omega arith)
      | inr past ↦
          get_or_past (map byte (range_with_len 0 bytes)) p 0
          (omega (arith, length-map-range_with_len byte 0 bytes))
          ∙ sym (ap (λ (o : Option Content). byte_of o (p % BLOCK_LEN))
          (past-tag file.ino (p / BLOCK_LEN) disk.blocks (omega arith)))
    ]

pub loaded-there : LoadedAreThere
loaded-there file disk =
    let blocks = abstract-number FILE_BLOCKS in
    let bytes = abstract-number LONGEST_FILE in
    (load blocks.0 bytes.0 file disk, load-loaded blocks.0 bytes.0 file disk blocks.1 bytes.1)

pub loaded-blocks : LoadedHaveBlocks
loaded-blocks file disk core block k content loaded here less =
    sym (loaded.bytes (BLOCK_LEN * block + k)
    ∙ (ap (λ (b : ℕ).
    byte_of (block_for file.ino b disk.blocks) ((BLOCK_LEN * block + k) % BLOCK_LEN))
    quotient
    ∙ (ap (λ (r : ℕ). byte_of (block_for file.ino block disk.blocks) r) rest
    ∙ ap (λ (o : Option Content). byte_of o k) here)))
  where
    quotient : (BLOCK_LEN * block + k) / BLOCK_LEN ≡ block
    quotient = omega arith

    rest : (BLOCK_LEN * block + k) % BLOCK_LEN ≡ k
    rest = omega arith
