-- One file of a store that has everything home, as a mount makes it.
use Rattle.std.proofs.Common.{◌≡◌, ℕ, ◌+◌, ◌*◌, ◌/◌, ◌%◌, ◌<◌, ◌≤◌, Bool, true, false}
use Rattle.std.proofs.Common.{◌&&◌, Option, Some, None, List, [], ◌∷◌, length, map, get_or, inl}
use Rattle.std.proofs.Common.{inr}
use Rattle.std.proofs.Common.{refl, sym, ap, ◌∙◌, subst, if◌then◌else◌, arith, is_some}
use Rattle.std.specs.Prelude.{◌==◌, find, nat_lt}
use Rattle.std.specs.List.{list_all, range_with_len}
use Rattle.std.specs.Option.{option_map}
use Rattle.std.proofs.lemmas.Bool.{cases_lt, eq-eqb, eqb-true, lt-ltb, ltb-true}
use Rattle.std.proofs.lemmas.List.{get_or_past}
use Rattle.std.proofs.lemmas.List.FromFn.{get_or-map-range_with_len, length-map-range_with_len}
use Rattle.cfs_file.specs.declared.sizes.TheConstants.{BLOCK_LEN, FILE_BLOCKS}
use Rattle.cfs_core.specs.declared.flag.Flag.{Flag}
use Rattle.cfs_core.specs.declared.flag.Flag.TheVariants.{Off, On, Unsure}
use Rattle.cfs_core.specs.Fresh.{IsFresh, is_sure}
use Rattle.cfs_core.specs.Medium.{rests_as}
use Rattle.cfs_core.specs.Words.{flag_of, is_off}
use Rattle.cfs_core_laws.proofs.Finds.{find-passes}
use Rattle.cfs_block.specs.BlockImages.{Content}
use Rattle.cfs_dir.specs.declared.node.Node.{Node}
use Rattle.cfs_medium.specs.Shows.{Shows}
use Rattle.cfs_medium.specs.Store.{block_for, byte_in, byte_of, stored_file, tag_of}
use Rattle.cfs_meaning.specs.Drive.{Drive, block_at, content_at}
use Rattle.cfs_meaning.specs.Steps.{size_word}
use Rattle.cfs_meaning.specs.World.{block_of}
use Rattle.cfs_meaning.specs.Mounting.{block_numbers, is_mapped, mapped, mounted_core, mounted_file}
use Rattle.cfs_meaning.specs.Mounting.{size_in, store_of}
use Rattle.cfs_meaning.specs.Devices.{IsEquipped, devices_of_file}
use Rattle.cfs_meaning.specs.Home.{IsFileHome, IsHome}
use Rattle.cfs_meaning.proofs.Mapped.{any-found, find-mapped, found-low, pairs-behind, pairs-found}
use Rattle.cfs_meaning.proofs.Rests.{IsRestBlock, rest-shows}

-- ---- its blocks

abbrev is_tagged : Drive → ℕ → ℕ → ℕ → Bool
is_tagged drive ino k b = (content_at drive b).tag == tag_of ino k

-- the first block with the tag of a file block
abbrev tagged_at : Drive → ℕ → ℕ → Option ℕ
tagged_at drive ino k = find (is_tagged drive ino k) (block_numbers drive)

its-block : (drive : Drive) (node : Node) (k : ℕ) → k < FILE_BLOCKS →
    block_of (mounted_file drive node) k ≡ tagged_at drive node.ino k
its-block drive node k low =
    ap (option_map (λ (x : ℕ × ℕ). x.1))
    (pairs-found (is_tagged drive node.ino) (block_numbers drive) k 0 FILE_BLOCKS (omega arith) low)
    ∙ both (tagged_at drive node.ino k)
  where
    both : (o : Option ℕ) → option_map (λ (x : ℕ × ℕ). x.1) (option_map (λ b. (k, b)) o) ≡ o
    both None = refl
    both (Some b) = refl

no-block : (drive : Drive) (node : Node) (k : ℕ) → FILE_BLOCKS ≤ k →
    block_of (mounted_file drive node) k ≡ None
no-block drive node k past =
    ap (option_map (λ (x : ℕ × ℕ). x.1))
    (pairs-behind (is_tagged drive node.ino) (block_numbers drive) k 0 FILE_BLOCKS past)

its-tag : (drive : Drive) (node : Node) (k : ℕ) → k < FILE_BLOCKS →
    get_or (mounted_core drive node).tags k Off ≡ flag_of (is_some (tagged_at drive node.ino k))
its-tag drive node k low =
    get_or-map-range_with_len (λ j. flag_of (is_mapped drive node.ino j)) 0 FILE_BLOCKS k k Off low
    (omega arith)
    ∙ ap flag_of
    (any-found (λ (x : ℕ × ℕ). x.0 == k) (mapped drive node.ino)
    ∙ ap is_some
    (pairs-found (is_tagged drive node.ino) (block_numbers drive) k 0 FILE_BLOCKS (omega arith) low)
    ∙ both (tagged_at drive node.ino k))
  where
    both : (o : Option ℕ) →
        is_some {T = ℕ × ℕ} (option_map (λ b. (k, b)) o) ≡ is_some o
    both None = refl
    both (Some b) = refl

tag-past : (drive : Drive) (node : Node) (k : ℕ) → FILE_BLOCKS ≤ k →
    get_or (mounted_core drive node).tags k Off ≡ Off
tag-past drive node k past =
    let full : length (mounted_core drive node).tags ≡ FILE_BLOCKS =
    length-map-range_with_len (λ j. flag_of (is_mapped drive node.ino j)) 0 FILE_BLOCKS in
    get_or_past (mounted_core drive node).tags k Off (omega (arith, full, past))

-- a block with the tag
pub record IsBlockOf (drive : Drive) (ino k b : ℕ) : Type 0 where
  pub low : k < FILE_BLOCKS
  pub within : b < length drive.blocks
  pub tag : (content_at drive b).tag ≡ tag_of ino k

tagged-is : (drive : Drive) (ino k b : ℕ) → k < FILE_BLOCKS → tagged_at drive ino k ≡ Some b →
    IsBlockOf drive ino k b
tagged-is drive ino k b low is = record {
  low = low;
  within = (let below = found-low (is_tagged drive ino k) 0 (length drive.blocks) b is in
      omega (arith, below));
  tag = eqb-true (content_at drive b).tag (tag_of ino k)
      (find-passes (is_tagged drive ino k) 0 (length drive.blocks) b is);
}

pub block-is : (drive : Drive) (node : Node) (k b : ℕ) →
    block_of (mounted_file drive node) k ≡ Some b → IsBlockOf drive node.ino k b
block-is drive node k b is = elim (cases_lt k FILE_BLOCKS) [
  | inl low ↦ tagged-is drive node.ino k b low (sym (its-block drive node k low) ∙ is)
  | inr past ↦
      let wrong : None ≡ Some b = sym (no-block drive node k past) ∙ is in absurd (cc)
]

-- ---- its bytes

abbrev base_of : Drive → Node → List ℕ
base_of drive node = stored_file node.ino (store_of drive node.rec)

base-long : (drive : Drive) (node : Node) →
    length (base_of drive node) ≡ size_in drive node.rec
base-long drive node =
    length-map-range_with_len (λ p. byte_in node.ino (store_of drive node.rec).blocks p) 0
    (size_in drive node.rec)

byte-at : (drive : Drive) (node : Node) (p : ℕ) → p < size_in drive node.rec →
    get_or (base_of drive node) p 0 ≡ byte_in node.ino (store_of drive node.rec).blocks p
byte-at drive node p low =
    get_or-map-range_with_len (λ q. byte_in node.ino (store_of drive node.rec).blocks q) 0
    (size_in drive node.rec) p p 0 low (omega arith)

block-for : (drive : Drive) (node : Node) (k : ℕ) → k < FILE_BLOCKS →
    block_for node.ino k (store_of drive node.rec).blocks
    ≡ option_map (content_at drive) (tagged_at drive node.ino k)
block-for drive node k low =
    ap (λ t. if t then find (λ (c : Content). c.tag == tag_of node.ino k)
    (store_of drive node.rec).blocks else None) (lt-ltb k FILE_BLOCKS low)
    ∙ find-mapped (λ (c : Content). c.tag == tag_of node.ino k) (content_at drive)
    (block_numbers drive)

-- where no block is tagged there is 0
bare-byte : (drive : Drive) (node : Node) (p : ℕ) →
    is_off (get_or (mounted_core drive node).tags (p / BLOCK_LEN) Off) ≡ true →
    get_or (base_of drive node) p 0 ≡ 0
bare-byte drive node p off = elim (cases_lt p (size_in drive node.rec)) [
  | inl low ↦ byte-at drive node p low ∙ by-block (p / BLOCK_LEN) off
  | inr past ↦
      let long = base-long drive node in
      get_or_past (base_of drive node) p 0 (omega (arith, long, past))
]
  where
    by-found : (k : ℕ) (o : Option ℕ) → is_off (flag_of (is_some o)) ≡ true →
        byte_of (option_map (content_at drive) o) (p % BLOCK_LEN) ≡ 0
    by-found k None none = refl
    by-found k (Some b) none = absurd (cc)

    by-low : (k : ℕ) (t : Bool) → nat_lt k FILE_BLOCKS ≡ t →
        is_off (get_or (mounted_core drive node).tags k Off) ≡ true →
        byte_of (block_for node.ino k (store_of drive node.rec).blocks) (p % BLOCK_LEN) ≡ 0
    by-low k true is none =
        let low : k < FILE_BLOCKS = ltb-true k FILE_BLOCKS is in
        ap (λ o. byte_of o (p % BLOCK_LEN)) (block-for drive node k low)
        ∙ by-found k (tagged_at drive node.ino k)
        (ap is_off (sym (its-tag drive node k low)) ∙ none)
    by-low k false is none =
        ap (λ t. byte_of (if t then find (λ (c : Content). c.tag == tag_of node.ino k)
        (store_of drive node.rec).blocks else None) (p % BLOCK_LEN)) is

    by-block : (k : ℕ) → is_off (get_or (mounted_core drive node).tags k Off) ≡ true →
        byte_of (block_for node.ino k (store_of drive node.rec).blocks) (p % BLOCK_LEN) ≡ 0
    by-block k none = by-low k (nat_lt k FILE_BLOCKS) refl none

-- a block has the bytes of the base, and zeros past it
block-bytes : (drive : Drive) (node : Node) (k b : ℕ) → IsFileHome drive node →
    k < FILE_BLOCKS → tagged_at drive node.ino k ≡ Some b → (p : ℕ) → p < BLOCK_LEN →
    get_or (content_at drive b).bytes p 0 ≡ get_or (base_of drive node) (BLOCK_LEN * k + p) 0
block-bytes drive node k b home low is p within =
    elim (cases_lt (BLOCK_LEN * k + p) (size_in drive node.rec)) [
      | inl less ↦
          let at : (BLOCK_LEN * k + p) / BLOCK_LEN ≡ k = omega (arith, within) in
          let in_it : (BLOCK_LEN * k + p) % BLOCK_LEN ≡ p = omega (arith, within) in
          sym (byte-at drive node (BLOCK_LEN * k + p) less
          ∙ ap (λ j. byte_of (block_for node.ino j (store_of drive node.rec).blocks)
          ((BLOCK_LEN * k + p) % BLOCK_LEN)) at
          ∙ ap (byte_of (block_for node.ino k (store_of drive node.rec).blocks)) in_it
          ∙ ap (λ o. byte_of o p)
          (block-for drive node k low ∙ ap (option_map (content_at drive)) is))
      | inr past ↦
          let long = base-long drive node in
          let block = tagged-is drive node.ino k b low is in
          home.zeros b k p block.within low block.tag within past
          ∙ sym (get_or_past (base_of drive node) (BLOCK_LEN * k + p) 0
          (omega (arith, long, past)))
    ]

-- ---- it is shown

its-rest : (drive : Drive) (node : Node) → IsHome drive → IsFileHome drive node → (k : ℕ) →
    k < FILE_BLOCKS →
    IsRestBlock node.ino k (get_or (mounted_core drive node).tags k Off) (base_of drive node)
    (option_map (block_at drive) (block_of (mounted_file drive node) k))
its-rest drive node home file k low =
    subst (λ flag. IsRestBlock node.ino k flag (base_of drive node)
    (option_map (block_at drive) (block_of (mounted_file drive node) k)))
    (sym (its-tag drive node k low))
    (subst (λ o. IsRestBlock node.ino k (flag_of (is_some (tagged_at drive node.ino k)))
    (base_of drive node) (option_map (block_at drive) o)) (sym (its-block drive node k low))
    (by-block (tagged_at drive node.ino k) refl))
  where
    by-block : (o : Option ℕ) → tagged_at drive node.ino k ≡ o →
        IsRestBlock node.ino k (flag_of (is_some o)) (base_of drive node)
        (option_map (block_at drive) o)
    by-block None is = refl
    by-block (Some b) is =
        let block = tagged-is drive node.ino k b low is in (
          refl,
          record {
            sure = home.blocks b _ block.within;
            tag = block.tag;
            bytes = block-bytes drive node k b file low is;
          },
        )

pub file-home : (drive : Drive) (node : Node) → IsHome drive → IsFileHome drive node →
    node.rec < 256 →
    Shows node.ino (mounted_core drive node) (devices_of_file drive (mounted_file drive node))
file-home drive node home file low =
    rest-shows node.ino (base_of drive node) (mounted_core drive node).tags
    (devices_of_file drive (mounted_file drive node))
    (length-map-range_with_len (λ j. flag_of (is_mapped drive node.ino j)) 0 FILE_BLOCKS)
    (home.regions (size_word node.rec) _ (home.sizes node.rec low).within)
    (sym (base-long drive node)) (λ place. refl) (its-rest drive node home file)

-- ---- its core is a fresh one

flags-sure : (test : ℕ → Bool) (ks : List ℕ) →
    list_all is_sure (map (λ k. flag_of (test k)) ks) ≡ true
flags-sure test [] = refl
flags-sure test (k ∷ ks) = by-test (test k) (flags-sure test ks)
  where
    by-test : (t : Bool) → list_all is_sure (map (λ j. flag_of (test j)) ks) ≡ true →
        (is_sure (flag_of t) && list_all is_sure (map (λ j. flag_of (test j)) ks)) ≡ true
    by-test true rest = rest
    by-test false rest = rest

-- each tag is on or off
tag-sure : (drive : Drive) (node : Node) (k : ℕ) →
    (t : Bool) × (get_or (mounted_core drive node).tags k Off ≡ flag_of t)
tag-sure drive node k = elim (cases_lt k FILE_BLOCKS) [
  | inl low ↦ (is_some (tagged_at drive node.ino k), its-tag drive node k low)
  | inr past ↦ (false, tag-past drive node k past)
]

rest-byte : (flag : Flag) (t : Bool) (byte : ℕ) → flag ≡ flag_of t →
    (is_off flag ≡ true → byte ≡ 0) → rests_as flag false byte byte ≡ true
rest-byte Off t byte is bare = eq-eqb byte 0 (bare refl)
rest-byte On t byte is bare = eq-eqb byte byte refl
rest-byte Unsure true byte is bare = absurd (cc)
rest-byte Unsure false byte is bare = absurd (cc)

pub core-fresh : (drive : Drive) (node : Node) → IsFileHome drive node →
    IsFresh (mounted_core drive node)
core-fresh drive node home = record {
  fits = (let long = base-long drive node in let size = home.size in omega (arith, long, size));
  log = refl;
  tracks = refl;
  doubt = refl;
  size = refl;
  sizes = refl;
  blocks = length-map-range_with_len (λ j. flag_of (is_mapped drive node.ino j)) 0 FILE_BLOCKS;
  tags = flags-sure (is_mapped drive node.ino) (range_with_len 0 FILE_BLOCKS);
  bytes = λ p.
      let flag = tag-sure drive node (p / BLOCK_LEN) in
      rest-byte (get_or (mounted_core drive node).tags (p / BLOCK_LEN) Off) flag.0
      (get_or (base_of drive node) p 0) flag.1 (bare-byte drive node p);
  blank = bare-byte drive node;
  loose = refl;
  up = refl;
}

-- ---- its devices

pub file-equipped : (drive : Drive) (node : Node) → IsEquipped (mounted_file drive node)
file-equipped drive node = record {
  up = refl;
  slots = λ k needs. absurd (cc);
  doubt = λ d is. absurd (cc);
  blocks = λ k tagged. elim (cases_lt k FILE_BLOCKS) [
    | inl low ↦
        ap is_some (its-block drive node k low)
        ∙ by-found (tagged_at drive node.ino k)
        (ap is_off (sym (its-tag drive node k low)) ∙ tagged)
    | inr past ↦
        let wrong : true ≡ false = ap is_off (sym (tag-past drive node k past)) ∙ tagged in
        absurd (cc)
  ];
}
  where
    by-found : (o : Option ℕ) → is_off (flag_of (is_some o)) ≡ false → is_some o ≡ true
    by-found None is = absurd (cc)
    by-found (Some b) is = refl
