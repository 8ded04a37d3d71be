-- The stored file of a store that depicts an image.
use Rattle.std.proofs.Common.{◌≡◌, ◌⊎◌, inl, inr, ℕ, suc, zero, ◌+◌, ◌*◌, ◌/◌, ◌%◌, ◌<◌, ◌==◌, nat_lt, Bool, true, false, if◌then◌else◌, cond, Option, Some, None, List, [], ◌∷◌, map, get_or, arith, refl, sym, ap, ◌∙◌}
use Rattle.std.specs.List.{find, range_with_len}
use Rattle.std.proofs.lemmas.Bool.{cases_lt}
use Rattle.std.proofs.lemmas.Bool.Decides.{nat_tests}
use Rattle.std.proofs.lemmas.List.{get_or_past}
use Rattle.cfs_file.specs.declared.sizes.TheConstants.{BLOCK_LEN, FILE_BLOCKS}
use Rattle.cfs_core.specs.declared.image.Image.{Image}
use Rattle.cfs_core.specs.declared.inode_core.Core.{Core}
use Rattle.cfs_core.specs.Medium.{stored, stored_byte}
use Rattle.cfs_block.specs.BlockImages.{Content}
use Rattle.cfs_medium.specs.Store.{Store, byte_in, byte_of, stored_file, tag_of}
use Rattle.cfs_medium.specs.Depicts.{Depicts, IsFor, content_at}

-- ---- the block that is tagged for a file block

abbrev tagged_for : ℕ → ℕ → List Content → Option Content
tagged_for ino block blocks = find (λ content. content.tag == tag_of ino block) blocks

abbrev IsFound : ℕ → ℕ → List Content → Type 0
IsFound ino block blocks = (at : ℕ) × (IsFor ino block blocks at × (tagged_for ino block blocks ≡ Some (content_at blocks at)))

abbrev IsMissing : ℕ → ℕ → List Content → Type 0
IsMissing ino block blocks = ((at : ℕ) → IsFor ino block blocks at → ⊥) × (tagged_for ino block blocks ≡ None)

found-or-missing : (ino block : ℕ) (blocks : List Content) → IsFound ino block blocks ⊎ IsMissing ino block blocks
found-or-missing ino block [] = inr (λ at is. omega (arith, is), refl)
found-or-missing ino block (first ∷ rest) = test (found-or-missing ino block rest) (first.tag == tag_of ino block) refl
  where
    shown : (b : Bool) → (first.tag == tag_of ino block) ≡ b → tagged_for ino block (first ∷ rest) ≡ cond b (Some first) (tagged_for ino block rest)
    shown b is = ap (λ (c : Bool). cond c (Some first) (tagged_for ino block rest)) is

    not_first : (first.tag == tag_of ino block) ≡ false → ((at : ℕ) → IsFor ino block rest at → ⊥) → (at : ℕ) → IsFor ino block (first ∷ rest) at → ⊥
    not_first is none zero here = grind (arith, nat_tests)
    not_first is none (suc at) here = none at here

    test : IsFound ino block rest ⊎ IsMissing ino block rest → (b : Bool) → (first.tag == tag_of ino block) ≡ b →
        IsFound ino block (first ∷ rest) ⊎ IsMissing ino block (first ∷ rest)
    test later true is = let here : first.tag ≡ tag_of ino block = grind (arith, nat_tests) in inl (0, (here, shown true is))
    test later false is = elim later [
      | inl found ↦ inl (suc found.0, (found.1.0, shown false is ∙ found.1.1))
      | inr missing ↦ inr (not_first is missing.0, shown false is ∙ missing.1)
    ]

-- ---- the byte at a position

within-byte : (ino : ℕ) (store : Store) (core : Core) (image : Image) → Depicts ino store core image → (p : ℕ) → p / BLOCK_LEN < FILE_BLOCKS →
    byte_of (tagged_for ino (p / BLOCK_LEN) store.blocks) (p % BLOCK_LEN) ≡ stored_byte image p
within-byte ino store core image is p within = elim (found-or-missing ino (p / BLOCK_LEN) store.blocks) [
  | inl found ↦
      let tag : get_or image.tags (p / BLOCK_LEN) false ≡ true = is.is_set found.0 (p / BLOCK_LEN) within found.1.0 in
      let byte = is.bytes_are found.0 (p / BLOCK_LEN) (p % BLOCK_LEN) within found.1.0 below in
      let place : get_or image.bytes (BLOCK_LEN * (p / BLOCK_LEN) + p % BLOCK_LEN) 0 ≡ get_or image.bytes p 0 = ap (λ (q : ℕ). get_or image.bytes q 0) position in
      let read : stored_byte image p ≡ get_or image.bytes p 0 = ap (λ (b : Bool). if b then get_or image.bytes p 0 else 0) tag in
      ap (λ (o : Option Content). byte_of o (p % BLOCK_LEN)) found.1.1 ∙ (byte ∙ (place ∙ sym read))
  | inr missing ↦
      let tag : get_or image.tags (p / BLOCK_LEN) false ≡ false = unset (get_or image.tags (p / BLOCK_LEN) false) refl missing.0 in
      let read : stored_byte image p ≡ 0 = ap (λ (b : Bool). if b then get_or image.bytes p 0 else 0) tag in
      ap (λ (o : Option Content). byte_of o (p % BLOCK_LEN)) missing.1 ∙ sym read
]
  where
    below : p % BLOCK_LEN < BLOCK_LEN
    below = omega arith

    position : BLOCK_LEN * (p / BLOCK_LEN) + p % BLOCK_LEN ≡ p
    position = omega arith

    unset : (b : Bool) → get_or image.tags (p / BLOCK_LEN) false ≡ b → ((at : ℕ) → IsFor ino (p / BLOCK_LEN) store.blocks at → ⊥) → b ≡ false
    unset false tag none = refl
    unset true tag none = let some = is.tagged (p / BLOCK_LEN) within tag in absurd (none some.0 some.1)

byte-same : (ino : ℕ) (store : Store) (core : Core) (image : Image) → Depicts ino store core image → (p : ℕ) →
    byte_in ino store.blocks p ≡ stored_byte image p
byte-same ino store core image is p = elim (cases_lt (p / BLOCK_LEN) FILE_BLOCKS) [
  | inl within ↦
      let test : nat_lt (p / BLOCK_LEN) FILE_BLOCKS ≡ true = grind (arith, nat_tests) in
      chosen true test ∙ within-byte ino store core image is p within
  | inr past ↦
      let test : nat_lt (p / BLOCK_LEN) FILE_BLOCKS ≡ false = grind (arith, nat_tests) in
      let tag : get_or image.tags (p / BLOCK_LEN) false ≡ false = get_or_past image.tags (p / BLOCK_LEN) false (omega (arith, past, is.tags_are)) in
      let read : stored_byte image p ≡ 0 = ap (λ (b : Bool). if b then get_or image.bytes p 0 else 0) tag in
      chosen false test ∙ sym read
]
  where
    chosen : (b : Bool) → nat_lt (p / BLOCK_LEN) FILE_BLOCKS ≡ b →
        byte_in ino store.blocks p ≡ byte_of (if b then tagged_for ino (p / BLOCK_LEN) store.blocks else None) (p % BLOCK_LEN)
    chosen b test = ap (λ (c : Bool). byte_of (if c then tagged_for ino (p / BLOCK_LEN) store.blocks else None) (p % BLOCK_LEN)) test

-- ---- the stored file

pub map-same : (f g : ℕ → ℕ) → ((p : ℕ) → f p ≡ g p) → (xs : List ℕ) → map f xs ≡ map g xs
map-same f g same [] = refl
map-same f g same (x ∷ xs) = ap (λ (y : ℕ). y ∷ map f xs) (same x) ∙ ap (λ (ys : List ℕ). g x ∷ ys) (map-same f g same xs)

pub stored-same : (ino : ℕ) (store : Store) (core : Core) (image : Image) → Depicts ino store core image → stored_file ino store ≡ stored image
stored-same ino store core image is =
    ap (λ (n : ℕ). map (λ p. byte_in ino store.blocks p) (range_with_len 0 n)) is.size_is
    ∙ map-same (λ p. byte_in ino store.blocks p) (λ p. stored_byte image p) (byte-same ino store core image is) (range_with_len 0 image.size)
