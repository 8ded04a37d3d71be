-- What fits a core stores what its image stores.
use Rattle.std.proofs.Common.{◌≡◌, inl, inr, ℕ, ◌+◌, ◌*◌, ◌/◌, ◌%◌, ◌<◌, ◌≤◌, Bool, true, false, None, List, [], length, map, get_or, arith, refl, sym, ap, subst, ◌∙◌}
use Rattle.std.specs.List.{range_with_len}
use Rattle.std.proofs.lemmas.Bool.{cases_lt}
use Rattle.std.proofs.lemmas.List.{get_or_past}
use Rattle.std.proofs.lemmas.List.FromFn.{get_or-map-range_with_len, length-map-range_with_len}
use Rattle.cfs_file.specs.declared.sizes.TheConstants.{BLOCK_LEN, FILE_BLOCKS}
use Rattle.cfs_core.specs.declared.inode_core.Core.{Core}
use Rattle.cfs_core.specs.Medium.{is_loose, stored}
use Rattle.cfs_core.proofs.Legal.{same_number}
use Rattle.cfs_block.specs.BlockImages.{Content}
use Rattle.cfs_medium.specs.Store.{Store, tag_of}
use Rattle.cfs_medium.specs.Depicts.{Depicts, IsFor, content_at}
use Rattle.cfs_medium.specs.World.{Remains, stored_of}
use Rattle.cfs_medium.specs.Shows.{HasShape, RemainsFit}
use Rattle.cfs_medium.proofs.Blocks.{stored-same}
use Rattle.cfs_medium.proofs.Has.{has-contained}
use Rattle.cfs_medium.proofs.Left.{byte_left, is_set_at, left, tag-left, tags_left}

-- the core without its log
abbrev bare : Core → Core
bare core = record core { log = []; doubt = None }

abbrev contents_left : Remains → List Content
contents_left remains = map remains.blocks (range_with_len 0 FILE_BLOCKS)

abbrev store_left : Remains → Store
store_left remains = record {
  size = get_or remains.size 0 0;
  slots = [];
  blocks = contents_left remains;
}

content-left : (remains : Remains) (at : ℕ) → at < FILE_BLOCKS →
    content_at (contents_left remains) at ≡ remains.blocks at
content-left remains at within =
    get_or-map-range_with_len remains.blocks 0 FILE_BLOCKS at at (record { tag = 0; bytes = [] }) within
    (omega arith)

content-past : (remains : Remains) (at : ℕ) → FILE_BLOCKS ≤ at →
    (content_at (contents_left remains) at).tag ≡ 0
content-past remains at past =
    ap (λ (c : Content). c.tag) (get_or_past (contents_left remains) at (record { tag = 0; bytes = [] })
    (omega (arith, past, length-map-range_with_len remains.blocks 0 FILE_BLOCKS)))

-- a block that is tagged for a file block is the one that is mapped there
for-own : (ino : ℕ) (core : Core) (remains : Remains) → HasShape core →
    RemainsFit ino core remains → (at block : ℕ) → IsFor ino block (contents_left remains) at →
    (at ≡ block) × ((at < FILE_BLOCKS) × (is_set_at ino remains at ≡ true))
for-own ino core remains shape fits at block tagged = elim (cases_lt at FILE_BLOCKS) [
  | inl within ↦ test within (is_set_at ino remains at) refl
  | inr past ↦ absurd (omega (arith, tagged, content-past remains at past))
]
  where
    test : at < FILE_BLOCKS → (b : Bool) → is_set_at ino remains at ≡ b →
        (at ≡ block) × ((at < FILE_BLOCKS) × (is_set_at ino remains at ≡ true))
    test within true is =
        let here : (remains.blocks at).tag ≡ tag_of ino at =
        same_number (remains.blocks at).tag (tag_of ino at) is in
        let tag : (content_at (contents_left remains) at).tag ≡ (remains.blocks at).tag =
        ap (λ (c : Content). c.tag) (content-left remains at within) in
        (omega (arith, here, tag, tagged), (within, is))
    test within false is =
        let free : (remains.blocks at).tag ≡ 0 =
        (fits.blocks at within).free is in
        let tag : (content_at (contents_left remains) at).tag ≡ (remains.blocks at).tag =
        ap (λ (c : Content). c.tag) (content-left remains at within) in
        absurd (omega (arith, free, tag, tagged))

-- its byte is that of the image
byte-left : (ino : ℕ) (core : Core) (remains : Remains) → HasShape core →
    RemainsFit ino core remains → (block k : ℕ) → block < FILE_BLOCKS → k < BLOCK_LEN →
    is_set_at ino remains block ≡ true →
    get_or (remains.blocks block).bytes k 0
    ≡ get_or (left ino core remains).bytes (BLOCK_LEN * block + k) 0
byte-left ino core remains shape fits block k within below set =
    elim (cases_lt (BLOCK_LEN * block + k) (length core.bytes)) [
      | inl inside ↦
          sym (get_or-map-range_with_len (byte_left ino core remains) 0 (length core.bytes)
          (BLOCK_LEN * block + k) (BLOCK_LEN * block + k) 0 inside (omega arith) ∙ own)
      | inr past ↦
          let firm : is_loose core.loose (BLOCK_LEN * block + k) ≡ false =
          not_loose past (is_loose core.loose (BLOCK_LEN * block + k)) refl in
          (fits.blocks block within).bytes_are
          set k below firm
          ∙ (get_or_past core.bytes (BLOCK_LEN * block + k) 0 past
          ∙ sym (get_or_past (left ino core remains).bytes (BLOCK_LEN * block + k) 0
          (omega (
            arith,
            past,
            length-map-range_with_len (byte_left ino core remains) 0
                (length core.bytes),
          ))))
    ]
  where
    block_is : (BLOCK_LEN * block + k) / BLOCK_LEN ≡ block
    block_is = omega arith

    at_is : (BLOCK_LEN * block + k) % BLOCK_LEN ≡ k
    at_is = omega arith

    tag : get_or (tags_left ino core remains) block false ≡ true
    tag = tag-left ino core remains block (omega (arith, shape.tags)) ∙ set

    own : byte_left ino core remains (BLOCK_LEN * block + k) ≡ get_or (remains.blocks block).bytes k 0
    own = rw (block_is, at_is, tag) refl

    not_loose : length core.bytes ≤ BLOCK_LEN * block + k → (b : Bool) →
        is_loose core.loose (BLOCK_LEN * block + k) ≡ b →
        is_loose core.loose (BLOCK_LEN * block + k) ≡ false
    not_loose past false is = is
    not_loose past true is =
        absurd (omega (arith, past, shape.loose (BLOCK_LEN * block + k) is))

depicts-left : (ino : ℕ) (core : Core) (remains : Remains) → HasShape core →
    RemainsFit ino core remains → Depicts ino (store_left remains) (bare core) (left ino core remains)
depicts-left ino core remains shape fits = record {
  size_is = refl;
  tags_are =
      length-map-range_with_len (is_set_at ino remains) 0 (length core.tags) ∙ shape.tags;
  tagged = λ block within bit. (
    block,
    tagged block within
        (sym (tag-left ino core remains block (omega (arith, shape.tags))) ∙ bit),
  );
  is_set = λ at block within tagged.
      let own = for-own ino core remains shape fits at block tagged in
      tag-left ino core remains block (omega (arith, shape.tags))
      ∙ subst (λ n. is_set_at ino remains n ≡ true) own.0 own.1.1;
  alone = λ first second block within one two.
      (for-own ino core remains shape fits first block one).0
      ∙ sym (for-own ino core remains shape fits second block two).0;
  bytes_are = λ at block k within tagged below. bytes at block k within tagged below;
  live = λ at entry is. cc;
  held = λ entry among. absurd (has-contained [] entry among);
  once = λ first second entry one two. cc;
}
  where
    tagged : (block : ℕ) → block < FILE_BLOCKS → is_set_at ino remains block ≡ true →
        IsFor ino block (contents_left remains) block
    tagged block within set =
        ap (λ (c : Content). c.tag) (content-left remains block within)
        ∙ same_number (remains.blocks block).tag (tag_of ino block) set

    bytes : (at block k : ℕ) → block < FILE_BLOCKS → IsFor ino block (contents_left remains) at →
        k < BLOCK_LEN →
        get_or (content_at (contents_left remains) at).bytes k 0
        ≡ get_or (left ino core remains).bytes (BLOCK_LEN * block + k) 0
    bytes at block k within for_it below =
        let own = for-own ino core remains shape fits at block for_it in
        let here : content_at (contents_left remains) at ≡ remains.blocks block =
        content-left remains at own.1.0 ∙ ap (λ (n : ℕ). remains.blocks n) own.0 in
        ap (λ (c : Content). get_or c.bytes k 0) here
        ∙ byte-left ino core remains shape fits block k within below
        (subst (λ n. is_set_at ino remains n ≡ true) own.0 own.1.1)

pub stored-left : (ino : ℕ) (core : Core) (remains : Remains) → HasShape core →
    RemainsFit ino core remains → stored_of ino remains ≡ stored (left ino core remains)
stored-left ino core remains shape fits =
    stored-same ino (store_left remains) (bare core) (left ino core remains)
    (depicts-left ino core remains shape fits)
