-- The map of tags finds the blocks of a file.
use Rattle.std.proofs.Common.{◌≡◌, ◌∙◌, ◌==◌, ℕ, zero, suc, ◌+◌, ◌/◌, ◌<◌, ◌≤◌, Bool, true}
use Rattle.std.proofs.Common.{false, nat_eq, nat_lt, if◌then◌else◌, Some, None, List}
use Rattle.std.proofs.Common.{length, get_or, map, refl, sym, ap, arith}
use Rattle.std.specs.Prelude.{find}
use Rattle.std.proofs.lemmas.Bool.Decides.{nat_tests}
use Rattle.std.proofs.lemmas.List.FromFn.{get_or-map-range_with_len, length-map-range_with_len}
use Rattle.std.specs.HashMap.{get}
use Rattle.std.specs.List.{range_with_len}
use Rattle.std.specs.Option.{option_map}
use Rattle.cfs_block.specs.BlockImages.{Content}
use Rattle.cfs_dir.specs.declared.node.Node.{Node}
use Rattle.cfs_fsck.specs.Images.{tags_at}
use Rattle.cfs_image.specs.Image.{word_at}
use Rattle.cfs_image.specs.Layout.{block_at}
use Rattle.cfs_medium.specs.Store.{tag_of}
use Rattle.cfs_survey.specs.Mapped.{BlockMap, IsBlockMap}
use Rattle.cfs_survey.specs.Tags.{block_of, is_file}
use Rattle.cfs_dump.specs.Reads.{FindsBlocks}
use Rattle.cfs_dump.specs.Stores.{blocks_in, content_in}

find-below : (p : ℕ → Bool) (from n place : ℕ) → find p (range_with_len from n) ≡ Some place →
    place < from + n
find-below p from zero place is = absurd (cc)
find-below p from (suc n) place is =
    split (p from) (λ there. find-below p (from + 1) n place there) is
  where
    split : (b : Bool) →
        (find p (range_with_len (from + 1) n) ≡ Some place → place < from + 1 + n) →
        (if b then Some from else find p (range_with_len (from + 1) n)) ≡ Some place →
        place < from + suc n
    split true deeper is = let same : from ≡ place = cc in omega (arith, same)
    split false deeper is = let less = deeper is in omega (arith, less)

find-map : (f : ℕ → Content) (tags : List ℕ) (tag from n : ℕ) →
    ((k : ℕ) → k < from + n → get_or tags k 0 ≡ (f k).tag) →
    find (λ content. content.tag == tag) (map f (range_with_len from n))
    ≡ option_map f (find (λ k. get_or tags k 0 == tag) (range_with_len from n))
find-map f tags tag from zero same = refl
find-map f tags tag from (suc n) same =
    ap (λ (t : ℕ). if t == tag then Some (f from)
    else find (λ content. content.tag == tag) (map f (range_with_len (from + 1) n)))
    (sym (same from (omega arith)))
    ∙ split (get_or tags from 0 == tag)
    (find-map f tags tag (from + 1) n (λ k less. same k (omega arith)))
  where
    split : (b : Bool) →
        find (λ content. content.tag == tag) (map f (range_with_len (from + 1) n))
        ≡ option_map f (find (λ k. get_or tags k 0 == tag) (range_with_len (from + 1) n)) →
        (if b then Some (f from)
        else find (λ content. content.tag == tag) (map f (range_with_len (from + 1) n)))
        ≡ option_map f (if b then Some from
        else find (λ k. get_or tags k 0 == tag) (range_with_len (from + 1) n))
    split true deeper = refl
    split false deeper = deeper

length-tags : (bytes : List ℕ) (queues blocks : ℕ) →
    length (tags_at bytes queues blocks) ≡ blocks
unfolding tags_at
length-tags bytes queues blocks =
    length-map-range_with_len (λ block. word_at bytes (block_at queues block)) 0 blocks

tag-at : (bytes : List ℕ) (queues blocks k : ℕ) → k < blocks →
    get_or (tags_at bytes queues blocks) k 0 ≡ word_at bytes (block_at queues k)
unfolding tags_at
tag-at bytes queues blocks k less =
    get_or-map-range_with_len (λ block. word_at bytes (block_at queues block)) 0 blocks k k 0 less
    (omega arith)

tagged : (bytes : List ℕ) (tag : ℕ) →
    find (λ content. content.tag == tag) (blocks_in bytes)
    ≡ option_map (content_in bytes)
    (block_of (tags_at bytes (word_at bytes 24) (word_at bytes 16)) (word_at bytes 16) tag)
unfolding blocks_in
tagged bytes tag =
    find-map (content_in bytes) (tags_at bytes (word_at bytes 24) (word_at bytes 16)) tag 0
    (word_at bytes 16)
    (λ k less. tag-at bytes (word_at bytes 24) (word_at bytes 16) k (omega arith))

pub finds-blocks : (bytes : List ℕ) (nodes : List Node) (tags : List ℕ) (ino : ℕ)
    (found : BlockMap) → is_file nodes ino ≡ true →
    block_at (word_at bytes 24) (word_at bytes 16) ≤ length bytes →
    tags ≡ tags_at bytes (word_at bytes 24) (word_at bytes 16) →
    IsBlockMap nodes tags (length tags) found → FindsBlocks bytes ino found
finds-blocks bytes nodes tags ino found file room are mapped = record {
  finds = λ block less.
      let test : nat_lt block 256 ≡ true = grind (arith, nat_tests) in
      ap (λ (b : Bool). if b then find (λ content. content.tag == tag_of ino block)
      (blocks_in bytes) else None) test
      ∙ (tagged bytes (tag_of ino block)
      ∙ ap (option_map (content_in bytes)) (sym (in_map block less)));
  within = λ block place less is.
      let below : place < 0 + word_at bytes 16 =
      find-below (λ k. get_or (tags_at bytes (word_at bytes 24) (word_at bytes 16)) k 0
      == tag_of ino block) 0 (word_at bytes 16) place (sym (in_map block less) ∙ is) in
      omega (arith, room, below);
}
  where
    many : length tags ≡ word_at bytes 16
    many =
        ap (λ (ts : List ℕ). length ts) are
        ∙ length-tags bytes (word_at bytes 24) (word_at bytes 16)

    in_map : (block : ℕ) → block < 256 →
        get nat_eq found (tag_of ino block)
        ≡ block_of (tags_at bytes (word_at bytes 24) (word_at bytes 16)) (word_at bytes 16)
        (tag_of ino block)
    in_map block less =
        let own : tag_of ino block / 65536 ≡ ino = omega arith in
        mapped (tag_of ino block) (ap (λ (n : ℕ). is_file nodes n) own ∙ file)
        ∙ (ap (λ (n : ℕ). block_of tags n (tag_of ino block)) many
        ∙ ap (λ (ts : List ℕ). block_of ts (word_at bytes 16) (tag_of ino block)) are)
