-- The blocks of a file, one after another.
use Rattle.std.proofs.Common.{◌≡◌, ◌∙◌, ◌==◌, ℕ, zero, suc, ◌+◌, ◌-◌, ◌*◌, ◌/◌, ◌%◌, ◌<◌, ◌≤◌, Bool}
use Rattle.std.proofs.Common.{true, false, nat_eq, nat_lt}
use Rattle.std.proofs.Common.{if◌then◌else◌, Some, None, List, ◌∷◌, ◌++◌, length, take}
use Rattle.std.proofs.Common.{drop, map, min, replicate, refl, sym, ap, arith}
use Rattle.std.proofs.lemmas.Bool.Decides.{nat_tests}
use Rattle.std.proofs.lemmas.List.{get_or-replicate, get_or-take, length-drop}
use Rattle.std.proofs.lemmas.List.{length-replicate, length-take-le, map-append}
use Rattle.std.proofs.lemmas.List.FromFn.{fill_by_all, get_or-map-range_with_len}
use Rattle.std.proofs.lemmas.List.FromFn.{length-map-range_with_len}
use Rattle.std.specs.HashMap.{get}
use Rattle.std.specs.List.{range_with_len}
use Rattle.std.specs.Option.{option_map}
use Rattle.std.specs.Prelude.{find}
use Rattle.cfs_medium.specs.Store.{block_for, byte_in, byte_of, tag_of}
use Rattle.cfs_survey.specs.Mapped.{BlockMap}
use Rattle.cfs_dump.specs.Reads.{FindsBlocks, front_of}
use Rattle.cfs_dump.specs.Stores.{blocks_in, content_at, content_in}

-- ---- one of them

pub front-bytes : (bytes : List ℕ) (at len : ℕ) → at + 4104 ≤ length bytes → len ≤ 4096 →
    take len (drop (at + 8) bytes) ≡ front_of (Some (content_at bytes at)) len
front-bytes bytes at len room few =
    fill_by_all (byte_of (Some (content_at bytes at))) (take len (drop (at + 8) bytes)) len 0
    (length-take-le len (drop (at + 8) bytes) (omega (arith, length-drop (at + 8) bytes)))
    (λ k less.
    get_or-take len (drop (at + 8) bytes) k 0 less
    ∙ sym (get_or-take 4096 (drop (at + 8) bytes) k 0 (omega arith)))

pub front-zeros : (len : ℕ) → replicate len 0 ≡ front_of None len
front-zeros len =
    fill_by_all (byte_of None) (replicate len 0) len 0 (length-replicate len 0)
    (λ k less. get_or-replicate len k 0 0 less)

-- ---- of a file

range-split : (a n m b : ℕ) → a + n ≡ b →
    range_with_len a (n + m) ≡ range_with_len a n ++ range_with_len b m
range-split a zero m b sum =
    ap (λ (k : ℕ). range_with_len a k) (let same : zero + m ≡ m = omega arith in same)
    ∙ ap (λ (k : ℕ). range_with_len k m) (let same : a ≡ b = omega arith in same)
range-split a (suc n) m b sum =
    ap (λ (k : ℕ). range_with_len a k)
    (let same : suc n + m ≡ suc (n + m) = omega arith in same)
    ∙ ap (λ (ks : List ℕ). a ∷ ks) (range-split (a + 1) n m b (omega arith))

-- the bytes of the file in one of its blocks
piece-bytes : (bytes : List ℕ) (ino : ℕ) (found : BlockMap) (block len : ℕ) →
    FindsBlocks bytes ino found → len ≤ 4096 →
    front_of (option_map (content_in bytes)
    (if nat_lt block 256 then get nat_eq found (tag_of ino block) else None)) len
    ≡ map (byte_in ino (blocks_in bytes)) (range_with_len (4096 * block) len)
piece-bytes bytes ino found block len finds few =
    sym (fill_by_all (byte_of (option_map (content_in bytes)
    (if nat_lt block 256 then get nat_eq found (tag_of ino block) else None)))
    (map (byte_in ino (blocks_in bytes)) (range_with_len (4096 * block) len)) len 0
    (length-map-range_with_len (byte_in ino (blocks_in bytes)) (4096 * block) len)
    (λ k less.
    get_or-map-range_with_len (byte_in ino (blocks_in bytes)) (4096 * block) len k
    (4096 * block + k) 0 less refl
    ∙ (let quotient : (4096 * block + k) / 4096 ≡ block = omega arith in
    let rest : (4096 * block + k) % 4096 ≡ k = omega arith in
    ap (λ (b : ℕ). byte_of (block_for ino b (blocks_in bytes)) ((4096 * block + k) % 4096))
    quotient
    ∙ (ap (λ (j : ℕ). byte_of (block_for ino block (blocks_in bytes)) j) rest
    ∙ ap (λ content. byte_of content k) (same_block (nat_lt block 256) refl)))))
  where
    same_block : (low : Bool) → nat_lt block 256 ≡ low →
        block_for ino block (blocks_in bytes)
        ≡ option_map (content_in bytes)
        (if nat_lt block 256 then get nat_eq found (tag_of ino block) else None)
    same_block true is =
        let below : block < 256 = grind (arith, nat_tests) in
        finds.finds block below
        ∙ sym (ap (λ (b : Bool). option_map (content_in bytes)
        (if b then get nat_eq found (tag_of ino block) else None)) is)
    same_block false is =
        ap (λ (b : Bool). if b then find (λ content. content.tag == tag_of ino block)
        (blocks_in bytes) else None) is
        ∙ sym (ap (λ (b : Bool). option_map (content_in bytes)
        (if b then get nat_eq found (tag_of ino block) else None)) is)

-- with one more block
pub piece-more : (bytes : List ℕ) (ino : ℕ) (found : BlockMap) (size block len : ℕ)
    (old new : List ℕ) → FindsBlocks bytes ino found → 4096 * block < size →
    len ≡ min (size - 4096 * block) 4096 →
    new ≡ old ++ front_of (option_map (content_in bytes)
    (if nat_lt block 256 then get nat_eq found (tag_of ino block) else None)) len →
    old ≡ map (byte_in ino (blocks_in bytes)) (range_with_len 0 (min size (4096 * block))) →
    new ≡ map (byte_in ino (blocks_in bytes)) (range_with_len 0 (min size (4096 * (block + 1))))
piece-more bytes ino found size block len old new finds less is pushed before =
    let front : min size (4096 * block) ≡ 4096 * block = omega arith in
    let whole : 4096 * block + len ≡ min size (4096 * (block + 1)) = omega arith in
    let f = byte_in ino (blocks_in bytes) in
    pushed
    ∙ (ap (λ (xs : List ℕ). xs ++ front_of (option_map (content_in bytes)
    (if nat_lt block 256 then get nat_eq found (tag_of ino block) else None)) len)
    (before ∙ ap (λ (n : ℕ). map f (range_with_len 0 n)) front)
    ∙ (ap (λ (xs : List ℕ). map f (range_with_len 0 (4096 * block)) ++ xs)
    (piece-bytes bytes ino found block len finds (omega arith))
    ∙ (sym (map-append f (range_with_len 0 (4096 * block)) (range_with_len (4096 * block) len))
    ∙ (ap (map f) (sym (range-split 0 (4096 * block) len (4096 * block) (omega arith)))
    ∙ ap (λ (n : ℕ). map f (range_with_len 0 n)) whole))))
