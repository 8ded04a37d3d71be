-- Zeros as they stand in an image.
use Rattle.std.proofs.Common.{ℕ, zero, suc, ◌+◌, ◌-◌, ◌*◌, ◌≤◌, ◌≡◌, ◌∙◌, ◌==◌, Bool, true, false, if◌then◌else◌, List, [], ◌∷◌, ◌++◌, length, take, map, refl, sym, ap, subst, arith, append_assoc}
use Rattle.std.proofs.Math.ListN.{replicate}
use Rattle.std.proofs.lemmas.Bool.Decides.{nat_tests}
use Rattle.std.proofs.lemmas.List.{length-map, length-replicate, replicate-append-replicate, take_all}
use Rattle.std.proofs.lemmas.List.FromFn.{length-range_with_len}
use Rattle.std.proofs.lemmas.List.Concat.{flat_map-append}
use Rattle.std.specs.List.{flat_map, range_with_len}
use Rattle.byteorder.specs.Endian.{little_bytes}
use Rattle.cfs_image.specs.Layout.{block_at, image_len, queues_of, region_at, region_words, region_count}
use Rattle.cfs_image.specs.Image.{words_bytes, block_bytes, header_of}
use Rattle.cfs_image.specs.Fresh.{new_table, new_words, new_content, new_image_of}
use Rattle.cfs_image.specs.Checks.{IsSound}
use Rattle.cfs_image.specs.declared.layout.TheConstants.{NAME, VERSION}
use Rattle.cfs_image.proofs.Standing.{four_read, sound_of}
use Rattle.cfs_image.proofs.Layouts.{region_at-next}

-- zero words are zero bytes
pub words_bytes-zeros : (n : ℕ) → words_bytes (replicate n 0) ≡ replicate (8 * n) 0
words_bytes-zeros zero = refl
words_bytes-zeros (suc n) =
    let more : 8 * suc n ≡ suc (suc (suc (suc (suc (suc (suc (suc (8 * n)))))))) = omega arith in
    ap (λ bs. 0 ∷ 0 ∷ 0 ∷ 0 ∷ 0 ∷ 0 ∷ 0 ∷ 0 ∷ bs) (words_bytes-zeros n) ∙ ap (λ (k : ℕ). replicate k 0) (sym more)

-- a front of words, and zeros behind it
words_bytes-front : (words : List ℕ) (n : ℕ) → words_bytes (words ++ replicate n 0) ≡ words_bytes words ++ replicate (8 * n) 0
words_bytes-front words n = flat_map-append (little_bytes 8) words (replicate n 0) ∙ ap (λ bs. words_bytes words ++ bs) (words_bytes-zeros n)

-- the words of a new region, by whether it has the table's front
fronted : (has : Bool) (words : ℕ) → List ℕ
fronted has words = (if has then new_table else []) ++ replicate (words - length (if has then new_table else [])) 0

-- a new region behind the first table copy is zero
plain : (device : ℕ) → 2 ≤ device → words_bytes (new_words device) ≡ replicate (8 * region_words device) 0
unfolding fronted
plain device behind =
    let none : (device == 1) ≡ false = grind (arith, nat_tests) in
    let size : 8 * (region_words device - 0) ≡ 8 * region_words device = omega arith in
    ap (λ (has : Bool). words_bytes (fronted has (region_words device))) none
    ∙ words_bytes-zeros (region_words device - 0)
    ∙ ap (λ (n : ℕ). replicate n 0) size

-- the first table copy has its front
table : (device : ℕ) → device ≡ 1 → words_bytes (new_words device) ≡ words_bytes new_table ++ replicate (8 * (region_words device - 5)) 0
unfolding fronted
table device is =
    let front : (device == 1) ≡ true = grind (arith, nat_tests) in
    ap (λ (has : Bool). words_bytes (fronted has (region_words device))) front
    ∙ words_bytes-front new_table (region_words device - 5)

-- new regions behind the first table copy are zeros up to where the next one begins
zeros_from : (device many : ℕ) → 2 ≤ device
    → (n : ℕ) × (flat_map words_bytes (map new_words (range_with_len device many)) ≡ replicate n 0) × (region_at device + n ≡ region_at (device + many))
zeros_from device zero behind =
    let same : device ≡ device + 0 = omega arith in
    (0, refl, omega (arith, ap (λ (k : ℕ). region_at k) same))
zeros_from device (suc many) behind =
    let rest = zeros_from (device + 1) many (omega arith) in
    let same : device + 1 + many ≡ device + suc many = omega arith in (
      8 * region_words device + rest.0,
      ap (λ bs. bs ++ flat_map words_bytes (map new_words (range_with_len (device + 1) many))) (plain device behind)
          ∙ ap (λ bs. replicate (8 * region_words device) 0 ++ bs) rest.1
          ∙ replicate-append-replicate (8 * region_words device) rest.0 0,
      omega (arith, rest.2, region_at-next device, ap (λ (k : ℕ). region_at k) same),
    )

-- the regions of a new store, as bytes
pub regions_new : (one queues : ℕ) → one ≡ 1
    → flat_map words_bytes (map new_words (range_with_len 0 (region_count queues))) ≡ words_bytes (0 ∷ []) ++ (words_bytes new_table ++ replicate (block_at queues 0 - 80) 0)
regions_new one queues is =
    let many : ℕ = 321 + 16 * queues in
    let count : region_count queues ≡ suc (suc many) = omega arith in
    let rest = zeros_from 2 many (omega arith) in
    let end : region_at (2 + many) ≡ block_at queues 0 = grind (arith, nat_tests) in
    let size : region_words one ≡ 3073 = ap (λ (k : ℕ). region_words k) is in
    let all : 8 * (region_words one - 5) + rest.0 ≡ block_at queues 0 - 80 = omega (arith, rest.2, end, size) in
    ap (λ (n : ℕ). flat_map words_bytes (map new_words (range_with_len 0 n))) count
    ∙ ap (λ (k : ℕ). flat_map words_bytes (map new_words (0 ∷ k ∷ range_with_len 2 many))) (sym is)
    ∙ ap (λ bs. words_bytes (0 ∷ []) ++ (bs ++ flat_map words_bytes (map new_words (range_with_len 2 many)))) (table one is)
    ∙ ap (λ bs. words_bytes (0 ∷ []) ++ ((words_bytes new_table ++ replicate (8 * (region_words one - 5)) 0) ++ bs)) rest.1
    ∙ ap (λ bs. words_bytes (0 ∷ []) ++ bs) (append_assoc (words_bytes new_table) (replicate (8 * (region_words one - 5)) 0) (replicate rest.0 0))
    ∙ ap (λ bs. words_bytes (0 ∷ []) ++ (words_bytes new_table ++ bs)) (replicate-append-replicate (8 * (region_words one - 5)) rest.0 0)
    ∙ ap (λ (n : ℕ). words_bytes (0 ∷ []) ++ (words_bytes new_table ++ replicate n 0)) all

-- blocks of zeros, as bytes
pub blocks_new : (n many : ℕ) → flat_map block_bytes (replicate many record { tag = 0; bytes = replicate n 0 }) ≡ replicate ((8 + n) * many) 0
blocks_new n zero = let none : (8 + n) * 0 ≡ 0 = omega arith in ap (λ (k : ℕ). replicate k 0) (sym none)
blocks_new n (suc many) =
    let more : 8 + n + (8 + n) * many ≡ (8 + n) * suc many = omega arith in
    ap (λ bs. (replicate 8 0 ++ replicate n 0) ++ bs) (blocks_new n many)
    ∙ ap (λ bs. bs ++ replicate ((8 + n) * many) 0) (replicate-append-replicate 8 n 0)
    ∙ replicate-append-replicate (8 + n) ((8 + n) * many) 0
    ∙ ap (λ (k : ℕ). replicate k 0) more

-- the header, a selector of 0, the table's front and zeros are the image of a new store
image_new : (one blocks queues : ℕ) → one ≡ 1
    → ((words_bytes (header_of blocks queues) ++ words_bytes (0 ∷ [])) ++ words_bytes new_table) ++ replicate (image_len blocks queues - 80) 0 ≡ new_image_of blocks queues
image_new one blocks queues is =
    let head : List ℕ = words_bytes (header_of blocks queues) in
    let count : queues_of (length (map new_words (range_with_len 0 (region_count queues)))) ≡ queues =
    omega (arith, length-map (range_with_len 0 (region_count queues)) new_words, length-range_with_len 0 (region_count queues)) in
    let many : length (replicate blocks new_content) ≡ blocks = length-replicate blocks new_content in
    let size : (block_at queues 0 - 80) + (8 + 4096) * blocks ≡ image_len blocks queues - 80 = omega arith in
    append_assoc (head ++ words_bytes (0 ∷ [])) (words_bytes new_table) (replicate (image_len blocks queues - 80) 0)
    ∙ append_assoc head (words_bytes (0 ∷ [])) (words_bytes new_table ++ replicate (image_len blocks queues - 80) 0)
    ∙ ap (λ (n : ℕ). head ++ (words_bytes (0 ∷ []) ++ (words_bytes new_table ++ replicate n 0))) (sym size)
    ∙ ap (λ bs. head ++ (words_bytes (0 ∷ []) ++ (words_bytes new_table ++ bs))) (sym (replicate-append-replicate (block_at queues 0 - 80) ((8 + 4096) * blocks) 0))
    ∙ ap (λ bs. head ++ (words_bytes (0 ∷ []) ++ bs)) (sym (append_assoc (words_bytes new_table) (replicate (block_at queues 0 - 80) 0) (replicate ((8 + 4096) * blocks) 0)))
    ∙ ap (λ bs. head ++ bs) (sym (append_assoc (words_bytes (0 ∷ [])) (words_bytes new_table ++ replicate (block_at queues 0 - 80) 0) (replicate ((8 + 4096) * blocks) 0)))
    ∙ ap (λ bs. head ++ (bs ++ replicate ((8 + 4096) * blocks) 0)) (sym (regions_new one queues is))
    ∙ ap (λ bs. head ++ (flat_map words_bytes (map new_words (range_with_len 0 (region_count queues))) ++ bs)) (sym (blocks_new 4096 blocks))
    ∙ ap (λ (n : ℕ). words_bytes (header_of n queues) ++ (flat_map words_bytes (map new_words (range_with_len 0 (region_count queues))) ++ flat_map block_bytes (replicate blocks new_content))) (sym many)
    ∙ ap (λ (n : ℕ). words_bytes (header_of (length (replicate blocks new_content)) n)
    ++ (flat_map words_bytes (map new_words (range_with_len 0 (region_count queues))) ++ flat_map block_bytes (replicate blocks new_content))) (sym count)

-- written piece by piece
pub made : (blocks queues len count : ℕ) (empty first second third last : List ℕ) → empty ≡ [] → first ≡ empty ++ words_bytes (header_of blocks queues)
    → second ≡ first ++ words_bytes (0 ∷ []) → third ≡ second ++ words_bytes new_table → last ≡ take len third ++ replicate (len - count) 0
    → count ≡ length third → len ≡ image_len blocks queues → last ≡ new_image_of blocks queues
made blocks queues len count empty first second third last none head selector table filled counted size =
    let front : third ≡ (words_bytes (header_of blocks queues) ++ words_bytes (0 ∷ [])) ++ words_bytes new_table =
    table ∙ ap (λ bs. bs ++ words_bytes new_table) (selector ∙ ap (λ bs. bs ++ words_bytes (0 ∷ [])) (head ∙ ap (λ bs. bs ++ words_bytes (header_of blocks queues)) none)) in
    let long : length third ≡ 80 = ap (λ (bs : List ℕ). length bs) front in
    let whole : take len third ≡ third = take_all len third (omega arith) in
    let left : len - count ≡ image_len blocks queues - 80 = omega arith in
    filled ∙ ap (λ bs. bs ++ replicate (len - count) 0) (whole ∙ front)
    ∙ ap (λ (n : ℕ). ((words_bytes (header_of blocks queues) ++ words_bytes (0 ∷ [])) ++ words_bytes new_table) ++ replicate n 0) left
    ∙ image_new 1 blocks queues refl

-- the image of a new store passes all checks
pub sound_new : (blocks queues : ℕ) → 16 ≤ blocks → blocks ≤ 16384 → 1 ≤ queues → queues ≤ 64 → IsSound (new_image_of blocks queues)
sound_new blocks queues fewest most some many =
    let head : List ℕ = words_bytes (header_of blocks queues) in
    let rest : List ℕ = words_bytes (0 ∷ []) ++ (words_bytes new_table ++ replicate (image_len blocks queues - 80) 0) in
    let whole : new_image_of blocks queues ≡ head ++ rest =
    sym (image_new 1 blocks queues refl) ∙ append_assoc (head ++ words_bytes (0 ∷ [])) (words_bytes new_table) (replicate (image_len blocks queues - 80) 0)
    ∙ append_assoc head (words_bytes (0 ∷ [])) (words_bytes new_table ++ replicate (image_len blocks queues - 80) 0) in
    let size : length (head ++ rest) ≡ image_len blocks queues = omega (arith, length-replicate {A = ℕ} (image_len blocks queues - 80) 0) in
    let words = four_read NAME VERSION blocks queues rest (omega arith) (omega arith) (omega arith) (omega arith) in
    subst (λ bytes. IsSound bytes) (sym whole) (sound_of (head ++ rest) blocks queues words.0 words.1 words.2 words.3 size fewest most some many)
