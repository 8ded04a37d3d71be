-- Where each piece of an image stands, and what an image tells of its store.
use Rattle.std.proofs.Common.{ℕ, zero, suc, ◌+◌, ◌*◌, ◌<◌, ◌≤◌, ◌≡◌, ◌∙◌, ◌==◌, nat_le, true, All, List, [], ◌∷◌, ◌++◌, length, take, drop, get_or, None, refl, sym, ap, arith, append_assoc}
use Rattle.std.proofs.lemmas.Bool.Decides.{nat_tests}
use Rattle.std.proofs.lemmas.List.{append-nil, append_cancel_left, drop_at, get_or_default, get_or-map, get_or-replicate, length-append, same_lists, take_at}
use Rattle.std.proofs.lemmas.List.FromFn.{get_or-map-range_with_len}
use Rattle.std.specs.List.{flat_map}
use Rattle.byteorder.specs.Endian.{little_bytes, little_number}
use Rattle.byteorder.specs.Numbers.{length-bytes_low_first, little_number-reads_back}
use Rattle.cfs_block.specs.BlockImages.{Content}
use Rattle.cfs_image.specs.declared.layout.TheConstants.{NAME, VERSION}
use Rattle.cfs_image.specs.Layout.{block_at, image_len, queues_of, region_at, region_count, region_words}
use Rattle.cfs_image.specs.Image.{IsWord, block_bytes, header_of, image_of, word_at, words_bytes}
use Rattle.cfs_image.specs.declared.version.Version.TheVariants.{Present}
use Rattle.cfs_image.specs.Checks.{Check, check, checks_of, damage_of, due_len, IsSound}
use Rattle.cfs_image.specs.Laws.{EachStands}
use Rattle.cfs_image.specs.Held.{AreHeld}
use Rattle.cfs_image.proofs.Layouts.{region_at-next}
use Rattle.cfs_image.proofs.WordBytes.{length-words_bytes}

-- pieces one after another: where each begins, and how long it is
pub record AreLaid {X : Type 0} (f : X → List ℕ) (xs : List X) (before : List ℕ) (start size : ℕ → ℕ) : Type 0 where
  pub first : length before ≡ start 0
  pub next : (k : ℕ) → start (k + 1) ≡ start k + size k
  pub sizes : (k : ℕ) (d : X) → k < length xs → length (f (get_or xs k d)) ≡ size k

-- the pieces behind the first one
behind : {X : Type 0} (f : X → List ℕ) (x : X) (xs : List X) (before : List ℕ) (start size : ℕ → ℕ) → AreLaid f (x ∷ xs) before start size
    → AreLaid f xs (before ++ f x) (λ k. start (k + 1)) (λ k. size (k + 1))
behind f x xs before start size h = record {
  first = omega (arith, length-append before (f x), h.first, h.next 0, h.sizes 0 x (omega arith));
  next = λ k. h.next (k + 1);
  sizes = λ k d l. let same : suc k ≡ k + 1 = omega arith in h.sizes (suc k) d (omega arith) ∙ ap (λ (n : ℕ). size n) same;
}

-- all pieces end where a next one would begin
ends : {X : Type 0} (f : X → List ℕ) (xs : List X) (before : List ℕ) (start size : ℕ → ℕ) → AreLaid f xs before start size → length before + length (flat_map f xs) ≡ start (length xs)
ends f [] before start size h = omega (arith, h.first)
ends f (x ∷ xs) before start size h =
    let same : length xs + 1 ≡ suc (length xs) = omega arith in
    omega (
      arith,
      ends f xs (before ++ f x) (λ k. start (k + 1)) (λ k. size (k + 1)) (behind f x xs before start size h),
      length-append before (f x),
      length-append (f x) (flat_map f xs),
      ap (λ (n : ℕ). start n) same,
    )

-- a piece stands where it begins
stands : {X : Type 0} (f : X → List ℕ) (xs : List X) (before after : List ℕ) (start size : ℕ → ℕ) → AreLaid f xs before start size
    → (k : ℕ) (d : X) → k < length xs → take (size k) (drop (start k) (before ++ (flat_map f xs ++ after))) ≡ f (get_or xs k d)
stands f [] before after start size h k d l = absurd (omega arith)
stands f (x ∷ xs) before after start size h zero d l =
    ap (λ bs. take (size 0) bs) (drop_at before ((f x ++ flat_map f xs) ++ after) (start 0) h.first ∙ append_assoc (f x) (flat_map f xs) after)
    ∙ take_at (f x) (flat_map f xs ++ after) (size 0) (h.sizes 0 d (omega arith))
stands f (x ∷ xs) before after start size h (suc k) d l =
    let same : suc k ≡ k + 1 = omega arith in
    ap (λ (n : ℕ). take (size n) (drop (start n) (before ++ ((f x ++ flat_map f xs) ++ after)))) same
    ∙ ap (λ bs. take (size (k + 1)) (drop (start (k + 1)) bs))
    (ap (λ bs. before ++ bs) (append_assoc (f x) (flat_map f xs) after) ∙ sym (append_assoc before (f x) (flat_map f xs ++ after)))
    ∙ stands f xs (before ++ f x) after (λ n. start (n + 1)) (λ n. size (n + 1)) (behind f x xs before start size h) k d (omega arith)

-- four words that stand at the start are read back
pub four_read : (a b c d : ℕ) (rest : List ℕ) → IsWord a → IsWord b → IsWord c → IsWord d
    → (word_at (words_bytes (a ∷ b ∷ c ∷ d ∷ []) ++ rest) 0 ≡ a) × (word_at (words_bytes (a ∷ b ∷ c ∷ d ∷ []) ++ rest) 8 ≡ b)
    × (word_at (words_bytes (a ∷ b ∷ c ∷ d ∷ []) ++ rest) 16 ≡ c) × (word_at (words_bytes (a ∷ b ∷ c ∷ d ∷ []) ++ rest) 24 ≡ d)
four_read a b c d rest in_a in_b in_c in_d = (
  little_number-reads_back 8 a (words_bytes (b ∷ c ∷ d ∷ []) ++ rest) (omega arith),
  little_number-reads_back 8 b (words_bytes (c ∷ d ∷ []) ++ rest) (omega arith),
  little_number-reads_back 8 c (words_bytes (d ∷ []) ++ rest) (omega arith),
  little_number-reads_back 8 d rest (omega arith),
)

-- the sizes of what a store holds
words_held : (regions : List (List ℕ)) (blocks : List Content) → AreHeld regions blocks → (k : ℕ) (d : List ℕ) → k < length regions → length (get_or regions k d) ≡ region_words k
words_held regions blocks held k d l =
    sym (get_or-map (λ ws. length ws) regions k d 0 l) ∙ ap (λ (ns : List ℕ). get_or ns k 0) held.sizes
    ∙ get_or-map-range_with_len region_words 0 (length regions) k k 0 l (omega arith)

bytes_held : (regions : List (List ℕ)) (blocks : List Content) → AreHeld regions blocks → (k : ℕ) (d : Content) → k < length blocks → length (get_or blocks k d).bytes ≡ 4096
bytes_held regions blocks held k d l =
    sym (get_or-map (λ b. length b.bytes) blocks k d 0 l) ∙ ap (λ (ns : List ℕ). get_or ns k 0) held.full ∙ get_or-replicate (length blocks) k 4096 0 l

head_of : List (List ℕ) → List Content → List ℕ
head_of regions blocks = words_bytes (header_of (length blocks) (queues_of (length regions)))

regions_laid : (regions : List (List ℕ)) (blocks : List Content) → AreHeld regions blocks → AreLaid words_bytes regions (head_of regions blocks) region_at (λ device. 8 * region_words device)
unfolding head_of
regions_laid regions blocks held = record {
  first = refl;
  next = region_at-next;
  sizes = λ k d l. omega (arith, length-words_bytes (get_or regions k d), words_held regions blocks held k d l);
}

blocks_laid : (regions : List (List ℕ)) (blocks : List Content) → AreHeld regions blocks
    → AreLaid block_bytes blocks (head_of regions blocks ++ flat_map words_bytes regions) (block_at (queues_of (length regions))) (λ number. 4104)
blocks_laid regions blocks held =
    let end : region_at (region_count (queues_of (length regions))) ≡ block_at (queues_of (length regions)) 0 = grind (arith, nat_tests) in
    record {
      first =
          length-append (head_of regions blocks) (flat_map words_bytes regions)
          ∙ ends words_bytes regions (head_of regions blocks) region_at (λ device. 8 * region_words device) (regions_laid regions blocks held)
          ∙ ap (λ (n : ℕ). region_at n) held.sized.whole_queues ∙ end;
      next = λ k. omega arith;
      sizes = λ k d l. omega (
        arith,
        length-append (little_bytes 8 (get_or blocks k d).tag) (get_or blocks k d).bytes,
        length-bytes_low_first 0 8 (get_or blocks k d).tag,
        bytes_held regions blocks held k d l,
      );
    }

pub images-stand : (regions : List (List ℕ)) (blocks : List Content) → AreHeld regions blocks → EachStands regions blocks (image_of regions blocks)
unfolding head_of
images-stand regions blocks held =
    let queues : ℕ = queues_of (length regions) in
    let head : List ℕ = head_of regions blocks in
    let in_regions : List ℕ = flat_map words_bytes regions in
    let in_blocks : List ℕ = flat_map block_bytes blocks in
    let words = four_read NAME VERSION (length blocks) queues (in_regions ++ in_blocks) (omega arith) (omega arith) (omega (arith, held.sized.most)) (omega (arith, held.sized.most_queues)) in
    let apart : (head ++ in_regions) ++ (in_blocks ++ []) ≡ head ++ (in_regions ++ in_blocks) =
    ap (λ bs. (head ++ in_regions) ++ bs) (append-nil in_blocks) ∙ append_assoc head in_regions in_blocks in
    record {
      name = words.0;
      version = words.1;
      blocks_word = words.2;
      queues_word = words.3;
      each_region = λ device l. stands words_bytes regions head in_blocks region_at (λ k. 8 * region_words k) (regions_laid regions blocks held) device [] l;
      each_block = λ number none l.
          ap (λ bs. take 4104 (drop (block_at queues number) bs)) (sym apart)
          ∙ stands block_bytes blocks (head ++ in_regions) [] (block_at queues) (λ k. 4104) (blocks_laid regions blocks held) number none l;
      whole =
          ap (λ (bs : List ℕ). length bs) (sym (append_assoc head in_regions in_blocks)) ∙ length-append (head ++ in_regions) in_blocks
          ∙ ends block_bytes blocks (head ++ in_regions) (block_at queues) (λ k. 4104) (blocks_laid regions blocks held);
    }

-- a check that holds in front of others
holds : (check : Check) (rest : List Check) → check.holds ≡ true → damage_of rest ≡ None → damage_of (check ∷ rest) ≡ None
holds check rest is none = rw is none

-- bytes with these words at their start and of this length pass all checks
pub sound_of : (bytes : List ℕ) (blocks queues : ℕ) → word_at bytes 0 ≡ NAME → word_at bytes 8 ≡ VERSION → word_at bytes 16 ≡ blocks → word_at bytes 24 ≡ queues
    → length bytes ≡ image_len blocks queues → 16 ≤ blocks → blocks ≤ 16384 → 1 ≤ queues → queues ≤ 64 → IsSound bytes
sound_of bytes blocks queues name version in_blocks in_queues size fewest most some many =
    let cs : List Check = checks_of Present bytes in
    let due : length bytes ≡ due_len Present bytes = omega arith in
    let room : nat_le 32 (length bytes) ≡ true = grind (arith, nat_tests) in
    let named : (word_at bytes 0 == NAME) ≡ true = grind (arith, nat_tests) in
    let versioned : (word_at bytes 8 == VERSION) ≡ true = grind (arith, nat_tests) in
    let fewest_blocks : nat_le 16 (word_at bytes 16) ≡ true = grind (arith, nat_tests) in
    let most_blocks : nat_le (word_at bytes 16) 16384 ≡ true = grind (arith, nat_tests) in
    let fewest_queues : nat_le 1 (word_at bytes 24) ≡ true = grind (arith, nat_tests) in
    let most_queues : nat_le (word_at bytes 24) 64 ≡ true = grind (arith, nat_tests) in
    let whole : (length bytes == due_len Present bytes) ≡ true = grind (arith, nat_tests) in
    holds (get_or cs 0 (check true 0 0 0)) (drop 1 cs) room (holds (get_or cs 1 (check true 0 0 0)) (drop 2 cs) named (holds (get_or cs 2 (check true 0 0 0)) (drop 3 cs) versioned
    (holds (get_or cs 3 (check true 0 0 0)) (drop 4 cs) fewest_blocks (holds (get_or cs 4 (check true 0 0 0)) (drop 5 cs) most_blocks
    (holds (get_or cs 5 (check true 0 0 0)) (drop 6 cs) fewest_queues (holds (get_or cs 6 (check true 0 0 0)) (drop 7 cs) most_queues
    (holds (get_or cs 7 (check true 0 0 0)) [] whole refl)))))))

pub images-are-sound : (regions : List (List ℕ)) (blocks : List Content) → AreHeld regions blocks → IsSound (image_of regions blocks)
images-are-sound regions blocks held =
    let at : EachStands regions blocks (image_of regions blocks) = images-stand regions blocks held in
    sound_of (image_of regions blocks) (length blocks) (queues_of (length regions)) at.name at.version at.blocks_word at.queues_word at.whole held.sized.fewest held.sized.most
    held.sized.some_queue held.sized.most_queues

-- words are told by their bytes
words_tell : (words others : List ℕ) → All IsWord words → All IsWord others → length words ≡ length others → words_bytes words ≡ words_bytes others → words ≡ others
words_tell [] [] fit fit_others same image = refl
words_tell [] (other ∷ others) fit fit_others same image = absurd (omega arith)
words_tell (word ∷ words) [] fit fit_others same image = absurd (omega arith)
words_tell (word ∷ words) (other ∷ others) fit fit_others same image =
    let first : word ≡ other =
    sym (little_number-reads_back 8 word (words_bytes words) (omega (arith, fit 0 0 (omega arith)))) ∙ ap (λ bs. little_number 8 bs) image
    ∙ little_number-reads_back 8 other (words_bytes others) (omega (arith, fit_others 0 0 (omega arith))) in
    let rest : words_bytes words ≡ words_bytes others =
    append_cancel_left (little_bytes 8 word) (words_bytes words) (words_bytes others)
    (image ∙ ap (λ (w : ℕ). little_bytes 8 w ++ words_bytes others) (sym first)) in
    ap (λ (w : ℕ). w ∷ words) first
    ∙ ap (λ ws. other ∷ ws) (words_tell words others (λ k d l. fit (suc k) d (omega arith)) (λ k d l. fit_others (suc k) d (omega arith)) (omega arith) rest)

-- so is a block
block_tells : (block other : Content) → IsWord block.tag → IsWord other.tag → block_bytes block ≡ block_bytes other → block ≡ other
block_tells block other fit fit_other image =
    let tag : block.tag ≡ other.tag =
    sym (little_number-reads_back 8 block.tag block.bytes (omega arith)) ∙ ap (λ bs. little_number 8 bs) image ∙ little_number-reads_back 8 other.tag other.bytes (omega arith) in
    let bytes : block.bytes ≡ other.bytes =
    append_cancel_left (little_bytes 8 block.tag) block.bytes other.bytes (image ∙ ap (λ (w : ℕ). little_bytes 8 w ++ other.bytes) (sym tag)) in
    let with_tag : block ≡ record { tag = other.tag; bytes = block.bytes } = ap (λ (w : ℕ). record { tag = w; bytes = block.bytes }) tag in
    let with_bytes : record { tag = other.tag; bytes = block.bytes } ≡ other = ap (λ bs. record { tag = other.tag; bytes = bs }) bytes in
    with_tag ∙ with_bytes

pub images-tell : (regions others : List (List ℕ)) (blocks other_blocks : List Content) → AreHeld regions blocks → AreHeld others other_blocks
    → image_of regions blocks ≡ image_of others other_blocks → (regions ≡ others) × (blocks ≡ other_blocks)
images-tell regions others blocks other_blocks held held_others image =
    let at : EachStands regions blocks (image_of regions blocks) = images-stand regions blocks held in
    let there : EachStands others other_blocks (image_of others other_blocks) = images-stand others other_blocks held_others in
    let many_blocks : length blocks ≡ length other_blocks = sym at.blocks_word ∙ ap (λ bs. word_at bs 16) image ∙ there.blocks_word in
    let queues : queues_of (length regions) ≡ queues_of (length others) = sym at.queues_word ∙ ap (λ bs. word_at bs 24) image ∙ there.queues_word in
    let many : length regions ≡ length others = held.sized.whole_queues ∙ ap (λ (n : ℕ). region_count n) queues ∙ sym held_others.sized.whole_queues in (
      same_lists regions others many
          (λ k d l.
          let in_others : k < length others = omega arith in
          let same : words_bytes (get_or regions k []) ≡ words_bytes (get_or others k []) =
          sym (at.each_region k l) ∙ ap (λ bs. take (8 * region_words k) (drop (region_at k) bs)) image ∙ there.each_region k in_others in
          get_or_default regions k d [] l
          ∙ words_tell (get_or regions k []) (get_or others k []) (held.words k [] l) (held_others.words k [] in_others)
          (words_held regions blocks held k [] l ∙ sym (words_held others other_blocks held_others k [] in_others)) same
          ∙ get_or_default others k [] d in_others),
      same_lists blocks other_blocks many_blocks
          (λ k d l.
          let in_others : k < length other_blocks = omega arith in
          let same : block_bytes (get_or blocks k d) ≡ block_bytes (get_or other_blocks k d) =
          sym (at.each_block k d l) ∙ ap (λ bs. take 4104 (drop (block_at (queues_of (length regions)) k) bs)) image
          ∙ ap (λ (n : ℕ). take 4104 (drop (block_at n k) (image_of others other_blocks))) queues ∙ there.each_block k d in_others in
          block_tells (get_or blocks k d) (get_or other_blocks k d) (held.tags k d l) (held_others.tags k d in_others) same),
    )
