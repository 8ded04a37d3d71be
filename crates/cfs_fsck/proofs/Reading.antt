-- Words that were read of an image.
use Rattle.std.proofs.Common.{◌≡◌, ◌∙◌, ℕ, ◌+◌, ◌-◌, ◌*◌, ◌<◌, List, [], ◌∷◌, ◌++◌, length, take, drop}
use Rattle.std.proofs.Common.{sym, ap, arith}
use Rattle.std.specs.Prelude.{map}
use Rattle.std.specs.List.{range_with_len}
use Rattle.std.proofs.lemmas.List.{drop-drop, drop-take, ext_get_or}
use Rattle.std.proofs.lemmas.List.FromFn.{get_or-map-range_with_len, length-map-range_with_len}
use Rattle.std.proofs.lemmas.List.FromFn.{map-range_with_len_more}
use Rattle.byteorder.specs.Endian.{little_number, IsRead}
use Rattle.byteorder.specs.Numbers.{little_from-take}
use Rattle.cfs_image.specs.Image.{word_at}
use Rattle.cfs_image.specs.Layout.{block_at, journal_at, size_at, slot_at}
use Rattle.cfs_image.proofs.Headers.{IsHeaded}
use Rattle.cfs_survey.specs.Surveys.{AreWhole, Words, selected_at}
use Rattle.cfs_fsck.specs.Images.{image_words, rows_at, tags_at, words_at}

-- a word that stands among some bytes of an image
word_within : (bytes : List ℕ) (at count k n : ℕ) → n ≡ 8 * count → k < count
    → little_number 8 (drop (8 * k) (take n (drop at bytes))) ≡ word_at bytes (at + 8 * k)
word_within bytes at count k n size below =
    let split : n ≡ 8 * k + (8 * count - 8 * k) = omega arith in
    ap (λ (m : ℕ). little_number 8 (drop (8 * k) (take m (drop at bytes)))) split
    ∙ ap (little_number 8) (drop-take (8 * k) (8 * count - 8 * k) (drop at bytes))
    ∙ little_from-take 0 8 (8 * count - 8 * k) (drop (8 * k) (drop at bytes)) (omega arith)
    ∙ ap (little_number 8) (drop-drop (8 * k) at bytes)

-- so many words that were read from an offset on
pub words_read : (bytes read : List ℕ) (at count n : ℕ) → n ≡ 8 * count → length read ≡ count
    → IsRead little_number 8 (take n (drop at bytes)) read → read ≡ words_at bytes at count
unfolding words_at
words_read bytes read at count n room size is_read =
    let word = λ (k : ℕ). word_at bytes (at + 8 * k) in
    ext_get_or 0 read (map word (range_with_len 0 count))
    (size ∙ sym (length-map-range_with_len word 0 count))
    (λ k below.
    is_read k below ∙ word_within bytes at count k n room (omega arith)
    ∙ sym (get_or-map-range_with_len word 0 count k k 0 (omega arith) (omega arith)))

-- rows and tags, one by one
pub rows_none : (bytes : List ℕ) (place : ℕ → ℕ) (size : ℕ) (rows : List (List ℕ)) → rows ≡ []
    → rows ≡ rows_at bytes place size 0
unfolding rows_at
rows_none bytes place size rows empty = empty

pub rows_pushed : (bytes : List ℕ) (place : ℕ → ℕ) (size k : ℕ) (old new : List (List ℕ)) (row : List ℕ)
    → new ≡ old ++ row ∷ [] → old ≡ rows_at bytes place size k → row ≡ words_at bytes (place k) size
    → new ≡ rows_at bytes place size (k + 1)
unfolding rows_at
rows_pushed bytes place size k old new row pushed before is =
    pushed
    ∙ ap (λ (rows : List (List ℕ)). rows ++ row ∷ []) before
    ∙ ap (λ (r : List ℕ). rows_at bytes place size k ++ r ∷ []) is
    ∙ sym (map-range_with_len_more (λ j. words_at bytes (place j) size) 0 k k (omega arith))

pub tags_none : (bytes : List ℕ) (queues : ℕ) (tags : List ℕ) → tags ≡ [] → tags ≡ tags_at bytes queues 0
unfolding tags_at
tags_none bytes queues tags empty = empty

pub tags_pushed : (bytes : List ℕ) (queues block : ℕ) (old new : List ℕ) (tag at : ℕ)
    → new ≡ old ++ tag ∷ [] → old ≡ tags_at bytes queues block → tag ≡ word_at bytes at
    → at ≡ block_at queues block → new ≡ tags_at bytes queues (block + 1)
unfolding tags_at
tags_pushed bytes queues block old new tag at pushed before is place =
    pushed
    ∙ ap (λ (tags : List ℕ). tags ++ tag ∷ []) before
    ∙ ap (λ (t : ℕ). tags_at bytes queues block ++ t ∷ []) (is ∙ ap (λ (offset : ℕ). word_at bytes offset) place)
    ∙ sym (map-range_with_len_more (λ b. word_at bytes (block_at queues b)) 0 block block (omega arith))

-- ---- all of them

pub put_together : (a b : ℕ) (t u : List ℕ) (j k : List (List ℕ)) (s r : List ℕ)
    (x y : List (List ℕ)) (g h : List ℕ) → a ≡ b → t ≡ u → j ≡ k → s ≡ r → x ≡ y → g ≡ h
    → ◌≡◌ {A = Words}
    (record { selector = a; table = t; journal = j; sizes = s; slots = x; tags = g })
    (record { selector = b; table = u; journal = k; sizes = r; slots = y; tags = h })
put_together a b t u j k s r x y g h selector table journal sizes slots tags = cc

length-words_at : (bytes : List ℕ) (at count : ℕ) → length (words_at bytes at count) ≡ count
unfolding words_at
length-words_at bytes at count = length-map-range_with_len (λ k. word_at bytes (at + 8 * k)) 0 count

length-rows_at : (bytes : List ℕ) (place : ℕ → ℕ) (size count : ℕ) →
    length (rows_at bytes place size count) ≡ count
unfolding rows_at
length-rows_at bytes place size count =
    length-map-range_with_len (λ k. words_at bytes (place k) size) 0 count

length-tags_at : (bytes : List ℕ) (queues blocks : ℕ) → length (tags_at bytes queues blocks) ≡ blocks
unfolding tags_at
length-tags_at bytes queues blocks =
    length-map-range_with_len (λ block. word_at bytes (block_at queues block)) 0 blocks

-- the words of an image with a sound header are as many as a store has
pub whole_of : (bytes : List ℕ) → IsHeaded bytes → AreWhole (image_words bytes)
unfolding image_words
whole_of bytes head = record {
  table = length-words_at bytes (selected_at (word_at bytes 32)) 3073;
  journal = length-rows_at bytes journal_at 16 64;
  sizes = length-words_at bytes (size_at 0) 256;
  slots = omega (arith, length-rows_at bytes slot_at 6 (16 * word_at bytes 24));
  tags = omega (arith, length-tags_at bytes (word_at bytes 24) (word_at bytes 16));
}
