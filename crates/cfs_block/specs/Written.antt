-- Which bytes of a block were written since the newest flush that succeeded, what a crash leaves of
-- them, and the bits that note them.
use Rattle.std.specs.Prelude.{ℕ, ◌+◌, ◌/◌, ◌%◌, ◌<◌, ◌≤◌, ◌≡◌, ◌==◌, ◌&&◌, ◌||◌, nat_lt, nat_le, Bool, true, false, List, [], ◌∷◌}
use Rattle.std.specs.Int.{bit_at}
use Rattle.std.proofs.Math.ListN.{get_or}
use Rattle.cfs_pmem.specs.declared.pick.Pick.{Pick}
use Rattle.cfs_pmem.specs.Draws.{word_left, after_word, byte_left, after_byte, each_left, after_each}
use Rattle.cfs_block.specs.BlockImages.{BlockStep, ranged, tagged, flushed, stalled, Content, content_now, content_kept}

abbrev pub is_written : List BlockStep → ℕ → Bool
is_written [] k = false
is_written (ranged from len content ∷ before) k =
    (nat_le from k && nat_lt k (from + len)) || is_written before k
is_written (tagged asked content ∷ before) k = is_written before k
is_written (flushed content ∷ before) k = false
is_written (stalled content ∷ before) k = is_written before k

-- bit k of words of 64 bits
abbrev pub is_set : List ℕ → ℕ → Bool
is_set words k = bit_at (get_or words (k / 64) 0) (k % 64) == 1

-- no bit is set but from a place up to another
abbrev pub IsSetWithin : ℕ → ℕ → List ℕ → Type 0
IsSetWithin from to words = (k : ℕ) → is_set words k ≡ true → (from ≤ k) × (k < to)

-- the content that a crash leaves, the tag first and then byte by byte, and the pick behind it
abbrev pub block_left : Pick → List BlockStep → Content
block_left pick history =
    let kept : Content = content_kept history in let now : Content = content_now history in record {
      tag = word_left pick kept.tag now.tag;
      bytes =
          each_left (λ k. byte_left (is_written history k)) (λ k. after_byte (is_written history k))
          (after_word pick kept.tag now.tag) 0 kept.bytes now.bytes;
    }

abbrev pub after_block : Pick → List BlockStep → Pick
after_block pick history =
    let kept : Content = content_kept history in let now : Content = content_now history in
    after_each (λ k. after_byte (is_written history k))
    (after_word pick kept.tag now.tag) 0 kept.bytes now.bytes
