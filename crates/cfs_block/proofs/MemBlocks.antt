-- A block in memory keeps its history that of its copies and its bits, through each kind of step and through a crash.
use Rattle.std.proofs.Common.{Bool, true, false, ℕ, ◌+◌, ◌%◌, ◌<◌, ◌≤◌, ◌≡◌, ◌∙◌, ◌&&◌, ◌||◌, List, [], ◌∷◌, length, get_or, take, drop, min, max, inl, inr, refl, sym, ap, subst, arith, ⊎_elim}
use Rattle.std.specs.Prelude.{nat_le, nat_lt}
use Rattle.std.proofs.lemmas.List.{length-take-le, length-drop}
use Rattle.std.proofs.lemmas.Bool.{or_cases, and_parts, leb-true, ltb-true}
use Rattle.cfs_pmem.specs.declared.dirty.Dirty.{Dirty}
use Rattle.cfs_pmem.specs.declared.pick.Pick.{Pick}
use Rattle.cfs_pmem.specs.declared.pick.Pick.TheVariants.{Durable, Present, Drawn}
use Rattle.cfs_pmem.specs.Draws.{draw_of, word_left, after_word, byte_left, after_byte, each_left, after_each}
use Rattle.cfs_pmem.proofs.Crashes.{left_word, length-each_left, each_left_at, same_each_left}
use Rattle.cfs_pmem.specs.Range.{with_range}
use Rattle.cfs_pmem.proofs.Ranges.{with_write, nothing_differs}
use Rattle.cfs_pmem.specs.Images.{patched}
use Rattle.cfs_pmem.proofs.Patches.{length-patched, take-patched, drop-patched, patched_same}
use Rattle.cfs_block.specs.BlockImages.{Content, BlockStep, ranged, tagged, flushed, stalled, content_now, content_kept, with_bytes, with_tag, IsTorn, WriteFails, MayHaveByte, MayHaveTag, IsBlockImage}
use Rattle.cfs_block.specs.Written.{is_written, is_set, IsSetWithin, block_left, after_block}
use Rattle.cfs_block.specs.Backed.{IsBacked}
use Rattle.cfs_block.proofs.BlockLemmas.{byte_now, byte_kept, tag_now, tag_kept}

pub backed_began : (dirty : Dirty) (content : Content) (written : List ℕ) → dirty.from ≤ length content.bytes → dirty.to ≤ length content.bytes → length content.bytes ≡ 4096
    → length written ≡ 64 → ((k : ℕ) → is_set written k ≡ false) → IsBacked (flushed content ∷ []) dirty content content written
backed_began dirty content written from to full words none = record {
  now_is = refl;
  kept_is = refl;
  differ = nothing_differs dirty content.bytes from to;
  full = full;
  words = words;
  within = λ k s. let unset = none k in absurd (cc);
  bits = λ k l. none k;
}

-- bits that were set in a range are within that range and the one before
set_within : (low high from to : ℕ) (was now : List ℕ) → IsSetWithin low high was → ((k : ℕ) → is_set now k ≡ ((nat_le from k && nat_lt k to) || is_set was k))
    → IsSetWithin (min low from) (max high to) now
set_within low high from to was now within bits = λ k s.
    elim (or_cases (nat_le from k && nat_lt k to) (is_set was k) (sym (bits k) ∙ s)) [
      | inl here ↦
          let parts = and_parts (nat_le from k) (nat_lt k to) here in
          (omega (arith, leb-true from k parts.0), omega (arith, ltb-true k to parts.1))
      | inr earlier ↦ let old = within k earlier in (omega (arith, old.0), omega (arith, old.1))
    ]

-- after a write, and after one that failed and left the bytes
pub backed_ranged : (history : List BlockStep) (dirty : Dirty) (kept now : Content) (written written' : List ℕ) (from : ℕ) (new : List ℕ) → IsBacked history dirty kept now written
    → from + length new ≤ 4096 → length written' ≡ length written
    → ((k : ℕ) → is_set written' k ≡ ((nat_le from k && nat_lt k (from + length new)) || is_set written k))
    → IsBacked (ranged from (length new) (with_bytes from new now) ∷ history) (with_range from (from + length new) dirty) kept (with_bytes from new now) written'
backed_ranged history dirty kept now written written' from new h fits size bits =
    let within : from + length new ≤ length now.bytes = omega (arith, h.full) in
    record {
      now_is = refl;
      kept_is = h.kept_is;
      differ = with_write dirty kept.bytes now.bytes (patched now.bytes from new) from (from + length new) h.differ (length-patched now.bytes from new within)
          (take-patched now.bytes from new within) (drop-patched now.bytes from new within) (omega arith) within;
      full = length-patched now.bytes from new within ∙ h.full;
      words = size ∙ h.words;
      within = set_within dirty.from dirty.to from (from + length new) written written' h.within bits;
      bits = λ k l. bits k ∙ ap (λ b. (nat_le from k && nat_lt k (from + length new)) || b) (h.bits k l);
    }

pub backed_torn : (history : List BlockStep) (dirty : Dirty) (kept now : Content) (written written' : List ℕ) (from len : ℕ) → IsBacked history dirty kept now written
    → from + len ≤ 4096 → length written' ≡ length written → ((k : ℕ) → is_set written' k ≡ ((nat_le from k && nat_lt k (from + len)) || is_set written k))
    → IsBacked (ranged from len now ∷ history) (with_range from (from + len) dirty) kept now written'
backed_torn history dirty kept now written written' from len h fits size bits = record {
  now_is = refl;
  kept_is = h.kept_is;
  differ = with_write dirty kept.bytes now.bytes now.bytes from (from + len) h.differ refl refl refl (omega (arith, h.full)) (omega (arith, h.full));
  full = h.full;
  words = size ∙ h.words;
  within = set_within dirty.from dirty.to from (from + len) written written' h.within bits;
  bits = λ k l. bits k ∙ ap (λ b. (nat_le from k && nat_lt k (from + len)) || b) (h.bits k l);
}

pub backed_tagged : (history : List BlockStep) (dirty : Dirty) (kept now : Content) (written : List ℕ) (asked tag : ℕ) → IsBacked history dirty kept now written
    → IsBacked (tagged asked (with_tag tag now) ∷ history) dirty kept (with_tag tag now) written
backed_tagged history dirty kept now written asked tag h = record {
  now_is = refl;
  kept_is = h.kept_is;
  differ = h.differ;
  full = h.full;
  words = h.words;
  within = h.within;
  bits = h.bits;
}

pub backed_stalled : (history : List BlockStep) (dirty : Dirty) (kept now : Content) (written : List ℕ) → IsBacked history dirty kept now written
    → IsBacked (stalled now ∷ history) dirty kept now written
backed_stalled history dirty kept now written h = record {
  now_is = refl;
  kept_is = h.kept_is;
  differ = h.differ;
  full = h.full;
  words = h.words;
  within = h.within;
  bits = h.bits;
}

pub backed_flushed : (history : List BlockStep) (dirty : Dirty) (now : Content) (written : List ℕ) → dirty.from ≤ length now.bytes → dirty.to ≤ length now.bytes → length now.bytes ≡ 4096
    → length written ≡ 64 → ((k : ℕ) → is_set written k ≡ false) → IsBacked (flushed now ∷ history) dirty now now written
backed_flushed history dirty now written from to full words none = record {
  now_is = refl;
  kept_is = refl;
  differ = nothing_differs dirty now.bytes from to;
  full = full;
  words = words;
  within = λ k s. let unset = none k in absurd (cc);
  bits = λ k l. none k;
}

-- a write that failed left the bytes of its range, and all else
pub torn_leaves : (history : List BlockStep) (dirty : Dirty) (kept now : Content) (written : List ℕ) (device from len : ℕ) → IsBacked history dirty kept now written → from + len ≤ 4096
    → IsTorn from len record { device = device; also = []; history = history } record { device = device; also = []; history = ranged from len now ∷ history }
torn_leaves history dirty kept now written device from len h fits =
    let left : List ℕ = take len (drop from now.bytes) in
    record {
      left = left;
      size = length-take-le len (drop from now.bytes) (omega (arith, length-drop from now.bytes, h.full));
      is = ap (λ bs. record { device = device; also = []; history = ranged from len record { tag = now.tag; bytes = bs } ∷ history }) (sym (patched_same now.bytes from len (omega (arith, h.full))))
          ∙ ap (λ c. record { device = device; also = []; history = ranged from len (with_bytes from left c) ∷ history }) (sym h.now_is);
    }

-- a write that failed leaves all that is read
pub write_fails : (keeps : Bool) (history : List BlockStep) (dirty : Dirty) (kept now : Content) (written : List ℕ) (device from len : ℕ) → IsBacked history dirty kept now written → from + len ≤ 4096
    → WriteFails keeps from len record { device = device; also = []; history = history } record { device = device; also = []; history = ranged from len now ∷ history }
write_fails keeps history dirty kept now written device from len h fits = record {
  torn = torn_leaves history dirty kept now written device from len h fits;
  kept = λ k. ap (λ c. record { device = device; also = []; history = ranged from len c ∷ history }) (sym h.now_is);
}

-- What a crash leaves of a block.

-- by its bits and copies it is what its history says
pub left_is : (history : List BlockStep) (dirty : Dirty) (kept now : Content) (written : List ℕ) (pick : Pick) → IsBacked history dirty kept now written
    → (record {
      tag = word_left pick kept.tag now.tag;
      bytes = each_left (λ k. byte_left (is_set written k)) (λ k. after_byte (is_set written k)) (after_word pick kept.tag now.tag) 0 kept.bytes now.bytes;
    } ≡ block_left pick history)
    × (after_each (λ k. after_byte (is_set written k)) (after_word pick kept.tag now.tag) 0 kept.bytes now.bytes ≡ after_block pick history)
left_is history dirty kept now written pick h =
    let by_history = same_each_left (λ k. byte_left (is_set written k)) (λ k. byte_left (is_written history k)) (λ k. after_byte (is_set written k)) (λ k. after_byte (is_written history k))
    (after_word pick kept.tag now.tag) 0 kept.bytes now.bytes
    (λ i p x y a b. ap (λ w. byte_left w p x y) (h.bits i (omega (arith, h.full))))
    (λ i p x y a b. ap (λ w. after_byte w p x y) (h.bits i (omega (arith, h.full)))) in
    let content : Content → Content → Content = λ c d. record {
      tag = word_left pick c.tag d.tag;
      bytes = each_left (λ k. byte_left (is_written history k)) (λ k. after_byte (is_written history k)) (after_word pick c.tag d.tag) 0 c.bytes d.bytes;
    } in
    let behind : Content → Content → Pick = λ c d. after_each (λ k. after_byte (is_written history k)) (after_word pick c.tag d.tag) 0 c.bytes d.bytes in (
      ap (λ bs. record { tag = word_left pick kept.tag now.tag; bytes = bs }) by_history.0
          ∙ ap (λ c. content c now) (sym h.kept_is) ∙ ap (λ d. content (content_kept history) d) (sym h.now_is),
      by_history.1 ∙ ap (λ c. behind c now) (sym h.kept_is) ∙ ap (λ d. behind (content_kept history) d) (sym h.now_is),
    )

-- a byte that was written may be anything
anything : (history : List BlockStep) (k v : ℕ) → is_written history k ≡ true → v < 256 → MayHaveByte history k v
anything [] k v w small = absurd (cc)
anything (ranged from len content ∷ before) k v w small =
    elim (or_cases (nat_le from k && nat_lt k (from + len)) (is_written before k) w) as (λ _. MayHaveByte (ranged from len content ∷ before) k v) [
      | inl here ↦
          let parts = and_parts (nat_le from k) (nat_lt k (from + len)) here in
          inr (inl (leb-true from k parts.0, ltb-true k (from + len) parts.1, small))
      | inr earlier ↦ inr (inr (anything before k v earlier small))
    ]
anything (tagged asked content ∷ before) k v w small = inr (anything before k v w small)
anything (flushed content ∷ before) k v w small = absurd (cc)
anything (stalled content ∷ before) k v w small = inr (anything before k v w small)

byte_possible : (history : List BlockStep) (k : ℕ) (written : Bool) (pick : Pick) (durable present : ℕ) → is_written history k ≡ written
    → MayHaveByte history k durable → MayHaveByte history k present → MayHaveByte history k (byte_left written pick durable present)
byte_possible history k written Durable durable present w d p = d
byte_possible history k written Present durable present w d p = p
byte_possible history k true (Drawn state) durable present w d p = anything history k (draw_of state % 256) w (omega arith)
byte_possible history k false (Drawn state) durable present w d p = p

pub left_is_image : (history : List BlockStep) (dirty : Dirty) (kept now : Content) (written : List ℕ) (pick : Pick) → IsBacked history dirty kept now written
    → IsBlockImage history (block_left pick history)
left_is_image history dirty kept now written pick h =
    let k_size : length (content_kept history).bytes ≡ 4096 = ap (λ (c : Content). length c.bytes) h.kept_is ∙ h.differ.size ∙ h.full in
    let n_size : length (content_now history).bytes ≡ 4096 = ap (λ (c : Content). length c.bytes) h.now_is ∙ h.full in
    let same : length (content_kept history).bytes ≡ length (content_now history).bytes = k_size ∙ sym n_size in
    let after : Pick = after_word pick (content_kept history).tag (content_now history).tag in
    let left : ℕ → Pick → ℕ → ℕ → ℕ = λ k. byte_left (is_written history k) in
    let next : ℕ → Pick → ℕ → ℕ → Pick = λ k. after_byte (is_written history k) in
    record {
      size = length-each_left left next after 0 (content_kept history).bytes (content_now history).bytes same;
      bytes = λ k l.
          let within : k < length (content_now history).bytes =
          omega (arith, length-each_left left next after 0 (content_kept history).bytes (content_now history).bytes same) in
          let there = each_left_at left next after 0 (content_kept history).bytes (content_now history).bytes k same within in
          let at : 0 + k ≡ k = omega arith in
          subst (λ v. MayHaveByte history k v) (sym there.1)
          (subst (λ n. MayHaveByte history k (byte_left (is_written history n) there.0 (get_or (content_kept history).bytes k 0) (get_or (content_now history).bytes k 0))) (sym at)
          (byte_possible history k (is_written history k) there.0 (get_or (content_kept history).bytes k 0) (get_or (content_now history).bytes k 0) refl
          (byte_kept history k (omega arith)) (byte_now history k within)));
      tag = ⊎_elim
          (λ e. subst (λ t. MayHaveTag history t) (sym e) (tag_kept history (omega arith)))
          (λ e. subst (λ t. MayHaveTag history t) (sym e) (tag_now history (omega arith)))
          (left_word pick (content_kept history).tag (content_now history).tag);
    }
