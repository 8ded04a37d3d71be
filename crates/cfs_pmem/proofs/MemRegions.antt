-- A region in memory keeps its history that of its copies, through a write and through a crash.
use Rattle.std.proofs.Common.{ℕ, ◌^◌, ◌+◌, ◌<◌, ◌≤◌, ◌≡◌, ◌∙◌, List, [], ◌∷◌, length, get_or, refl, sym, subst, arith, ⊎_elim}
use Rattle.std.proofs.Math.ListN.{set}
use Rattle.std.proofs.lemmas.List.{length-set, take-set-le, drop-set-lt}
use Rattle.cfs_pmem.specs.declared.run.Run.{Run}
use Rattle.cfs_pmem.specs.declared.pick.Pick.{Pick}
use Rattle.cfs_pmem.specs.Images.{WordStep, changed, persisted, words_now, words_kept, HasHeld, IsImage}
use Rattle.cfs_pmem.specs.Range.{with_range, range_of, DifferWithin}
use Rattle.cfs_pmem.specs.Backed.{IsBacked}
use Rattle.cfs_pmem.specs.Draws.{word_left, after_word, words_left}
use Rattle.cfs_pmem.proofs.Crashes.{length-each_left, each_left_at, left_word}
use Rattle.cfs_pmem.proofs.Ranges.{with_write}
use Rattle.cfs_pmem.proofs.ImageLemmas.{held_now, held_kept}

pub backed_write : (history : List WordStep) (dirty more : Run) (durable present : List ℕ) (at word : ℕ) → IsBacked history dirty durable present → at < length present
    → range_of more ≡ with_range at (at + 1) (range_of dirty) → more.from ≤ more.to
    → IsBacked (changed (set present at word) ∷ history) more durable (set present at word)
backed_write history dirty more durable present at word h l e o = record {
  present_is = refl;
  durable_is = h.durable_is;
  ordered = o;
  differ = subst (λ range. DifferWithin range durable (set present at word)) (sym e)
      (with_write (range_of dirty) durable present (set present at word) at (at + 1) h.differ (length-set present at word)
      (take-set-le at present at word (omega arith)) (drop-set-lt (at + 1) present at word (omega arith)) (omega arith) (omega arith));
  small = subst (λ n. n < 4294967296) (sym (length-set present at word)) h.small;
}

-- both copies are one, with no place between them
pub backed_anew : (durable present : List ℕ) (dirty : Run) → durable ≡ present → range_of dirty ≡ record { from = length present; to = 0 } → dirty.from ≤ dirty.to → length present < 2 ^ 32
    → IsBacked (persisted present ∷ []) dirty durable present
backed_anew durable present dirty e d o small =
    subst (λ ws. IsBacked (persisted present ∷ []) dirty ws present) (sym e)
    record {
      present_is = refl;
      durable_is = refl;
      ordered = o;
      differ = subst (λ range. DifferWithin range present present) (sym d) record { size = refl; from_in = omega arith; to_in = omega arith; below = refl; above = refl };
      small = small;
    }

-- what a crash leaves is an image
pub left_is_image : (history : List WordStep) (pick : Pick) → length (words_kept history) ≡ length (words_now history)
    → IsImage history (words_left pick (words_kept history) (words_now history))
left_is_image history pick e =
    let size : length (words_left pick (words_kept history) (words_now history)) ≡ length (words_now history) =
    length-each_left (λ k. word_left) (λ k. after_word) pick 0 (words_kept history) (words_now history) e in
    record {
      size = size;
      held = λ k l.
          let now : k < length (words_now history) = omega arith in
          let was : k < length (words_kept history) = omega arith in
          let there = each_left_at (λ k. word_left) (λ k. after_word) pick 0 (words_kept history) (words_now history) k e now in
          ⊎_elim
          (λ same. subst (λ v. HasHeld history k v) (sym (there.1 ∙ same)) (held_kept history k was))
          (λ same. subst (λ v. HasHeld history k v) (sym (there.1 ∙ same)) (held_now history k now))
          (left_word there.0 (get_or (words_kept history) k 0) (get_or (words_now history) k 0));
    }
