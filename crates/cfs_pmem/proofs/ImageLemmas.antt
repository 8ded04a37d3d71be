-- Images of a region after each kind of writing step.
use Rattle.std.proofs.Common.{ℕ, ◌<◌, ◌≡◌, ◌≢◌, ◌∙◌, List, [], ◌∷◌, length, get_or, inl, inr, refl, sym, ap, subst, arith, ⊎_elim, get_or-set_same, get_or-set_other, ext_get_or}
use Rattle.std.proofs.Math.ListN.{set}
use Rattle.std.proofs.lemmas.List.{length-set, set-get_or, set-set}
use Rattle.std.proofs.lemmas.Bool.{cases_eq}
use Rattle.cfs_pmem.specs.Images.{WordStep, changed, persisted, Seen, words_now, words_kept, words_of, began, wrote, failed, kept, HasHeld, IsImage, AllImages, IsSure, IsSetFrom}

-- what a word holds now is a value that it held
pub held_now : (history : List WordStep) (k : ℕ) → k < length (words_now history) → HasHeld history k (get_or (words_now history) k 0)
held_now [] k l = absurd (omega arith)
held_now (persisted words ∷ before) k l = refl
held_now (changed words ∷ before) k l = inl refl

-- the words now are always an image
pub now_is_image : (history : List WordStep) → IsImage history (words_now history)
now_is_image history = record { size = refl; held = λ k l. held_now history k l }

-- and what it held at the newest persist
pub held_kept : (history : List WordStep) (k : ℕ) → k < length (words_kept history) → HasHeld history k (get_or (words_kept history) k 0)
held_kept [] k l = absurd (omega arith)
held_kept (persisted words ∷ before) k l = refl
held_kept (changed words ∷ before) k l = inr (held_kept before k l)

-- after a persist the words now are the only image
pub only_kept : (words : List ℕ) (before : List WordStep) (image : List ℕ) → IsImage (persisted words ∷ before) image → image ≡ words
only_kept words before image h = ext_get_or 0 image words h.size h.held

-- a failed step adds no image
pub image_failed : (history : List WordStep) (image : List ℕ) → IsImage (changed (words_now history) ∷ history) image → IsImage history image
image_failed history image h = record {
  size = h.size;
  held = λ k l. ⊎_elim (λ e. subst (λ v. HasHeld history k v) (sym e) (held_now history k (subst (λ n. k < n) h.size l))) (λ e. e) (h.held k l);
}

-- before a write the word had its old value
word_before : (history : List WordStep) (at word : ℕ) → at < length (words_now history) → (image : List ℕ)
    → IsImage (changed (set (words_now history) at word) ∷ history) image → (k : ℕ) → k < length image → k ≢ at → HasHeld history k (get_or image k 0)
word_before history at word l image h k lk ne =
    ⊎_elim
    (λ e. let size : k < length (words_now history) = subst (λ n. k < n) (h.size ∙ length-set (words_now history) at word) lk in
    subst (λ v. HasHeld history k v) (sym (e ∙ get_or-set_other (words_now history) at k word 0 ne)) (held_now history k size))
    (λ e. e)
    (h.held k lk)

-- an image after a write is one from before, or that with the word set
pub image_wrote : (history : List WordStep) (device : ℕ) (also : List ℕ) (at word : ℕ) → at < length (words_now history) → (image : List ℕ)
    → IsImage (changed (set (words_now history) at word) ∷ history) image → IsSetFrom record { device = device; also = also; history = history } at word image
image_wrote history device also at word l image h =
    let size : length image ≡ length (words_now history) = h.size ∙ length-set (words_now history) at word in
    let la : at < length image = subst (λ n. at < n) (sym size) l in
    let old : ℕ = get_or (words_now history) at 0 in
    ⊎_elim
    (λ e.
    let is : get_or image at 0 ≡ word = e ∙ get_or-set_same (words_now history) at word 0 l in
    record {
      first = set image at old;
      possible = record {
        size = length-set image at old ∙ size;
        held = λ k lk. elim (cases_eq k at) [
          | inl same ↦ subst (λ j. HasHeld history j (get_or (set image at old) j 0)) (sym same) (subst (λ v. HasHeld history at v) (sym (get_or-set_same image at old 0 la)) (held_now history at l))
          | inr ne ↦ subst (λ v. HasHeld history k v) (sym (get_or-set_other image at k old 0 ne)) (word_before history at word l image h k (subst (λ n. k < n) (length-set image at old) lk) ne)
        ];
      };
      same = inr (sym (set-set image at old word ∙ ap (λ v. set image at v) (sym is) ∙ set-get_or image at 0));
    })
    (λ was.
    record {
      first = image;
      possible = record {
        size = size;
        held = λ k lk. elim (cases_eq k at) [
          | inl same ↦ subst (λ j. HasHeld history j (get_or image j 0)) (sym same) was
          | inr ne ↦ word_before history at word l image h k lk ne
        ];
      };
      same = inl refl;
    })
    (h.held at la)

-- What holds of each image, after each kind of step.

pub all_failed : (P : List ℕ → Type 0) (old : Seen WordStep) {new : Seen WordStep} → new ≡ failed old → AllImages old P → AllImages new P
all_failed P old {new} e all = subst (λ s. AllImages s P) (sym e) (λ image h. all image (image_failed old.history image h))

pub all_kept : (P : List ℕ → Type 0) (old : Seen WordStep) {new : Seen WordStep} → new ≡ kept old → P (words_of old) → AllImages new P
all_kept P old {new} e now =
    subst (λ s. AllImages s P) (sym e) (λ image h. subst (λ words. P words) (sym (only_kept (words_of old) old.history image h)) now)

pub all_wrote : (P : List ℕ → Type 0) (old : Seen WordStep) {new : Seen WordStep} (at word : ℕ) → at < length (words_of old) → new ≡ wrote at word old → AllImages old P
    → ((image : List ℕ) → P image → P (set image at word)) → AllImages new P
all_wrote P old {new} at word l e all stays =
    subst (λ s. AllImages s P) (sym e)
    (λ image h. let from = image_wrote old.history old.device old.also at word l image h in
    ⊎_elim
    (λ same. subst (λ words. P words) (sym same) (all from.first from.possible))
    (λ same. subst (λ words. P words) (sym same) (stays from.first (all from.first from.possible)))
    from.same)

-- an image after a write is one from before, or that with the word set
pub set_from_wrote : (old : Seen WordStep) {new : Seen WordStep} (at word : ℕ) → at < length (words_of old) → new ≡ wrote at word old → AllImages new (IsSetFrom old at word)
set_from_wrote old {new} at word l e = subst (λ s. AllImages s (IsSetFrom old at word)) (sym e) (λ image h. image_wrote old.history old.device old.also at word l image h)

-- an image of the region is one from before
pub set_from_same : (old : Seen WordStep) (at word : ℕ) → AllImages old (IsSetFrom old at word)
set_from_same old at word = λ image h. record { first = image; possible = h; same = inl refl }

-- behind a persist nothing is unsure
pub sure_kept : (old : Seen WordStep) {new : Seen WordStep} → new ≡ kept old → IsSure new
sure_kept old {new} e = subst (λ s. IsSure s) (sym e) (λ image h. only_kept (words_of old) old.history image h)

pub sure_began : (device : ℕ) (words : List ℕ) → IsSure (began device words)
sure_began device words = λ image h. only_kept words [] image h
