-- What a slot keeps in each image where a word was set, or may have been.
use Rattle.std.proofs.Common.{ℕ, ◌<◌, ◌≤◌, ◌≡◌, ◌≢◌, ◌∙◌, List, [], ◌∷◌, length, drop, get_or, refl, sym, ap, subst, arith, ⊎_elim, get_or-set_same, get_or-set_other, Bool, Result, Ok, Err}
use Rattle.std.proofs.Math.ListN.{set}
use Rattle.std.proofs.lemmas.List.{drop-set-lt, set-set}
use Rattle.cfs_pmem.specs.Images.{Seen, WordStep, words_of, AllImages, IsSetFrom}
use Rattle.cfs_pmem.specs.declared.trace.Asked.{Asked}
use Rattle.cfs_pmem.specs.WordOps.{SetsWord}
use Rattle.cfs_pmem.proofs.ImageLemmas.{now_is_image}
use Rattle.cfs_slot.specs.Words.{gate_of, mark_of, IsClosed, IsWhole, IsWholeButOffset}

-- what holds of each image holds of each after it, where it stays as the word is set
pub set_keeps : (P : List ℕ → Type 0) (old new : Seen WordStep) (at word : ℕ) → AllImages new (IsSetFrom old at word) → AllImages old P
    → ((image : List ℕ) → P image → P (set image at word)) → AllImages new P
set_keeps P old new at word from all stays = λ image h.
    let s = from image h in
    ⊎_elim (λ e. subst P (sym e) (all s.first s.possible)) (λ e. subst P (sym e) (stays s.first (all s.first s.possible))) s.same

-- the same of another word, which is some value in each image
pub set_keeps_word : (k v : ℕ) (old new : Seen WordStep) (at word : ℕ) → k ≢ at → AllImages new (IsSetFrom old at word)
    → AllImages old (λ image. get_or image k 0 ≡ v) → AllImages new (λ image. get_or image k 0 ≡ v)
set_keeps_word k v old new at word ne from all =
    set_keeps (λ image. get_or image k 0 ≡ v) old new at word from all (λ image e. get_or-set_other image at k word 0 ne ∙ e)

-- and of all that does not look at that word: it is as in the words now
pub set_keeps_view : {X : Type 0} (view : List ℕ → X) (old new : Seen WordStep) (at word : ℕ) → ((image : List ℕ) → view (set image at word) ≡ view image)
    → AllImages new (IsSetFrom old at word) → AllImages old (λ image. view image ≡ view (words_of old)) → AllImages new (λ image. view image ≡ view (words_of new))
set_keeps_view view old new at word same from all =
    let was : AllImages new (λ image. view image ≡ view (words_of old)) =
    set_keeps (λ image. view image ≡ view (words_of old)) old new at word from all (λ image e. same image ∙ e) in
    λ image h. was image h ∙ sym (was (words_of new) (now_is_image new.history))

pub whole_set : (old new : Seen WordStep) (at word : ℕ) → at < 2 → AllImages new (IsSetFrom old at word) → IsWhole old → IsWhole new
whole_set old new at word l from whole = set_keeps_view (λ ws. drop 2 ws) old new at word (λ image. drop-set-lt 2 image at word l) from whole

pub whole_offset : (old new : Seen WordStep) (word : ℕ) → AllImages new (IsSetFrom old 3 word) → IsWholeButOffset old → IsWholeButOffset new
whole_offset old new word from whole = set_keeps_view (λ ws. set ws 3 0) old new 3 word (λ image. set-set image 3 word 0) from whole

placed_opened : (place : ℕ) (image : List ℕ) → gate_of (set image 0 place) ≢ 0 → gate_of (set image 0 place) ≡ place
placed_opened place [] ne = absurd (ne refl)
placed_opened place (x ∷ xs) ne = refl

placed_closed : (place : ℕ) (image : List ℕ) → gate_of (set image 0 0) ≢ 0 → gate_of (set image 0 0) ≡ place
placed_closed place [] ne = absurd (ne refl)
placed_closed place (x ∷ xs) ne = absurd (ne refl)

pub gated_opened : (old new : Seen WordStep) (place : ℕ) → AllImages new (IsSetFrom old 0 place) → AllImages old IsClosed
    → AllImages new (λ image. gate_of image ≢ 0 → gate_of image ≡ place)
gated_opened old new place from all =
    set_keeps (λ image. gate_of image ≢ 0 → gate_of image ≡ place) old new 0 place from
    (λ image h ne. absurd (ne (all image h)))
    (λ image p. placed_opened place image)

pub gated_closed : (old new : Seen WordStep) (place : ℕ) → AllImages new (IsSetFrom old 0 0) → AllImages old (λ image. gate_of image ≢ 0 → gate_of image ≡ place)
    → AllImages new (λ image. gate_of image ≢ 0 → gate_of image ≡ place)
gated_closed old new place from all =
    set_keeps (λ image. gate_of image ≢ 0 → gate_of image ≡ place) old new 0 0 from all
    (λ image p. placed_closed place image)

pub gated_marked : (old new : Seen WordStep) (place : ℕ) → AllImages new (IsSetFrom old 1 1) → AllImages old (λ image. gate_of image ≢ 0 → gate_of image ≡ place)
    → AllImages new (λ image. gate_of image ≢ 0 → gate_of image ≡ place)
gated_marked old new place from all =
    set_keeps (λ image. gate_of image ≢ 0 → gate_of image ≡ place) old new 1 1 from all
    (λ image p ne. let e : gate_of (set image 1 1) ≡ gate_of image = get_or-set_other image 1 0 1 0 (omega arith) in e ∙ p (λ z. ne (e ∙ z)))

mark_set : (image : List ℕ) → mark_of (set image 1 1) ≤ 1
mark_set [] = omega arith
mark_set (x ∷ []) = omega arith
mark_set (x ∷ y ∷ xs) = omega arith

pub marked_marked : (old new : Seen WordStep) → AllImages new (IsSetFrom old 1 1) → AllImages old (λ image. mark_of image ≤ 1) → AllImages new (λ image. mark_of image ≤ 1)
marked_marked old new from all = set_keeps (λ image. mark_of image ≤ 1) old new 1 1 from all (λ image p. mark_set image)

-- the gate is not the mark
pub marked_gate : (old new : Seen WordStep) (word : ℕ) → AllImages new (IsSetFrom old 0 word) → AllImages old (λ image. mark_of image ≤ 1) → AllImages new (λ image. mark_of image ≤ 1)
marked_gate old new word from all =
    set_keeps (λ image. mark_of image ≤ 1) old new 0 word from all
    (λ image p. subst (λ v. v ≤ 1) (sym (get_or-set_other image 0 1 word 0 (omega arith))) p)

-- a word other than the one that was set
pub word_kept : {T E : Type 0} {obeys : Bool} {at word : ℕ} {asked_old asked_new : List Asked} {old new : Seen WordStep} (k : ℕ) (result : Result T E) → k ≢ at
    → SetsWord obeys at word result asked_old old asked_new new → get_or (words_of new) k 0 ≡ get_or (words_of old) k 0
word_kept {T} {E} {obeys} {at} {word} {asked_old} {asked_new} {old} {new} k (Ok t) ne h =
    ap (λ (s : Seen WordStep). get_or (words_of s) k 0) h.ok ∙ get_or-set_other (words_of old) at k word 0 ne
word_kept {T} {E} {obeys} {at} {word} {asked_old} {asked_new} {old} {new} k (Err e) ne h =
    ⊎_elim (λ f. ap (λ (s : Seen WordStep). get_or (words_of s) k 0) f)
    (λ f. ap (λ (s : Seen WordStep). get_or (words_of s) k 0) f ∙ get_or-set_other (words_of old) at k word 0 ne) h.err

-- what a call answers that sets a word alone
pub set_answers_ok : {T E U F : Type 0} {obeys : Bool} {at word : ℕ} {t : T} {asked_old asked_new : List Asked} {old new there : Seen WordStep} (u : U) → there ≡ new
    → SetsWord {T = T} {E = E} obeys at word (Ok t) asked_old old asked_new new → SetsWord {T = U} {E = F} obeys at word (Ok u) asked_old old asked_new there
set_answers_ok {T} {E} {U} {F} {obeys} {at} {word} {t} {asked_old} {asked_new} {old} {new} {there} u e h =
    subst (λ s. SetsWord {T = U} {E = F} obeys at word (Ok u) asked_old old asked_new s) (sym e)
    record {
      ok = h.ok;
      sure = h.sure;
      err = tt;
      size = h.size;
      does = λ o. record { all = (h.does o).all; front = tt };
      moments = h.moments;
    }

pub set_answers_err : {T E U F : Type 0} {obeys : Bool} {at word : ℕ} {e : E} {asked_old asked_new : List Asked} {old new : Seen WordStep} (f : F)
    → SetsWord {T = T} {E = E} obeys at word (Err e) asked_old old asked_new new → SetsWord {T = U} {E = F} obeys at word (Err f) asked_old old asked_new new
set_answers_err f h = record {
  ok = tt;
  sure = tt;
  err = h.err;
  size = h.size;
  does = λ o. record { all = tt; front = (h.does o).front };
  moments = h.moments;
}

-- the gate was closed
pub closed_set : {T E : Type 0} {obeys : Bool} {t : T} {asked_old asked_new : List Asked} {old new : Seen WordStep} → 0 < length (words_of old)
    → SetsWord {T = T} {E = E} obeys 0 0 (Ok t) asked_old old asked_new new → AllImages new IsClosed
closed_set {T} {E} {obeys} {t} {asked_old} {asked_new} {old} {new} some h = λ image i.
    ap (λ ws. gate_of ws) (h.sure image i) ∙ ap (λ (s : Seen WordStep). gate_of (words_of s)) h.ok ∙ get_or-set_same (words_of old) 0 0 0 some
