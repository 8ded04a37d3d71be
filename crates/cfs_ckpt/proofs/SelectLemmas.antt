-- The selector and the copies after one of them is another.
use Rattle.std.proofs.Common.{ℕ, suc, ◌-◌, ◌%◌, ◌<◌, ◌≡◌, ◌≢◌, ◌⊎◌, ◌∙◌, Bool, false, IsTrue, Result, List, [], ◌∷◌, length, map, get_or, inl, inr, sym, ap, subst, arith}
use Rattle.std.proofs.Math.ListN.{set}
use Rattle.std.proofs.lemmas.Bool.{cases_eq}
use Rattle.std.proofs.lemmas.List.{get_or-set_other, length-set, map-set, set-get_or}
use Rattle.cfs_dir.specs.Words.{table_in}
use Rattle.cfs_pmem.specs.declared.trace.Asked.{Asked}
use Rattle.cfs_pmem.specs.AllMoments.{AreDistinct}
use Rattle.cfs_pmem.specs.Images.{Seen, WordStep, devices_of, words_of, AllImages, IsImage, IsSetFrom, IsSure}
use Rattle.cfs_pmem.specs.Objects.{MomentsOf, all_devices, seen_at}
use Rattle.cfs_pmem.specs.WordOps.{SetsWord}
use Rattle.cfs_pmem.proofs.AllMomentLemmas.{all_weaker}
use Rattle.cfs_pmem.proofs.ImageLemmas.{now_is_image}
use Rattle.cfs_pmem.proofs.MomentLemmas.{at_end}
use Rattle.cfs_pmem.proofs.ObjectLemmas.{one_of}
use Rattle.cfs_ckpt.specs.Loads.{CanLoad, LoadsOnly, loaded, word_in}
use Rattle.cfs_ckpt.specs.Placed.{DoesPlaced}
use Rattle.cfs_ckpt.specs.Selects.{AreFresh, Selects}
use Rattle.cfs_ckpt.specs.Stores.{free_copy, select_ops, word_for}
use Rattle.cfs_ckpt.proofs.LoadLemmas.{copies_are, loads_selected, loads_selecting, word_is, word_set}
use Rattle.cfs_ckpt.proofs.PlacedLemmas.{here, placed}

other_at : (seens : List (Seen WordStep)) (at p : ℕ) (new : Seen WordStep) → p ≢ at → seen_at (set seens at new) p ≡ seen_at seens p
other_at seens at p new other = get_or-set_other seens at p new record { device = 0; also = []; history = [] } other

-- the device numbers stay
devices_stay : (seens : List (Seen WordStep)) (at : ℕ) (new : Seen WordStep) → devices_of new ≡ devices_of (seen_at seens at) → all_devices (set seens at new) ≡ all_devices seens
devices_stay seens at new same =
    map-set devices_of seens at new ∙ (ap (λ (ds : List ℕ). set (map devices_of seens) at ds) same
    ∙ (sym (map-set devices_of seens at (seen_at seens at)) ∙ ap (λ (ss : List (Seen WordStep)). map devices_of ss) (set-get_or seens at record { device = 0; also = []; history = [] })))

-- a copy, as it is seen where the selector is another
copy_stays : (seens : List (Seen WordStep)) (copy : ℕ) (new : Seen WordStep) → seen_at (set seens 0 new) (suc copy) ≡ seen_at seens (suc copy)
copy_stays seens copy new = other_at seens 0 (suc copy) new (λ same. omega (arith, same))

-- the selector with a word, and images that select copies which are sure
selector_is : {word : ℕ} {unsure : Bool} {seens : List (Seen WordStep)} (later : ℕ) (doubt : Bool) (new : Seen WordStep) → Selects word unsure seens
    → words_of new ≡ later ∷ [] → devices_of new ≡ devices_of (seen_at seens 0) → (doubt ≡ false → IsSure new)
    → AllImages new (λ image. IsSure (seen_at seens (suc (word_in image % 2)))) → Selects later doubt (set seens 0 new)
selector_is {seens = seens} later doubt new s words devices settled chosen =
    let first : seen_at (set seens 0 new) 0 ≡ new = here seens 0 new (omega (arith, s.size)) in
    record {
      size = length-set seens 0 new ∙ s.size;
      distinct = subst AreDistinct (sym (devices_stay seens 0 new devices)) s.distinct;
      selector = ap (λ (x : Seen WordStep). words_of x) first ∙ words;
      tables = λ copy l. ap (λ (x : Seen WordStep). length (words_of x)) (copy_stays seens copy new) ∙ s.tables copy l;
      settled = λ sure. subst IsSure (sym first) (settled sure);
      chosen = λ image possible. subst IsSure (sym (copy_stays seens (word_in image % 2) new)) (chosen image (subst (λ x. IsImage x.history image) first possible));
    }

-- the selector with the same word and no image more
pub selector_stays : {word : ℕ} {unsure : Bool} {seens : List (Seen WordStep)} (doubt : Bool) (new : Seen WordStep) → Selects word unsure seens
    → words_of new ≡ words_of (seen_at seens 0) → devices_of new ≡ devices_of (seen_at seens 0) → (doubt ≡ false → IsSure new)
    → AllImages new (IsImage (seen_at seens 0).history) → Selects word doubt (set seens 0 new)
selector_stays {word} doubt new s words devices settled images =
    selector_is word doubt new s (words ∙ s.selector) devices settled (λ image possible. s.chosen image (images image possible))

-- the selector with the word that selects the other copy
pub selector_set : {word : ℕ} {seens : List (Seen WordStep)} (through : ℕ) (doubt : Bool) (new : Seen WordStep) → Selects word false seens
    → IsSure (seen_at seens (suc (free_copy word)))
    → words_of new ≡ word_for through (free_copy word) ∷ [] → devices_of new ≡ devices_of (seen_at seens 0) → (doubt ≡ false → IsSure new)
    → AllImages new (IsSetFrom (seen_at seens 0) 0 (word_for through (free_copy word))) → Selects (word_for through (free_copy word)) doubt (set seens 0 new)
selector_set {word} {seens} through doubt new s sure words devices settled images =
    selector_is (word_for through (free_copy word)) doubt new s words devices settled
    (λ image possible. elim (word_set (word_for through (free_copy word)) s image (images image possible)) [
      | inl was ↦ s.chosen image was
      | inr is ↦ subst (λ copy. IsSure (seen_at seens (suc copy))) (sym (ap (λ (n : ℕ). n % 2) is ∙ (copies_are through word).0)) sure
    ])

-- another copy where the selected one is not
pub copy_put : {word : ℕ} {seens : List (Seen WordStep)} (new : Seen WordStep) → Selects word false seens
    → length (words_of new) ≡ 3073 → devices_of new ≡ devices_of (seen_at seens (suc (free_copy word))) → Selects word false (set seens (suc (free_copy word)) new)
copy_put {word} {seens} new s size devices =
    let at : ℕ = suc (free_copy word) in
    let within : at < length seens = omega (arith, s.size) in
    let first : seen_at (set seens at new) 0 ≡ seen_at seens 0 = other_at seens at 0 new (λ same. omega (arith, same)) in
    record {
      size = length-set seens at new ∙ s.size;
      distinct = subst AreDistinct (sym (devices_stay seens at new devices)) s.distinct;
      selector = ap (λ (x : Seen WordStep). words_of x) first ∙ s.selector;
      tables = λ copy l. elim (cases_eq (suc copy) at) [
        | inl same ↦ subst (λ p. length (words_of (seen_at (set seens at new) p)) ≡ 3073) (sym same)
            (ap (λ (x : Seen WordStep). length (words_of x)) (here seens at new within) ∙ size)
        | inr other ↦ ap (λ (x : Seen WordStep). length (words_of x)) (other_at seens at (suc copy) new other) ∙ s.tables copy l
      ];
      settled = λ sure. subst IsSure (sym first) (s.settled sure);
      chosen = λ image possible.
          let was : IsImage (seen_at seens 0).history image = subst (λ x. IsImage x.history image) first possible in
          let is : word_in image ≡ word = word_is s image was in
          subst IsSure (sym (other_at seens at (suc (word_in image % 2)) new (λ same. omega (arith, same, ap (λ (n : ℕ). n % 2) is)))) (s.chosen image was);
    }

-- ---- a new store

pub fresh_selects : {seens : List (Seen WordStep)} → AreFresh seens → Selects 0 false seens
fresh_selects {seens} f =
    let zero_word : words_of (seen_at seens 0) ≡ 0 ∷ [] = f.selector (words_of (seen_at seens 0)) (now_is_image (seen_at seens 0).history) in
    record {
      size = f.size;
      distinct = f.distinct;
      selector = zero_word;
      tables = f.tables;
      settled = λ sure image possible. f.selector image possible ∙ sym zero_word;
      chosen = λ image possible. subst (λ word. IsSure (seen_at seens (suc (word % 2)))) (sym (ap (λ (ws : List ℕ). get_or ws 0 0) (f.selector image possible))) f.first;
    }

-- ---- the selector is set, word and persist

pub select_does : {T E : Type 0} {obeys : Bool} {at : ℕ} {asked_old asked_new : List Asked} (seens : List (Seen WordStep)) (new : Seen WordStep) (result : Result T E) → length seens ≡ 3
    → SetsWord obeys 0 at result asked_old (seen_at seens 0) asked_new new → IsTrue obeys → DoesPlaced (select_ops at) result asked_old seens asked_new (set seens 0 new)
select_does seens new result size h o = placed seens 0 new result (omega arith) (h.does o)

pub select_moments : {T E : Type 0} {obeys : Bool} {word : ℕ} {asked_old asked_new : List Asked} {result : Result T E} (seens : List (Seen WordStep)) (through : ℕ) (new : Seen WordStep)
    → Selects word false seens → IsSure (seen_at seens (suc (free_copy word))) → SetsWord obeys 0 (word_for through (free_copy word)) result asked_old (seen_at seens 0) asked_new new
    → MomentsOf IsImage (λ images. CanLoad seens (loaded images) ⊎ (loaded images ≡ record { tree = table_in (words_of (seen_at seens (suc (free_copy word)))); through = through }))
    asked_old seens asked_new (set seens 0 new)
select_moments seens through new s sure h = all_weaker (λ images all. loads_selecting through s sure images all) (one_of seens 0 (omega (arith, s.size)) s.distinct h.moments)

-- the word is set
set_words : {word : ℕ} {unsure : Bool} {seens : List (Seen WordStep)} (later : ℕ) (new : Seen WordStep) → Selects word unsure seens → words_of new ≡ set (words_of (seen_at seens 0)) 0 later → words_of new ≡ later ∷ []
set_words later new s is = is ∙ ap (λ (ws : List ℕ). set ws 0 later) s.selector

pub select_stands : {T E : Type 0} {obeys : Bool} {word : ℕ} {asked_old asked_new : List Asked} {result : Result T E} (seens : List (Seen WordStep)) (through : ℕ) (doubt : Bool) (new : Seen WordStep)
    → Selects word false seens → IsSure (seen_at seens (suc (free_copy word))) → words_of new ≡ set (words_of (seen_at seens 0)) 0 (word_for through (free_copy word)) → (doubt ≡ false → IsSure new)
    → SetsWord obeys 0 (word_for through (free_copy word)) result asked_old (seen_at seens 0) asked_new new → Selects (word_for through (free_copy word)) doubt (set seens 0 new)
select_stands {word = word} seens through doubt new s sure words settled h =
    let devices : devices_of new ≡ devices_of (seen_at seens 0) =
    ap (λ (n : ℕ). n ∷ new.also) h.moments.same ∙ ap (λ (ns : List ℕ). (seen_at seens 0).device ∷ ns) h.moments.same_also in
    selector_set through doubt new s sure (set_words (word_for through (free_copy word)) new s words) devices settled (at_end h.moments)

pub select_loads : {word : ℕ} (seens : List (Seen WordStep)) (through : ℕ) (new : Seen WordStep) → Selects word false seens → IsSure (seen_at seens (suc (free_copy word))) → IsSure new
    → words_of new ≡ set (words_of (seen_at seens 0)) 0 (word_for through (free_copy word))
    → LoadsOnly (set seens 0 new) record { tree = table_in (words_of (seen_at seens (suc (free_copy word)))); through = through }
select_loads {word} seens through new s sure_table sure words = loads_selected through new s sure_table sure (set_words (word_for through (free_copy word)) new s words)
