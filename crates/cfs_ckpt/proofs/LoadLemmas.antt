-- What images load while the selector is persisted, a copy is written, and the selector is set.
use Rattle.std.proofs.Common.{ℕ, zero, suc, ◌-◌, ◌/◌, ◌%◌, ◌<◌, ◌≡◌, ◌≢◌, ◌⊎◌, ◌∙◌, false, List, [], ◌∷◌, length, get_or, inl, inr, refl, sym, ap, subst, arith}
use Rattle.std.proofs.Math.ListN.{set}
use Rattle.std.proofs.lemmas.List.{get_or-set_other, get_or-set_same, length-set, set-get_or}
use Rattle.cfs_dir.specs.Words.{table_in}
use Rattle.cfs_pmem.specs.Images.{Seen, WordStep, words_of, IsImage, IsSetFrom, IsSure}
use Rattle.cfs_pmem.specs.Objects.{seen_at, IsEachImage, IsImageBut}
use Rattle.cfs_pmem.proofs.ImageLemmas.{now_is_image}
use Rattle.cfs_ckpt.specs.Loads.{CanLoad, LoadsOnly, loaded, selected, word_in}
use Rattle.cfs_ckpt.specs.Selects.{Selects}
use Rattle.cfs_ckpt.specs.Stores.{free_copy, word_for}

-- ---- one image of each region

pub each_at : (seens : List (Seen WordStep)) (images : List (List ℕ)) (p : ℕ) → IsEachImage IsImage seens images → p < length seens → IsImage (seen_at seens p).history (get_or images p [])
each_at [] images p all l = absurd (omega arith)
each_at (seen ∷ rest) [] p all l = absurd all
each_at (seen ∷ rest) (image ∷ images) zero all l = all.0
each_at (seen ∷ rest) (image ∷ images) (suc p) all l = each_at rest images p all.1 (omega arith)

pub but_at : (P : List ℕ → Type 0) (seens : List (Seen WordStep)) (images : List (List ℕ)) (at p : ℕ) → IsImageBut IsImage P at seens images → p < length seens → p ≢ at → IsImage (seen_at seens p).history (get_or images p [])
but_at P [] images at p all l other = absurd (omega arith)
but_at P (seen ∷ rest) [] at p all l other = absurd all
but_at P (seen ∷ rest) (image ∷ images) zero zero all l other = absurd (other refl)
but_at P (seen ∷ rest) (image ∷ images) zero (suc p) all l other = each_at rest images p all.1 (omega arith)
but_at P (seen ∷ rest) (image ∷ images) (suc at) zero all l other = all.0
but_at P (seen ∷ rest) (image ∷ images) (suc at) (suc p) all l other = but_at P rest images at p all.1 (omega arith) (λ is. other (ap (λ (k : ℕ). suc k) is))

but_here : (P : List ℕ → Type 0) (seens : List (Seen WordStep)) (images : List (List ℕ)) (at : ℕ) → IsImageBut IsImage P at seens images → P (get_or images at [])
but_here P [] images at all = absurd all
but_here P (seen ∷ rest) [] at all = absurd all
but_here P (seen ∷ rest) (image ∷ images) zero all = all.0
but_here P (seen ∷ rest) (image ∷ images) (suc at) all = but_here P rest images at all.1

-- with an image of its own region in place of that one
but_set : (P : List ℕ → Type 0) (seens : List (Seen WordStep)) (images : List (List ℕ)) (at : ℕ) (image : List ℕ) → IsImage (seen_at seens at).history image
    → IsImageBut IsImage P at seens images → IsEachImage IsImage seens (set images at image)
but_set P [] images at image here all = absurd all
but_set P (seen ∷ rest) [] at image here all = absurd all
but_set P (seen ∷ rest) (old ∷ images) zero image here all = (here, all.1)
but_set P (seen ∷ rest) (old ∷ images) (suc at) image here all = (all.0, but_set P rest images at image here all.1)

-- where that one is an image of its region, all are
but_each : (P : List ℕ → Type 0) (seens : List (Seen WordStep)) (images : List (List ℕ)) (at : ℕ) → IsImage (seen_at seens at).history (get_or images at [])
    → IsImageBut IsImage P at seens images → IsEachImage IsImage seens images
but_each P seens images at here all = subst (λ is. IsEachImage IsImage seens is) (set-get_or images at []) (but_set P seens images at (get_or images at []) here all)

-- ---- the selector is persisted

pub loads_settling : (seens : List (Seen WordStep)) (images : List (List ℕ)) → IsImageBut IsImage (IsImage (seen_at seens 0).history) 0 seens images → CanLoad seens (loaded images)
loads_settling seens images all = record {
  images = images;
  possible = but_each (IsImage (seen_at seens 0).history) seens images 0 (but_here (IsImage (seen_at seens 0).history) seens images 0 all) all;
  loads = refl;
}

pub loads_begun : (seens : List (Seen WordStep)) (images : List (List ℕ)) → IsEachImage IsImage seens images → CanLoad seens (loaded images)
loads_begun seens images all = record { images = images; possible = all; loads = refl }

-- ---- the copy that is not selected is written

-- the word of a selector that is sure
pub word_is : {word : ℕ} {seens : List (Seen WordStep)} → Selects word false seens → (image : List ℕ) → IsImage (seen_at seens 0).history image → word_in image ≡ word
word_is s image possible = ap (λ (ws : List ℕ). get_or ws 0 0) (s.settled refl image possible ∙ s.selector)

same_loaded : (images others : List (List ℕ)) → get_or others 0 [] ≡ get_or images 0 []
    → get_or others (suc (word_in (get_or images 0 []) % 2)) [] ≡ get_or images (suc (word_in (get_or images 0 []) % 2)) [] → loaded others ≡ loaded images
same_loaded images others first second =
    ap (λ (image : List ℕ). selected (word_in image) others) first
    ∙ ap (λ (table : List ℕ). record { tree = table_in table; through = word_in (get_or images 0 []) / 2 }) second

pub loads_putting : {word : ℕ} {seens : List (Seen WordStep)} (P : List ℕ → Type 0) → Selects word false seens
    → (images : List (List ℕ)) → IsImageBut IsImage P (suc (free_copy word)) seens images → CanLoad seens (loaded images)
loads_putting {word} {seens} P s images all =
    let at : ℕ = suc (free_copy word) in
    let table : List ℕ = words_of (seen_at seens at) in
    let is : word_in (get_or images 0 []) ≡ word = word_is s (get_or images 0 []) (but_at P seens images at 0 all (omega (arith, s.size)) (λ same. omega (arith, same))) in
    let other : suc (word_in (get_or images 0 []) % 2) ≢ at = λ same. omega (arith, same, ap (λ (n : ℕ). n % 2) is) in
    record {
      images = set images at table;
      possible = but_set P seens images at table (now_is_image (seen_at seens at).history) all;
      loads = same_loaded images (set images at table)
          (get_or-set_other images at 0 table [] (λ same. omega (arith, same)))
          (get_or-set_other images at (suc (word_in (get_or images 0 []) % 2)) table [] other);
    }

-- ---- the selector is set

pub copies_are : (through word : ℕ) → (word_for through (free_copy word) % 2 ≡ free_copy word) × (word_for through (free_copy word) / 2 ≡ through)
copies_are through word = (omega arith, omega arith)

-- images whose selector has the new word
loads_new : (word through : ℕ) (table : List ℕ) (images : List (List ℕ)) → word_in (get_or images 0 []) ≡ word_for through (free_copy word)
    → get_or images (suc (free_copy word)) [] ≡ table → loaded images ≡ record { tree = table_in table; through = through }
loads_new word through table images is here =
    let new = copies_are through word in
    ap (λ (w : ℕ). selected w images) is
    ∙ ap (λ (copy : ℕ). record { tree = table_in (get_or images (suc copy) []); through = word_for through (free_copy word) / 2 }) new.0
    ∙ ap (λ (ws : List ℕ). record { tree = table_in ws; through = word_for through (free_copy word) / 2 }) here
    ∙ ap (λ (n : ℕ). record { tree = table_in table; through = n }) new.1

-- an image that is one of before, or has the new word
pub word_set : {word : ℕ} {seens : List (Seen WordStep)} (new : ℕ) → Selects word false seens → (image : List ℕ) → IsSetFrom (seen_at seens 0) 0 new image
    → IsImage (seen_at seens 0).history image ⊎ (word_in image ≡ new)
word_set {word} {seens} new s image h = elim h.same [
  | inl same ↦ inl (subst (λ i. IsImage (seen_at seens 0).history i) (sym same) h.possible)
  | inr set_it ↦ inr (ap (λ (ws : List ℕ). get_or ws 0 0) set_it
      ∙ get_or-set_same h.first 0 new 0 (omega (arith, h.possible.size, ap (λ (ws : List ℕ). length ws) s.selector)))
]

pub loads_selecting : {word : ℕ} {seens : List (Seen WordStep)} (through : ℕ) → Selects word false seens → IsSure (seen_at seens (suc (free_copy word)))
    → (images : List (List ℕ)) → IsImageBut IsImage (IsSetFrom (seen_at seens 0) 0 (word_for through (free_copy word))) 0 seens images
    → CanLoad seens (loaded images) ⊎ (loaded images ≡ record { tree = table_in (words_of (seen_at seens (suc (free_copy word)))); through = through })
loads_selecting {word} {seens} through s sure images all =
    let new : ℕ = word_for through (free_copy word) in
    let at : ℕ = suc (free_copy word) in
    elim (word_set new s (get_or images 0 []) (but_here (IsSetFrom (seen_at seens 0) 0 new) seens images 0 all)) [
      | inl was ↦ inl (loads_begun seens images (but_each (IsSetFrom (seen_at seens 0) 0 new) seens images 0 was all))
      | inr is ↦ inr (loads_new word through (words_of (seen_at seens at)) images is
          (sure (get_or images at []) (but_at (IsSetFrom (seen_at seens 0) 0 new) seens images 0 at all (omega (arith, s.size)) (λ same. omega (arith, same)))))
    ]

-- behind it
pub loads_selected : {word : ℕ} {seens : List (Seen WordStep)} (through : ℕ) (new : Seen WordStep) → Selects word false seens → IsSure (seen_at seens (suc (free_copy word)))
    → IsSure new → words_of new ≡ word_for through (free_copy word) ∷ []
    → LoadsOnly (set seens 0 new) record { tree = table_in (words_of (seen_at seens (suc (free_copy word)))); through = through }
loads_selected {word} {seens} through new s sure_table sure words images all =
    let at : ℕ = suc (free_copy word) in
    let count : length (set seens 0 new) ≡ 3 = length-set seens 0 new ∙ s.size in
    let selector : IsImage new.history (get_or images 0 []) =
    subst (λ x. IsImage x.history (get_or images 0 [])) (get_or-set_same seens 0 new record { device = 0; also = []; history = [] } (omega (arith, s.size))) (each_at (set seens 0 new) images 0 all (omega arith)) in
    let copy : IsImage (seen_at seens at).history (get_or images at []) =
    subst (λ x. IsImage x.history (get_or images at [])) (get_or-set_other seens 0 at new record { device = 0; also = []; history = [] } (λ same. omega (arith, same)))
    (each_at (set seens 0 new) images at all (omega (arith, count))) in
    loads_new word through (words_of (seen_at seens at)) images
    (ap (λ (ws : List ℕ). get_or ws 0 0) (sure (get_or images 0 []) selector ∙ words)) (sure_table (get_or images at []) copy)
