-- Slots of which each has one image alone.
use Rattle.std.proofs.Common.{ℕ, ◌≡◌, ◌∙◌, List, [], ◌∷◌, map, refl, sym, ap, subst}
use Rattle.cfs_pmem.specs.Images.{Seen, WordStep, words_of, IsImage, IsSure}
use Rattle.cfs_pmem.specs.Objects.{IsEachImage}
use Rattle.cfs_slot.specs.Regions.{words_in}
use Rattle.cfs_slot.specs.Words.{request_of}
use Rattle.cfs_long.specs.Whole.{IsRequestIn, StandsWhole}

abbrev pub AllSure : {R : Type 0} → (R → Seen WordStep) → List R → Type 0
AllSure seen [] = Unit {0}
AllSure seen (region ∷ rest) = IsSure (seen region) × AllSure seen rest

images_are : {R : Type 0} (seen : R → Seen WordStep) (regions : List R) → AllSure seen regions → (images : List (List ℕ))
    → IsEachImage IsImage (map (λ r. seen r) regions) images → images ≡ words_in seen regions
images_are seen [] all [] h = refl
images_are seen [] all (image ∷ images) h = absurd h
images_are seen (region ∷ rest) all [] h = absurd h
images_are seen (region ∷ rest) all (image ∷ images) h =
    ap (λ words. words ∷ images) (all.0 image h.0) ∙ ap (λ words. words_of (seen region) ∷ words) (images_are seen rest all.1 images h.1)

pub stands_whole : {R : Type 0} (seen : R → Seen WordStep) (head : R) (tails : List R) → AllSure seen (head ∷ tails)
    → StandsWhole (request_of (words_of (seen head)) (words_in seen tails)) (map (λ r. seen r) (head ∷ tails))
stands_whole seen head tails all images h =
    subst (λ images. IsRequestIn (request_of (words_of (seen head)) (words_in seen tails)) images) (sym (images_are seen (head ∷ tails) all images h)) refl
