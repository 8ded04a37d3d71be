-- A word of one of the regions is set and persisted.
use Rattle.std.proofs.Common.{ℕ, zero, suc, ◌<◌, ◌≡◌, ◌∙◌, Result, Ok, Err, OnOk, OnErr, List, []}
use Rattle.std.proofs.Common.{◌∷◌, length, map, get_or, set, inl, inr, refl, sym, ap}
use Rattle.std.proofs.lemmas.List.{length-set}
use Rattle.cfs_pmem.specs.Images.{Seen, WordStep, devices_of, kept, words_of, wrote}
use Rattle.cfs_pmem.specs.Objects.{seen_at}
use Rattle.cfs_pmem.specs.WordOps.{SettingStopped}
use Rattle.cfs_pmem.proofs.ObjectLemmas.{map-see-set, seen_at-map}
use Rattle.cfs_recover.specs.Words.{lengths_of, with_first}

pub first-is : {X : Type 0} (see : X → Seen WordStep) (xs : List X) (at : ℕ) (d y : X) (word : ℕ) →
    at < length xs → see y ≡ kept (wrote 0 word (see (get_or xs at d))) →
    map see (set xs at y) ≡ with_first at word (map see xs)
first-is see xs at d y word less is =
    map-see-set see xs at y
    ∙ ap (λ (seen : Seen WordStep). set (map see xs) at seen)
    (is ∙ ap (λ (seen : Seen WordStep). kept (wrote 0 word seen))
    (sym (seen_at-map see xs at d less)))

lengths-set : (regions : List (Seen WordStep)) (at : ℕ) (new : Seen WordStep) →
    length (words_of new) ≡ length (words_of (seen_at regions at)) →
    lengths_of (set regions at new) ≡ lengths_of regions
lengths-set [] at new same = refl
lengths-set (region ∷ regions) zero new same = ap (λ (n : ℕ). n ∷ lengths_of regions) same
lengths-set (region ∷ regions) (suc at) new same =
    ap (λ (ns : List ℕ). length (words_of region) ∷ ns) (lengths-set regions at new same)

pub lengths-first : (place word : ℕ) (regions : List (Seen WordStep)) →
    lengths_of (with_first place word regions) ≡ lengths_of regions
lengths-first place word regions =
    lengths-set regions place (kept (wrote 0 word (seen_at regions place)))
    (length-set (words_of (seen_at regions place)) 0 word)

pub lengths-at : {X : Type 0} (see : X → Seen WordStep) (xs : List X) (at : ℕ) (d y : X) →
    at < length xs → length (words_of (see y)) ≡ length (words_of (see (get_or xs at d))) →
    lengths_of (map see (set xs at y)) ≡ lengths_of (map see xs)
lengths-at see xs at d y less same =
    ap lengths_of (map-see-set see xs at y)
    ∙ lengths-set (map see xs) at (see y)
    (same ∙ ap (λ (seen : Seen WordStep). length (words_of seen))
    (sym (seen_at-map see xs at d less)))

pub word-devices : {T E : Type 0} (word : ℕ) (result : Result T E) (old new : Seen WordStep) →
    OnOk result (new ≡ kept (wrote 0 word old)) → OnErr result (SettingStopped 0 word old new) →
    devices_of new ≡ devices_of old
word-devices word (Ok t) old new ok err = ap devices_of ok
word-devices word (Err e) old new ok err = elim err [
  | inl is ↦ ap devices_of is
  | inr is ↦ ap devices_of is
]
