-- A call on one of the two copies, as a call on that among the selector and the copies.
use Rattle.std.proofs.Common.{ℕ, suc, ◌<◌, ◌≡◌, ◌∙◌, false, Result, List, ◌∷◌, length, map, get_or, sym, ap, subst, arith}
use Rattle.std.proofs.Math.ListN.{set}
use Rattle.std.proofs.lemmas.List.{get_or-map, length-map, map-set}
use Rattle.cfs_pmem.specs.declared.trace.Asked.{Asked}
use Rattle.cfs_pmem.specs.Faults.{HasCause}
use Rattle.cfs_pmem.specs.Images.{Seen, WordStep, devices_of, words_of, IsImage}
use Rattle.cfs_pmem.specs.Moments.{Moments}
use Rattle.cfs_pmem.specs.Objects.{MomentsOf, seen_at}
use Rattle.cfs_pmem.specs.WordOps.{WordOp, DoesWords}
use Rattle.cfs_pmem.proofs.AllMomentLemmas.{all_weaker}
use Rattle.cfs_pmem.proofs.ObjectLemmas.{map-see-set, one_of, seen_at-map}
use Rattle.cfs_ckpt.specs.Causes.{HasOneCause}
use Rattle.cfs_ckpt.specs.Placed.{DoesPlaced, at_place}
use Rattle.cfs_ckpt.specs.Selects.{Selects}
use Rattle.cfs_ckpt.specs.Stores.{free_copy}
use Rattle.cfs_ckpt.specs.Tables.{IsAny}
use Rattle.cfs_ckpt.proofs.LoadLemmas.{loads_putting}
use Rattle.cfs_ckpt.proofs.PlacedLemmas.{caused_at, here, placed}
use Rattle.cfs_ckpt.proofs.SelectLemmas.{copy_put}
use Rattle.cfs_ckpt.proofs.StoreLemmas.{CouldLoad}

-- The copy at a place was an item of a list, and is a new one now.
pub record IsCopy {R : Type 0} (items : List R) (at copy : ℕ) (item : R) : Type 0 where
  pub place : at ≡ copy
  pub within : at < length items
  pub item_is : item ≡ get_or items at item

pub copy_within : {R : Type 0} {word at : ℕ} {unsure : _} (see : R → Seen WordStep) (selector : Seen WordStep) (items : List R) → Selects word unsure (selector ∷ map see items) → at ≡ free_copy word → at < length items
copy_within see selector items s is = omega (arith, s.size, length-map items see)

copy_was : {R : Type 0} {at copy : ℕ} {item : R} (see : R → Seen WordStep) (selector : Seen WordStep) (items : List R) → IsCopy items at copy item
    → see item ≡ seen_at (selector ∷ map see items) (suc copy)
copy_was {at = at} {item = item} see selector items h =
    sym (ap (λ (p : ℕ). seen_at (map see items) p) (sym h.place) ∙ seen_at-map see items at item h.within ∙ ap see (sym h.item_is))

copy_now : {R : Type 0} {at copy : ℕ} {item : R} (see : R → Seen WordStep) (selector : Seen WordStep) (items : List R) (new : R) → IsCopy items at copy item
    → set (selector ∷ map see items) (suc copy) (see new) ≡ selector ∷ map see (set items at new)
copy_now {at = at} see selector items new h =
    ap (λ (p : ℕ). selector ∷ set (map see items) p (see new)) (sym h.place) ∙ ap (λ (xs : List (Seen WordStep)). selector ∷ xs) (sym (map-see-set see items at new))

-- what is seen of it now
pub copy_seen : {R : Type 0} {at copy : ℕ} {item : R} (see : R → Seen WordStep) (selector : Seen WordStep) (items : List R) (new : R) → IsCopy items at copy item
    → see new ≡ seen_at (selector ∷ map see (set items at new)) (suc copy)
copy_seen {copy = copy} see selector items new h =
    sym (ap (λ seens. seen_at seens (suc copy)) (sym (copy_now see selector items new h))
    ∙ here (selector ∷ map see items) (suc copy) (see new) (omega (arith, h.within, h.place, length-map items see)))

pub copy_does : {R T E : Type 0} {at copy : ℕ} {item : R} {ops : List WordOp} {asked_old asked_new : List Asked} (see : R → Seen WordStep) (selector : Seen WordStep) (items : List R) (new : R) (result : Result T E) → IsCopy items at copy item
    → DoesWords ops result asked_old (see item) asked_new (see new)
    → DoesPlaced (at_place (suc copy) ops) result asked_old (selector ∷ map see items) asked_new (selector ∷ map see (set items at new))
copy_does {copy = copy} {ops = ops} {asked_old = asked_old} {asked_new = asked_new} see selector items new result h does =
    let olds : List (Seen WordStep) = selector ∷ map see items in
    subst (λ news. DoesPlaced (at_place (suc copy) ops) result asked_old olds asked_new news) (copy_now see selector items new h)
    (placed olds (suc copy) (see new) result (omega (arith, h.within, h.place, length-map items see))
    (subst (λ x. DoesWords ops result asked_old x asked_new (see new)) (copy_was see selector items h) does))

pub copy_moments : {R : Type 0} {word at : ℕ} {item : R} {asked_old asked_new : List Asked} (see : R → Seen WordStep) (selector : Seen WordStep) (items : List R) (new : R)
    → Selects word false (selector ∷ map see items) → IsCopy items at (free_copy word) item → Moments IsImage IsAny asked_old (see item) asked_new (see new)
    → MomentsOf IsImage (CouldLoad (selector ∷ map see items)) asked_old (selector ∷ map see items) asked_new (selector ∷ map see (set items at new))
copy_moments {word = word} {asked_old = asked_old} {asked_new = asked_new} see selector items new s h m =
    let olds : List (Seen WordStep) = selector ∷ map see items in
    subst (λ news. MomentsOf IsImage (CouldLoad olds) asked_old olds asked_new news) (copy_now see selector items new h)
    (all_weaker (λ images all. loads_putting IsAny s images all)
    (one_of olds (suc (free_copy word)) (omega (arith, s.size)) s.distinct
    (subst (λ x. Moments IsImage IsAny asked_old x asked_new (see new)) (copy_was see selector items h) m)))

pub copy_stands : {R : Type 0} {word at : ℕ} {item : R} {asked_old asked_new : List Asked} (see : R → Seen WordStep) (selector : Seen WordStep) (items : List R) (new : R)
    → Selects word false (selector ∷ map see items) → IsCopy items at (free_copy word) item → length (words_of (see new)) ≡ length (words_of (see item))
    → Moments IsImage IsAny asked_old (see item) asked_new (see new) → Selects word false (selector ∷ map see (set items at new))
copy_stands {word = word} {item = item} see selector items new s h size m =
    let was = copy_was see selector items h in
    let devices : devices_of (see new) ≡ devices_of (see item) =
    ap (λ (n : ℕ). n ∷ (see new).also) m.same ∙ ap (λ (ns : List ℕ). (see item).device ∷ ns) m.same_also in
    subst (λ news. Selects word false news) (copy_now see selector items new h)
    (copy_put (see new) s (size ∙ ap (λ (x : Seen WordStep). length (words_of x)) was ∙ s.tables (free_copy word) (omega arith)) (devices ∙ ap (λ (x : Seen WordStep). devices_of x) was))

pub copy_size : {R : Type 0} {word at : ℕ} {unsure : _} {item : R} (see : R → Seen WordStep) (selector : Seen WordStep) (items : List R)
    → Selects word unsure (selector ∷ map see items) → IsCopy items at (free_copy word) item → length (words_of (see item)) ≡ 3073
copy_size {word = word} see selector items s h = ap (λ (x : Seen WordStep). length (words_of x)) (copy_was see selector items h) ∙ s.tables (free_copy word) (omega arith)

pub copy_cause : {R T E : Type 0} {at copy : ℕ} {item : R} (faults : R → ℕ) (first : ℕ) (items : List R) (new : R) (result : Result T E) → IsCopy items at copy item
    → HasCause (faults item) (faults new) result → HasOneCause (first ∷ map faults items) (first ∷ map faults (set items at new)) result
copy_cause {at = at} {item = item} faults first items new result h cause =
    let was : faults item ≡ get_or (map faults items) at 0 = sym (get_or-map faults items at item 0 h.within ∙ ap faults (sym h.item_is)) in
    subst (λ ns. HasOneCause (first ∷ map faults items) (first ∷ ns) result) (sym (map-set faults items at new))
    (caused_at (first ∷ map faults items) (suc at) (faults new) result (omega (arith, h.within, length-map items faults))
    (subst (λ n. HasCause n (faults new) result) was cause))
