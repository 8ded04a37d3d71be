-- Slots that are taken from the front of a list, one after another.
use Rattle.std.proofs.Common.{◌≡◌, ◌∙◌, ℕ, zero, suc, ◌+◌, ◌<◌, ◌≤◌, List, [], ◌∷◌, ◌++◌, length}
use Rattle.std.proofs.Common.{map, take, drop, get_or, refl, sym, ap, ap₂, subst, arith, length-drop}
use Rattle.std.proofs.lemmas.List.{drop_more, get_or-drop, get_or-map, length-map, take_more}
use Rattle.cfs_pmem.specs.Images.{Seen, WordStep}
use Rattle.cfs_pmem.specs.Objects.{seen_at}
use Rattle.cfs_queue.specs.Queue.{devices_from}
use Rattle.cfs_mount.specs.Queues.{AreFreeSlots, IsFreeSlot}

-- the next one of a list

pub next_is : {X : Type 0} (xs rest : List X) (n : ℕ) (x : X) → n < length xs →
    drop n xs ≡ x ∷ rest → get_or xs n x ≡ x
next_is xs rest n x low next =
    let more : drop n xs ≡ get_or xs n x ∷ drop (n + 1) xs = drop_more xs n x low in cc

pub next_left : {X : Type 0} (xs rest : List X) (n : ℕ) (x : X) → n < length xs →
    drop n xs ≡ x ∷ rest → rest ≡ drop (n + 1) xs
next_left xs rest n x low next =
    let more : drop n xs ≡ get_or xs n x ∷ drop (n + 1) xs = drop_more xs n x low in cc

pub next_made : {X : Type 0} (xs rest : List X) (n : ℕ) (x : X) → n < length xs →
    drop n xs ≡ x ∷ rest → take (n + 1) xs ≡ take n xs ++ x ∷ []
next_made xs rest n x low next =
    take_more xs n x low ∙ ap (λ one. take n xs ++ one ∷ []) (next_is xs rest n x low next)

-- what holds of free slots holds of those that are left
pub free_left : (first n : ℕ) (seens : List (Seen WordStep)) → AreFreeSlots first seens →
    AreFreeSlots (first + n) (drop n seens)
free_left first n seens free place low =
    let other : Seen WordStep = record { device = 0; also = []; history = [] } in
    let within : n + place < length seens = omega (arith, low, length-drop n seens) in
    let same : first + (n + place) ≡ first + n + place = omega arith in
    subst (λ device. IsFreeSlot device (seen_at (drop n seens) place)) same
    (subst (λ seen. IsFreeSlot (first + (n + place)) seen)
    (sym (get_or-drop n seens place other)) (free (n + place) within))

-- and of the next one
pub next_free : {X : Type 0} (see : X → Seen WordStep) (first : ℕ) (xs rest : List X) (n : ℕ)
    (x : X) → n < length xs → drop n xs ≡ x ∷ rest → AreFreeSlots first (map see xs) →
    IsFreeSlot (first + n) (see x)
next_free see first xs rest n x low next free =
    let other : Seen WordStep = record { device = 0; also = []; history = [] } in
    subst (λ seen. IsFreeSlot (first + n) seen)
    (get_or-map see xs n x other low ∙ ap see (next_is xs rest n x low next))
    (free n (omega (arith, low, length-map xs see)))

-- the first of them have the first device numbers
pub first_devices : {X : Type 0} (see : X → Seen WordStep) (n first : ℕ) (xs : List X) →
    n ≤ length xs → AreFreeSlots first (map see xs) →
    map (λ x. (see x).device) (take n xs) ≡ devices_from n first
first_devices see zero first xs low free = refl
first_devices see (suc n) first [] low free = absurd (omega (arith, low))
first_devices see (suc n) first (x ∷ xs) low free =
    let here : (see x).device ≡ first = (free 0 (omega arith)).own ∙ omega arith in
    ap₂ (λ device devices. device ∷ devices) here
    (first_devices see n (first + 1) xs (omega (arith, low)) (free_left first 1 (map see (x ∷ xs)) free))
