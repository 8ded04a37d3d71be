-- For the tests.
use Rattle.std.proofs.Common.{ℕ, zero, suc, ◌+◌, ◌≡◌, ◌∙◌, Option, Some, None, List, [], ◌∷◌, ◌++◌, length, map, sym, ap, arith, length-append}
use Rattle.std.proofs.lemmas.List.{map-append}
use Rattle.cfs_queue.specs.Queue.{Held, free, out, devices_from, place_at}

-- one device more
pub devices_more : (n first : ℕ) → devices_from (n + 1) first ≡ devices_from n first ++ (first + n) ∷ []
devices_more zero first = let e : first ≡ first + zero = omega arith in ap (λ d. d ∷ []) e
devices_more (suc n) first =
    let step : first + 1 + n ≡ first + suc n = omega arith in
    let more : suc n + 1 ≡ suc (n + 1) = omega arith in
    ap (λ k. devices_from k first) more
    ∙ ap (λ l. first ∷ l) (devices_more n (first + 1))
    ∙ ap (λ (d : ℕ). first ∷ (devices_from n (first + 1) ++ d ∷ [])) step

-- one slot more, which has the next device
pub slot_more : {S X : Type 0} (region : S → X) (device : X → ℕ) (n first : ℕ) (old new : List S) (s : S) → new ≡ old ++ s ∷ []
    → map device (map region old) ≡ devices_from n first → device (region s) ≡ first + n
    → map device (map region new) ≡ devices_from (n + 1) first
slot_more region device n first old new s e devices next =
    ap (λ l. map device (map region l)) e
    ∙ ap (λ l. map device l) (map-append region old (s ∷ []))
    ∙ map-append device (map region old) (region s ∷ [])
    ∙ ap (λ l. l ++ device (region s) ∷ []) devices
    ∙ ap (λ (d : ℕ). devices_from n first ++ d ∷ []) next
    ∙ sym (devices_more n first)

pub one_more : {S : Type 0} (n : ℕ) (old new : List S) (s : S) → new ≡ old ++ s ∷ [] → length old ≡ n → length new ≡ n + 1
one_more n old new s e count = ap (λ l. length l) e ∙ length-append old (s ∷ []) ∙ ap (λ k. k + 1) count

pub out_at : {X : Type 0} (o : Option (Held X)) (p : ℕ) → place_at o ≡ Some p → o ≡ Some (out p)
out_at None p e = cc
out_at (Some (free x)) p e = cc
out_at (Some (out q)) p e = let same : q ≡ p = cc in ap (λ n. Some (out n)) same
