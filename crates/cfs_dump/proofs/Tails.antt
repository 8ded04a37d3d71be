-- The bytes of the tails of a slot, number by number, and the request that its head tells.
use Rattle.std.proofs.Common.{◌≡◌, ◌∙◌, ◌==◌, ℕ, suc, ◌+◌, ◌-◌, ◌/◌, ◌%◌, ◌<◌, Bool, true, false}
use Rattle.std.proofs.Common.{if◌then◌else◌, List, [], ◌∷◌, ◌++◌, map, get_or, refl, sym, ap, arith}
use Rattle.std.proofs.lemmas.List.{append_assoc}
use Rattle.std.specs.List.{flat_map}
use Rattle.cfs_slot.specs.Words.{area_of}
use Rattle.cfs_slot.specs.Tails.{numbers_from, numbers_in}

-- the bytes of those of n slots, from a number on, whose bits are set; they stand behind `first`
abbrev pub tails_from : List (List ℕ) → ℕ → ℕ → ℕ → ℕ → List ℕ
tails_from slots first n from bits =
    flat_map area_of (map (λ number. get_or slots (first + number) []) (numbers_from n from bits))

tails_from-next : (slots : List (List ℕ)) (first n from bits : ℕ) →
    tails_from slots first (suc n) from bits
    ≡ (if bits % 2 == 1 then area_of (get_or slots (first + from) []) else [])
    ++ tails_from slots first n (from + 1) (bits / 2)
tails_from-next slots first n from bits = split (bits % 2 == 1)
  where
    rest : List ℕ
    rest = numbers_from n (from + 1) (bits / 2)

    split : (wanted : Bool) →
        flat_map area_of (map (λ number. get_or slots (first + number) [])
        ((if wanted then from ∷ [] else []) ++ rest))
        ≡ (if wanted then area_of (get_or slots (first + from) []) else [])
        ++ tails_from slots first n (from + 1) (bits / 2)
    split true = refl
    split false = refl

-- one turn, which appends the bytes of one slot
pub tails_turn : (slots : List (List ℕ)) (first number bits : ℕ) (bytes new : List ℕ) →
    number < 16 →
    new ≡ bytes ++ (if bits % 2 == 1 then area_of (get_or slots (first + number) []) else []) →
    new ++ tails_from slots first (16 - (number + 1)) (number + 1) (bits / 2)
    ≡ bytes ++ tails_from slots first (16 - number) number bits
tails_turn slots first number bits bytes new less is =
    let count : 16 - number ≡ suc (16 - (number + 1)) = omega arith in
    let own : List ℕ =
    if bits % 2 == 1 then area_of (get_or slots (first + number) []) else [] in
    let rest : List ℕ = tails_from slots first (16 - (number + 1)) (number + 1) (bits / 2) in
    ap (λ (xs : List ℕ). xs ++ rest) is
    ∙ (append_assoc bytes own rest
    ∙ ap (λ (xs : List ℕ). bytes ++ xs)
    (sym (ap (λ (n : ℕ). tails_from slots first n number bits) count
    ∙ tails_from-next slots first (16 - (number + 1)) number bits)))

-- and all of them are the tails
pub tails_from-all : (slots : List (List ℕ)) (first tails : ℕ) →
    tails_from slots first 16 0 tails
    ≡ flat_map area_of (map (λ number. get_or slots (first + number) []) (numbers_in tails))
unfolding numbers_in
tails_from-all slots first tails = refl
