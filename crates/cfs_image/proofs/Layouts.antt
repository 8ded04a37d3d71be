-- How the offsets of a layout follow each other, and the pieces of a list between them.
use Rattle.std.proofs.Common.{ℕ, ◌+◌, ◌-◌, ◌*◌, ◌≤◌, ◌≡◌, ◌∙◌, List, [], ◌∷◌, ◌++◌, take, drop, sym, ap, arith}
use Rattle.std.proofs.Math.Seq.{take-add}
use Rattle.std.proofs.lemmas.Bool.Decides.{nat_tests}
use Rattle.std.proofs.lemmas.List.{drop-drop, map-id}
use Rattle.std.proofs.lemmas.List.FromFn.{map-range_with_len_more}
use Rattle.std.specs.List.{range_with_len}
use Rattle.cfs_image.specs.Layout.{region_at, region_words}

-- each region begins where the one before it ends
pub region_at-next : (device : ℕ) → region_at (device + 1) ≡ region_at device + 8 * region_words device
region_at-next device = grind (arith, nat_tests)

-- and behind the header
pub region_at-first : (device : ℕ) → 32 ≤ region_at device
region_at-first device = grind (arith, nat_tests)

-- the piece up to a place, and the next one
pub piece_more : (from at n : ℕ) (bytes : List ℕ) → from ≤ at → take (at + n - from) (drop from bytes) ≡ take (at - from) (drop from bytes) ++ take n (drop at bytes)
piece_more from at n bytes le =
    let size : at + n - from ≡ (at - from) + n = omega arith in
    let place : from + (at - from) ≡ at = omega arith in
    ap (λ (m : ℕ). take m (drop from bytes)) size ∙ take-add (at - from) n (drop from bytes)
    ∙ ap (λ ds. take (at - from) (drop from bytes) ++ take n ds) (drop-drop (at - from) from bytes ∙ ap (λ (m : ℕ). drop m bytes) place)

-- one number more
pub range_more : (from n next : ℕ) → from + n ≡ next → range_with_len from (n + 1) ≡ range_with_len from n ++ next ∷ []
range_more from n next is =
    sym (map-id (range_with_len from (n + 1))) ∙ map-range_with_len_more (λ (k : ℕ). k) from n next is
    ∙ ap (λ (ks : List ℕ). ks ++ next ∷ []) (map-id (range_with_len from n))
