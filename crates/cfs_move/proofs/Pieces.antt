-- Pieces of lists that stand one after another.
use Rattle.std.proofs.Common.{ℕ, zero, suc, ◌+◌, ◌-◌, ◌*◌, ◌<◌, ◌≤◌, ◌≡◌, ◌∙◌, List, [], ◌∷◌, ◌++◌}
use Rattle.std.proofs.Common.{length, take, drop, refl, sym, ap, arith, append_assoc}
use Rattle.std.proofs.lemmas.List.{append-nil, drop_at, drop-append-le, drop-drop, drop-take}
use Rattle.std.proofs.lemmas.List.{length-append, length-drop, length-take-le, take_at}
use Rattle.std.proofs.lemmas.List.{take-append-le, take-take}
use Rattle.std.proofs.lemmas.List.Concat.{flat_map-append}
use Rattle.std.proofs.lemmas.List.FromFn.{map-range_with_len_more}
use Rattle.std.proofs.lemmas.List.{map-id}
use Rattle.std.specs.List.{flat_map, range_with_len}
use Rattle.byteorder.specs.Endian.{little_number}
use Rattle.byteorder.specs.Numbers.{little_from-take}

-- a word is that of its eight bytes
pub word_of_front : (xs ys : List ℕ) → take 8 xs ≡ take 8 ys →
    little_number 8 xs ≡ little_number 8 ys
word_of_front xs ys same =
    sym (little_from-take 0 8 8 xs (omega arith)) ∙ ap (λ bs. little_number 8 bs) same ∙
    little_from-take 0 8 8 ys (omega arith)

-- what stands within a piece that was left in its place stands where it stood
pub within_kept : (old new before after : List ℕ) (from size at n : ℕ) →
    new ≡ before ++ (take size (drop from old) ++ after) → length before ≡ from
    → from + size ≤ length old → from ≤ at → at + n ≤ from + size →
    take n (drop at new) ≡ take n (drop at old)
within_kept old new before after from size at n is start room above below =
    let kept : List ℕ = take size (drop from old) in
    let deep : ℕ = at - from in
    let left : ℕ = size - deep in
    let place : from + deep ≡ at = omega arith in
    let split : deep + left ≡ size = omega arith in
    let long : length kept ≡ size =
    length-take-le size (drop from old) (omega (arith, length-drop from old)) in
    let far : drop deep kept ≡ take left (drop at old) =
    ap (λ (m : ℕ). drop deep (take m (drop from old))) (sym split) ∙
    drop-take deep left (drop from old)
    ∙ ap (λ ds. take left ds) (drop-drop deep from old ∙ ap (λ (m : ℕ). drop m old) place) in
    let enough : n ≤ length (drop deep kept) = omega (arith, length-drop deep kept) in
    ap (λ (m : ℕ). take n (drop m new)) (sym place)
    ∙ ap (λ ds. take n ds) (sym (drop-drop deep from new))
    ∙ ap (λ bs. take n (drop deep (drop from bs))) is
    ∙ ap (λ ds. take n (drop deep ds)) (drop_at before (kept ++ after) from start)
    ∙ ap (λ ds. take n ds) (drop-append-le deep kept after (omega arith))
    ∙ take-append-le n (drop deep kept) after enough
    ∙ ap (λ ds. take n ds) far
    ∙ take-take n left (drop at old) (omega arith)

-- what stands behind a front of another length stands as far behind it as it stood
pub behind_kept : (old new before : List ℕ) (from start at : ℕ) → new ≡ before ++ drop from old →
    length before ≡ start → start ≤ at
    → drop at new ≡ drop (from + (at - start)) old
behind_kept old new before from start at is size above =
    let place : start + (at - start) ≡ at = omega arith in
    ap (λ (m : ℕ). drop m new) (sym place)
    ∙ sym (drop-drop (at - start) start new)
    ∙ ap (λ bs. drop (at - start) (drop start bs)) is
    ∙ ap (λ ds. drop (at - start) ds) (drop_at before (drop from old) start size)
    ∙ drop-drop (at - start) from old

-- ---- pieces of 128 bytes each

-- one piece more
pub pieces_more : (f : ℕ → List ℕ) (n : ℕ) →
    flat_map f (range_with_len 0 (n + 1)) ≡ flat_map f (range_with_len 0 n) ++ f n
pieces_more f n =
    ap (λ (ks : List ℕ). flat_map f ks)
    (sym (map-id (range_with_len 0 (n + 1))) ∙
    map-range_with_len_more (λ (k : ℕ). k) 0 n n (omega arith) ∙
    ap (λ (ks : List ℕ). ks ++ n ∷ []) (map-id (range_with_len 0 n)))
    ∙ flat_map-append f (range_with_len 0 n) (n ∷ [])
    ∙ ap (λ bs. flat_map f (range_with_len 0 n) ++ bs) (append-nil (f n))

-- how long they are
pub pieces_length : (f : ℕ → List ℕ) (first n : ℕ) →
    ((k : ℕ) → k < first + n → length (f k) ≡ 128) →
    length (flat_map f (range_with_len first n)) ≡ 128 * n
pieces_length f first zero sizes = refl
pieces_length f first (suc n) sizes =
    omega (
      arith,
      length-append (f first) (flat_map f (range_with_len (first + 1) n)),
      sizes first (omega arith),
      pieces_length f (first + 1) n (λ k l. sizes k (omega arith)),
    )

-- where each stands
pub piece_at : (f : ℕ → List ℕ) (first n k : ℕ) (after : List ℕ) →
    ((i : ℕ) → i < first + n → length (f i) ≡ 128) → k < n
    → take 128 (drop (128 * k) (flat_map f (range_with_len first n) ++ after)) ≡ f (first + k)
piece_at f first zero k after sizes l = absurd (omega arith)
piece_at f first (suc n) zero after sizes l =
    let rest : List ℕ = flat_map f (range_with_len (first + 1) n) in
    let same : first ≡ first + 0 = omega arith in
    ap (λ bs. take 128 bs) (append_assoc (f first) rest after)
    ∙ take_at (f first) (rest ++ after) 128 (sizes first (omega arith)) ∙ ap (λ (m : ℕ). f m) same
piece_at f first (suc n) (suc k) after sizes l =
    let rest : List ℕ = flat_map f (range_with_len (first + 1) n) in
    let place : 128 * suc k ≡ 128 + 128 * k = omega arith in
    let same : first + 1 + k ≡ first + suc k = omega arith in
    ap (λ (m : ℕ). take 128 (drop m ((f first ++ rest) ++ after))) place
    ∙ ap (λ bs. take 128 bs) (sym (drop-drop (128 * k) 128 ((f first ++ rest) ++ after)))
    ∙ ap (λ bs. take 128 (drop (128 * k) (drop 128 bs))) (append_assoc (f first) rest after)
    ∙ ap (λ bs. take 128 (drop (128 * k) bs))
    (drop_at (f first) (rest ++ after) 128 (sizes first (omega arith)))
    ∙ piece_at f (first + 1) n k after (λ i b. sizes i (omega arith)) (omega arith)
    ∙ ap (λ (m : ℕ). f m) same
