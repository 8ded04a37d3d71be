-- The entry that words stand for, where one of them was set.
use Rattle.std.proofs.Common.{ℕ, ◌+◌, ◌/◌, ◌%◌, ◌^◌, ◌==◌, ◌&&◌, Bool, true, false, not, ◌<◌, ◌≡◌, ◌∙◌, List, [], ◌∷◌, ◌++◌, Some, None, length, take, drop, get_or, if◌then◌else◌, refl, ap, arith, eq-eqb, get_or-set_same, get_or-set_other}
use Rattle.std.proofs.Math.ListN.{set}
use Rattle.std.proofs.lemmas.Bool.{ne_eqb}
use Rattle.std.proofs.lemmas.List.{drop-set-lt}
use Rattle.std.specs.List.{flat_map}
use Rattle.cfs_file.specs.declared.request.Request.{Request}
use Rattle.cfs_file.specs.declared.request.Request.TheVariants.{Write, Truncate}
use Rattle.cfs_slot.specs.Words.{mark_of, ino_of, offset_of, kind_of, area_of, bytes_of, payload_of, request_of, with_offset, is_live, live_entry}

-- the request that stands for an offset, word 4, and the words of the payload
stands_for : ℕ → ℕ → List ℕ → List (List ℕ) → Request
stands_for offset word payload tails =
    if word % 2 ^ 32 / 65536 == 2 then Truncate offset
    else Write offset (take (if word % 2 ^ 32 / 65536 == 3 then word % 65536 + 1 else word % 65536) (bytes_of payload ++ flat_map area_of tails))

request_is : (words : List ℕ) (tails : List (List ℕ)) → request_of words tails ≡ stands_for (offset_of words) (get_or words 4 0) (drop 6 words) tails
unfolding stands_for
request_is words tails = refl

-- the gate was opened
pub live_opened : (words : List ℕ) (tails : List (List ℕ)) (place : ℕ) → length words ≡ 518 → 0 < place → mark_of words ≡ 0
    → live_entry (ino_of words) (set words 0 place) tails ≡ Some (place, request_of words tails)
live_opened [] tails place size above mark = absurd (omega arith)
live_opened (x ∷ ws) tails place size above mark =
    let ino : ℕ = get_or ws 1 0 in
    let gate : (place == 0) ≡ false = ne_eqb place 0 (λ e. absurd (omega arith)) in
    let unmarked : (get_or ws 0 0 == 1) ≡ false = ne_eqb (get_or ws 0 0) 1 (λ e. absurd (omega arith)) in
    let open_is : is_live ino (place ∷ ws) ≡ true =
    ap (λ b. not b && not (get_or ws 0 0 == 1) && (ino == ino)) gate
    ∙ ap (λ b. not false && not b && (ino == ino)) unmarked
    ∙ eq-eqb ino ino refl in
    ap (λ b. if b then Some (place, request_of (place ∷ ws) tails) else None) open_is

moved : (truncates : Bool) (from to : ℕ) (payload : List ℕ)
    → (if truncates then Truncate to else Write to payload) ≡ with_offset to (if truncates then Truncate from else Write from payload)
moved true from to payload = refl
moved false from to payload = refl

moved_is : (words : List ℕ) (tails : List (List ℕ)) (to : ℕ) → stands_for to (get_or words 4 0) (drop 6 words) tails ≡ with_offset to (request_of words tails)
unfolding stands_for
moved_is words tails to = moved (kind_of words == 2) (offset_of words) to (payload_of words tails)

-- the request at another offset
pub request_moved : (words : List ℕ) (tails : List (List ℕ)) (to : ℕ) → 3 < length words → request_of (set words 3 to) tails ≡ with_offset to (request_of words tails)
request_moved words tails to within =
    let offset : offset_of (set words 3 to) ≡ to = get_or-set_same words 3 to 0 within in
    let word : get_or (set words 3 to) 4 0 ≡ get_or words 4 0 = get_or-set_other words 3 4 to 0 (omega arith) in
    let rest : drop 6 (set words 3 to) ≡ drop 6 words = drop-set-lt 6 words 3 to (omega arith) in
    request_is (set words 3 to) tails
    ∙ ap (λ o. stands_for o (get_or (set words 3 to) 4 0) (drop 6 (set words 3 to)) tails) offset
    ∙ ap (λ w. stands_for to w (drop 6 (set words 3 to)) tails) word
    ∙ ap (λ ws. stands_for to (get_or words 4 0) ws tails) rest
    ∙ moved_is words tails to
