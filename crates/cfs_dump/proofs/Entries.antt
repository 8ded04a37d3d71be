-- The request of a live entry, as the words before its payload tell it.
use Rattle.std.proofs.Common.{◌≡◌, ◌∙◌, ◌==◌, ℕ, ◌+◌, ◌*◌, ◌/◌, ◌%◌, ◌^◌, ◌<◌, Bool, true, false}
use Rattle.std.proofs.Common.{if◌then◌else◌, List, [], ◌∷◌, take}
use Rattle.std.proofs.Common.{get_or, sym, ap, arith}
use Rattle.std.proofs.lemmas.Bool.Decides.{nat_tests}
use Rattle.std.specs.List.{flat_map}
use Rattle.cfs_file.specs.declared.request.Request.TheVariants.{Truncate, Write}
use Rattle.cfs_image.specs.Image.{word_at}
use Rattle.cfs_slot.specs.Words.{area_of, count_of, kind_of, offset_of, payload_of, request_of}
use Rattle.cfs_slot.specs.Words.{tails_of}
use Rattle.cfs_dump.specs.Reads.{heads_in}
use Rattle.cfs_dump.specs.Stores.{slots_in}
use Rattle.cfs_dump.proofs.Areas.{same_head}

-- ---- what a head tells of its slot

-- words that have the same offset, kind, length and tails
pub record TellsAlike (head words : List ℕ) : Type 0 where
  pub offset : get_or head 3 0 ≡ get_or words 3 0
  pub rest : get_or head 4 0 ≡ get_or words 4 0

pub head-tells : (bytes : List ℕ) (heads : List (List ℕ)) (slot : ℕ) → heads ≡ heads_in bytes →
    slot < 16 * word_at bytes 24 →
    TellsAlike (get_or heads slot []) (get_or (slots_in bytes) slot [])
head-tells bytes heads slot are less = record {
  offset = word 3 (omega arith);
  rest = word 4 (omega arith);
}
  where
    word : (k : ℕ) → k < 6 →
        get_or (get_or heads slot []) k 0 ≡ get_or (get_or (slots_in bytes) slot []) k 0
    word k low =
        ap (λ (hs : List (List ℕ)). get_or (get_or hs slot []) k 0) are
        ∙ same_head bytes slot k less low

abbrev kind_in : ℕ → ℕ
kind_in word = word % 2 ^ 32 / 65536

abbrev count_in : ℕ → ℕ
count_in word = if kind_in word == 3 then word % 65536 + 1 else word % 65536

pub truncate-told : (head words : List ℕ) (tails : List (List ℕ)) (offset kind : ℕ) →
    TellsAlike head words → offset ≡ offset_of head → kind ≡ kind_of head → kind ≡ 2 →
    Truncate offset ≡ request_of words tails
truncate-told head words tails offset kind alike offset_is kind_is cut =
    let same : kind_of words ≡ 2 = ap kind_in (sym alike.rest) ∙ (sym kind_is ∙ cut) in
    let test : (kind_of words == 2) ≡ true = grind (arith, nat_tests) in
    ap (λ (n : ℕ). Truncate n) (offset_is ∙ alike.offset)
    ∙ sym (ap (λ (b : Bool). if b then Truncate (offset_of words)
    else Write (offset_of words) (payload_of words tails)) test)

pub write-told : (head words payload : List ℕ) (tails : ℕ → List (List ℕ))
    (offset kind count set : ℕ) → TellsAlike head words → offset ≡ offset_of head →
    kind ≡ kind_of head → (kind ≡ 2 → ⊥) → count ≡ count_of head → set ≡ tails_of head →
    payload ≡ take count (flat_map area_of (words ∷ tails set)) →
    Write offset payload ≡ request_of words (tails (tails_of words))
write-told head words payload tails offset kind count set alike offset_is kind_is uncut count_is
    set_is is =
    let same : kind_of words ≡ kind = ap kind_in (sym alike.rest) ∙ sym kind_is in
    let test : (kind_of words == 2) ≡ false = grind (arith, nat_tests) in
    let many : count ≡ count_of words = count_is ∙ ap count_in alike.rest in
    let others : set ≡ tails_of words =
    set_is ∙ ap (λ (word : ℕ). word / 2 ^ 32) alike.rest in
    let whole : payload ≡ payload_of words (tails (tails_of words)) =
    is
    ∙ (ap (λ (n : ℕ). take n (flat_map area_of (words ∷ tails set))) many
    ∙ ap (λ (n : ℕ). take (count_of words) (flat_map area_of (words ∷ tails n))) others) in
    ap (λ (n : ℕ). Write n payload) (offset_is ∙ alike.offset)
    ∙ (ap (λ (bytes : List ℕ). Write (offset_of words) bytes) whole
    ∙ sym (ap (λ (b : Bool). if b then Truncate (offset_of words)
    else Write (offset_of words) (payload_of words (tails (tails_of words)))) test))
