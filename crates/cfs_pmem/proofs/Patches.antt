-- Values over others from a place on.
use Rattle.std.proofs.Common.{ℕ, suc, ◌+◌, ◌-◌, ◌<◌, ◌≤◌, ◌≡◌, ◌∙◌, List, [], ◌∷◌, ◌++◌, length, get_or, take, drop, inl, inr, refl, sym, ap, arith, get_or-set_same, get_or-set_other, ext_get_or}
use Rattle.std.proofs.Math.ListN.{set}
use Rattle.std.proofs.lemmas.List.{length-set, length-append, length-take-le, length-drop, get_or_append_left, get_or-append_right, get_or-take, get_or-drop, take-append-drop, take_at, drop_at, drop-drop, append_assoc}
use Rattle.std.proofs.lemmas.Bool.{cases_lt, cases_eq}
use Rattle.cfs_pmem.specs.Images.{patched}

pub length-patched : (words : List ℕ) (from : ℕ) (new : List ℕ) → from + length new ≤ length words → length (patched words from new) ≡ length words
length-patched words from new l =
    omega (arith, length-append (take from words) (new ++ drop (from + length new) words), length-append new (drop (from + length new) words), length-take-le from words (omega arith), length-drop (from + length new) words)

pub patched_below : (words : List ℕ) (from : ℕ) (new : List ℕ) (k : ℕ) → from + length new ≤ length words → k < from → get_or (patched words from new) k 0 ≡ get_or words k 0
patched_below words from new k l below =
    get_or_append_left (take from words) (new ++ drop (from + length new) words) 0 k (omega (arith, length-take-le from words (omega arith))) ∙ get_or-take from words k 0 below

pub patched_inside : (words : List ℕ) (from : ℕ) (new : List ℕ) (k : ℕ) → from + length new ≤ length words → k < length new → get_or (patched words from new) (from + k) 0 ≡ get_or new k 0
patched_inside words from new k l inside =
    get_or-append_right (take from words) (new ++ drop (from + length new) words) from (from + k) 0 (length-take-le from words (omega arith)) (omega arith)
    ∙ ap (λ n. get_or (new ++ drop (from + length new) words) n 0) (omega arith)
    ∙ get_or_append_left new (drop (from + length new) words) 0 k inside

pub patched_above : (words : List ℕ) (from : ℕ) (new : List ℕ) (k : ℕ) → from + length new ≤ length words → from + length new ≤ k → get_or (patched words from new) k 0 ≡ get_or words k 0
patched_above words from new k l above =
    let n : ℕ = k - (from + length new) in
    let is : from + length new + n ≡ k = omega arith in
    get_or-append_right (take from words) (new ++ drop (from + length new) words) from k 0 (length-take-le from words (omega arith)) (omega arith)
    ∙ get_or-append_right new (drop (from + length new) words) (length new) (k - from) 0 refl (omega arith)
    ∙ ap (λ i. get_or (drop (from + length new) words) i 0) (omega arith)
    ∙ get_or-drop (from + length new) words n 0
    ∙ ap (λ i. get_or words i 0) is

pub patched_none : (words : List ℕ) (from : ℕ) (new : List ℕ) → patched words from (take 0 new) ≡ words
patched_none words from new =
    ap (λ (ws : List ℕ). patched words from ws) (none_taken new)
    ∙ ap (λ n. take from words ++ drop n words) (omega arith) ∙ take-append-drop from words
  where
    none_taken : (xs : List ℕ) → take 0 xs ≡ []
    none_taken [] = refl
    none_taken (x ∷ xs) = refl

-- one more word
pub patched_more : (words : List ℕ) (from : ℕ) (new : List ℕ) (k : ℕ) → from + length new ≤ length words → k < length new
    → set (patched words from (take k new)) (from + k) (get_or new k 0) ≡ patched words from (take (suc k) new)
patched_more words from new k fits l =
    let size : length (take k new) ≡ k = length-take-le k new (omega arith) in
    let size_next : length (take (suc k) new) ≡ suc k = length-take-le (suc k) new (omega arith) in
    let old : List ℕ = patched words from (take k new) in
    let value : ℕ = get_or new k 0 in
    let old_size : length old ≡ length words = length-patched words from (take k new) (omega arith) in
    let new_size : length (patched words from (take (suc k) new)) ≡ length words = length-patched words from (take (suc k) new) (omega arith) in
    let set_size : length (set old (from + k) value) ≡ length words = length-set old (from + k) value ∙ old_size in
    ext_get_or 0 (set old (from + k) value) (patched words from (take (suc k) new)) (set_size ∙ sym new_size)
    (λ i li. elim (cases_eq i (from + k)) as (λ _. get_or (set old (from + k) value) i 0 ≡ get_or (patched words from (take (suc k) new)) i 0) [
      | inl here ↦
          ap (λ n. get_or (set old (from + k) value) n 0) here ∙ get_or-set_same old (from + k) value 0 (omega arith)
          ∙ sym (get_or-take (suc k) new k 0 (omega arith)) ∙ sym (patched_inside words from (take (suc k) new) k (omega arith) (omega arith))
          ∙ ap (λ n. get_or (patched words from (take (suc k) new)) n 0) (sym here)
      | inr other ↦
          get_or-set_other old (from + k) i value 0 other
          ∙ elim (cases_lt i from) as (λ _. get_or old i 0 ≡ get_or (patched words from (take (suc k) new)) i 0) [
            | inl below ↦ patched_below words from (take k new) i (omega arith) below ∙ sym (patched_below words from (take (suc k) new) i (omega arith) below)
            | inr from_on ↦ elim (cases_lt i (from + k)) as (λ _. get_or old i 0 ≡ get_or (patched words from (take (suc k) new)) i 0) [
              | inl inside ↦
                  let j : ℕ = i - from in
                  let is : from + j ≡ i = omega arith in
                  ap (λ n. get_or old n 0) (sym is) ∙ patched_inside words from (take k new) j (omega arith) (omega arith) ∙ get_or-take k new j 0 (omega arith)
                  ∙ sym (get_or-take (suc k) new j 0 (omega arith)) ∙ sym (patched_inside words from (take (suc k) new) j (omega arith) (omega arith))
                  ∙ ap (λ n. get_or (patched words from (take (suc k) new)) n 0) is
              | inr above ↦
                  let past : from + suc k ≤ i = omega (arith, other) in
                  patched_above words from (take k new) i (omega arith) (omega arith) ∙ sym (patched_above words from (take (suc k) new) i (omega arith) (omega arith))
            ]
          ]
    ])

-- below the values that were written, and above them
pub take-patched : (bytes : List ℕ) (from : ℕ) (new : List ℕ) → from + length new ≤ length bytes → take from (patched bytes from new) ≡ take from bytes
take-patched bytes from new l = take_at (take from bytes) (new ++ drop (from + length new) bytes) from (length-take-le from bytes (omega arith))

pub drop-patched : (bytes : List ℕ) (from : ℕ) (new : List ℕ) → from + length new ≤ length bytes → drop (from + length new) (patched bytes from new) ≡ drop (from + length new) bytes
drop-patched bytes from new l =
    ap (λ xs. drop (from + length new) xs) (sym (append_assoc (take from bytes) new (drop (from + length new) bytes)))
    ∙ drop_at (take from bytes ++ new) (drop (from + length new) bytes) (from + length new) (omega (arith, length-append (take from bytes) new, length-take-le from bytes (omega arith)))

-- values written over themselves
pub patched_same : (bytes : List ℕ) (from len : ℕ) → from + len ≤ length bytes → patched bytes from (take len (drop from bytes)) ≡ bytes
patched_same bytes from len l =
    let size : length (take len (drop from bytes)) ≡ len = length-take-le len (drop from bytes) (omega (arith, length-drop from bytes)) in
    ap (λ n. take from bytes ++ (take len (drop from bytes) ++ drop (from + n) bytes)) size
    ∙ ap (λ xs. take from bytes ++ (take len (drop from bytes) ++ xs)) (sym (drop-drop len from bytes))
    ∙ ap (λ xs. take from bytes ++ xs) (take-append-drop len (drop from bytes))
    ∙ take-append-drop from bytes
