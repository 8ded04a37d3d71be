-- What a walk over the records of an image finds.
use Rattle.std.proofs.Common.{◌≡◌, ◌≢◌, ◌⊎◌, ◌∙◌, inl, inr, ℕ, zero, suc, ◌+◌, ◌-◌, ◌%◌, ◌<◌, ◌≤◌, ◌==◌, Bool, true, false, if◌then◌else◌, List, [], ◌∷◌, ◌++◌, length, drop, map, get_or, Option, Some, None, refl, sym, ap, subst, arith}
use Rattle.std.specs.List.{slice_get}
use Rattle.std.specs.Option.{option_map}
use Rattle.std.proofs.Math.Seq.{drop-cons}
use Rattle.std.proofs.lemmas.Bool.{cases_eq, cases_lt}
use Rattle.std.proofs.lemmas.Bool.Decides.{nat_tests}
use Rattle.std.proofs.lemmas.List.{append-nil, drop_all}
use Rattle.std.proofs.lemmas.Option.{slice_get-get_or}
use Rattle.cfs_dir.specs.declared.change.Change.{Change}
use Rattle.cfs_dir.specs.declared.change.Change.TheVariants as removals
use Rattle.cfs_dir.specs.Change.{IsTellable}
use Rattle.cfs_dir.proofs.Told.{change_told}
use Rattle.cfs_journal.specs.Records.{Tells, change_of, gate_of, record_words}
use Rattle.cfs_journal.specs.Standing.{place, walk, Gives, IsNext}

-- What the images of the regions say of each record.
pub record Held (through : ℕ) (changes : List Change) (doubt : Option Change) (images : List (List ℕ)) : Type 0 where
  pub few : length changes ≤ 64
  pub told_doubt : (change : Change) → doubt ≡ Some change → IsTellable change
  pub live : (k : ℕ) (change : Change) → slice_get changes k ≡ Some change →
      Tells (through + k + 1) change (get_or images (place through k) [])
  pub next : length changes < 64 → IsNext through (through + length changes + 1) (place through (length changes)) doubt (get_or images (place through (length changes)) [])
  pub spent : (k : ℕ) → length changes < k → k < 64 → gate_of (get_or images (place through k) []) ≤ through

record_told : (number : ℕ) (change : Change) → IsTellable change → change_of (record_words number change) ≡ change
record_told number change told = change_told change told

-- a record that stands whole tells its change
pub record_tells : (number : ℕ) (change : Change) (words : List ℕ) → IsTellable change →
    words ≡ record_words number change → Tells number change words
record_tells number change words told is = record {
  gate = ap (λ (ws : List ℕ). gate_of ws) is;
  told = ap (λ (ws : List ℕ). change_of ws) is ∙ record_told number change told;
}

-- one step of a walk, and its end
walk-goes : (n t : ℕ) (images : List (List ℕ)) → gate_of (get_or images (t % 64) []) ≡ suc t → walk (suc n) t images ≡ get_or images (t % 64) [] ∷ walk n (suc t) images
unfolding walk
walk-goes n t images is =
    let test : (gate_of (get_or images (t % 64) []) == suc t) ≡ true = grind (arith, nat_tests) in
    ap (λ (b : Bool). if b then get_or images (t % 64) [] ∷ walk n (suc t) images else []) test

walk-ends : (n t : ℕ) (images : List (List ℕ)) → gate_of (get_or images (t % 64) []) ≢ suc t → walk n t images ≡ []
unfolding walk
walk-ends zero t images other = refl
walk-ends (suc n) t images other =
    let test : (gate_of (get_or images (t % 64) []) == suc t) ≡ false = grind (arith, nat_tests) in
    ap (λ (b : Bool). if b then get_or images (t % 64) [] ∷ walk n (suc t) images else []) test

-- through the changes that stand
walk-live : {through : ℕ} {changes : List Change} {doubt : Option Change} {images : List (List ℕ)} → Held through changes doubt images → (d : Change)
    → (m n j : ℕ) → j + m ≡ length changes → m ≤ n
    → map change_of (walk n (through + j) images) ≡ drop j changes ++ map change_of (walk (n - m) (through + length changes) images)
walk-live {through} {changes} {doubt} {images} held d zero n j end few =
    let last : j ≡ length changes = omega arith in
    let all : drop j changes ≡ [] = drop_all j changes (omega arith) in
    let fuel : n ≡ n - 0 = omega arith in
    ap (λ (k : ℕ). map change_of (walk n (through + k) images)) last
    ∙ (ap (λ (k : ℕ). map change_of (walk k (through + length changes) images)) fuel
    ∙ ap (λ (front : List Change). front ++ map change_of (walk (n - 0) (through + length changes) images)) (sym all))
walk-live held d (suc m) zero j end few = absurd (omega (arith, few))
walk-live {through} {changes} {doubt} {images} held d (suc m) (suc n) j end few =
    let within : j < length changes = omega arith in
    let change : Change = get_or changes j d in
    let here : slice_get changes j ≡ Some change = slice_get-get_or changes j d within in
    let image : List ℕ = get_or images ((through + j) % 64) [] in
    let stands : Tells (through + j + 1) change image = held.live j change here in
    let gate : gate_of image ≡ suc (through + j) = stands.gate ∙ omega arith in
    let next : suc (through + j) ≡ through + suc j = omega arith in
    let rest : List Change = map change_of (walk (n - m) (through + length changes) images) in
    let fuel : n - m ≡ suc n - suc m = omega arith in
    ap (λ (ws : List (List ℕ)). map change_of ws) (walk-goes n (through + j) images gate)
    ∙ (ap (λ (c : Change). c ∷ map change_of (walk n (suc (through + j)) images)) stands.told
    ∙ (ap (λ (t : ℕ). change ∷ map change_of (walk n t images)) next
    ∙ (ap (λ (cs : List Change). change ∷ cs) (walk-live held d m n (suc j) (omega arith) (omega arith))
    ∙ (ap (λ (cs : List Change). cs ++ rest) (sym (drop-cons changes j d within))
    ∙ ap (λ (k : ℕ). drop j changes
    ++ map change_of (walk k (through + length changes) images)) fuel))))

-- behind all places stands the first record again
wraps : {through : ℕ} {changes : List Change} {doubt : Option Change} {images : List (List ℕ)} → Held through changes doubt images → (d : Change) (n t : ℕ)
    → 0 < length changes → t ≡ through + 64 → walk n t images ≡ []
wraps {through} {changes} {doubt} {images} held d n t some is =
    let first : Tells (through + 0 + 1) (get_or changes 0 d)
    (get_or images ((through + 0) % 64) []) =
    held.live 0 (get_or changes 0 d) (slice_get-get_or changes 0 d some) in
    let same : t % 64 ≡ (through + 0) % 64 = omega (arith, is) in
    let gate : gate_of (get_or images (t % 64) []) ≡ through + 0 + 1 =
    ap (λ (p : ℕ). gate_of (get_or images p [])) same ∙ first.gate in
    walk-ends n t images (λ as_next. omega (arith, gate, as_next, is))

-- what comes behind the changes: nothing, or the change in doubt
Behind : ℕ → Option Change → List (List ℕ) → ℕ → Type 0
Behind n doubt images t =
    (map change_of (walk n t images) ≡ [])
    ⊎ ((change : Change) × (doubt ≡ Some change) × (map change_of (walk n t images) ≡ change ∷ []))

some_of : (doubt : Option Change) (number : ℕ) (image : List ℕ) → Some image ≡ option_map (record_words number) doubt → (change : Change) × (doubt ≡ Some change) × (image ≡ record_words number change)
some_of None number image is = cc
some_of (Some change) number image is = (change, refl, cc)

behind-doubt : {through : ℕ} {changes : List Change} {doubt : Option Change} {images : List (List ℕ)} → Held through changes doubt images → (d : Change) (n t : ℕ)
    → length changes < 64 → t ≡ through + length changes → gate_of (get_or images (t % 64) []) ≡ suc t → 0 < n → Behind n doubt images t
unfolding Behind
behind-doubt held d zero t less is opens some = absurd (omega (arith, some))
behind-doubt {through} {changes} {doubt} {images} held d (suc n) t less is opens some =
    let number : gate_of (get_or images (place through (length changes)) []) ≡ through + length changes + 1 =
    subst (λ p. gate_of (get_or images (p % 64) []) ≡ p + 1) is (opens ∙ omega arith) in
    let doubtful = some_of doubt (through + length changes + 1) (get_or images (place through (length changes)) []) ((held.next less).opened number) in
    let image : get_or images (t % 64) [] ≡ record_words (through + length changes + 1) doubtful.0 = ap (λ (p : ℕ). get_or images (p % 64) []) is ∙ doubtful.2 in
    let ends : walk n (suc t) images ≡ [] = elim (cases_lt (length changes + 1) 64) [
      | inl more ↦
          let low : gate_of (get_or images ((through + (length changes + 1)) % 64) []) ≤ through = held.spent (length changes + 1) (omega arith) more in
          let same : suc t ≡ through + (length changes + 1) = omega (arith, is) in
          walk-ends n (suc t) images (λ as_next. omega (arith, low, is, ap (λ (p : ℕ). gate_of (get_or images (p % 64) [])) (sym same) ∙ as_next))
      | inr full ↦ wraps held d n (suc t) (omega arith) (omega (arith, is))
    ] in
    inr (
      doubtful.0,
      doubtful.1,
      ap (λ (ws : List (List ℕ)). map change_of ws) (walk-goes n t images opens)
          ∙ (ap (λ (ws : List (List ℕ)). change_of (get_or images (t % 64) []) ∷ map change_of ws) ends
          ∙ (ap (λ (ws : List ℕ). change_of ws ∷ []) image
          ∙ ap (λ (c : Change). c ∷ []) (record_told (through + length changes + 1) doubtful.0 (held.told_doubt doubtful.0 doubtful.1)))),
    )

behind : {through : ℕ} {changes : List Change} {doubt : Option Change} {images : List (List ℕ)} → Held through changes doubt images → (d : Change) (n : ℕ)
    → (length changes < 64 → 0 < n) → Behind n doubt images (through + length changes)
unfolding Behind
behind {through} {changes} {doubt} {images} held d n some = elim (cases_lt (length changes) 64) [
  | inl less ↦ elim (cases_eq (gate_of (get_or images ((through + length changes) % 64) [])) (suc (through + length changes))) [
    | inl opens ↦ behind-doubt held d n (through + length changes) less refl opens (some less)
    | inr shut ↦ inl (ap (λ (ws : List (List ℕ)). map change_of ws) (walk-ends n (through + length changes) images shut))
  ]
  | inr full ↦ inl (ap (λ (ws : List (List ℕ)). map change_of ws) (wraps held d n (through + length changes) (omega arith) (omega (arith, held.few))))
]

pub some_change : Change
some_change = removals.Remove 0 0

pub gives : {through : ℕ} {changes : List Change} {doubt : Option Change} {images : List (List ℕ)} → Held through changes doubt images → Gives through changes doubt images
unfolding Behind
gives {through} {changes} {doubt} {images} held = record {
  above = λ number low high.
      let j : ℕ = number - through in
      let d : Change = some_change in
      let from : through + j ≡ number = omega arith in
      let front : map change_of (walk 64 number images) ≡ drop j changes ++ map change_of (walk (64 - (length changes - j)) (through + length changes) images) =
      ap (λ (t : ℕ). map change_of (walk 64 t images)) (sym from) ∙ walk-live held d (length changes - j) 64 j (omega arith) (omega (arith, held.few)) in
      elim (behind held d (64 - (length changes - j)) (λ less. omega arith)) [
        | inl none ↦ inl (front ∙ ap (λ (cs : List Change). drop j changes ++ cs) none ∙ append-nil (drop j changes))
        | inr one ↦ inr (one.0, one.1, front ∙ ap (λ (cs : List Change). drop j changes ++ cs) one.2)
      ];
}
