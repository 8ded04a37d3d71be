-- What a crash leaves of two copies, place by place.
use Rattle.std.proofs.Common.{Bool, ℕ, suc, zero, ◌%◌, ◌==◌, true, false, if◌then◌else◌, ◌+◌, ◌<◌, ◌≤◌, ◌≡◌, ◌⊎◌, ◌∙◌, List, [], ◌∷◌, ◌++◌, length, get_or, take, drop, inl, inr, refl, sym, ap, arith, append_assoc}
use Rattle.std.proofs.Math.ListN.{set}
use Rattle.std.proofs.lemmas.List.{length-set, drop-set-lt, drop-drop, get_or-drop, drop_more, take_more_set, take_all, drop_all, append-nil}
use Rattle.cfs_pmem.specs.declared.pick.Pick.{Pick}
use Rattle.cfs_pmem.specs.declared.pick.Pick.TheVariants.{Durable, Present, Drawn}
use Rattle.cfs_pmem.specs.Draws.{draw_of, word_left, each_left, after_each}

chosen : (same even : Bool) (durable present : ℕ)
    → ((if same then present else (if even then durable else present)) ≡ durable) ⊎ ((if same then present else (if even then durable else present)) ≡ present)
chosen true even durable present = inr refl
chosen false true durable present = inl refl
chosen false false durable present = inr refl

-- what a crash leaves of each word is its durable or its present value
pub left_word : (pick : Pick) (durable present : ℕ) → (word_left pick durable present ≡ durable) ⊎ (word_left pick durable present ≡ present)
left_word Durable durable present = inl refl
left_word Present durable present = inr refl
left_word (Drawn state) durable present = chosen (durable == present) (draw_of state % 2 == 0) durable present

pub length-each_left : (left : ℕ → Pick → ℕ → ℕ → ℕ) (next : ℕ → Pick → ℕ → ℕ → Pick) (pick : Pick) (k : ℕ) (durables presents : List ℕ) → length durables ≡ length presents
    → length (each_left left next pick k durables presents) ≡ length presents
length-each_left left next pick k [] [] e = refl
length-each_left left next pick k [] (p ∷ ps) e = absurd (omega arith)
length-each_left left next pick k (d ∷ ds) [] e = absurd (omega arith)
length-each_left left next pick k (d ∷ ds) (p ∷ ps) e = ap (λ n. suc n) (length-each_left left next (next k pick d p) (k + 1) ds ps (omega arith))

-- at each place stands what `left` gives there, with some pick
pub each_left_at : (left : ℕ → Pick → ℕ → ℕ → ℕ) (next : ℕ → Pick → ℕ → ℕ → Pick) (pick : Pick) (k : ℕ) (durables presents : List ℕ) (i : ℕ)
    → length durables ≡ length presents → i < length presents
    → (at : Pick) × (get_or (each_left left next pick k durables presents) i 0 ≡ left (k + i) at (get_or durables i 0) (get_or presents i 0))
each_left_at left next pick k [] [] i e l = absurd (omega arith)
each_left_at left next pick k [] (p ∷ ps) i e l = absurd (omega arith)
each_left_at left next pick k (d ∷ ds) [] i e l = absurd (omega arith)
each_left_at left next pick k (d ∷ ds) (p ∷ ps) zero e l = (pick, ap (λ n. left n pick d p) (omega arith))
each_left_at left next pick k (d ∷ ds) (p ∷ ps) (suc i) e l =
    let rest = each_left_at left next (next k pick d p) (k + 1) ds ps i (omega arith) (omega arith) in
    (rest.0, rest.1 ∙ ap (λ n. left n rest.0 (get_or ds i 0) (get_or ps i 0)) (omega arith))

-- the same where the two say the same at each place
pub same_each_left : (left left' : ℕ → Pick → ℕ → ℕ → ℕ) (next next' : ℕ → Pick → ℕ → ℕ → Pick) (pick : Pick) (k : ℕ) (durables presents : List ℕ)
    → ((i : ℕ) (p : Pick) (x y : ℕ) → k ≤ i → i < k + length presents → left i p x y ≡ left' i p x y)
    → ((i : ℕ) (p : Pick) (x y : ℕ) → k ≤ i → i < k + length presents → next i p x y ≡ next' i p x y)
    → (each_left left next pick k durables presents ≡ each_left left' next' pick k durables presents) × (after_each next pick k durables presents ≡ after_each next' pick k durables presents)
same_each_left left left' next next' pick k [] presents l n = (refl, refl)
same_each_left left left' next next' pick k (d ∷ ds) [] l n = (refl, refl)
same_each_left left left' next next' pick k (d ∷ ds) (p ∷ ps) l n =
    let here : left k pick d p ≡ left' k pick d p = l k pick d p (omega arith) (omega arith) in
    let step : next k pick d p ≡ next' k pick d p = n k pick d p (omega arith) (omega arith) in
    let rest = same_each_left left left' next next' (next' k pick d p) (k + 1) ds ps
    (λ i q x y a b. l i q x y (omega arith) (omega arith)) (λ i q x y a b. n i q x y (omega arith) (omega arith)) in (
      ap (λ w. w ∷ each_left left next (next k pick d p) (k + 1) ds ps) here
          ∙ ap (λ q. left' k pick d p ∷ each_left left next q (k + 1) ds ps) step
          ∙ ap (λ ws. left' k pick d p ∷ ws) rest.0,
      ap (λ q. after_each next q (k + 1) ds ps) step ∙ rest.1,
    )

-- A crash so far, up to a place: below it both copies are what is left, and from it on as they were.
pub record Leaving (left : ℕ → Pick → ℕ → ℕ → ℕ) (next : ℕ → Pick → ℕ → ℕ → Pick) (first : Pick) (durables presents : List ℕ) (pick : Pick) (durable present : List ℕ) (i : ℕ) : Type 0 where
  pub size : length durables ≡ length presents
  pub durable_size : length durable ≡ length presents
  pub present_size : length present ≡ length presents
  pub words : each_left left next first 0 durables presents ≡ take i present ++ each_left left next pick i (drop i durables) (drop i presents)
  pub picks : after_each next first 0 durables presents ≡ after_each next pick i (drop i durables) (drop i presents)
  pub same : take i durable ≡ take i present
  pub durable_rest : drop i durable ≡ drop i durables
  pub present_rest : drop i present ≡ drop i presents

at_place : (xs ys : List ℕ) (i : ℕ) → drop i xs ≡ drop i ys → get_or xs i 0 ≡ get_or ys i 0
at_place xs ys i e =
    let there : (zs : List ℕ) → get_or (drop i zs) 0 0 ≡ get_or zs i 0 = λ zs. get_or-drop i zs 0 0 ∙ ap (λ n. get_or zs n 0) (omega arith) in
    sym (there xs) ∙ ap (λ zs. get_or zs 0 0) e ∙ there ys

rest_more : (xs ys : List ℕ) (i word : ℕ) → drop i xs ≡ drop i ys → drop (i + 1) (set xs i word) ≡ drop (i + 1) ys
rest_more xs ys i word e = drop-set-lt (i + 1) xs i word (omega arith) ∙ sym (drop-drop 1 i xs) ∙ ap (λ zs. drop 1 zs) e ∙ drop-drop 1 i ys

pub leaving_none : (left : ℕ → Pick → ℕ → ℕ → ℕ) (next : ℕ → Pick → ℕ → ℕ → Pick) (first : Pick) (durables presents : List ℕ) → length durables ≡ length presents
    → Leaving left next first durables presents first durables presents 0
leaving_none left next first durables presents e = record {
  size = e;
  durable_size = e;
  present_size = refl;
  words = refl;
  picks = refl;
  same = refl;
  durable_rest = refl;
  present_rest = refl;
}

pub leaving_more : (left : ℕ → Pick → ℕ → ℕ → ℕ) (after : ℕ → Pick → ℕ → ℕ → Pick) (first : Pick) (durables presents : List ℕ) (pick next : Pick) (durable present : List ℕ) (i word : ℕ)
    → Leaving left after first durables presents pick durable present i → i < length presents
    → word ≡ left i pick (get_or durable i 0) (get_or present i 0) → next ≡ after i pick (get_or durable i 0) (get_or present i 0)
    → Leaving left after first durables presents next (set durable i word) (set present i word) (i + 1)
leaving_more left after first durables presents pick next durable present i word h l is behind =
    let x : ℕ = get_or durables i 0 in
    let y : ℕ = get_or presents i 0 in
    let dx : get_or durable i 0 ≡ x = at_place durable durables i h.durable_rest in
    let py : get_or present i 0 ≡ y = at_place present presents i h.present_rest in
    let first_d : drop i durables ≡ x ∷ drop (i + 1) durables = drop_more durables i 0 (omega (arith, h.size)) in
    let first_p : drop i presents ≡ y ∷ drop (i + 1) presents = drop_more presents i 0 l in
    let word_is : left i pick x y ≡ word = ap (λ v. left i pick v y) (sym dx) ∙ ap (λ v. left i pick (get_or durable i 0) v) (sym py) ∙ sym is in
    let next_is : after i pick x y ≡ next = ap (λ v. after i pick v y) (sym dx) ∙ ap (λ v. after i pick (get_or durable i 0) v) (sym py) ∙ sym behind in
    let rest : Pick → List ℕ = λ q. each_left left after q (i + 1) (drop (i + 1) durables) (drop (i + 1) presents) in
    record {
      size = h.size;
      durable_size = length-set durable i word ∙ h.durable_size;
      present_size = length-set present i word ∙ h.present_size;
      words = h.words
          ∙ ap (λ ds. take i present ++ each_left left after pick i ds (drop i presents)) first_d
          ∙ ap (λ ps. take i present ++ each_left left after pick i (x ∷ drop (i + 1) durables) ps) first_p
          ∙ ap (λ w. take i present ++ (w ∷ rest (after i pick x y))) word_is
          ∙ ap (λ n. take i present ++ (word ∷ rest n)) next_is
          ∙ sym (append_assoc (take i present) (word ∷ []) (rest next))
          ∙ ap (λ ws. ws ++ rest next) (sym (take_more_set present i word (omega (arith, h.present_size))));
      picks = h.picks
          ∙ ap (λ ds. after_each after pick i ds (drop i presents)) first_d
          ∙ ap (λ ps. after_each after pick i (x ∷ drop (i + 1) durables) ps) first_p
          ∙ ap (λ n. after_each after n (i + 1) (drop (i + 1) durables) (drop (i + 1) presents)) next_is;
      same = take_more_set durable i word (omega (arith, h.durable_size)) ∙ ap (λ ws. ws ++ word ∷ []) h.same ∙ sym (take_more_set present i word (omega (arith, h.present_size)));
      durable_rest = rest_more durable durables i word h.durable_rest;
      present_rest = rest_more present presents i word h.present_rest;
    }

pub leaving_all : (left : ℕ → Pick → ℕ → ℕ → ℕ) (next : ℕ → Pick → ℕ → ℕ → Pick) (first : Pick) (durables presents : List ℕ) (pick : Pick) (durable present : List ℕ) (i : ℕ)
    → Leaving left next first durables presents pick durable present i → length presents ≤ i
    → (present ≡ each_left left next first 0 durables presents) × (durable ≡ present) × (pick ≡ after_each next first 0 durables presents)
leaving_all left next first durables presents pick durable present i h l =
    let no_d : drop i durables ≡ [] = drop_all i durables (omega (arith, h.size)) in
    let no_p : drop i presents ≡ [] = drop_all i presents l in
    let all_p : take i present ≡ present = take_all i present (omega (arith, h.present_size)) in
    let all_d : take i durable ≡ durable = take_all i durable (omega (arith, h.durable_size)) in (
      sym (h.words ∙ ap (λ ds. take i present ++ each_left left next pick i ds (drop i presents)) no_d ∙ append-nil (take i present) ∙ all_p),
      sym all_d ∙ h.same ∙ all_p,
      sym (h.picks ∙ ap (λ ds. after_each next pick i ds (drop i presents)) no_d),
    )
