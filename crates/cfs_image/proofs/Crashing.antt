-- Objects that lose power one after another.
use Rattle.std.proofs.Common.{ℕ, ◌+◌, ◌<◌, ◌≤◌, ◌≡◌, ◌≢◌, ◌∙◌, List, [], ◌∷◌, ◌++◌, length, take, drop, map, get_or, set, inl, inr, refl, sym, ap, subst, arith, append_assoc}
use Rattle.std.proofs.lemmas.Bool.{cases_lt}
use Rattle.std.proofs.lemmas.List.{append-nil, drop_all, drop_more, ext_get_or, get_or_at, get_or-map, get_or-set_other, get_or-set_same, length-map, length-take-le, map-set, set_at, set-get_or, take_all, take_more}
use Rattle.cfs_pmem.specs.declared.pick.Pick.{Pick}
use Rattle.cfs_pmem.specs.Images.{Seen, WordStep, began, words_of}
use Rattle.cfs_block.specs.BlockImages.{BlockStep}
use Rattle.std.specs.List.{range_with_len}
use Rattle.cfs_image.specs.Layout.{region_words}
use Rattle.cfs_image.specs.Store.{IsSized, IsStore}
use Rattle.cfs_image.specs.Crash.{all_left, after_all, region_left, after_region, block_left_of, after_block_of, regions_left, blocks_left, AreImages}

-- the first i of the old objects were left, and the others stand as they were
pub record IsLeft {Step : Type 0} (left : Pick → Seen Step → Seen Step) (after : Pick → Seen Step → Pick) (first : Pick) (old : List (Seen Step)) (pick : Pick) (now : List (Seen Step)) (i : ℕ) : Type 0 where
  pub states : now ≡ all_left left after first (take i old) ++ drop i old
  pub picks : pick ≡ after_all after first (take i old)

length-all_left : {Step : Type 0} (left : Pick → Seen Step → Seen Step) (after : Pick → Seen Step → Pick) (pick : Pick) (xs : List (Seen Step)) → length (all_left left after pick xs) ≡ length xs
length-all_left left after pick [] = refl
length-all_left left after pick (x ∷ xs) = omega (arith, length-all_left left after (after pick x) xs)

left_push : {Step : Type 0} (left : Pick → Seen Step → Seen Step) (after : Pick → Seen Step → Pick) (pick : Pick) (xs : List (Seen Step)) (x : Seen Step)
    → all_left left after pick (xs ++ x ∷ []) ≡ all_left left after pick xs ++ left (after_all after pick xs) x ∷ []
left_push left after pick [] x = refl
left_push left after pick (y ∷ xs) x = ap (λ ys. left pick y ∷ ys) (left_push left after (after pick y) xs x)

after_push : {Step : Type 0} (after : Pick → Seen Step → Pick) (pick : Pick) (xs : List (Seen Step)) (x : Seen Step) → after_all after pick (xs ++ x ∷ []) ≡ after (after_all after pick xs) x
after_push after pick [] x = refl
after_push after pick (y ∷ xs) x = after_push after (after pick y) xs x

pub left_none : {Step : Type 0} (left : Pick → Seen Step → Seen Step) (after : Pick → Seen Step → Pick) (pick : Pick) (old : List (Seen Step)) → IsLeft left after pick old pick old 0
left_none left after pick old = record { states = refl; picks = refl }

-- the state at i is still the old one
still : {Step : Type 0} (left : Pick → Seen Step → Seen Step) (after : Pick → Seen Step → Pick) (first : Pick) (old : List (Seen Step)) (pick : Pick) (now : List (Seen Step)) (i : ℕ) (d : Seen Step)
    → IsLeft left after first old pick now i → i < length old → now ≡ all_left left after first (take i old) ++ get_or old i d ∷ drop (i + 1) old
still left after first old pick now i d h l = h.states ∙ ap (λ xs. all_left left after first (take i old) ++ xs) (drop_more old i d l)

front : {Step : Type 0} (left : Pick → Seen Step → Seen Step) (after : Pick → Seen Step → Pick) (first : Pick) (old : List (Seen Step)) (i : ℕ) → i < length old → length (all_left left after first (take i old)) ≡ i
front left after first old i l = length-all_left left after first (take i old) ∙ length-take-le i old (omega arith)

pub still_at : {Step : Type 0} (left : Pick → Seen Step → Seen Step) (after : Pick → Seen Step → Pick) (first : Pick) (old : List (Seen Step)) (pick : Pick) (now : List (Seen Step)) (i : ℕ) (d : Seen Step)
    → IsLeft left after first old pick now i → i < length old → get_or now i d ≡ get_or old i d
still_at left after first old pick now i d h l =
    ap (λ xs. get_or xs i d) (still left after first old pick now i d h l)
    ∙ get_or_at (all_left left after first (take i old)) (get_or old i d) (drop (i + 1) old) d i (front left after first old i l)

pub left_more : {Step : Type 0} (left : Pick → Seen Step → Seen Step) (after : Pick → Seen Step → Pick) (first : Pick) (old : List (Seen Step)) (pick next : Pick) (now : List (Seen Step)) (i : ℕ) (d state : Seen Step)
    → IsLeft left after first old pick now i → i < length old → state ≡ left pick (get_or now i d) → next ≡ after pick (get_or now i d)
    → IsLeft left after first old next (set now i state) (i + 1)
left_more left after first old pick next now i d state h l is then =
    let was : get_or now i d ≡ get_or old i d = still_at left after first old pick now i d h l in
    let more = take_more old i d l in
    let made : state ≡ left (after_all after first (take i old)) (get_or old i d) = is ∙ ap (λ x. left pick x) was ∙ ap (λ p. left p (get_or old i d)) h.picks in
    record {
      states =
          ap (λ xs. set xs i state) (still left after first old pick now i d h l)
          ∙ set_at (all_left left after first (take i old)) (get_or old i d) (drop (i + 1) old) state i (front left after first old i l)
          ∙ ap (λ x. all_left left after first (take i old) ++ x ∷ drop (i + 1) old) made
          ∙ sym (append_assoc (all_left left after first (take i old)) (left (after_all after first (take i old)) (get_or old i d) ∷ []) (drop (i + 1) old))
          ∙ ap (λ xs. xs ++ drop (i + 1) old) (sym (left_push left after first (take i old) (get_or old i d)))
          ∙ ap (λ xs. all_left left after first xs ++ drop (i + 1) old) (sym more);
      picks =
          then ∙ ap (λ x. after pick x) was ∙ ap (λ p. after p (get_or old i d)) h.picks
          ∙ sym (after_push after first (take i old) (get_or old i d))
          ∙ ap (λ xs. after_all after first xs) (sym more);
    }

pub left_all : {Step : Type 0} (left : Pick → Seen Step → Seen Step) (after : Pick → Seen Step → Pick) (first : Pick) (old : List (Seen Step)) (pick : Pick) (now : List (Seen Step)) (i : ℕ)
    → IsLeft left after first old pick now i → length old ≤ i → (now ≡ all_left left after first old) × (pick ≡ after_all after first old)
left_all left after first old pick now i h l =
    let all : take i old ≡ old = take_all i old l in (
      h.states ∙ ap (λ xs. all_left left after first (take i old) ++ xs) (drop_all i old l) ∙ append-nil (all_left left after first (take i old)) ∙ ap (λ xs. all_left left after first xs) all,
      h.picks ∙ ap (λ xs. after_all after first xs) all,
    )

-- a fact of each old state and the one in its place, one place more
pub pairs_more : {X : Type 0} (P : X → X → Type 0) (old now : List X) (i : ℕ) (state : X) → i < length old → i < length now
    → ((d : X) → P (get_or old i d) state) → ((k : ℕ) (d e : X) → k < i → P (get_or old k d) (get_or now k e))
    → (k : ℕ) (d e : X) → k < i + 1 → P (get_or old k d) (get_or (set now i state) k e)
pairs_more P old now i state l m here below k d e lt = elim (cases_lt k i) [
  | inl low ↦
      let other : k ≢ i = omega arith in
      subst (λ x. P (get_or old k d) x) (sym (get_or-set_other now i k state e other)) (below k d e low)
  | inr high ↦
      let same : i ≡ k = omega arith in
      subst (λ (n : ℕ). P (get_or old n d) (get_or (set now i state) n e)) same
      (subst (λ x. P (get_or old i d) x) (sym (get_or-set_same now i state e m)) (here d))
]

-- what an object keeps, all keep
pub kept_more : {X : Type 0} (f : X → ℕ) (now : List X) (i : ℕ) (d x : X) → i < length now → f x ≡ f (get_or now i d) → map f (set now i x) ≡ map f now
kept_more f now i d x l same =
    map-set f now i x ∙ ap (λ (n : ℕ). set (map f now) i n) (same ∙ sym (get_or-map f now i d 0 l)) ∙ set-get_or (map f now) i 0

-- one object more loses power: it is left as the pick says, and an image of it
pub crash_more : {Step X : Type 0} (seen : X → Seen Step) (left : Pick → Seen Step → Seen Step) (after : Pick → Seen Step → Pick) (Image : Seen Step → Seen Step → Type 0)
    (first : Pick) (old : List (Seen Step)) (pick next : Pick) (items : List X) (i : ℕ) (x y : X)
    → IsLeft left after first old pick (map seen items) i → i < length items → length items ≡ length old → get_or items i x ≡ x
    → seen y ≡ left pick (seen x) → next ≡ after pick (seen x) → Image (seen x) (seen y)
    → ((k : ℕ) (d e : Seen Step) → k < i → Image (get_or old k d) (get_or (map seen items) k e))
    → IsLeft left after first old next (map seen (set items i y)) (i + 1)
    × ((k : ℕ) (d e : Seen Step) → k < i + 1 → Image (get_or old k d) (get_or (map seen (set items i y)) k e))
crash_more {Step = Step} seen left after Image first old pick next items i x y h l size at is then image below =
    let n : ℕ = length items in
    let in_old : i < length old = omega arith in
    let in_now : i < length (map seen items) = omega (arith, length-map items seen) in
    let now : (d : Seen Step) → get_or (map seen items) i d ≡ seen x = λ d. get_or-map seen items i x d l ∙ ap seen at in
    let was : (d : Seen Step) → get_or old i d ≡ seen x = λ d. sym (still_at left after first old pick (map seen items) i d h in_old) ∙ now d in
    let written : map seen (set items i y) ≡ set (map seen items) i (seen y) = map-set seen items i y in (
      subst (λ xs. IsLeft left after first old next xs (i + 1)) (sym written)
          (left_more left after first old pick next (map seen items) i (seen x) (seen y) h in_old
          (is ∙ ap (λ s. left pick s) (sym (now (seen x)))) (then ∙ ap (λ s. after pick s) (sym (now (seen x))))),
      subst (λ xs. (k : ℕ) (d e : Seen Step) → k < i + 1 → Image (get_or old k d) (get_or xs k e)) (sym written)
          (pairs_more Image old (map seen items) i (seen y) in_old in_now (λ d. subst (λ s. Image s (seen y)) (sym (was d)) image) below),
    )

-- a crash keeps the numbers of devices
devices_left : {Step : Type 0} (left : Pick → Seen Step → Seen Step) (after : Pick → Seen Step → Pick) (pick : Pick) (xs : List (Seen Step))
    → ((p : Pick) (s : Seen Step) → (left p s).device ≡ s.device) → map (λ seen. seen.device) (all_left left after pick xs) ≡ map (λ seen. seen.device) xs
devices_left left after pick [] same = refl
devices_left left after pick (x ∷ xs) same =
    ap (λ (n : ℕ). n ∷ map (λ seen. seen.device) (all_left left after (after pick x) xs)) (same pick x)
    ∙ ap (λ (ns : List ℕ). x.device ∷ ns) (devices_left left after (after pick x) xs same)

-- images have the sizes of what they are images of
sizes_left : (old new : List (Seen WordStep)) → length new ≡ length old → AreImages old new
    → map (λ seen. length (words_of seen)) new ≡ map (λ seen. length (words_of seen)) old
sizes_left old new same images =
    let size : Seen WordStep → ℕ = λ seen. length (words_of seen) in
    let none : Seen WordStep = began 0 [] in
    let many : length (map size new) ≡ length (map size old) = length-map new size ∙ same ∙ sym (length-map old size) in
    ext_get_or 0 (map size new) (map size old) many
    (λ k l.
    let in_new : k < length new = omega (arith, length-map new size) in
    let in_old : k < length old = omega arith in
    get_or-map size new k none 0 in_new ∙ (images k none none in_old).size ∙ sym (get_or-map size old k none 0 in_old))

-- what a crash leaves of a store is a store
pub store_left : (first behind : Pick) (old new : List (Seen WordStep)) (old_blocks new_blocks : List (Seen BlockStep)) (old_numbers new_numbers : List ℕ)
    → IsStore old old_blocks old_numbers → new ≡ regions_left first old → AreImages old new → new_blocks ≡ blocks_left behind old_blocks → new_numbers ≡ old_numbers
    → IsStore new new_blocks new_numbers
store_left first behind old new old_blocks new_blocks old_numbers new_numbers store regions images blocks numbers =
    let many : length new ≡ length old = ap (λ (xs : List (Seen WordStep)). length xs) regions ∙ length-all_left region_left after_region first old in
    let many_blocks : length new_blocks ≡ length old_blocks =
    ap (λ (xs : List (Seen BlockStep)). length xs) blocks ∙ length-all_left block_left_of after_block_of behind old_blocks in
    record {
      sized = subst (λ (n : ℕ). IsSized n (length new_blocks)) (sym many) (subst (λ (n : ℕ). IsSized (length old) n) (sym many_blocks) store.sized);
      devices =
          ap (λ (xs : List (Seen WordStep)). map (λ seen. seen.device) xs) regions
          ∙ devices_left region_left after_region first old (λ p s. refl)
          ∙ store.devices ∙ ap (λ (n : ℕ). range_with_len 0 n) (sym many);
      sizes = sizes_left old new many images ∙ store.sizes ∙ ap (λ (n : ℕ). map region_words (range_with_len 0 n)) (sym many);
      block_devices =
          ap (λ (xs : List (Seen BlockStep)). map (λ seen. seen.device) xs) blocks
          ∙ devices_left block_left_of after_block_of behind old_blocks (λ p s. refl)
          ∙ store.block_devices
          ∙ ap (λ (n : ℕ). range_with_len n (length old_blocks)) (sym many)
          ∙ ap (λ (n : ℕ). range_with_len (length new) n) (sym many_blocks);
      own_numbers = numbers ∙ store.own_numbers ∙ ap (λ (n : ℕ). range_with_len 0 n) (sym many_blocks);
    }
