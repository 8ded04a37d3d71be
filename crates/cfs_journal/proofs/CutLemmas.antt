-- What stands behind a later number.
use Rattle.std.proofs.Common.{◌≡◌, ◌⊎◌, ◌∙◌, inl, inr, ℕ, zero, suc, ◌+◌, ◌-◌, ◌%◌, ◌^◌, ◌<◌, ◌≤◌, List, [], ◌∷◌, length, drop, get_or, Option, refl, sym, ap, subst, arith}
use Rattle.std.specs.List.{slice_get}
use Rattle.std.proofs.lemmas.Bool.{cases_lt}
use Rattle.std.proofs.lemmas.List.{length-drop}
use Rattle.std.proofs.lemmas.Option.{slice_get-get_or}
use Rattle.cfs_dir.specs.declared.change.Change.{Change}
use Rattle.cfs_pmem.specs.Images.{Seen, WordStep, AllImages, IsImage}
use Rattle.cfs_pmem.specs.Objects.{seen_at}
use Rattle.cfs_journal.specs.Records.{Tells, gate_of}
use Rattle.cfs_journal.specs.Standing.{place, IsNext, IsSpent, Standing}

later-spent : (through t position : ℕ) (image : List ℕ) → through ≤ t → IsSpent through position image → IsSpent t position image
later-spent through t position image le spent = record { low = omega (arith, le, spent.low); placed = spent.placed }

later-next : (through t number position : ℕ) (doubt : Option Change) (image : List ℕ) → through ≤ t → IsNext through number position doubt image → IsNext t number position doubt image
later-next through t number position doubt image le next = record { opened = next.opened; shut = λ other. later-spent through t position image le (next.shut other) }

slice_get-drop : (j k : ℕ) (changes : List Change) → slice_get (drop j changes) k ≡ slice_get changes (j + k)
slice_get-drop zero k changes = let same : k ≡ 0 + k = omega arith in ap (λ (n : ℕ). slice_get changes n) same
slice_get-drop (suc j) k [] = refl
slice_get-drop (suc j) k (first ∷ changes) =
    let same : suc (j + k) ≡ suc j + k = omega arith in
    slice_get-drop j k changes ∙ ap (λ (n : ℕ). slice_get (first ∷ changes) n) same

-- a record that stood and whose number is passed is spent
passed : (t position number : ℕ) (change : Change) (image : List ℕ) → Tells number change image →
    number ≤ t → (number - 1) % 64 ≡ position → IsSpent t position image
passed t position number change image is low here =
    record {
      low = omega (arith, is.gate, low);
      placed = λ some. ap (λ (g : ℕ). (g - 1) % 64) is.gate ∙ here;
    }

pub cut_down : {through : ℕ} {changes : List Change} {doubt : Option Change} {seens : List (Seen WordStep)} (t : ℕ) (d : Change) → Standing through changes doubt seens
    → through ≤ t → t ≤ through + length changes → t < 2 ^ 63 → Standing t (drop (t - through) changes) doubt seens
cut_down {through} {changes} {doubt} {seens} t d s from most low = record {
  size = s.size;
  few = omega (arith, shorter, s.few);
  low = low;
  room_for_doubt = λ some. omega (arith, shorter, s.room_for_doubt some);
  words = s.words;
  distinct = s.distinct;
  told_doubt = s.told_doubt;
  live = λ k x is.
      let same : t + k ≡ through + (j + k) = omega arith in
      subst (λ n. AllImages (seen_at seens (n % 64)) (Tells (n + 1) x)) (sym same)
      (s.live (j + k) x (sym (slice_get-drop j k changes) ∙ is));
  next = λ less.
      let same : t + length (drop j changes) ≡ through + length changes = omega (arith, shorter) in
      subst (λ n. AllImages (seen_at seens (n % 64)) (IsNext t (n + 1) (n % 64) doubt)) (sym same) (next_later less (cases_lt (length changes) 64));
  spent = λ k above below.
      let same : t + k ≡ through + (j + k) = omega arith in
      subst (λ n. AllImages (seen_at seens (n % 64)) (IsSpent t (n % 64))) (sym same) (spent_later k (omega (arith, shorter, above)) below (cases_lt (j + k) 64));
}
  where
    j : ℕ
    j = t - through

    shorter : length (drop j changes) ≡ length changes - j
    shorter = length-drop j changes

    stands : (k : ℕ) → k < length changes →
        AllImages (seen_at seens (place through k)) (Tells (through + k + 1) (get_or changes k d))
    stands k l = s.live k (get_or changes k d) (slice_get-get_or changes k d l)

    next_later : length (drop j changes) < 64 → (length changes < 64) ⊎ (64 ≤ length changes) → AllImages (seen_at seens (place through (length changes))) (IsNext t (through + length changes + 1) (place through (length changes)) doubt)
    next_later fewer (inl less) = λ image possible. later-next through t (through + length changes + 1) (place through (length changes)) doubt image from (s.next less image possible)
    next_later fewer (inr full) = λ image possible.
        let all : length changes ≡ 64 = omega (arith, full, s.few) in
        let cut : through < t = omega (arith, fewer, shorter, all, from) in
        let here : (through + 0) % 64 ≡ (through + length changes) % 64 = omega (arith, all) in
        let first : Tells (through + 0 + 1) (get_or changes 0 d) image =
        stands 0 (omega (arith, all)) image (subst (λ p. IsImage (seen_at seens p).history image) (sym here) possible) in
        let gate : gate_of image ≡ through + 0 + 1 = first.gate in
        record {
          opened = λ is. absurd (omega (arith, gate, is, all));
          shut = λ other. record {
            low = omega (arith, gate, from, all, cut);
            placed = λ some. ap (λ (g : ℕ). (g - 1) % 64) gate ∙ omega (arith, here);
          };
        }

    spent_later : (k : ℕ) → length changes < j + k → k < 64 → (j + k < 64) ⊎ (64 ≤ j + k) → AllImages (seen_at seens (place through (j + k))) (IsSpent t (place through (j + k)))
    spent_later k above below (inl within) = λ image possible. later-spent through t (place through (j + k)) image from (s.spent (j + k) above within image possible)
    spent_later k above below (inr wrapped) = λ image possible.
        let i : ℕ = j + k - 64 in
        let here : (through + i) % 64 ≡ (through + (j + k)) % 64 = omega (arith, wrapped) in
        passed t (place through (j + k)) (through + i + 1) (get_or changes i d) image
        (stands i (omega (arith, most, below)) image (subst (λ p. IsImage (seen_at seens p).history image) (sym here) possible))
        (omega (arith, below)) (omega (arith, here))
