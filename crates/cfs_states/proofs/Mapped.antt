-- The blocks of a file, in either order.
use Rattle.std.proofs.Common.{◌≡◌, ◌≢◌, ◌∙◌, ℕ, zero, suc, ◌+◌, ◌-◌, ◌/◌, ◌%◌, ◌<◌, ◌≤◌, ◌⊎◌}
use Rattle.std.proofs.Common.{inl, inr, Bool, true, false, cond, Option, Some, None}
use Rattle.std.proofs.Common.{List, [], ◌∷◌, length, map, get_or, arith, refl, sym, ap, subst}
use Rattle.std.specs.Prelude.{◌==◌, filter, find}
use Rattle.std.specs.List.{All, cons_option, filter_map, range_with_len}
use Rattle.std.specs.List.Sorted.{IsPermutation}
use Rattle.std.specs.Option.{option_map}
use Rattle.std.proofs.lemmas.Bool.{cases_Bool, eqb-true}
use Rattle.std.proofs.lemmas.Bool.Decides.{nat_tests}
use Rattle.std.proofs.lemmas.List.Elements.{All-head, All-tail}
use Rattle.std.proofs.lemmas.List.Sorted.{IsPermutation-cons}
use Rattle.std.proofs.lemmas.List.Sorted.{IsPermutation-trans}
use Rattle.cfs_file.specs.declared.sizes.TheConstants.{FILE_BLOCKS}
use Rattle.cfs_pmem.specs.Images.{Seen}
use Rattle.cfs_block.specs.BlockImages.{BlockStep, IsSureBlock, content_of}
use Rattle.cfs_core.proofs.Order.{same_or_not}
use Rattle.cfs_medium.proofs.Has.{Has, contains-had}
use Rattle.cfs_medium.specs.Store.{tag_of}
use Rattle.cfs_inode.specs.New.{AreMapped, MappedSeen, seen_for}
use Rattle.cfs_states.specs.Shares.{is_of, mapped_of, share_of}
use Rattle.cfs_states.specs.Stored.{AreOnce, mapped_at, mapped_in, tagged_for}
use Rattle.cfs_states.proofs.Ranges.{filter_map-agree, filter_map-more, same-order}

abbrev Block : Type 0
Block = Seen BlockStep

abbrev tag : Block → ℕ
tag seen = (content_of seen).tag

-- 0, or the tag of one of the first n blocks of a file
abbrev pub IsTagBelow : ℕ → ℕ → Type 0
IsTagBelow n word =
    (word ≡ 0) ⊎ ((ino : ℕ) × (at : ℕ) × ((at < n) × (word ≡ tag_of ino at)))

-- ---- one block

of-file : (ino at word : ℕ) → at < 256 → word ≡ tag_of ino at → (word ≢ 0) × (word / 65536 ≡ ino)
of-file ino at word less is = (λ none. absurd (omega arith), omega arith)

number-of : (ino at word : ℕ) → at < 256 → word ≡ tag_of ino at → (word - 1) % 65536 ≡ at
number-of ino at word less is = omega arith

pub of-true : (ino : ℕ) (seen : Block) → tag seen ≢ 0 → tag seen / 65536 ≡ ino → is_of ino seen ≡ true
of-true ino seen some same = grind (arith, nat_tests)

pub true-of : (ino : ℕ) (seen : Block) → is_of ino seen ≡ true →
    (tag seen ≢ 0) × (tag seen / 65536 ≡ ino)
true-of ino seen is = (grind (arith, nat_tests), grind (arith, nat_tests))

-- a block of another file is tagged for no block of this one
beside-file : (ino at : ℕ) (seen : Block) → at < 256 → is_of ino seen ≡ false →
    (tag seen == tag_of ino at) ≡ false
beside-file ino at seen less other = elim (cases_Bool (tag seen == tag_of ino at)) [
  | inl same ↦
      let facts = of-file ino at (tag seen) less (eqb-true (tag seen) (tag_of ino at) same) in
      let clash : is_of ino seen ≡ true = of-true ino seen facts.0 facts.1 in absurd (cc)
  | inr differs ↦ differs
]

-- one of the file is tagged for one of its first n blocks
own-number : (n ino : ℕ) (seen : Block) → n ≤ 256 → IsTagBelow n (tag seen) →
    is_of ino seen ≡ true → (at : ℕ) × ((at < n) × (tag seen ≡ tag_of ino at))
own-number n ino seen most (inl none) own = absurd ((true-of ino seen own).0 none)
own-number n ino seen most (inr known) own =
    let facts = true-of ino seen own in
    let at = known.1 in
    let less : at < n = known.2.0 in
    let is : tag seen ≡ tag_of known.0 at = known.2.1 in
    (at, (less, (let second = facts.1 in omega arith)))

-- ---- the first block with a tag

pub find-tests : {X : Type 0} (p : X → Bool) (xs : List X) (x : X) → find p xs ≡ Some x →
    Has xs x × (p x ≡ true)
find-tests p [] x is = absurd (cc)
find-tests p (y ∷ ys) x is = elim (cases_Bool (p y)) [
  | inl here ↦
      let same : Some y ≡ Some x = rw here at is in
      let one : x ≡ y = cc in (inl one, ap p one ∙ here)
  | inr not_here ↦
      let later : find p ys ≡ Some x = rw not_here at is in
      let deeper = find-tests p ys x later in (inr deeper.0, deeper.1)
]

pub once-tail : (x : Block) (xs : List Block) → AreOnce (x ∷ xs) → AreOnce xs
once-tail x xs once first second d low high same some =
    let step = once (suc first) (suc second) d (omega arith) (omega arith) same some in omega arith

-- no other block has its tag
no-other : (ino at : ℕ) (x : Block) (xs : List Block) → AreOnce (x ∷ xs) → tag x ≡ tag_of ino at →
    (o : Option Block) → tagged_for ino xs at ≡ o → o ≡ None
no-other ino at x xs once is None found = refl
no-other ino at x xs once is (Some z) found =
    let facts = find-tests (λ seen. tag seen == tag_of ino at) xs z found in
    let place = contains-had xs z facts.0 in
    let same : tag z ≡ tag_of ino at = eqb-true (tag z) (tag_of ino at) facts.1 in
    let at_place : tag (get_or xs place.0 z) ≡ tag_of ino at = ap tag place.2 ∙ same in
    let less : place.0 < length xs = place.1 in
    absurd (omega (
      arith,
      once 0 (suc place.0) z (omega arith) (omega arith) (is ∙ sym at_place)
          (λ none. absurd (omega arith)),
    ))

-- ---- the blocks of a file are those that are tagged for it

found-first : (ino at : ℕ) (x : Block) (xs : List Block) → (tag x == tag_of ino at) ≡ true →
    mapped_at ino (x ∷ xs) at ≡ Some record { at = at; block = x }
found-first ino at x xs here = rw here refl

found-later : (ino at : ℕ) (x : Block) (xs : List Block) → (tag x == tag_of ino at) ≡ false →
    mapped_at ino (x ∷ xs) at ≡ mapped_at ino xs at
found-later ino at x xs other = rw other refl

same-tag : (a b : ℕ) → a ≡ b → (a == b) ≡ true
same-tag a b is = grind (arith, nat_tests)

other-tag : (ino at other : ℕ) (x : Block) → tag x ≡ tag_of ino at → other ≢ at →
    (tag x == tag_of ino other) ≡ false
other-tag ino at other x is differs =
    let apart : tag x ≢ tag_of ino other = λ same. absurd (differs (omega arith)) in
    grind (arith, nat_tests)

pub range-share : (n ino : ℕ) (blocks : List Block) → n ≤ 256 →
    All (λ seen. IsTagBelow n (tag seen)) blocks → AreOnce blocks →
    IsPermutation (filter_map (mapped_at ino blocks) (range_with_len 0 n)) (share_of ino blocks)
range-share n ino [] most tags once = same-order _ _ (none-mapped 0 n)
  where
    none-mapped : (a n : ℕ) → filter_map (mapped_at ino []) (range_with_len a n) ≡ []
    none-mapped a zero = refl
    none-mapped a (suc n) = none-mapped (a + 1) n
range-share n ino (x ∷ xs) most tags once = elim (cases_Bool (is_of ino x)) [
  | inl own ↦
      let known = own-number n ino x most
      (All-head (λ seen. IsTagBelow n (tag seen)) x xs tags) own in
      let at = known.0 in
      let less : at < n = known.1.0 in
      let is : tag x ≡ tag_of ino at = known.1.1 in
      let number : (tag x - 1) % 65536 ≡ at = number-of ino at (tag x) (omega arith) is in
      subst (λ (l : List MappedSeen).
      IsPermutation (filter_map (mapped_at ino (x ∷ xs)) (range_with_len 0 n)) l)
      (ap (λ (k : ℕ). record { at = k; block = x } ∷ share_of ino xs) (sym number)
      ∙ sym (ap (λ (b : Bool). map mapped_of (cond b (x ∷ filter (is_of ino) xs)
      (filter (is_of ino) xs))) own))
      (IsPermutation-trans _ _ _
      (filter_map-more (mapped_at ino (x ∷ xs)) (mapped_at ino xs) at
      (record { at = at; block = x }) 0 n (omega arith) (omega arith)
      (found-first ino at x xs (same-tag (tag x) (tag_of ino at) is))
      (ap (λ (o : Option Block). option_map (λ (seen : Block).
      let it : MappedSeen = record { at = at; block = seen } in it) o)
      (no-other ino at x xs once is (tagged_for ino xs at) refl))
      (λ k differs low high. found-later ino k x xs (other-tag ino at k x is differs)))
      (IsPermutation-cons _ _ _ (range-share n ino xs most (All-tail (λ seen. IsTagBelow n (tag seen)) x xs tags)
      (once-tail x xs once))))
  | inr other ↦
      subst (λ (l : List MappedSeen).
      IsPermutation (filter_map (mapped_at ino (x ∷ xs)) (range_with_len 0 n)) l)
      (sym (ap (λ (b : Bool). map mapped_of (cond b (x ∷ filter (is_of ino) xs)
      (filter (is_of ino) xs))) other))
      (subst (λ (l : List MappedSeen). IsPermutation l (share_of ino xs))
      (sym (filter_map-agree (mapped_at ino (x ∷ xs)) (mapped_at ino xs) 0 n
      (λ k low high. found-later ino k x xs (beside-file ino k x (omega arith) other))))
      (range-share n ino xs most (All-tail (λ seen. IsTagBelow n (tag seen)) x xs tags) (once-tail x xs once)))
]

pub in-share : (ino : ℕ) (blocks : List Block) →
    All (λ seen. IsTagBelow FILE_BLOCKS (tag seen)) blocks → AreOnce blocks →
    IsPermutation (mapped_in ino blocks) (share_of ino blocks)
unfolding mapped_in
in-share ino blocks tags once = range-share FILE_BLOCKS ino blocks (omega arith) tags once

-- ---- they ascend

lower : (ino low high : ℕ) (blocks : List MappedSeen) → low ≤ high → AreMapped ino high blocks →
    AreMapped ino low blocks
lower ino low high [] less are = tt
lower ino low high (mapped ∷ rest) less are = (
  record {
    above = (let above = are.0.above in omega arith);
    within = are.0.within;
    sure = are.0.sure;
    tag = are.0.tag;
  },
  are.1,
)

sure-in : (blocks : List Block) (seen : Block) → All IsSureBlock blocks → Has blocks seen →
    IsSureBlock seen
sure-in blocks seen sure has =
    let place = contains-had blocks seen has in
    subst IsSureBlock place.2 (sure place.0 seen place.1)

mapped-first : (ino : ℕ) (blocks : List Block) (low : ℕ) (rest : List MappedSeen) →
    low < FILE_BLOCKS → All IsSureBlock blocks → AreMapped ino (low + 1) rest →
    (o : Option Block) → tagged_for ino blocks low ≡ o →
    AreMapped ino low (cons_option (option_map (λ seen. record { at = low; block = seen }) o) rest)
mapped-first ino blocks low rest less sure later None found =
    lower ino low (low + 1) rest (omega arith) later
mapped-first ino blocks low rest less sure later (Some seen) found =
    let facts = find-tests (λ seen. tag seen == tag_of ino low) blocks seen found in (
      record {
        above = omega arith;
        within = less;
        sure = sure-in blocks seen sure facts.0;
        tag = eqb-true (tag seen) (tag_of ino low) facts.1;
      },
      later,
    )

range-mapped : (ino : ℕ) (blocks : List Block) (low n : ℕ) → low + n ≤ FILE_BLOCKS →
    All IsSureBlock blocks →
    AreMapped ino low (filter_map (mapped_at ino blocks) (range_with_len low n))
range-mapped ino blocks low zero most sure = tt
range-mapped ino blocks low (suc n) most sure =
    mapped-first ino blocks low (filter_map (mapped_at ino blocks) (range_with_len (low + 1) n))
    (omega arith) sure (range-mapped ino blocks (low + 1) n (omega arith) sure)
    (tagged_for ino blocks low) refl

pub in-mapped : (ino : ℕ) (blocks : List Block) → All IsSureBlock blocks →
    AreMapped ino 0 (mapped_in ino blocks)
unfolding mapped_in
in-mapped ino blocks sure = range-mapped ino blocks 0 FILE_BLOCKS (omega arith) sure

-- ---- which one stands for a block of the file

-- with one more, if it is one

abbrev cons_mapped : ℕ → Option Block → List MappedSeen → List MappedSeen
cons_mapped at o rest = cons_option (option_map (λ seen. record { at = at; block = seen }) o) rest

for-other : (a k : ℕ) (o : Option Block) (rest : List MappedSeen) → a ≢ k →
    seen_for (cons_mapped a o rest) k ≡ seen_for rest k
for-other a k None rest differs = refl
for-other a k (Some seen) rest differs =
    let is : (a == k) ≡ false = grind (arith, nat_tests) in rw is refl

for-own : (a : ℕ) (o : Option Block) (rest : List MappedSeen) → seen_for rest a ≡ None →
    seen_for (cons_mapped a o rest) a ≡ o
for-own a None rest none = none
for-own a (Some seen) rest none =
    let is : (a == a) ≡ true = grind (arith, nat_tests) in rw is refl

outside : (a n k : ℕ) → (k < a) ⊎ (a + suc n ≤ k) →
    (a ≢ k) × ((k < a + 1) ⊎ (a + 1 + n ≤ k))
outside a n k (inl less) = (λ same. absurd (omega arith), inl (omega arith))
outside a n k (inr past) = (λ same. absurd (omega arith), inr (omega arith))

none-for : (ino : ℕ) (blocks : List Block) (a n k : ℕ) → (k < a) ⊎ (a + n ≤ k) →
    seen_for (filter_map (mapped_at ino blocks) (range_with_len a n)) k ≡ None
none-for ino blocks a zero k out = refl
none-for ino blocks a (suc n) k out =
    let beyond = outside a n k out in
    for-other a k (tagged_for ino blocks a) _ beyond.0
    ∙ none-for ino blocks (a + 1) n k beyond.1

range-for : (ino : ℕ) (blocks : List Block) (a n k : ℕ) → a ≤ k → k < a + n →
    seen_for (filter_map (mapped_at ino blocks) (range_with_len a n)) k ≡ tagged_for ino blocks k
range-for ino blocks a zero k low high = absurd (omega arith)
range-for ino blocks a (suc n) k low high = elim (same_or_not a k) [
  | inl same ↦
      subst (λ (j : ℕ). seen_for (filter_map (mapped_at ino blocks) (range_with_len a (suc n))) j
      ≡ tagged_for ino blocks j) same
      (for-own a (tagged_for ino blocks a) _
      (none-for ino blocks (a + 1) n a (inl (omega arith))))
  | inr differs ↦
      for-other a k (tagged_for ino blocks a) _ differs
      ∙ (let apart : a ≢ k = differs in
      range-for ino blocks (a + 1) n k (omega arith) (omega arith))
]

pub in-for : (ino : ℕ) (blocks : List Block) (k : ℕ) → k < FILE_BLOCKS →
    seen_for (mapped_in ino blocks) k ≡ tagged_for ino blocks k
unfolding mapped_in
in-for ino blocks k less = range-for ino blocks 0 FILE_BLOCKS k (omega arith) (omega arith)

pub past-for : (ino : ℕ) (blocks : List Block) (k : ℕ) → FILE_BLOCKS ≤ k →
    seen_for (mapped_in ino blocks) k ≡ None
unfolding mapped_in
past-for ino blocks k past = none-for ino blocks 0 FILE_BLOCKS k (inr (omega arith))
