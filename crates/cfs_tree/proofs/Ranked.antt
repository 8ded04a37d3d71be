-- Numbers in the order of their ranks.
use Rattle.std.proofs.Common.{◌≡◌, ◌≢◌, ℕ, ◌+◌, ◌<◌, ◌≤◌, List, [], ◌∷◌, ◌++◌, length, refl, sym, ◌∙◌, ap, arith, true, false, nat_lt, inl, inr, ◌⊎◌}
use Rattle.std.proofs.lemmas.Bool.Decides.{eqb_tells}
use Rattle.std.proofs.lemmas.Bool.{cases_lt, lt-ltb, le-ltb}
use Rattle.cfs_tree.specs.Shape.{times}
use Rattle.cfs_tree.specs.Change.{Above, Ascends, insert_ranked, without}
use Rattle.cfs_tree.proofs.Standing.{times-here}

pub ltb_tells : (a b : ℕ) → ((nat_lt a b ≡ true) × (a < b)) ⊎ ((nat_lt a b ≡ false) × (b ≤ a))
ltb_tells a b = elim (cases_lt a b) [ inl lt ↦ inl (lt-ltb a b lt, lt) | inr ge ↦ inr (le-ltb _ _ ge, ge) ]

-- all of them rank below
abbrev pub Below : (ℕ → ℕ) → List ℕ → ℕ → Type 0
Below rank [] n = Unit {0}
Below rank (m ∷ ms) n = (rank m < rank n) × Below rank ms n

pub Above-back : (rank : ℕ → ℕ) (n : ℕ) (xs ys : List ℕ) → Above rank n (xs ++ ys) → Above rank n ys
Above-back rank n [] ys a = a
Above-back rank n (x ∷ xs) ys a = Above-back rank n xs ys a.1

pub Above-front : (rank : ℕ → ℕ) (n : ℕ) (xs ys : List ℕ) → Above rank n (xs ++ ys) → Above rank n xs
Above-front rank n [] ys a = tt
Above-front rank n (x ∷ xs) ys a = (a.0, Above-front rank n xs ys a.1)

pub Above-append : (rank : ℕ → ℕ) (n : ℕ) (xs ys : List ℕ) → Above rank n xs → Above rank n ys → Above rank n (xs ++ ys)
Above-append rank n [] ys a b = b
Above-append rank n (x ∷ xs) ys a b = (a.0, Above-append rank n xs ys a.1 b)

-- what ranks above the higher ranks above the lower
pub Above-lower : (rank : ℕ → ℕ) (low n : ℕ) (ns : List ℕ) → rank low ≤ rank n → Above rank n ns → Above rank low ns
Above-lower rank low n [] le a = tt
Above-lower rank low n (m ∷ ms) le a = (omega arith, Above-lower rank low n ms le a.1)

pub Ascends-front : (rank : ℕ → ℕ) (xs ys : List ℕ) → Ascends rank (xs ++ ys) → Ascends rank xs
Ascends-front rank [] ys s = tt
Ascends-front rank (x ∷ xs) ys s = (Above-front rank x xs ys s.0, Ascends-front rank xs ys s.1)

pub Ascends-back : (rank : ℕ → ℕ) (xs ys : List ℕ) → Ascends rank (xs ++ ys) → Ascends rank ys
Ascends-back rank [] ys s = s
Ascends-back rank (x ∷ xs) ys s = Ascends-back rank xs ys s.1

pub Ascends-below : (rank : ℕ → ℕ) (xs : List ℕ) (n : ℕ) (ys : List ℕ) → Ascends rank (xs ++ n ∷ ys) → Below rank xs n
Ascends-below rank [] n ys s = tt
Ascends-below rank (x ∷ xs) n ys s = ((Above-back rank x xs (n ∷ ys) s.0).0, Ascends-below rank xs n ys s.1)

-- a number that ranks otherwise is not among them
pub not_above : (rank : ℕ → ℕ) (n m : ℕ) (ns : List ℕ) → Above rank n ns → rank m ≤ rank n → times m ns ≡ 0
not_above rank n m [] a le = refl
not_above rank n m (x ∷ xs) a le = elim (eqb_tells m x) [
  | inl same ↦ let e : rank m ≡ rank x = ap rank same.1 in absurd (omega arith)
  | inr other ↦ let e = not_above rank n m xs a.1 le in rw (other.0, e) refl
]

pub not_below : (rank : ℕ → ℕ) (ns : List ℕ) (n m : ℕ) → Below rank ns n → rank n ≤ rank m → times m ns ≡ 0
not_below rank [] n m b le = refl
not_below rank (x ∷ xs) n m b le = elim (eqb_tells m x) [
  | inl same ↦ let e : rank m ≡ rank x = ap rank same.1 in absurd (omega arith)
  | inr other ↦ let e = not_below rank xs n m b.1 le in rw (other.0, e) refl
]

pub without-absent : (gone : ℕ) (ns : List ℕ) → times gone ns ≡ 0 → without gone ns ≡ ns
without-absent gone [] e = refl
without-absent gone (n ∷ ns) e = elim (eqb_tells gone n) [
  | inl same ↦ let one : times gone (n ∷ ns) ≡ 1 + times gone ns = rw same.0 refl in absurd (omega arith)
  | inr other ↦ let none : times gone (n ∷ ns) ≡ 0 + times gone ns = rw other.0 refl in
      let rest = without-absent gone ns (omega arith) in rw (other.0, rest) refl
]

pub without-append : (gone : ℕ) (xs ys : List ℕ) → without gone (xs ++ ys) ≡ without gone xs ++ without gone ys
without-append gone [] ys = refl
without-append gone (x ∷ xs) ys = elim (eqb_tells gone x) [
  | inl same ↦ let e = without-append gone xs ys in rw (same.0, e) refl
  | inr other ↦ let e = without-append gone xs ys in rw (other.0, e) refl
]

-- in the left side, in the node, in the right side
pub without-left : (rank : ℕ → ℕ) (gone at : ℕ) (xs ys : List ℕ) → Ascends rank (xs ++ at ∷ ys) → rank gone < rank at →
    without gone (xs ++ at ∷ ys) ≡ without gone xs ++ at ∷ ys
without-left rank gone at xs ys s lt =
    let back = Ascends-back rank xs (at ∷ ys) s in
    let e = without-append gone xs (at ∷ ys) in
    let absent : times gone ys ≡ 0 = not_above rank at gone ys back.0 (omega arith) in
    let rest = without-absent gone ys absent in
    elim (eqb_tells gone at) [
      | inl same ↦ let r : rank gone ≡ rank at = ap rank same.1 in absurd (omega arith)
      | inr other ↦ e ∙ rw (other.0, rest) refl
    ]

pub without-right : (rank : ℕ → ℕ) (gone at : ℕ) (xs ys : List ℕ) → Ascends rank (xs ++ at ∷ ys) → rank at ≤ rank gone → gone ≢ at →
    without gone (xs ++ at ∷ ys) ≡ xs ++ at ∷ without gone ys
without-right rank gone at xs ys s le apart =
    let below = Ascends-below rank xs at ys s in
    let e = without-append gone xs (at ∷ ys) in
    let front = without-absent gone xs (not_below rank xs at gone below le) in
    elim (eqb_tells gone at) [
      | inl same ↦ absurd (apart same.1)
      | inr other ↦ e ∙ rw (front, other.0) refl
    ]

pub without-here : (rank : ℕ → ℕ) (at : ℕ) (xs ys : List ℕ) → Ascends rank (xs ++ at ∷ ys) →
    without at (xs ++ at ∷ ys) ≡ xs ++ ys
without-here rank at xs ys s =
    let below = Ascends-below rank xs at ys s in
    let back = Ascends-back rank xs (at ∷ ys) s in
    let front = without-absent at xs (not_below rank xs at at below (omega arith)) in
    let rest = without-absent at ys (not_above rank at at ys back.0 (omega arith)) in
    elim (eqb_tells at at) [
      | inl same ↦ without-append at xs (at ∷ ys) ∙ rw (front, same.0, rest) refl
      | inr other ↦ absurd (other.1 refl)
    ]

pub insert-left : (rank : ℕ → ℕ) (new at : ℕ) (xs ys : List ℕ) → rank new < rank at →
    insert_ranked rank new (xs ++ at ∷ ys) ≡ insert_ranked rank new xs ++ at ∷ ys
insert-left rank new at [] ys lt = elim (ltb_tells (rank new) (rank at)) [
  | inl under ↦ rw under.0 refl
  | inr over ↦ absurd (omega arith)
]
insert-left rank new at (x ∷ xs) ys lt = elim (ltb_tells (rank new) (rank x)) [
  | inl under ↦ rw under.0 refl
  | inr over ↦ let e = insert-left rank new at xs ys lt in rw (over.0, e) refl
]

pub insert-past : (rank : ℕ → ℕ) (new : ℕ) (xs : List ℕ) (at : ℕ) (ys : List ℕ) → Below rank xs at → rank at ≤ rank new →
    insert_ranked rank new (xs ++ at ∷ ys) ≡ xs ++ at ∷ insert_ranked rank new ys
insert-past rank new [] at ys b le = elim (ltb_tells (rank new) (rank at)) [
  | inl under ↦ absurd (omega arith)
  | inr over ↦ rw over.0 refl
]
insert-past rank new (x ∷ xs) at ys b le = elim (ltb_tells (rank new) (rank x)) [
  | inl under ↦ absurd (omega arith)
  | inr over ↦ let e = insert-past rank new xs at ys b.1 le in rw (over.0, e) refl
]

pub insert-right : (rank : ℕ → ℕ) (new at : ℕ) (xs ys : List ℕ) → Ascends rank (xs ++ at ∷ ys) → rank at ≤ rank new →
    insert_ranked rank new (xs ++ at ∷ ys) ≡ xs ++ at ∷ insert_ranked rank new ys
insert-right rank new at xs ys s le = insert-past rank new xs at ys (Ascends-below rank xs at ys s) le

pub times-insert : (rank : ℕ → ℕ) (new n : ℕ) (ns : List ℕ) → times n (insert_ranked rank new ns) ≡ times n (new ∷ ns)
times-insert rank new n [] = refl
times-insert rank new n (m ∷ ms) = elim (ltb_tells (rank new) (rank m)) [
  | inl under ↦ rw under.0 refl
  | inr over ↦ let e = times-insert rank new n ms in rw over.0 (omega arith)
]

pub times-without : (gone n : ℕ) (ns : List ℕ) → times n (without gone ns) ≤ times n ns
times-without gone n [] = omega arith
times-without gone n (m ∷ ms) = elim (eqb_tells gone m) [
  | inl same ↦ let e = times-without gone n ms in rw same.0 (omega arith)
  | inr other ↦ let e = times-without gone n ms in rw other.0 (omega arith)
]

-- no other number rises or falls in count
pub times-without_other : (gone n : ℕ) (ns : List ℕ) → n ≢ gone → times n (without gone ns) ≡ times n ns
times-without_other gone n [] apart = refl
times-without_other gone n (m ∷ ms) apart = elim (eqb_tells gone m) [
  | inl same ↦ let e = times-without_other gone n ms apart in
      elim (eqb_tells n m) [
        | inl here ↦ absurd (apart (here.1 ∙ sym same.1))
        | inr there ↦ rw (same.0, there.0) (omega arith)
      ]
  | inr other ↦ let e = times-without_other gone n ms apart in rw other.0 (omega arith)
]

pub times-without_gone : (gone : ℕ) (ns : List ℕ) → times gone (without gone ns) ≡ 0
times-without_gone gone [] = refl
times-without_gone gone (m ∷ ms) = elim (eqb_tells gone m) [
  | inl same ↦ rw same.0 (times-without_gone gone ms)
  | inr other ↦ let e = times-without_gone gone ms in rw (other.0, other.0, e) refl
]

-- the order holds on

pub Above-insert : (rank : ℕ → ℕ) (n new : ℕ) (ns : List ℕ) → Above rank n ns → rank n < rank new → Above rank n (insert_ranked rank new ns)
Above-insert rank n new [] a lt = (lt, tt)
Above-insert rank n new (m ∷ ms) a lt = elim (ltb_tells (rank new) (rank m)) [
  | inl under ↦ rw under.0 (lt, a)
  | inr over ↦ rw over.0 (a.0, Above-insert rank n new ms a.1 lt)
]

-- the ranks differ from that of a new one
abbrev pub Apart : (ℕ → ℕ) → ℕ → List ℕ → Type 0
Apart rank new [] = Unit {0}
Apart rank new (m ∷ ms) = (rank m ≢ rank new) × Apart rank new ms

pub Ascends-insert : (rank : ℕ → ℕ) (new : ℕ) (ns : List ℕ) → Ascends rank ns → Apart rank new ns → Ascends rank (insert_ranked rank new ns)
Ascends-insert rank new [] s d = (tt, tt)
Ascends-insert rank new (m ∷ ms) s d = elim (ltb_tells (rank new) (rank m)) [
  | inl under ↦ rw under.0 ((under.1, Above-lower rank new m ms (omega arith) s.0), s)
  | inr over ↦ let ne = d.0 in
      let up : rank m < rank new = omega arith in
      rw over.0 (Above-insert rank m new ms s.0 up, Ascends-insert rank new ms s.1 d.1)
]

pub Above-without : (rank : ℕ → ℕ) (n gone : ℕ) (ns : List ℕ) → Above rank n ns → Above rank n (without gone ns)
Above-without rank n gone [] a = tt
Above-without rank n gone (m ∷ ms) a = elim (eqb_tells gone m) [
  | inl same ↦ rw same.0 (Above-without rank n gone ms a.1)
  | inr other ↦ rw other.0 (a.0, Above-without rank n gone ms a.1)
]

pub Ascends-without : (rank : ℕ → ℕ) (gone : ℕ) (ns : List ℕ) → Ascends rank ns → Ascends rank (without gone ns)
Ascends-without rank gone [] s = tt
Ascends-without rank gone (m ∷ ms) s = elim (eqb_tells gone m) [
  | inl same ↦ rw same.0 (Ascends-without rank gone ms s.1)
  | inr other ↦ rw other.0 (Above-without rank m gone ms s.0, Ascends-without rank gone ms s.1)
]

-- the same order, by ranks that are the same for them
pub Above-same : (rank other : ℕ → ℕ) (n : ℕ) (ns : List ℕ) → other n ≡ rank n →
    ((m : ℕ) → 0 < times m ns → other m ≡ rank m) → Above rank n ns → Above other n ns
Above-same rank other n [] here same a = tt
Above-same rank other n (m ∷ ms) here same a =
    let e = same m (let h = times-here m ms in omega arith) in
    (rw (here, e) a.0, Above-same rank other n ms here (λ k h. same k (omega arith)) a.1)

pub Ascends-same : (rank other : ℕ → ℕ) (ns : List ℕ) → ((m : ℕ) → 0 < times m ns → other m ≡ rank m) → Ascends rank ns → Ascends other ns
Ascends-same rank other [] same s = tt
Ascends-same rank other (n ∷ ns) same s = (
  Above-same rank other n ns (same n (let h = times-here n ns in omega arith)) (λ k h. same k (omega arith)) s.0,
  Ascends-same rank other ns (λ k h. same k (omega arith)) s.1,
)

pub Apart-all : (rank : ℕ → ℕ) (new : ℕ) (ns : List ℕ) → ((m : ℕ) → 0 < times m ns → rank m ≢ rank new) → Apart rank new ns
Apart-all rank new [] apart = tt
Apart-all rank new (n ∷ ns) apart =
    (apart n (let h = times-here n ns in omega arith), Apart-all rank new ns (λ k h. apart k (omega arith)))

pub length-insert : (rank : ℕ → ℕ) (new : ℕ) (ns : List ℕ) → length (insert_ranked rank new ns) ≡ length ns + 1
length-insert rank new [] = refl
length-insert rank new (n ∷ ns) = elim (ltb_tells (rank new) (rank n)) [
  | inl under ↦ rw under.0 (omega arith)
  | inr over ↦ let e = length-insert rank new ns in rw over.0 (omega arith)
]

pub length-without : (gone : ℕ) (ns : List ℕ) → length (without gone ns) + times gone ns ≡ length ns
length-without gone [] = refl
length-without gone (n ∷ ns) = elim (eqb_tells gone n) [
  | inl same ↦ let e = length-without gone ns in rw same.0 (omega arith)
  | inr other ↦ let e = length-without gone ns in rw other.0 (omega arith)
]
