-- Elements of a list, what `find` finds, and both in the list of nodes with one more or one less.
use Rattle.std.proofs.Common.{◌≡◌, List, [], ◌∷◌, Bool, true, false, cond, ◌⊎◌, inl, inr, refl, sym, ◌∙◌, ap, subst}
use Rattle.std.specs.Prelude.{Some, None, All, find, filter, nat_lt}
use Rattle.std.specs.List.{list_any}
use Rattle.std.proofs.lemmas.Bool.{cases_Bool, cond-true, cond-false, or_from, or_parts}
use Rattle.std.proofs.lemmas.List.Elements.{All-head, All-tail, All-cons, All-nil}
use Rattle.cfs_dir.specs.declared.node.Node.{Node}
use Rattle.cfs_dir.specs.Namespace.{placed}

-- x is an element of the list
abbrev pub In : {X : Type 0} → List X → X → Type 0
In [] x = ⊥
In (y ∷ ys) x = (y ≡ x) ⊎ In ys x

pub All-In : {X : Type 0} (P : X → Type 0) (xs : List X) (x : X) → All P xs → In xs x → P x
All-In P [] x h m = absurd m
All-In P (y ∷ ys) x h m = elim m [
  | inl same ↦ subst P same (All-head P y ys h)
  | inr rest ↦ All-In P ys x (All-tail P y ys h) rest
]

pub All-from_In : {X : Type 0} (P : X → Type 0) (xs : List X) → ((x : X) → In xs x → P x) → All P xs
All-from_In P [] h = All-nil P
All-from_In P (y ∷ ys) h = All-cons P y ys (h y (inl refl)) (All-from_In P ys (λ x m. h x (inr m)))

pub find-Some : {X : Type 0} (p : X → Bool) (xs : List X) (x : X) → find p xs ≡ Some x → In xs x × (p x ≡ true)
find-Some p [] x e = absurd (cc)
find-Some p (y ∷ ys) x e = elim (cases_Bool (p y)) [
  | inl t ↦ let same : y ≡ x = let h = cond-true (p y) (Some y) (find p ys) t in cc in
      (inl same, subst (λ z. p z ≡ true) same t)
  | inr f ↦ let rest = find-Some p ys x (sym (cond-false (p y) (Some y) (find p ys) f) ∙ e) in (inr rest.0, rest.1)
]

pub find-None : {X : Type 0} (p : X → Bool) (xs : List X) (x : X) → find p xs ≡ None → In xs x → p x ≡ false
find-None p [] x e m = absurd m
find-None p (y ∷ ys) x e m = elim (cases_Bool (p y)) [
  | inl t ↦ absurd (let h = cond-true (p y) (Some y) (find p ys) t in cc)
  | inr f ↦ elim m [
    | inl same ↦ subst (λ z. p z ≡ false) same f
    | inr rest ↦ find-None p ys x (sym (cond-false (p y) (Some y) (find p ys) f) ∙ e) rest
  ]
]

pub find-none_of : {X : Type 0} (p : X → Bool) (xs : List X) → ((x : X) → In xs x → p x ≡ false) → find p xs ≡ None
find-none_of p [] h = refl
find-none_of p (y ∷ ys) h =
    cond-false (p y) (Some y) (find p ys) (h y (inl refl)) ∙ find-none_of p ys (λ x m. h x (inr m))

pub In-filter : {X : Type 0} (keep : X → Bool) (xs : List X) (x : X) → In (filter keep xs) x → In xs x × (keep x ≡ true)
In-filter keep [] x m = absurd m
In-filter keep (y ∷ ys) x m = elim (cases_Bool (keep y)) [
  | inl t ↦ elim (subst (λ zs. In zs x) (cond-true (keep y) (y ∷ filter keep ys) (filter keep ys) t) m) [
    | inl same ↦ (inl same, subst (λ z. keep z ≡ true) same t)
    | inr rest ↦ let r = In-filter keep ys x rest in (inr r.0, r.1)
  ]
  | inr f ↦ let r = In-filter keep ys x (subst (λ zs. In zs x) (cond-false (keep y) (y ∷ filter keep ys) (filter keep ys) f) m) in
      (inr r.0, r.1)
]

pub In-kept : {X : Type 0} (keep : X → Bool) (xs : List X) (x : X) → In xs x → keep x ≡ true → In (filter keep xs) x
In-kept keep [] x m k = absurd m
In-kept keep (y ∷ ys) x m k = elim (cases_Bool (keep y)) [
  | inl t ↦ subst (λ zs. In zs x) (sym (cond-true (keep y) (y ∷ filter keep ys) (filter keep ys) t)) (elim m [
    | inl same ↦ inl same
    | inr rest ↦ inr (In-kept keep ys x rest k)
  ])
  | inr f ↦ subst (λ zs. In zs x) (sym (cond-false (keep y) (y ∷ filter keep ys) (filter keep ys) f)) (elim m [
    | inl same ↦ absurd (let h = subst (λ z. keep z ≡ true) (sym same) k in cc)
    | inr rest ↦ In-kept keep ys x rest k
  ])
]

pub list_any-In : {X : Type 0} (p : X → Bool) (xs : List X) (x : X) → list_any p xs ≡ false → In xs x → p x ≡ false
list_any-In p [] x h m = absurd m
list_any-In p (y ∷ ys) x h m = let parts = or_parts (p y) (list_any p ys) h in elim m [
  | inl same ↦ subst (λ z. p z ≡ false) same parts.0
  | inr rest ↦ list_any-In p ys x parts.1 rest
]

pub list_any-none : {X : Type 0} (p : X → Bool) (xs : List X) → ((x : X) → In xs x → p x ≡ false) → list_any p xs ≡ false
list_any-none p [] h = refl
list_any-none p (y ∷ ys) h = or_from (p y) (list_any p ys) (h y (inl refl)) (list_any-none p ys (λ x m. h x (inr m)))

-- what `find` finds stays found where it is kept
pub find-filter_kept : {X : Type 0} (p keep : X → Bool) (xs : List X) (x : X) → find p xs ≡ Some x → keep x ≡ true
    → find p (filter keep xs) ≡ Some x
find-filter_kept p keep [] x e k = absurd (cc)
find-filter_kept p keep (y ∷ ys) x e k = elim (cases_Bool (p y)) [
  | inl t ↦ let same : y ≡ x = let h = cond-true (p y) (Some y) (find p ys) t in cc in
      let ky = subst (λ z. keep z ≡ true) (sym same) k in
      rw (cond-true (keep y) (y ∷ filter keep ys) (filter keep ys) ky) (cond-true (p y) (Some y) (find p (filter keep ys)) t ∙ ap (λ z. Some z) same)
  | inr f ↦ let rest = find-filter_kept p keep ys x (sym (cond-false (p y) (Some y) (find p ys) f) ∙ e) k in
      elim (cases_Bool (keep y)) [
        | inl kt ↦ rw (cond-true (keep y) (y ∷ filter keep ys) (filter keep ys) kt) (cond-false (p y) (Some y) (find p (filter keep ys)) f ∙ rest)
        | inr kf ↦ rw (cond-false (keep y) (y ∷ filter keep ys) (filter keep ys) kf) rest
      ]
]

-- and nothing is found where what it finds is dropped and nothing else passes
pub find-filter_gone : {X : Type 0} (p keep : X → Bool) (xs : List X) (x : X) → keep x ≡ false
    → ((y : X) → In xs y → p y ≡ true → y ≡ x) → find p (filter keep xs) ≡ None
find-filter_gone p keep xs x k only = find-none_of p (filter keep xs) (λ y m. let r = In-filter keep xs y m in elim (cases_Bool (p y)) [
  | inl t ↦ let same = only y r.0 t in absurd (let h = ap keep same in let g = r.1 in cc)
  | inr f ↦ f
])

pub In-placed : (node : Node) (nodes : List Node) (x : Node) → In (placed node nodes) x → (node ≡ x) ⊎ In nodes x
In-placed node [] x m = m
In-placed node (first ∷ rest) x m = elim (cases_Bool (nat_lt first.rec node.rec)) [
  | inl t ↦ elim (subst (λ zs. In zs x) (cond-true (nat_lt first.rec node.rec) (first ∷ placed node rest) (node ∷ first ∷ rest) t) m) [
    | inl same ↦ inr (inl same)
    | inr deeper ↦ elim (In-placed node rest x deeper) [ inl same ↦ inl same | inr r ↦ inr (inr r) ]
  ]
  | inr f ↦ subst (λ zs. In zs x) (cond-false (nat_lt first.rec node.rec) (first ∷ placed node rest) (node ∷ first ∷ rest) f) m
]

pub find-placed_other : (p : Node → Bool) (node : Node) (nodes : List Node) → p node ≡ false → find p (placed node nodes) ≡ find p nodes
find-placed_other p node [] f = cond-false (p node) (Some node) None f
find-placed_other p node (first ∷ rest) f = elim (cases_Bool (nat_lt first.rec node.rec)) [
  | inl t ↦ rw (cond-true (nat_lt first.rec node.rec) (first ∷ placed node rest) (node ∷ first ∷ rest) t) (ap (λ z. cond (p first) (Some first) z) (find-placed_other p node rest f))
  | inr g ↦ rw (cond-false (nat_lt first.rec node.rec) (first ∷ placed node rest) (node ∷ first ∷ rest) g) (cond-false (p node) (Some node) (find p (first ∷ rest)) f)
]

pub find-placed_same : (p : Node → Bool) (node : Node) (nodes : List Node) → p node ≡ true → find p nodes ≡ None
    → find p (placed node nodes) ≡ Some node
find-placed_same p node [] t e = cond-true (p node) (Some node) None t
find-placed_same p node (first ∷ rest) t e = elim (cases_Bool (p first)) [
  | inl pt ↦ absurd (let h = cond-true (p first) (Some first) (find p rest) pt in cc)
  | inr pf ↦ elim (cases_Bool (nat_lt first.rec node.rec)) [
    | inl lt ↦ rw (cond-true (nat_lt first.rec node.rec) (first ∷ placed node rest) (node ∷ first ∷ rest) lt)
        (cond-false (p first) (Some first) (find p (placed node rest)) pf ∙ find-placed_same p node rest t (sym (cond-false (p first) (Some first) (find p rest) pf) ∙ e))
    | inr ge ↦ rw (cond-false (nat_lt first.rec node.rec) (first ∷ placed node rest) (node ∷ first ∷ rest) ge) (cond-true (p node) (Some node) (find p (first ∷ rest)) t)
  ]
]
