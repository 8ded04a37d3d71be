-- What is in a list, by recursion.
use Rattle.std.proofs.Common.{◌≡◌, ◌⊎◌, inl, inr, ℕ, suc, zero, ◌<◌, List, [], ◌∷◌, length, get_or, arith, sym}
use Rattle.std.specs.List.{Contains}

abbrev pub Has : {X : Type 0} → List X → X → Type 0
Has [] x = ⊥
Has (y ∷ ys) x = (x ≡ y) ⊎ Has ys x

has-at : {X : Type 0} → (xs : List X) (x : X) (k : ℕ) → k < length xs → get_or xs k x ≡ x → Has xs x
has-at [] x k less is = absurd (omega arith)
has-at (y ∷ ys) x zero less is = inl (sym is)
has-at (y ∷ ys) x (suc k) less is = inr (has-at ys x k (omega arith) is)

pub has-contained : {X : Type 0} → (xs : List X) (x : X) → Contains xs x → Has xs x
has-contained xs x h = has-at xs x h.0 h.1 h.2

pub contains-had : {X : Type 0} → (xs : List X) (x : X) → Has xs x → Contains xs x
contains-had [] x h = absurd h
contains-had (y ∷ ys) x h = elim h [
  | inl same ↦ (0, omega arith, sym same)
  | inr later ↦ let c = contains-had ys x later in (suc c.0, omega (arith, c.1), c.2)
]
