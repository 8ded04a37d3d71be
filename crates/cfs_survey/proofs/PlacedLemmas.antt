-- A node is put where the first one stands whose record is not below its own.
use Rattle.std.proofs.Common.{◌≡◌, ℕ, ◌+◌, suc, Bool, true, false, not, cond, inl, inr, List, []}
use Rattle.std.proofs.Common.{◌∷◌, length, nat_lt, Some, None, refl, ap, ◌∙◌, arith}
use Rattle.std.specs.Prelude.{insert, position, unwrap_or}
use Rattle.std.specs.List.{position_or_len}
use Rattle.std.proofs.lemmas.Bool.{cases_Bool, cond-true, cond-false, ltb-false}
use Rattle.std.proofs.lemmas.List.Sums.{prefix_len-le-length}
use Rattle.cfs_dir.specs.declared.node.Node.{Node}
use Rattle.cfs_dir.specs.Namespace.{placed}

put_here : (node : Node) (b : Bool) (first : Node) (rest : List Node) (n : ℕ) →
    insert rest n node ≡ placed node rest
    → insert (first ∷ rest) (cond (not (not b)) (1 + n) 0) node
    ≡ cond b (first ∷ placed node rest) (node ∷ first ∷ rest)
put_here node false first rest n later = refl
put_here node true first rest n later =
    let next : 1 + n ≡ suc n = omega arith in
    ap (λ (i : ℕ). insert (first ∷ rest) i node) next ∙ ap (λ (l : List Node). first ∷ l) later

pub insert-placed : (node : Node) (xs : List Node) →
    insert xs (position_or_len (λ x. not (nat_lt x.rec node.rec)) xs) node ≡ placed node xs
insert-placed node [] = refl
insert-placed node (first ∷ rest) =
    put_here node (nat_lt first.rec node.rec) first rest
    (position_or_len (λ x. not (nat_lt x.rec node.rec)) rest) (insert-placed node rest)

pub unwrap_or-position : (p : Node → Bool) (xs : List Node) →
    unwrap_or (position p xs) (length xs) ≡ position_or_len p xs
unwrap_or-position p xs = elim (cases_Bool (nat_lt (position_or_len p xs) (length xs))) [
  | inl t ↦
      ap (λ o. unwrap_or o (length xs))
      (cond-true (nat_lt (position_or_len p xs) (length xs)) (Some (position_or_len p xs)) None t)
  | inr f ↦
      ap (λ o. unwrap_or o (length xs))
      (cond-false (nat_lt (position_or_len p xs) (length xs)) (Some (position_or_len p xs)) None f)
      ∙ (let low = ltb-false (position_or_len p xs) (length xs) f in let high =
      prefix_len-le-length (λ e. not (p e)) xs in omega arith)
]
