-- An entry is put where the first one stands whose gate is not less.
use Rattle.std.proofs.Common.{◌≡◌, inl, inr, ℕ, suc, ◌+◌, Bool, true, false, not, cond, nat_le, nat_lt, Some, None, List, [], ◌∷◌, length, arith, refl, ap, ◌∙◌}
use Rattle.std.specs.Prelude.{insert, position, unwrap_or}
use Rattle.std.specs.List.{position_or_len}
use Rattle.std.proofs.lemmas.Bool.{cases_Bool, cond-true, cond-false, ltb-false}
use Rattle.std.proofs.lemmas.List.Sums.{prefix_len-le-length}
use Rattle.cfs_file.specs.declared.request.Request.{Request}
use Rattle.cfs_medium.specs.Store.{put_by_gate}

put-here : (new : ℕ × Request) (b : Bool) (first : ℕ × Request) (rest : List (ℕ × Request)) (n : ℕ) → insert rest n new ≡ put_by_gate new rest →
    insert (first ∷ rest) (cond (not b) (1 + n) 0) new ≡ cond b (new ∷ (first ∷ rest)) (first ∷ put_by_gate new rest)
put-here new true first rest n later = refl
put-here new false first rest n later =
    let next : 1 + n ≡ suc n = omega arith in
    ap (λ (i : ℕ). insert (first ∷ rest) i new) next ∙ ap (λ (l : List (ℕ × Request)). first ∷ l) later

pub insert-put : (new : ℕ × Request) (xs : List (ℕ × Request)) → insert xs (position_or_len (λ e. nat_le new.0 e.0) xs) new ≡ put_by_gate new xs
insert-put new [] = refl
insert-put new (first ∷ rest) =
    put-here new (nat_le new.0 first.0) first rest (position_or_len (λ e. nat_le new.0 e.0) rest) (insert-put new rest)

pub unwrap_or-position : (p : ℕ × Request → Bool) (xs : List (ℕ × Request)) → unwrap_or (position p xs) (length xs) ≡ position_or_len p xs
unwrap_or-position p xs = elim (cases_Bool (nat_lt (position_or_len p xs) (length xs))) [
  | inl t ↦ ap (λ o. unwrap_or o (length xs)) (cond-true (nat_lt (position_or_len p xs) (length xs)) (Some (position_or_len p xs)) None t)
  | inr f ↦ ap (λ o. unwrap_or o (length xs)) (cond-false (nat_lt (position_or_len p xs) (length xs)) (Some (position_or_len p xs)) None f)
      ∙ (let low = ltb-false (position_or_len p xs) (length xs) f in let high = prefix_len-le-length (λ e. not (p e)) xs in omega arith)
]
