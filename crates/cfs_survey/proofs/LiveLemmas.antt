-- An entry is put where the first one stands that does not come before it.
use Rattle.std.proofs.Common.{◌≡◌, ℕ, ◌+◌, suc, Bool, true, false, not, cond, inl}
use Rattle.std.proofs.Common.{inr, List, []}
use Rattle.std.proofs.Common.{◌∷◌, length, nat_lt, Some, None, refl, ap, ◌∙◌, sym, arith}
use Rattle.std.specs.Prelude.{Option, insert, position, unwrap_or}
use Rattle.std.specs.List.{cons_option, filter_map, position_or_len, range_with_len}
use Rattle.std.specs.Option.{option_map_or}
use Rattle.std.proofs.lemmas.Bool.{cases_Bool, cond-true, cond-false, ltb-false}
use Rattle.std.proofs.lemmas.List.Sums.{prefix_len-le-length}
use Rattle.cfs_dir.specs.declared.node.Node.{Node}
use Rattle.cfs_survey.specs.declared.live_entry.LiveEntry.{LiveEntry}
use Rattle.cfs_survey.specs.Live.{entry_in, in_order, is_before, put_live}

put_here : (entry : LiveEntry) (b : Bool) (first : LiveEntry) (rest : List LiveEntry) (n : ℕ) →
    insert rest n entry ≡ put_live entry rest
    → insert (first ∷ rest) (cond (not (not b)) (1 + n) 0) entry
    ≡ cond b (first ∷ put_live entry rest) (entry ∷ first ∷ rest)
put_here entry false first rest n later = refl
put_here entry true first rest n later =
    let next : 1 + n ≡ suc n = omega arith in
    ap (λ (i : ℕ). insert (first ∷ rest) i entry) next
    ∙ ap (λ (l : List LiveEntry). first ∷ l) later

pub insert-live : (entry : LiveEntry) (xs : List LiveEntry) →
    insert xs (position_or_len (λ x. not (is_before x entry)) xs) entry ≡ put_live entry xs
insert-live entry [] = refl
insert-live entry (first ∷ rest) =
    put_here entry (is_before first entry) first rest
    (position_or_len (λ x. not (is_before x entry)) rest) (insert-live entry rest)

pub position-live : (p : LiveEntry → Bool) (xs : List LiveEntry) →
    unwrap_or (position p xs) (length xs) ≡ position_or_len p xs
position-live p xs = elim (cases_Bool (nat_lt (position_or_len p xs) (length xs))) [
  | inl t ↦
      ap (λ o. unwrap_or o (length xs))
      (cond-true (nat_lt (position_or_len p xs) (length xs)) (Some (position_or_len p xs)) None t)
  | inr f ↦
      ap (λ o. unwrap_or o (length xs))
      (cond-false (nat_lt (position_or_len p xs) (length xs)) (Some (position_or_len p xs)) None f)
      ∙ (let low = ltb-false (position_or_len p xs) (length xs) f in let high =
      prefix_len-le-length (λ e. not (p e)) xs in omega arith)
]

-- one more entry, if it is one
live_some : (found : Option LiveEntry) (xs : List LiveEntry) →
    in_order (cons_option found xs)
    ≡ option_map_or (λ entry. put_live entry (in_order xs)) found (in_order xs)
live_some None xs = refl
live_some (Some entry) xs = refl

-- the entries from a slot on, and those of one more slot
pub live_more : (nodes : List Node) (slots : List (List ℕ)) (at n m : ℕ)
    (found new : List LiveEntry) → m ≡ n + 1 →
    found ≡ in_order (filter_map (entry_in nodes slots) (range_with_len (at + 1) n))
    → new ≡ option_map_or (λ entry. put_live entry found) (entry_in nodes slots at) found
    → new ≡ in_order (filter_map (entry_in nodes slots) (range_with_len at m))
live_more nodes slots at n m found new one before here =
    let next : m ≡ suc n = omega (arith, one) in
    here
    ∙ ap (λ xs. option_map_or (λ entry. put_live entry xs) (entry_in nodes slots at) xs) before
    ∙ sym (live_some (entry_in nodes slots at)
    (filter_map (entry_in nodes slots) (range_with_len (at + 1) n)))
    ∙ ap (λ k. in_order (filter_map (entry_in nodes slots) (range_with_len at k))) (sym next)
