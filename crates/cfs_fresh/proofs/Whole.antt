-- Queues whose slots are all free.
use Rattle.std.proofs.Common.{ℕ, zero, suc, ◌+◌, ◌≡◌, ◌∙◌, ◌⊎◌, List, [], ◌∷◌, ◌++◌, length, map, Option, Some, inl, inr, refl, sym, ap}
use Rattle.std.proofs.lemmas.List.{length-map, map-append}
use Rattle.cfs_queue.specs.Queue.{Slots, free, out_from, out_slots}
use Rattle.cfs_kernel.specs.Queues.{AreWhole, home_at}

pub none_out : {X : Type 0} (first : ℕ) (slots : List X) → out_from first (map (λ slot. free slot) slots) ≡ []
none_out first [] = refl
none_out first (slot ∷ slots) = none_out (first + 1) slots

pushed_at : {X : Type 0} (home : List (Option (Slots X))) (more one : Slots X) (number : ℕ) → home_at (home ++ Some more ∷ []) number ≡ Some one →
    (home_at home number ≡ Some one) ⊎ ((number ≡ length home) × (more ≡ one))
pushed_at [] more one zero is = inr (refl, (cc))
pushed_at [] more one (suc number) is = absurd (cc)
pushed_at (row ∷ home) more one zero is = inl is
pushed_at (row ∷ home) more one (suc number) is = elim (pushed_at home more one number is) [
  | inl old ↦ inl old
  | inr new ↦ inr (ap (λ n. suc n) new.0, new.1)
]

pub whole_more : {X : Type 0} (queues all : List (Slots X)) (count : ℕ) (more : Slots X) → AreWhole (map (λ queue. Some queue) queues) → length queues ≡ count →
    more.number ≡ count → out_slots more ≡ [] → all ≡ queues ++ more ∷ [] → AreWhole (map (λ queue. Some queue) all)
whole_more {X = X} queues all count more whole size number unused same = rw same (λ other one there.
    elim (pushed_at (map (λ (queue : Slots X). Some queue) queues) more one other (sym (ap (λ home. home_at home other) (map-append (λ (queue : Slots X). Some queue) queues (more ∷ []))) ∙ there)) [
      | inl old ↦ whole other one old
      | inr new ↦ (
        ap (λ (queue : Slots X). queue.number) (sym new.1) ∙ number ∙ sym size ∙ sym (length-map queues (λ (queue : Slots X). Some queue)) ∙ sym new.0,
        ap (λ (queue : Slots X). out_slots queue) (sym new.1) ∙ unused,
      )
    ])
