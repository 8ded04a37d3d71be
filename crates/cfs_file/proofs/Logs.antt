-- A log that is legal stays legal with one entry more.
use Rattle.std.proofs.Common.{◌≡◌, ◌⊎◌, inl, inr, ℕ, suc, zero, ◌+◌, ◌<◌, ◌≤◌, Option, Some, None, List, [], ◌∷◌, ◌++◌, length, take, arith, refl, sym, ap, ◌∙◌, length-append, add-one, subst}
use Rattle.std.specs.List.{slice_get}
use Rattle.std.proofs.lemmas.List.{take-append-le, take_all}
use Rattle.std.proofs.lemmas.Bool.{cases_lt}
use Rattle.cfs_file.specs.declared.answer.Answer.{Answer}
use Rattle.cfs_file.specs.declared.entry.Entry.{Entry}
use Rattle.cfs_file.specs.File.{IsFile, effect, answer}
use Rattle.cfs_file.specs.Log.{IsLegal, file_of}

pub file_of-append : (base : List ℕ) (xs ys : List Entry) → file_of base (xs ++ ys) ≡ file_of (file_of base xs) ys
file_of-append base [] ys = refl
file_of-append base (x ∷ xs) ys = file_of-append (effect base x.request) xs ys

-- an element of a list with one more at its end is one of the list, or that one
pub slice_get-snoc : {X : Type 0} (xs : List X) (last : X) (k : ℕ) (x : X) → slice_get (xs ++ last ∷ []) k ≡ Some x →
    ((k < length xs) × (slice_get xs k ≡ Some x)) ⊎ ((k ≡ length xs) × (x ≡ last))
slice_get-snoc [] last zero x is = inr (refl, cc)
slice_get-snoc [] last (suc k) x is = cc
slice_get-snoc (first ∷ xs) last zero x is = inl (omega arith, is)
slice_get-snoc (first ∷ xs) last (suc k) x is = elim (slice_get-snoc xs last k x is) [
  | inl within ↦ inl (omega arith, within.1)
  | inr at_end ↦ inr (ap suc at_end.0, at_end.1)
]

pub take-snoc_within : {X : Type 0} (xs : List X) (last : X) (k : ℕ) → k ≤ length xs → take k (xs ++ last ∷ []) ≡ take k xs
take-snoc_within xs last k within = take-append-le k xs (last ∷ []) within

-- the base has an empty log, which is legal where the base is a file
pub IsLegal-none : (base : List ℕ) → IsFile base → IsLegal base [] []
IsLegal-none base file = record {
  places = λ k entry is. cc;
  files = λ k within. let none : k ≡ 0 = omega arith in subst (λ (n : ℕ). IsFile (file_of base (take n []))) (sym none) file;
  answers = λ k entry reply is given. cc;
}

-- the next entry, with the answer that it is given
pub IsLegal-snoc : (base : List ℕ) (log : List Entry) (given : List (Option Answer)) (entry : Entry) →
    IsLegal base log given → length given ≡ length log → entry.place ≡ length log + 1 →
    IsFile (effect (file_of base log) entry.request) →
    IsLegal base (log ++ entry ∷ []) (given ++ Some (answer (file_of base log) entry.request) ∷ [])
IsLegal-snoc base log given entry legal long next file =
    let reply : Answer = answer (file_of base log) entry.request in
    let whole : file_of base (log ++ entry ∷ []) ≡ effect (file_of base log) entry.request = file_of-append base log (entry ∷ []) in
    record {
      places = λ k e is. elim (slice_get-snoc log entry k e is) [
        | inl within ↦ legal.places k e within.1
        | inr at_end ↦ rw (at_end.1, at_end.0) next
      ];
      files = λ k within. elim (cases_lt k (length log + 1)) [
        | inl inside ↦ rw (take-snoc_within log entry k (omega arith)) (legal.files k (omega arith))
        | inr outside ↦
            let all : take k (log ++ entry ∷ []) ≡ log ++ entry ∷ [] =
            take_all k (log ++ entry ∷ []) (omega (arith, length-append log (entry ∷ []))) in
            rw (all, whole) file
      ];
      answers = λ k e r is given_is. elim (slice_get-snoc log entry k e is) [
        | inl within ↦ rw (take-snoc_within log entry k (omega arith)) (elim (slice_get-snoc given (Some reply) k (Some r) given_is) [
          | inl also ↦ legal.answers k e r within.1 also.1
          | inr past ↦ absurd (omega arith)
        ])
        | inr at_end ↦ elim (slice_get-snoc given (Some reply) k (Some r) given_is) [
          | inl also ↦ absurd (omega arith)
          | inr past ↦
              let all : take k (log ++ entry ∷ []) ≡ log =
              take-snoc_within log entry k (omega arith) ∙ take_all k log (omega arith) in
              let same : r ≡ reply = cc in
              rw (all, at_end.1) same
        ]
      ];
    }
