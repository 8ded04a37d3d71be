-- The text of a line tells its number and its answer, and the text of an output tells its lines.
use Rattle.std.proofs.Common.{◌≡◌, ℕ, Bool, List, [], ◌∷◌, ◌++◌, Some, refl, sym, ap, ◌∙◌, append_assoc}
use Rattle.std.specs.Fmt.{decimal}
use Rattle.std.proofs.lemmas.Option.{same_Some}
use Rattle.cfs_print.specs.declared.listed.Listed.{Listed}
use Rattle.cfs_print.specs.declared.printed.Printed.{Printed}
use Rattle.cfs_print.specs.declared.out_line.OutLine.{OutLine}
use Rattle.cfs_print.specs.Text.{AreSmall, IsLine, LinesAreTold, OutputsAreTold, answer_pieces, answer_text, is_queue, kinds, line_text, lines_text}
use Rattle.cfs_print.proofs.Numbers.{numbers_same}
use Rattle.cfs_print.proofs.Lists.{onto, pieces_onto, tails_same, lists_same}
use Rattle.cfs_print.proofs.Reading.{read, read-answer, emptied, entries_of, places_of, refilled, refilled-emptied, small_entries, small_places, left}

-- the texts behind the answers are the same, too
answers_same : (a b : Printed) (xs ys : List ℕ) → AreSmall (answer_pieces a) → AreSmall (answer_pieces b) → is_queue a ≡ is_queue b →
    onto (answer_pieces a) (10 ∷ xs) ≡ onto (answer_pieces b) (10 ∷ ys) → (a ≡ b) × (xs ≡ ys)
answers_same a b xs ys small_a small_b kind e =
    let found : Some (emptied a, left a xs) ≡ Some (emptied b, left b ys) =
    sym (read-answer a xs small_a) ∙ ap (λ (text : List ℕ). read (is_queue a) text) e ∙ ap (λ (queue : Bool). read queue (onto (answer_pieces b) (10 ∷ ys))) kind ∙ read-answer b ys small_b in
    let same = same_Some _ _ found in
    let rest = lists_same (entries_of a) (entries_of b) (places_of a) (places_of b) xs ys
    (small_entries a small_a) (small_entries b small_b) (small_places a small_a) (small_places b small_b) (ap (λ (p : Printed × List ℕ). p.1) same) in (
      sym (refilled-emptied a) ∙ ap (λ (p : Printed × List ℕ). refilled (entries_of a) (places_of a) p.0) same
          ∙ ap (λ (es : List Listed). refilled es (places_of a) (emptied b)) rest.0 ∙ ap (λ (ps : List ℕ). refilled (entries_of b) ps (emptied b)) rest.1 ∙ refilled-emptied b,
      rest.2,
    )

line_onto : (line : OutLine) (xs : List ℕ) → line_text line ++ xs ≡ decimal line.number ++ (32 ∷ onto (answer_pieces line.answer) (10 ∷ xs))
line_onto line xs =
    append_assoc (decimal line.number) (32 ∷ (answer_text line.answer ++ (10 ∷ []))) xs
    ∙ ap (λ (text : List ℕ). decimal line.number ++ (32 ∷ text)) (append_assoc (answer_text line.answer) (10 ∷ []) xs ∙ pieces_onto (answer_pieces line.answer) (10 ∷ xs))

abbrev line_of : ℕ → Printed → OutLine
line_of number answer = record { number = number; answer = answer }

next_told : (a b : OutLine) (xs ys : List ℕ) → IsLine a → IsLine b → is_queue a.answer ≡ is_queue b.answer → line_text a ++ xs ≡ line_text b ++ ys → (a ≡ b) × (xs ≡ ys)
next_told a b xs ys is_a is_b kind e =
    let numbers = numbers_same a.number b.number _ _ is_a.number is_b.number refl refl (sym (line_onto a xs) ∙ e ∙ line_onto b ys) in
    let answers = answers_same a.answer b.answer xs ys is_a.answer is_b.answer kind (tails_same 32 32 _ _ numbers.1).1 in
    (ap (λ (n : ℕ). line_of n a.answer) numbers.0 ∙ ap (λ (answer : Printed). line_of b.number answer) answers.0, answers.1)

pub line_told : LinesAreTold
line_told a b is_a is_b kind e = (next_told a b [] [] is_a is_b kind (ap (λ (text : List ℕ). text ++ []) e)).0

kinds_same : (x y : Bool) (xs ys : List Bool) → x ∷ xs ≡ y ∷ ys → (x ≡ y) × (xs ≡ ys)
kinds_same x y xs ys e = (cc, cc)

pub output_told : OutputsAreTold
output_told [] [] are_a are_b same e = refl
output_told [] (b ∷ more_b) are_a are_b same e = absurd cc
output_told (a ∷ more_a) [] are_a are_b same e = absurd cc
output_told (a ∷ more_a) (b ∷ more_b) are_a are_b same e =
    let kind = kinds_same (is_queue a.answer) (is_queue b.answer) (kinds more_a) (kinds more_b) same in
    let first = next_told a b (lines_text more_a) (lines_text more_b) are_a.0 are_b.0 kind.0 e in
    let rest = output_told more_a more_b are_a.1 are_b.1 kind.1 first.1 in
    ap (λ (line : OutLine). line ∷ more_a) first.0 ∙ ap (λ (lines : List OutLine). b ∷ lines) rest
