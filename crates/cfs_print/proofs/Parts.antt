-- The text of entries and of places, one more at a time.
use Rattle.std.proofs.Common.{◌≡◌, ℕ, ◌+◌, ◌-◌, ◌<◌, ◌≤◌, List, [], ◌∷◌, ◌++◌, length, take, drop, get_or, arith, refl, sym, ap, ◌∙◌, append_assoc}
use Rattle.std.specs.Fmt.{decimal}
use Rattle.std.proofs.lemmas.List.{append-nil, take_more}
use Rattle.std.proofs.Math.Seq.{take-length}
use Rattle.cfs_print.specs.declared.listed.Listed.{Listed}
use Rattle.cfs_print.specs.declared.printed.Printed.{Printed}
use Rattle.cfs_print.specs.Text.{Key, Number, pieces_text, letter_text, entry_pieces, more_places, place_pieces, answer_text}

abbrev pub entries_text : List Listed → List ℕ
entries_text entries = pieces_text (entry_pieces entries)

abbrev pub more_text : List ℕ → List ℕ
more_text places = pieces_text (more_places places)

entries-append : (xs ys : List Listed) → entries_text (xs ++ ys) ≡ entries_text xs ++ entries_text ys
entries-append [] ys = refl
entries-append (x ∷ xs) ys =
    let place = decimal x.place in
    let letter = letter_text x.letter in
    ap (λ (rest : List ℕ). 32 ∷ (place ++ (letter ++ rest))) (entries-append xs ys)
    ∙ ap (λ (rest : List ℕ). 32 ∷ (place ++ rest)) (sym (append_assoc letter (entries_text xs) (entries_text ys)))
    ∙ ap (λ (rest : List ℕ). 32 ∷ rest) (sym (append_assoc place (letter ++ entries_text xs) (entries_text ys)))

more-append : (xs ys : List ℕ) → more_text (xs ++ ys) ≡ more_text xs ++ more_text ys
more-append [] ys = refl
more-append (x ∷ xs) ys =
    ap (λ (rest : List ℕ). 44 ∷ (decimal x ++ rest)) (more-append xs ys)
    ∙ ap (λ (rest : List ℕ). 44 ∷ rest) (sym (append_assoc (decimal x) (more_text xs) (more_text ys)))

pub entries_more : (old mid new : List ℕ) (entries : List Listed) (i : ℕ) (d : Listed) → i < length entries → mid ≡ old ++ entries_text (take i entries) →
    new ≡ mid ++ entries_text (get_or entries i d ∷ []) → new ≡ old ++ entries_text (take (i + 1) entries)
entries_more old mid new entries i d lt first second =
    let front = take i entries in
    let one = entries_text (get_or entries i d ∷ []) in
    let whole : entries_text (take (i + 1) entries) ≡ entries_text front ++ one =
    ap (λ (es : List Listed). entries_text es) (take_more entries i d lt) ∙ entries-append front (get_or entries i d ∷ []) in
    second ∙ ap (λ (text : List ℕ). text ++ one) first ∙ append_assoc old (entries_text front) one ∙ ap (λ (more : List ℕ). old ++ more) (sym whole)

pub places_more : (old mid new places : List ℕ) (i : ℕ) → i < length places → mid ≡ old ++ more_text (take i places) →
    new ≡ mid ++ (44 ∷ decimal (get_or places i 0)) → new ≡ old ++ more_text (take (i + 1) places)
places_more old mid new places i lt first second =
    let front = take i places in
    let place = get_or places i 0 in
    let whole : more_text (take (i + 1) places) ≡ more_text front ++ (44 ∷ decimal place) =
    ap (λ (ps : List ℕ). more_text ps) (take_more places i 0 lt) ∙ more-append front (place ∷ [])
    ∙ ap (λ (rest : List ℕ). more_text front ++ (44 ∷ rest)) (append-nil (decimal place)) in
    second ∙ ap (λ (text : List ℕ). text ++ (44 ∷ decimal place)) first ∙ append_assoc old (more_text front) (44 ∷ decimal place)
    ∙ ap (λ (more : List ℕ). old ++ more) (sym whole)

-- ---- answers of one, two and three numbers

pub one_number : (key : List ℕ) (n : ℕ) → key ++ decimal n ≡ pieces_text (Key key ∷ Number n ∷ [])
one_number key n = ap (λ (rest : List ℕ). key ++ rest) (sym (append-nil (decimal n)))

pub two_numbers : (first second : List ℕ) (m n : ℕ) → first ++ (decimal m ++ (second ++ decimal n)) ≡ pieces_text (Key first ∷ Number m ∷ Key second ∷ Number n ∷ [])
two_numbers first second m n = ap (λ (rest : List ℕ). first ++ (decimal m ++ rest)) (one_number second n)

pub three_numbers : (first second third : List ℕ) (k m n : ℕ) → first ++ (decimal k ++ (second ++ (decimal m ++ (third ++ decimal n)))) ≡ pieces_text (Key first ∷ Number k ∷ Key second ∷ Number m ∷ Key third ∷ Number n ∷ [])
three_numbers first second third k m n = ap (λ (rest : List ℕ). first ++ (decimal k ++ rest)) (two_numbers second third m n)

-- what was added is the text of the answer
pub added : (old new text : List ℕ) (a b : Printed) → a ≡ b → text ≡ answer_text b → new ≡ old ++ text → new ≡ old ++ answer_text a
added old new text a b is same adds = adds ∙ ap (λ (more : List ℕ). old ++ more) (same ∙ ap (λ (c : Printed). answer_text c) (sym is))

-- ---- places

pub places_none : (places : List ℕ) → length places < 1 → pieces_text (place_pieces places) ≡ []
places_none [] none = refl
places_none (place ∷ places) none = absurd (omega arith)

all_but_first : (place : ℕ) (places : List ℕ) → take (length (place ∷ places) - 1) (drop 1 (place ∷ places)) ≡ places
all_but_first place places = let long : length (place ∷ places) - 1 ≡ length places = omega arith in rw long (take-length places)

pub places_some : (places : List ℕ) → 1 ≤ length places →
    decimal (get_or places 0 0) ++ more_text (take (length places - 1) (drop 1 places)) ≡ pieces_text (place_pieces places)
places_some [] some = absurd (omega arith)
places_some (place ∷ places) some = ap (λ (rest : List ℕ). decimal place ++ more_text rest) (all_but_first place places)

-- a fixed text was added, and two more texts
pub three_added : (old key first second mid_first mid_second new whole : List ℕ) → mid_first ≡ old ++ key → mid_second ≡ mid_first ++ first → new ≡ mid_second ++ second →
    first ++ second ≡ whole → new ≡ old ++ (key ++ whole)
three_added old key first second mid_first mid_second new whole one two three is =
    three ∙ ap (λ (text : List ℕ). text ++ second) (two ∙ ap (λ (text : List ℕ). text ++ first) one)
    ∙ append_assoc (old ++ key) first second ∙ append_assoc old key (first ++ second) ∙ ap (λ (rest : List ℕ). old ++ (key ++ rest)) is
