-- The entries and the places at the end of a line are read from it.
use Rattle.std.proofs.Common.{◌≡◌, ℕ, List, [], ◌∷◌, ◌++◌, refl, sym, ap, ◌∙◌, append_assoc}
use Rattle.std.specs.Prelude.{◌==◌, if◌then◌else◌}
use Rattle.cfs_print.specs.declared.listed.Letter.{Letter}
use Rattle.cfs_print.specs.declared.listed.Letter.TheVariants as letters
use Rattle.cfs_print.specs.declared.listed.Listed.{Listed}
use Rattle.cfs_print.specs.Text.{Piece, piece_text, pieces_text, letter_text, entry_pieces, more_places, place_pieces, AreSmall}
use Rattle.cfs_print.proofs.Numbers.{Stops, numbers_same, decimal_begins}

-- the text of pieces in front of a text
abbrev pub onto : List Piece → List ℕ → List ℕ
onto [] text = text
onto (piece ∷ pieces) text = piece_text piece ++ onto pieces text

pub pieces_onto : (pieces : List Piece) (text : List ℕ) → pieces_text pieces ++ text ≡ onto pieces text
pieces_onto [] text = refl
pieces_onto (piece ∷ pieces) text = append_assoc (piece_text piece) (pieces_text pieces) text ∙ ap (λ (rest : List ℕ). piece_text piece ++ rest) (pieces_onto pieces text)

pub tails_same : (x y : ℕ) (xs ys : List ℕ) → x ∷ xs ≡ y ∷ ys → (x ≡ y) × (xs ≡ ys)
tails_same x y xs ys e = (cc, cc)

-- ---- places

stops_more : (places text : List ℕ) → Stops (onto (more_places places) (10 ∷ text))
stops_more [] text = refl
stops_more (place ∷ places) text = refl

more_same : (ps qs xs ys : List ℕ) → AreSmall (more_places ps) → AreSmall (more_places qs) →
    onto (more_places ps) (10 ∷ xs) ≡ onto (more_places qs) (10 ∷ ys) → (ps ≡ qs) × (xs ≡ ys)
more_same [] [] xs ys small_p small_q e = (refl, (tails_same 10 10 xs ys e).1)
more_same [] (q ∷ qs) xs ys small_p small_q e = absurd cc
more_same (p ∷ ps) [] xs ys small_p small_q e = absurd cc
more_same (p ∷ ps) (q ∷ qs) xs ys small_p small_q e =
    let first = numbers_same p q _ _ small_p.1.0 small_q.1.0 (stops_more ps xs) (stops_more qs ys) (tails_same 44 44 _ _ e).1 in
    let rest = more_same ps qs xs ys small_p.1.1 small_q.1.1 first.1 in
    (ap (λ (r : ℕ). r ∷ ps) first.0 ∙ ap (λ (rs : List ℕ). q ∷ rs) rest.0, rest.1)

places_same : (ps qs xs ys : List ℕ) → AreSmall (place_pieces ps) → AreSmall (place_pieces qs) →
    onto (place_pieces ps) (10 ∷ xs) ≡ onto (place_pieces qs) (10 ∷ ys) → (ps ≡ qs) × (xs ≡ ys)
places_same [] [] xs ys small_p small_q e = (refl, (tails_same 10 10 xs ys e).1)
places_same [] (q ∷ qs) xs ys small_p small_q e = absurd (decimal_begins q _ _ small_q.0 (stops_more qs ys) refl e)
places_same (p ∷ ps) [] xs ys small_p small_q e = absurd (decimal_begins p _ _ small_p.0 (stops_more ps xs) refl (sym e))
places_same (p ∷ ps) (q ∷ qs) xs ys small_p small_q e =
    let first = numbers_same p q _ _ small_p.0 small_q.0 (stops_more ps xs) (stops_more qs ys) e in
    let rest = more_same ps qs xs ys small_p.1 small_q.1 first.1 in
    (ap (λ (r : ℕ). r ∷ ps) first.0 ∙ ap (λ (rs : List ℕ). q ∷ rs) rest.0, rest.1)

-- no space begins places
no_space : (places text rest : List ℕ) → AreSmall (place_pieces places) → onto (place_pieces places) (10 ∷ text) ≡ 32 ∷ rest → ⊥
no_space [] text rest small e = cc
no_space (place ∷ places) text rest small e = decimal_begins place _ _ small.0 (stops_more places text) refl (sym e)

-- ---- entries

abbrev letter_code : Letter → ℕ
letter_code letters.Waiting = 119
letter_code letters.Out = 111
letter_code letters.Idle = 110
letter_code letters.Doubtful = 100

abbrev letter_of : ℕ → Letter
letter_of c = if c == 119 then letters.Waiting else if c == 111 then letters.Out else if c == 110 then letters.Idle else letters.Doubtful

letter_again : (letter : Letter) → letter_of (letter_code letter) ≡ letter
letter_again letters.Waiting = refl
letter_again letters.Out = refl
letter_again letters.Idle = refl
letter_again letters.Doubtful = refl

letter_begins : (letter : Letter) (text : List ℕ) → letter_text letter ++ text ≡ letter_code letter ∷ text
letter_begins letters.Waiting text = refl
letter_begins letters.Out text = refl
letter_begins letters.Idle text = refl
letter_begins letters.Doubtful text = refl

stops_letter : (letter : Letter) (text : List ℕ) → Stops (letter_text letter ++ text)
stops_letter letters.Waiting text = refl
stops_letter letters.Out text = refl
stops_letter letters.Idle text = refl
stops_letter letters.Doubtful text = refl

letters_same : (a b : Letter) (xs ys : List ℕ) → letter_text a ++ xs ≡ letter_text b ++ ys → (a ≡ b) × (xs ≡ ys)
letters_same a b xs ys e =
    let parts = tails_same _ _ xs ys (sym (letter_begins a xs) ∙ e ∙ letter_begins b ys) in
    (sym (letter_again a) ∙ ap (λ (c : ℕ). letter_of c) parts.0 ∙ letter_again b, parts.1)

abbrev listed : ℕ → Letter → Listed
listed place letter = record { place = place; letter = letter }

entries_same : (es fs : List Listed) (xs ys : List ℕ) → AreSmall (entry_pieces es) → AreSmall (entry_pieces fs) →
    ((rest : List ℕ) → xs ≡ 32 ∷ rest → ⊥) → ((rest : List ℕ) → ys ≡ 32 ∷ rest → ⊥) →
    onto (entry_pieces es) xs ≡ onto (entry_pieces fs) ys → (es ≡ fs) × (xs ≡ ys)
entries_same [] [] xs ys small_e small_f not_x not_y e = (refl, e)
entries_same [] (f ∷ fs) xs ys small_e small_f not_x not_y e = absurd (not_x _ e)
entries_same (x ∷ es) [] xs ys small_e small_f not_x not_y e = absurd (not_y _ (sym e))
entries_same (x ∷ es) (y ∷ fs) xs ys small_e small_f not_x not_y e =
    let place = numbers_same x.place y.place _ _ small_e.1.0 small_f.1.0 (stops_letter x.letter _) (stops_letter y.letter _) (tails_same 32 32 _ _ e).1 in
    let letter = letters_same x.letter y.letter _ _ place.1 in
    let rest = entries_same es fs xs ys small_e.1.1.1 small_f.1.1.1 not_x not_y letter.1 in
    let same : x ≡ y = ap (λ (p : ℕ). listed p x.letter) place.0 ∙ ap (λ (l : Letter). listed y.place l) letter.0 in
    (ap (λ (z : Listed). z ∷ es) same ∙ ap (λ (rs : List Listed). y ∷ rs) rest.0, rest.1)

-- entries, and places behind them
pub lists_same : (es fs : List Listed) (ps qs xs ys : List ℕ) → AreSmall (entry_pieces es) → AreSmall (entry_pieces fs) → AreSmall (place_pieces ps) → AreSmall (place_pieces qs) →
    onto (entry_pieces es) (onto (place_pieces ps) (10 ∷ xs)) ≡ onto (entry_pieces fs) (onto (place_pieces qs) (10 ∷ ys)) → (es ≡ fs) × (ps ≡ qs) × (xs ≡ ys)
lists_same es fs ps qs xs ys small_e small_f small_p small_q e =
    let first = entries_same es fs _ _ small_e small_f (λ rest. no_space ps xs rest small_p) (λ rest. no_space qs ys rest small_q) e in
    let second = places_same ps qs xs ys small_p small_q first.1 in
    (first.0, second.0, second.1)
