-- Words printed one behind another.
use Rattle.std.proofs.Common.{◌≡◌, ℕ, zero, suc, ◌+◌, ◌<◌, ◌≤◌, inl, inr, List, [], ◌∷◌, ◌++◌, length, take, get_or, arith, refl, sym, ap, subst, ◌∙◌, append_assoc}
use Rattle.std.specs.Prelude.{Result, Ok, Err, OnOk}
use Rattle.std.proofs.lemmas.List.{append-nil, take_more}
use Rattle.cfs_words.specs.Parts.{behind, joined}
use Rattle.cfs_words.specs.Printing.{Adds}
use Rattle.cfs_words.proofs.Prints.{behind-append}
use Rattle.cfs_script.specs.declared.form.Form.{Form}
use Rattle.cfs_script.specs.declared.form.Form.TheVariants as forms
use Rattle.cfs_script.specs.declared.line.Line.{Line}
use Rattle.cfs_script.specs.Table.{IsFormValue, form_text}
use Rattle.cfs_script.specs.Script.{AreFormValues, IsLawful, AreLawful}
use Rattle.cfs_script.specs.Printing.{form_printed, has_mode, lines_text}

pub printed_next : (old mid new w : List ℕ) (ws ys : List (List ℕ)) → mid ≡ old ++ joined 32 (w ∷ ws) → Adds mid new ys → new ≡ old ++ joined 32 (w ∷ (ws ++ ys))
printed_next old mid new w ws ys first second =
    second ∙ ap (λ (text : List ℕ). text ++ behind 32 ys) first ∙ append_assoc old (w ++ behind 32 ws) (behind 32 ys)
    ∙ ap (λ (more : List ℕ). old ++ more) (append_assoc w (behind 32 ws) (behind 32 ys))
    ∙ ap (λ (more : List ℕ). old ++ (w ++ more)) (sym (behind-append 32 ws ys))

pub printed_more : {T E : Type 0} (r : Result T E) (old mid new w : List ℕ) (ws ys : List (List ℕ)) → mid ≡ old ++ joined 32 (w ∷ ws) →
    OnOk r (Adds mid new ys) → OnOk r (new ≡ old ++ joined 32 (w ∷ (ws ++ ys)))
printed_more (Ok x) old mid new w ws ys first second = printed_next old mid new w ws ys first second
printed_more (Err e) old mid new w ws ys first second = tt

pub printed_last : {T E : Type 0} (r : Result T E) (old mid new w : List ℕ) (ws ys : List (List ℕ)) → mid ≡ old ++ joined 32 (w ∷ ws) →
    OnOk r (Adds mid new ys) → OnOk r (new ≡ old ++ joined 32 (w ∷ (ws ++ (ys ++ []))))
printed_last r old mid new w ws ys first second =
    subst (λ (more : List (List ℕ)). OnOk r (new ≡ old ++ joined 32 (w ∷ (ws ++ more)))) (sym (append-nil ys)) (printed_more r old mid new w ws ys first second)

lines_text-append : (xs ys : List Line) → lines_text (xs ++ ys) ≡ lines_text xs ++ lines_text ys
lines_text-append [] ys = refl
lines_text-append (line ∷ xs) ys =
    ap (λ (rest : List ℕ). form_text line.form ++ (10 ∷ rest)) (lines_text-append xs ys) ∙ sym (append_assoc (form_text line.form) (10 ∷ lines_text xs) (lines_text ys))

pub lines_more : (mid new last : List ℕ) (lines : List Line) (i : ℕ) (line : Line) → i < length lines → line ≡ get_or lines i line →
    mid ≡ lines_text (take i lines) → new ≡ mid ++ form_printed line.form → last ≡ new ++ 10 ∷ [] → last ≡ lines_text (take (i + 1) lines)
unfolding form_printed
lines_more mid new last lines i line lt is first second third =
    let front = lines_text (take i lines) in
    let text = form_text line.form in
    let whole : lines_text (take (i + 1) lines) ≡ front ++ (text ++ (10 ∷ [])) =
    ap (λ (ls : List Line). lines_text ls) (take_more lines i line lt) ∙ lines_text-append (take i lines) (get_or lines i line ∷ [])
    ∙ ap (λ (l : Line). front ++ (form_text l.form ++ (10 ∷ []))) (sym is) in
    third ∙ ap (λ (t : List ℕ). t ++ 10 ∷ []) (second ∙ ap (λ (t : List ℕ). t ++ text) first) ∙ append_assoc front text (10 ∷ []) ∙ sym whole

form_mode : (form : Form) → IsFormValue form → has_mode form
form_mode (forms.Open caller path flags mode) h = h.1.1.1.0.bits
form_mode (forms.Mkdir caller path mode) h = h.1.1.1.0
form_mode form h = tt

values_at : (lines : List Line) (i : ℕ) (line : Line) → AreFormValues lines → i < length lines → line ≡ get_or lines i line → IsFormValue line.form
values_at [] i line h lt is = absurd (omega arith)
values_at (first ∷ lines) zero line h lt is = subst (λ (l : Line). IsFormValue l.form) (sym is) h.0
values_at (first ∷ lines) (suc i) line h lt is = values_at lines i line h.1 (omega arith) is

lawful_values : (lines : List Line) → AreLawful lines → AreFormValues lines
lawful_values lines (inl h) = h.values
lawful_values lines (inr h) = h.values

pub mode_at : (lines : List Line) (i : ℕ) (line : Line) → AreLawful lines → i < length lines → line ≡ get_or lines i line → has_mode line.form
mode_at lines i line h lt is = form_mode line.form (values_at lines i line (lawful_values lines h) lt is)
