-- Lines that are numbered in order, and their forms.
use Rattle.std.proofs.Common.{◌≡◌, ℕ, zero, suc, ◌+◌, ◌≤◌, List, [], ◌∷◌, ◌++◌, length, arith, refl, sym, ap, ◌∙◌}
use Rattle.cfs_script.specs.declared.form.Form.{Form}
use Rattle.cfs_script.specs.declared.line.Line.{Line}
use Rattle.cfs_script.specs.Script.{forms_of, Ascends}
use Rattle.cfs_gen.specs.Lines.{numbered}

abbrev line_of : ℕ → Form → Line
line_of number form = record { number = number; form = form }

pub forms_of-numbered : (n : ℕ) (forms : List Form) → forms_of (numbered n forms) ≡ forms
forms_of-numbered n [] = refl
forms_of-numbered n (form ∷ forms) = ap (λ (fs : List Form). form ∷ fs) (forms_of-numbered (n + 1) forms)

forms_of-append : (a b : List Line) → forms_of (a ++ b) ≡ forms_of a ++ forms_of b
forms_of-append [] b = refl
forms_of-append (line ∷ a) b = ap (λ (fs : List Form). line.form ∷ fs) (forms_of-append a b)

length-forms_of : (lines : List Line) → length (forms_of lines) ≡ length lines
length-forms_of [] = refl
length-forms_of (line ∷ lines) = ap suc (length-forms_of lines)

numbered-push : (n : ℕ) (forms : List Form) (form : Form) →
    numbered n (forms ++ form ∷ []) ≡ numbered n forms ++ line_of (n + length forms) form ∷ []
numbered-push n [] form =
    let e : n ≡ n + 0 = omega arith in
    ap (λ (k : ℕ). line_of k form ∷ []) e
numbered-push n (first ∷ forms) form =
    let e : n + 1 + length forms ≡ n + suc (length forms) = omega arith in
    ap (λ (lines : List Line). line_of n first ∷ lines)
    (numbered-push (n + 1) forms form ∙ ap (λ (k : ℕ). numbered (n + 1) forms ++ line_of k form ∷ []) e)

-- a line more, of a form
pub forms_more : (old new : List Line) (number : ℕ) (form : Form) → new ≡ old ++ line_of number form ∷ [] →
    forms_of new ≡ forms_of old ++ form ∷ []
forms_more old new number form e = ap (λ (lines : List Line). forms_of lines) e ∙ forms_of-append old (line_of number form ∷ [])

pub numbers_more : (old new : List Line) (number : ℕ) (form : Form) → new ≡ old ++ line_of number form ∷ [] → number ≡ length old + 1 →
    numbered 1 (forms_of old) ≡ old → numbered 1 (forms_of new) ≡ new
numbers_more old new number form e is h =
    let count : 1 + length (forms_of old) ≡ number = omega (arith, length-forms_of old) in
    ap (λ (forms : List Form). numbered 1 forms) (forms_more old new number form e) ∙ numbered-push 1 (forms_of old) form
    ∙ ap (λ (lines : List Line). lines ++ line_of (1 + length (forms_of old)) form ∷ []) h
    ∙ ap (λ (k : ℕ). old ++ line_of k form ∷ []) count ∙ sym e

-- so few lines are numbered within the bound
pub numbered-Ascends : (n : ℕ) (forms : List Form) → n + length forms ≤ 65537 → Ascends n (numbered n forms)
numbered-Ascends n [] h = tt
numbered-Ascends n (form ∷ forms) h = (omega arith, omega arith, numbered-Ascends (n + 1) forms (omega arith))
