-- A script's canonical text is a script of the same forms, numbered from 1.
use Rattle.std.proofs.Common.{◌≡◌, ℕ, ◌+◌, ◌<◌, ◌≤◌, ◌⊎◌, inl, inr, Bool, true, false, ◌&&◌, List, [], ◌∷◌, ◌++◌, length, arith, refl, sym, subst, ap, ◌∙◌}
use Rattle.std.specs.Prelude.{◌==◌}
use Rattle.std.specs.Char.{is_ascii_digit}
use Rattle.std.specs.Fmt.{decimal}
use Rattle.std.specs.List.{list_all, slice_split}
use Rattle.std.proofs.lemmas.Bool.Decides.{nat_tests}
use Rattle.std.proofs.lemmas.Fmt.{decimal_nonempty}
use Rattle.std.proofs.lemmas.List.Splits.{slice_split_at}
use Rattle.cfs_words.specs.Parts.{words_of, parts_of, behind, joined}
use Rattle.cfs_words.specs.Spelling.{Kind, Key, Values, AreValues, all_words, SpellAll}
use Rattle.cfs_words.specs.Reading.{is_graphic}
use Rattle.cfs_words.proofs.Numbers.{and_parts, digits_of_decimal}
use Rattle.cfs_words.proofs.Joins.{IsWithout}
use Rattle.cfs_words.proofs.Graphics.{AreGraphic, are_graphic_keys, all_words_graphic, SpellAll-canonical, words_of-joined, joined-endless}
use Rattle.cfs_script.specs.declared.command.Command.{Command}
use Rattle.cfs_script.specs.declared.form.Form.{Form}
use Rattle.cfs_script.specs.declared.line.Line.{Line}
use Rattle.cfs_script.specs.declared.script_refusal.ScriptRefusal.{ScriptRefusal}
use Rattle.cfs_script.specs.declared.script_refusal.ScriptRefusal.TheVariants as refusals
use Rattle.cfs_script.specs.declared.verb.Verb.{Verb}
use Rattle.cfs_script.specs.declared.verb.Verb.TheVariants as verbs
use Rattle.cfs_script.specs.declared.order.Order.{Order}
use Rattle.cfs_script.specs.declared.order.Order.TheVariants as orders
use Rattle.cfs_script.specs.Table.{callers, verb_word, verb_kinds, order_word, order_kinds, Parts, Asked, Ordered, parts_of_form, kinds_of, values_of, IsForm, IsFormValue, form_text}
use Rattle.cfs_script.specs.Session.{Seen, nothing, after, Keeps}
use Rattle.cfs_script.specs.Script.{most_lines, lines_of, is_passed_over, spoken, AreForms, forms_of, IsScript, Ascends, AreFormValues, IsLawful, IsNoScript, OnLine}
use Rattle.cfs_script.specs.Printing.{lines_text, renumbered}
use Rattle.cfs_script.proofs.Lines.{lines_of-cut}

-- ---- the keys of the table have printed bytes alone

verb_keys : (verb : Verb) → are_graphic_keys (Key (verb_word verb) ∷ verb_kinds verb) ≡ true
verb_keys verbs.Open = refl
verb_keys verbs.Mkdir = refl
verb_keys verbs.Unlink = refl
verb_keys verbs.Rmdir = refl
verb_keys verbs.Rename = refl
verb_keys verbs.Read = refl
verb_keys verbs.Write = refl
verb_keys verbs.Pread = refl
verb_keys verbs.Pwrite = refl
verb_keys verbs.TryPwrite = refl
verb_keys verbs.Lseek = refl
verb_keys verbs.Ftruncate = refl
verb_keys verbs.Close = refl
verb_keys verbs.Fsync = refl
verb_keys verbs.Post = refl
verb_keys verbs.Serve = refl

order_keys : (order : Order) → are_graphic_keys (Key (order_word order) ∷ order_kinds order) ≡ true
order_keys orders.Dispatch = refl
order_keys orders.Apply = refl
order_keys orders.Finish = refl
order_keys orders.Skip = refl
order_keys orders.Trim = refl
order_keys orders.Settle = refl
order_keys orders.Turn = refl
order_keys orders.Drain = refl
order_keys orders.Caller = refl
order_keys orders.Queue = refl
order_keys orders.Stop = refl
order_keys orders.Crash = refl
order_keys orders.Mount = refl
order_keys orders.Fail = refl
order_keys orders.FailRead = refl
order_keys orders.Cut = refl

parts_keys : (parts : Parts) → are_graphic_keys (kinds_of parts) ≡ true
parts_keys (Asked caller verb values) = verb_keys verb
parts_keys (Ordered order values) = order_keys order

-- ---- one line

abbrev parts_words : Parts → List (List ℕ)
parts_words parts = all_words (kinds_of parts) (values_of parts)

abbrev parts_text : Parts → List ℕ
parts_text parts = joined 32 (parts_words parts)

abbrev ArePartsValues : Parts → Type 0
ArePartsValues parts = AreValues (kinds_of parts) (values_of parts)

-- such a line is not passed over
order_spoken : (order : Order) (rest : List ℕ) → is_passed_over (order_word order ++ rest) ≡ false
order_spoken orders.Dispatch rest = refl
order_spoken orders.Apply rest = refl
order_spoken orders.Finish rest = refl
order_spoken orders.Skip rest = refl
order_spoken orders.Trim rest = refl
order_spoken orders.Settle rest = refl
order_spoken orders.Turn rest = refl
order_spoken orders.Drain rest = refl
order_spoken orders.Caller rest = refl
order_spoken orders.Queue rest = refl
order_spoken orders.Stop rest = refl
order_spoken orders.Crash rest = refl
order_spoken orders.Mount rest = refl
order_spoken orders.Fail rest = refl
order_spoken orders.FailRead rest = refl
order_spoken orders.Cut rest = refl

digits_spoken : (digits rest : List ℕ) → 0 < length digits → list_all is_ascii_digit digits ≡ true → is_passed_over (digits ++ rest) ≡ false
digits_spoken [] rest some e = absurd (omega arith)
digits_spoken (b ∷ digits) rest some e =
    let both = and_parts (is_ascii_digit b) (list_all is_ascii_digit digits) e in
    let other : (b == 35) ≡ false = grind (arith, nat_tests, both.0) in
    rw other refl

-- what holds of a line's text
record IsLineText (parts : Parts) : Type 0 where
  words : words_of (parts_text parts) ≡ parts_words parts
  endless : IsWithout 10 (parts_text parts)
  is_spoken : is_passed_over (parts_text parts) ≡ false

line_text : (parts : Parts) → ArePartsValues parts → IsLineText parts
line_text (Asked caller verb values) h =
    let graphic = all_words_graphic (kinds_of (Asked caller verb values)) (values_of (Asked caller verb values)) (verb_keys verb) h in
    let rest = verb_word verb ∷ all_words (verb_kinds verb) values in
    record {
      words = words_of-joined (decimal caller) rest graphic;
      endless = joined-endless (decimal caller) rest graphic;
      is_spoken = let small = h.0.2 in digits_spoken (decimal caller) (behind 32 rest) (decimal_nonempty caller (omega arith)) (digits_of_decimal caller (omega arith));
    }
line_text (Ordered order values) h =
    let graphic = all_words_graphic (kinds_of (Ordered order values)) (values_of (Ordered order values)) (order_keys order) h in
    let rest = all_words (order_kinds order) values in
    record {
      words = words_of-joined (order_word order) rest graphic;
      endless = joined-endless (order_word order) rest graphic;
      is_spoken = order_spoken order (behind 32 rest);
    }

spelled : (form : Form) → IsFormValue form → IsForm form (form_text form)
spelled form h =
    let parts = parts_of_form form in
    subst (λ (words : List (List ℕ)). SpellAll (kinds_of parts) (values_of parts) words) (sym (line_text parts h).words)
    (SpellAll-canonical (kinds_of parts) (values_of parts) h)

-- ---- all lines

same_byte : (c : ℕ) → (c == c) ≡ true
same_byte c = grind (arith, nat_tests)

lines_of-more : (form : Form) (rest : List ℕ) → IsFormValue form → lines_of (form_text form ++ (10 ∷ rest)) ≡ form_text form ∷ lines_of rest
lines_of-more form rest h =
    lines_of-cut (form_text form ++ (10 ∷ rest)) (form_text form) rest
    (slice_split_at (λ b. b == 10) (form_text form) 10 rest (line_text (parts_of_form form) h).endless (same_byte 10))

texts_of : List Line → List (List ℕ)
texts_of [] = []
texts_of (line ∷ lines) = form_text line.form ∷ texts_of lines

lines_of-text : (lines : List Line) → AreFormValues lines → lines_of (lines_text lines) ≡ texts_of lines
unfolding texts_of
lines_of-text [] h = refl
lines_of-text (line ∷ lines) h = lines_of-more line.form (lines_text lines) h.0 ∙ ap (λ (ts : List (List ℕ)). form_text line.form ∷ ts) (lines_of-text lines h.1)

forms_again : (n : ℕ) (lines : List Line) → AreFormValues lines → AreForms (renumbered n lines) (spoken n (texts_of lines))
unfolding texts_of
forms_again n [] h = tt
forms_again n (line ∷ lines) h =
    rw (line_text (parts_of_form line.form) h.0).is_spoken (refl, spelled line.form h.0, forms_again (n + 1) lines h.1)

texts_count : (lines : List Line) → length (texts_of lines) ≡ length lines
unfolding texts_of
texts_count [] = refl
texts_count (line ∷ lines) = let rest = texts_count lines in omega arith

Ascends-count : (n : ℕ) (lines : List Line) → n ≤ most_lines + 1 → Ascends n lines → n + length lines ≤ most_lines + 1
Ascends-count n [] le h = omega arith
Ascends-count n (line ∷ lines) le h =
    let first = h.0 in let last = h.1 in let rest = Ascends-count (line.number + 1) lines (omega arith) h.2 in omega arith

forms_of-renumbered : (n : ℕ) (lines : List Line) → forms_of (renumbered n lines) ≡ forms_of lines
forms_of-renumbered n [] = refl
forms_of-renumbered n (line ∷ lines) = ap (λ (fs : List Form). line.form ∷ fs) (forms_of-renumbered (n + 1) lines)

-- reading the text again gives the same forms
pub printed_script : (command : Command) (lines : List Line) → IsLawful command lines → IsScript command (lines_text lines) (renumbered 1 lines)
printed_script command lines h =
    let texts = lines_of-text lines h.values in
    record {
      forms = subst (λ (ts : List (List ℕ)). AreForms (renumbered 1 lines) (spoken 1 ts)) (sym texts) (forms_again 1 lines h.values);
      few = let count = Ascends-count 1 lines (omega arith) h.numbers in omega (arith, texts_count lines, ap (λ (ts : List (List ℕ)). length ts) texts);
      order = subst (λ (fs : List Form). Keeps command nothing fs) (sym (forms_of-renumbered 1 lines)) h.order;
    }

-- a refusal of bytes that are a script is want of memory
pub no_line : (command : Command) (bytes : List ℕ) (lines : List Line) (refusal : ScriptRefusal) → IsScript command bytes lines →
    OnLine refusal (λ _. IsNoScript command bytes) → refusal ≡ refusals.NoMemory
no_line command bytes lines (refusals.Line number) script none = absurd (none lines script)
no_line command bytes lines refusals.NoMemory script none = refl
