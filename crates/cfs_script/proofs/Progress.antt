-- How far a script is read, line by line.
use Rattle.std.proofs.Common.{◌≡◌, ◌≢◌, ℕ, zero, suc, ◌+◌, ◌≤◌, ◌<◌, ◌⊎◌, inl, inr, Bool, true, false, cond, ◌&&◌, List, [], ◌∷◌, ◌++◌, length, take, drop, Option, Some, None, arith, refl, sym, subst, ap, ◌∙◌, append_assoc}
use Rattle.std.specs.Prelude.{IsTrue}
use Rattle.std.specs.Option.{option_to_list}
use Rattle.std.proofs.lemmas.List.{append-nil, length-append, length-take, length-take-le, take_at, take-append-drop}
use Rattle.cfs_words.specs.Spelling.{Kind, Values, AreValues, SpellAll}
use Rattle.cfs_script.specs.declared.command.Command.{Command}
use Rattle.cfs_script.specs.declared.form.Form.{Form}
use Rattle.cfs_script.specs.declared.line.Line.{Line}
use Rattle.cfs_script.specs.declared.script_refusal.ScriptRefusal.{ScriptRefusal}
use Rattle.cfs_script.specs.declared.script_refusal.ScriptRefusal.TheVariants as refusals
use Rattle.cfs_script.specs.Table.{IsForm, IsFormValue, parts_of_form, kinds_of, values_of}
use Rattle.cfs_script.specs.Session.{Seen, nothing, allows, after, Keeps}
use Rattle.cfs_script.specs.Script.{most_lines, lines_of, is_passed_over, spoken, AreForms, forms_of, IsScript, IsNoScript, IsFront, IsFirstOutside, OnLine, Ascends, AreFormValues, IsLawful, IsLine, IsAllowed, after_line, IsNext}
use Rattle.std.proofs.lemmas.Option.{none-some, same_Some}
use Rattle.cfs_words.specs.Parts.{words_of}
use Rattle.cfs_script.specs.Reading.{form_of}
use Rattle.cfs_script.proofs.Forms.{IsForm-one, form_of-again}

-- ---- lines and their texts

abbrev pub make : ℕ → Form → Line
make n form = record { number = n; form = form }

pub Line-one : (a b : Line) → a.number ≡ b.number → a.form ≡ b.form → a ≡ b
Line-one a b e f = let same : make a.number a.form ≡ make b.number b.form = rw (e, f) refl in same

AreForms-append : (a b : List Line) (xs ys : List (ℕ × List ℕ)) → AreForms a xs → AreForms b ys → AreForms (a ++ b) (xs ++ ys)
AreForms-append [] b [] ys h k = k
AreForms-append [] b (x ∷ xs) ys h k = absurd h
AreForms-append (line ∷ a) b [] ys h k = absurd h
AreForms-append (line ∷ a) b (x ∷ xs) ys h k = (h.0, h.1, AreForms-append a b xs ys h.2 k)

pub AreForms-one : (a b : List Line) (xs : List (ℕ × List ℕ)) → AreForms a xs → AreForms b xs → a ≡ b
AreForms-one [] [] xs h k = refl
AreForms-one [] (other ∷ b) [] h k = absurd k
AreForms-one [] (other ∷ b) (x ∷ xs) h k = absurd h
AreForms-one (line ∷ a) b [] h k = absurd h
AreForms-one (line ∷ a) [] (x ∷ xs) h k = absurd k
AreForms-one (line ∷ a) (other ∷ b) (x ∷ xs) h k =
    let first : line ≡ other = Line-one line other (h.0 ∙ sym k.0) (IsForm-one line.form other.form x.1 h.1 k.1) in
    let rest : a ≡ b = AreForms-one a b xs h.2 k.2 in
    cc

-- lines in two parts, by their texts
record Split (lines : List Line) (xs ys : List (ℕ × List ℕ)) : Type 0 where
  front : List Line
  rest : List Line
  whole : lines ≡ front ++ rest
  fronts : AreForms front xs
  rests : AreForms rest ys

AreForms-split : (lines : List Line) (xs ys : List (ℕ × List ℕ)) → AreForms lines (xs ++ ys) → Split lines xs ys
AreForms-split lines [] ys h = record { front = []; rest = lines; whole = refl; fronts = tt; rests = h }
AreForms-split [] (x ∷ xs) ys h = absurd h
AreForms-split (line ∷ lines) (x ∷ xs) ys h =
    let s = AreForms-split lines xs ys h.2 in
    record { front = line ∷ s.front; rest = s.rest; whole = ap (λ (ls : List Line). line ∷ ls) s.whole; fronts = (h.0, h.1, s.fronts); rests = s.rests }

spoken-append : (n : ℕ) (xs ys : List (List ℕ)) → spoken n (xs ++ ys) ≡ spoken n xs ++ spoken (n + length xs) ys
spoken-append n [] ys = ap (λ (k : ℕ). spoken k ys) (omega arith)
spoken-append n (x ∷ xs) ys = chosen (is_passed_over x) refl (spoken-append (n + 1) xs ys) where
  moved : spoken ((n + 1) + length xs) ys ≡ spoken (n + length (x ∷ xs)) ys
  moved = ap (λ (k : ℕ). spoken k ys) (omega arith)

  chosen : (b : Bool) → is_passed_over x ≡ b → spoken (n + 1) (xs ++ ys) ≡ spoken (n + 1) xs ++ spoken ((n + 1) + length xs) ys →
      spoken n (x ∷ (xs ++ ys)) ≡ spoken n (x ∷ xs) ++ spoken (n + length (x ∷ xs)) ys
  chosen true e rest = rw e (rest ∙ ap (λ (zs : List (ℕ × List ℕ)). spoken (n + 1) xs ++ zs) moved)
  chosen false e rest = rw e (ap (λ (zs : List (ℕ × List ℕ)). (n, x) ∷ zs) (rest ∙ ap (λ (zs : List (ℕ × List ℕ)). spoken (n + 1) xs ++ zs) moved))

-- ---- the order of lines

forms_of-append : (a b : List Line) → forms_of (a ++ b) ≡ forms_of a ++ forms_of b
forms_of-append [] b = refl
forms_of-append (line ∷ a) b = ap (λ (fs : List Form). line.form ∷ fs) (forms_of-append a b)

abbrev pub all_seen : Seen → List Form → Seen
all_seen seen [] = seen
all_seen seen (form ∷ forms) = all_seen (after seen form) forms

all_seen-append : (seen : Seen) (a b : List Form) → all_seen seen (a ++ b) ≡ all_seen (all_seen seen a) b
all_seen-append seen [] b = refl
all_seen-append seen (form ∷ a) b = all_seen-append (after seen form) a b

Keeps-append : (command : Command) (seen : Seen) (a b : List Form) → Keeps command seen a → Keeps command (all_seen seen a) b → Keeps command seen (a ++ b)
Keeps-append command seen [] b h k = k
Keeps-append command seen (form ∷ a) b h k = (h.0, Keeps-append command (after seen form) a b h.1 k)

Keeps-split : (command : Command) (seen : Seen) (a b : List Form) → Keeps command seen (a ++ b) → Keeps command seen a × Keeps command (all_seen seen a) b
Keeps-split command seen [] b h = (tt, h)
Keeps-split command seen (form ∷ a) b h = let s = Keeps-split command (after seen form) a b h.1 in ((h.0, s.0), s.1)

-- ---- one text more

-- what one text of this number gives
one_spoken : (n : ℕ) (text : List ℕ) (line : Option Line) → IsLine n text line → AreForms (option_to_list line) (spoken n (text ∷ []))
one_spoken n text None h = rw h tt
one_spoken n text (Some line) h = rw h.0 (h.1, h.2, tt)

-- lines of one text are one line or none
record OneOf (lines : List Line) (n : ℕ) (text : List ℕ) : Type 0 where
  line : Option Line
  is : lines ≡ option_to_list line
  spelled : IsLine n text line

one_of : (lines : List Line) (n : ℕ) (text : List ℕ) → AreForms lines (spoken n (text ∷ [])) → OneOf lines n text
one_of lines n text h = chosen (is_passed_over text) refl where
  none : (ls : List Line) → is_passed_over text ≡ true → AreForms ls [] → OneOf ls n text
  none [] e k = record { line = None; is = refl; spelled = e }
  none (line ∷ ls) e k = absurd k

  some : (ls : List Line) → is_passed_over text ≡ false → AreForms ls ((n, text) ∷ []) → OneOf ls n text
  some [] e k = absurd k
  some (line ∷ []) e k = record { line = Some line; is = refl; spelled = (e, k.0, k.1) }
  some (line ∷ other ∷ ls) e k = absurd k.2

  chosen : (b : Bool) → is_passed_over text ≡ b → OneOf lines n text
  chosen true e = none lines e (rw e at h)
  chosen false e = some lines e (rw e at h)

one_kept : (command : Command) (seen : Seen) (line : Option Line) → IsAllowed command seen line → Keeps command seen (forms_of (option_to_list line))
one_kept command seen None a = tt
one_kept command seen (Some line) a = (a, tt)

kept_one : (command : Command) (seen : Seen) (line : Option Line) → Keeps command seen (forms_of (option_to_list line)) → IsAllowed command seen line
kept_one command seen None k = tt
kept_one command seen (Some line) k = k.0

one_seen : (seen : Seen) (line : Option Line) → all_seen seen (forms_of (option_to_list line)) ≡ after_line seen line
one_seen seen None = refl
one_seen seen (Some line) = refl

-- ---- how far

-- so many texts are read as these lines, and these texts are left
pub record Progress (command : Command) (bytes : List ℕ) (number : ℕ) (lines : List Line) (seen : Seen) (left : List (List ℕ)) : Type 0 where
  pub front : List (List ℕ)
  pub parts : lines_of bytes ≡ front ++ left
  pub count : number ≡ length front
  pub few : number ≤ most_lines
  pub forms : AreForms lines (spoken 1 front)
  pub order : Keeps command nothing (forms_of lines)
  pub seen_is : seen ≡ all_seen nothing (forms_of lines)

pub progress_start : (command : Command) (bytes : List ℕ) → Progress command bytes 0 [] nothing (lines_of bytes)
progress_start command bytes = record { front = []; parts = refl; count = refl; few = omega arith; forms = tt; order = tt; seen_is = refl }

pub progress_step : (command : Command) (bytes : List ℕ) (number : ℕ) (lines : List Line) (seen : Seen) (text : List ℕ) (left : List (List ℕ)) (line : Option Line) →
    Progress command bytes number lines seen (text ∷ left) → IsNext command seen (number + 1) text line →
    Progress command bytes (number + 1) (lines ++ option_to_list line) (after_line seen line) left
progress_step command bytes number lines seen text left line p next =
    let at : 1 + length p.front ≡ number + 1 = let count = p.count in omega arith in
    let allowed : IsAllowed command (all_seen nothing (forms_of lines)) line = subst (λ (s : Seen). IsAllowed command s line) p.seen_is next.allowed in
    let spelled : AreForms (option_to_list line) (spoken (1 + length p.front) (text ∷ [])) =
    subst (λ (n : ℕ). AreForms (option_to_list line) (spoken n (text ∷ []))) (sym at) (one_spoken (number + 1) text line next.spelled) in
    let both = forms_of-append lines (option_to_list line) in
    record {
      front = p.front ++ text ∷ [];
      parts = p.parts ∙ sym (append_assoc p.front (text ∷ []) left);
      count = let count = p.count in omega (arith, length-append p.front (text ∷ []));
      few = next.room;
      forms = subst (λ (xs : List (ℕ × List ℕ)). AreForms (lines ++ option_to_list line) xs) (sym (spoken-append 1 p.front (text ∷ [])))
          (AreForms-append lines (option_to_list line) (spoken 1 p.front) (spoken (1 + length p.front) (text ∷ [])) p.forms spelled);
      order = subst (λ (fs : List Form). Keeps command nothing fs) (sym both)
          (Keeps-append command nothing (forms_of lines) (forms_of (option_to_list line)) p.order (one_kept command (all_seen nothing (forms_of lines)) line allowed));
      seen_is = ap (λ (s : Seen). after_line s line) p.seen_is ∙ sym (one_seen (all_seen nothing (forms_of lines)) line)
          ∙ sym (all_seen-append nothing (forms_of lines) (forms_of (option_to_list line))) ∙ ap (λ (fs : List Form). all_seen nothing fs) (sym both);
    }

pub progress_end : (command : Command) (bytes : List ℕ) (number : ℕ) (lines : List Line) (seen : Seen) → Progress command bytes number lines seen [] → IsScript command bytes lines
progress_end command bytes number lines seen p =
    let whole : lines_of bytes ≡ p.front = p.parts ∙ append-nil p.front in
    record {
      forms = subst (λ (xs : List (List ℕ)). AreForms lines (spoken 1 xs)) (sym whole) p.forms;
      few = let few = p.few in let count = p.count in omega (arith, ap (λ (xs : List (List ℕ)). length xs) whole);
      order = p.order;
    }

pub IsScript-one : (command : Command) (bytes : List ℕ) (a b : List Line) → IsScript command bytes a → IsScript command bytes b → a ≡ b
IsScript-one command bytes a b h k = AreForms-one a b (spoken 1 (lines_of bytes)) h.forms k.forms

-- the first lines of a script are a front
front_of : (command : Command) (bytes : List ℕ) (lines : List Line) (number : ℕ) → IsScript command bytes lines → number ≤ length (lines_of bytes) →
    (front : List Line) × IsFront command bytes number front
front_of command bytes lines number script le =
    let texts = lines_of bytes in
    let whole : take number texts ++ drop number texts ≡ texts = take-append-drop number texts in
    let forms = subst (λ (xs : List (List ℕ)). AreForms lines (spoken 1 xs)) (sym whole) script.forms in
    let parts = subst (λ (xs : List (ℕ × List ℕ)). AreForms lines xs) (spoken-append 1 (take number texts) (drop number texts)) forms in
    let s = AreForms-split lines (spoken 1 (take number texts)) (spoken (1 + length (take number texts)) (drop number texts)) parts in
    let order = subst (λ (ls : List Line). Keeps command nothing (forms_of ls)) s.whole script.order in
    let kept = Keeps-split command nothing (forms_of s.front) (forms_of s.rest) (subst (λ (fs : List Form). Keeps command nothing fs) (forms_of-append s.front s.rest) order) in
    (s.front, record { forms = s.fronts; few = let few = script.few in omega arith; order = kept.0 })

refused_from_first : (command : Command) (bytes : List ℕ) (number : ℕ) → IsFirstOutside command bytes number → IsNoScript command bytes
refused_from_first command bytes number first lines script =
    let front = front_of command bytes lines number script first.within in first.outside front.0 front.1

progress_front : (command : Command) (bytes : List ℕ) (number : ℕ) (lines : List Line) (seen : Seen) (left : List (List ℕ)) → Progress command bytes number lines seen left →
    IsFront command bytes number lines
progress_front command bytes number lines seen left p = record {
  forms = rw (p.parts, take_at p.front left number (sym p.count)) p.forms;
  few = p.few;
  order = p.order;
}

pub progress_outside : (command : Command) (bytes : List ℕ) (number : ℕ) (lines : List Line) (seen : Seen) (text : List ℕ) (left : List (List ℕ)) →
    Progress command bytes number lines seen (text ∷ left) → ((line : Option Line) → IsNext command seen (number + 1) text line → ⊥) →
    IsFirstOutside command bytes (number + 1)
progress_outside command bytes number lines seen text left p none = record {
  within = let count = p.count in omega (arith, ap (λ (xs : List (List ℕ)). length xs) p.parts, length-append p.front (text ∷ left));
  before = (number, refl, (lines, progress_front command bytes number lines seen (text ∷ left) p));
  outside = λ others front.
      let split : lines_of bytes ≡ (p.front ++ text ∷ []) ++ left = p.parts ∙ sym (append_assoc p.front (text ∷ []) left) in
      let counted : number + 1 ≡ length (p.front ++ text ∷ []) = let count = p.count in omega (arith, length-append p.front (text ∷ [])) in
      let taken : take (number + 1) (lines_of bytes) ≡ p.front ++ text ∷ [] = rw split (take_at (p.front ++ text ∷ []) left (number + 1) (sym counted)) in
      let forms = subst (λ (xs : List (List ℕ)). AreForms others (spoken 1 xs)) taken front.forms in
      let parts = subst (λ (xs : List (ℕ × List ℕ)). AreForms others xs) (spoken-append 1 p.front (text ∷ [])) forms in
      let s = AreForms-split others (spoken 1 p.front) (spoken (1 + length p.front) (text ∷ [])) parts in
      let same : s.front ≡ lines = AreForms-one s.front lines (spoken 1 p.front) s.fronts p.forms in
      let at : 1 + length p.front ≡ number + 1 = let count = p.count in omega arith in
      let one = one_of s.rest (number + 1) text (subst (λ (n : ℕ). AreForms s.rest (spoken n (text ∷ []))) at s.rests) in
      let order = subst (λ (fs : List Form). Keeps command nothing fs) (ap (λ (ls : List Line). forms_of ls) s.whole ∙ forms_of-append s.front s.rest) front.order in
      let kept = Keeps-split command nothing (forms_of s.front) (forms_of s.rest) order in
      let seen_was : all_seen nothing (forms_of s.front) ≡ seen = ap (λ (ls : List Line). all_seen nothing (forms_of ls)) same ∙ sym p.seen_is in
      let last : Keeps command seen (forms_of (option_to_list one.line)) =
      subst (λ (ls : List Line). Keeps command seen (forms_of ls)) one.is (subst (λ (st : Seen). Keeps command st (forms_of s.rest)) seen_was kept.1) in
      none one.line (record { room = front.few; spelled = one.spelled; allowed = kept_one command seen one.line last });
}

pub progress_refused : (command : Command) (bytes : List ℕ) (number : ℕ) (lines : List Line) (seen : Seen) (text : List ℕ) (left : List (List ℕ)) →
    Progress command bytes number lines seen (text ∷ left) → ((line : Option Line) → IsNext command seen (number + 1) text line → ⊥) → IsNoScript command bytes
progress_refused command bytes number lines seen text left p none =
    refused_from_first command bytes (number + 1) (progress_outside command bytes number lines seen text left p none)

pub progress_only : (command : Command) (bytes : List ℕ) (number : ℕ) (lines : List Line) (seen : Seen) → Progress command bytes number lines seen [] →
    (others : List Line) → IsScript command bytes others → others ≡ lines
progress_only command bytes number lines seen p others script = IsScript-one command bytes others lines script (progress_end command bytes number lines seen p)

-- ---- a refusal of the next line

pub no_next : (command : Command) (seen : Seen) (number : ℕ) (text : List ℕ) → is_passed_over text ≡ false → form_of (words_of text) ≡ None →
    (line : Option Line) → IsNext command seen number text line → ⊥
no_next command seen number text other none None next = let both : true ≡ false = sym next.spelled ∙ other in cc
no_next command seen number text other none (Some line) next =
    none-some _ (sym none ∙ form_of-again line.form (words_of text) next.spelled.2)

pub not_allowed : (command : Command) (seen : Seen) (number : ℕ) (text : List ℕ) (form : Form) → is_passed_over text ≡ false →
    form_of (words_of text) ≡ Some form → allows command seen form ≡ false → (line : Option Line) → IsNext command seen number text line → ⊥
not_allowed command seen number text form other is refused None next = let both : true ≡ false = sym next.spelled ∙ other in cc
not_allowed command seen number text form other is refused (Some line) next =
    let same : line.form ≡ form = same_Some _ _ (sym (form_of-again line.form (words_of text) next.spelled.2) ∙ is) in
    let both : true ≡ false = sym next.allowed ∙ ap (λ (f : Form). allows command seen f) same ∙ refused in
    cc

pub next_refused : (command : Command) (bytes : List ℕ) (number : ℕ) (lines : List Line) (seen : Seen) (text : List ℕ) (left : List (List ℕ)) (refusal : ScriptRefusal) →
    Progress command bytes number lines seen (text ∷ left) →
    OnLine refusal (λ _. (line : Option Line) → IsNext command seen (number + 1) text line → ⊥) → OnLine refusal (λ _. IsNoScript command bytes)
next_refused command bytes number lines seen text left (refusals.Line n) p none = progress_refused command bytes number lines seen text left p none
next_refused command bytes number lines seen text left refusals.NoMemory p none = tt

pub next_first : (command : Command) (bytes : List ℕ) (number : ℕ) (lines : List Line) (seen : Seen) (text : List ℕ) (left : List (List ℕ)) (refusal : ScriptRefusal) →
    Progress command bytes number lines seen (text ∷ left) → OnLine refusal (λ n. n ≡ number + 1) →
    OnLine refusal (λ _. (line : Option Line) → IsNext command seen (number + 1) text line → ⊥) → OnLine refusal (IsFirstOutside command bytes)
next_first command bytes number lines seen text left (refusals.Line n) p is none = rw is (progress_outside command bytes number lines seen text left p none)
next_first command bytes number lines seen text left refusals.NoMemory p is none = tt

-- ---- what was read keeps the rules

SpellAll-values : (kinds : List Kind) (values : Values kinds) (words : List (List ℕ)) → SpellAll kinds values words → AreValues kinds values
SpellAll-values [] values words h = tt
SpellAll-values (kind ∷ kinds) values words h = (h.1.1.1.is_value, SpellAll-values kinds values.1 h.1.0 h.1.1.2)

spelled_values : (lines : List Line) (xs : List (ℕ × List ℕ)) → AreForms lines xs → AreFormValues lines
spelled_values [] xs h = tt
spelled_values (line ∷ lines) [] h = absurd h
spelled_values (line ∷ lines) (x ∷ xs) h =
    (SpellAll-values (kinds_of (parts_of_form line.form)) (values_of (parts_of_form line.form)) _ h.1, spelled_values lines xs h.2)

Ascends-from : (n m : ℕ) (lines : List Line) → m ≤ n → Ascends n lines → Ascends m lines
Ascends-from n m [] le h = tt
Ascends-from n m (line ∷ lines) le h = let first = h.0 in (omega arith, h.1, h.2)

spoken_ascends : (n : ℕ) (lines : List Line) (texts : List (List ℕ)) → n + length texts ≤ most_lines + 1 → AreForms lines (spoken n texts) → Ascends n lines
spoken_ascends n [] texts le h = tt
spoken_ascends n (line ∷ lines) [] le h = absurd h
spoken_ascends n (line ∷ lines) (text ∷ texts) le h =
    chosen (is_passed_over text) refl (spoken_ascends (n + 1) (line ∷ lines) texts (omega arith)) (spoken_ascends (n + 1) lines texts (omega arith)) where
      chosen : (b : Bool) → is_passed_over text ≡ b → (AreForms (line ∷ lines) (spoken (n + 1) texts) → Ascends (n + 1) (line ∷ lines)) →
          (AreForms lines (spoken (n + 1) texts) → Ascends (n + 1) lines) → Ascends n (line ∷ lines)
      chosen true e all rest = Ascends-from (n + 1) n (line ∷ lines) (omega arith) (all (rw e at h))
      chosen false e all rest =
          let k : AreForms (line ∷ lines) ((n, text) ∷ spoken (n + 1) texts) = rw e at h in
          let is : line.number ≡ n = k.0 in
          (omega arith, omega arith, subst (λ (m : ℕ). Ascends (m + 1) lines) (sym is) (rest k.2))

pub script_lawful : (command : Command) (bytes : List ℕ) (lines : List Line) → IsScript command bytes lines → IsLawful command lines
script_lawful command bytes lines script = record {
  values = spelled_values lines (spoken 1 (lines_of bytes)) script.forms;
  numbers = spoken_ascends 1 lines (lines_of bytes) (let few = script.few in omega arith) script.forms;
  order = script.order;
}
