-- A line is read as the form that it spells, and as no other.
use Rattle.std.proofs.Common.{◌≡◌, ℕ, Bool, true, false, cond, List, [], ◌∷◌, ◌++◌, Option, Some, None, inl, refl, sym, subst, ap, ◌∙◌}
use Rattle.std.specs.Fmt.{decimal}
use Rattle.std.specs.Str.{bytes_eq}
use Rattle.std.proofs.lemmas.Option.{none-some, same_Some}
use Rattle.std.proofs.lemmas.Slice.Eq.{bytes_eq-Decides}
use Rattle.cfs_words.specs.Spelling.{Key, Values, Spells, SpellAll, words_for, IsOther}
use Rattle.cfs_words.specs.Parts.{words_of}
use Rattle.cfs_words.specs.Reading.{◌>>=◌, number_of, word_at, read}
use Rattle.cfs_words.proofs.Numbers.{IsDecimal, number_of-takes, number_of-again}
use Rattle.cfs_words.proofs.Payloads.{bind_some}
use Rattle.cfs_words.proofs.Taking.{Made, canonical, read-takes, read-again}
use Rattle.cfs_script.specs.declared.form.Form.{Form}
use Rattle.cfs_script.specs.declared.form.Form.TheVariants as forms
use Rattle.cfs_script.specs.declared.verb.Verb.{Verb}
use Rattle.cfs_script.specs.declared.verb.Verb.TheVariants as verbs
use Rattle.cfs_script.specs.declared.order.Order.{Order}
use Rattle.cfs_script.specs.declared.order.Order.TheVariants as orders
use Rattle.cfs_script.specs.Table.{callers, caller_number, verb_word, verb_kinds, order_word, order_kinds, Parts, Asked, Ordered, parts_of_form, verb_form, order_form, kinds_of, values_of, AreFormWords, IsForm}
use Rattle.cfs_script.specs.Reading.{named, or_else, names_verbs, bytes_verbs, files_verbs, workers_orders, runs_orders, verb_of_names, verb_of_bytes, verb_of_files, verb_of, order_of_workers, order_of_runs, order_of, after_order, after_caller, after_first, form_of}

-- ---- the table, there and back

abbrev form_from : Parts → Form
form_from (Asked caller verb values) = verb_form caller verb values
form_from (Ordered order values) = order_form order values

verb_parts : (caller : ℕ) (verb : Verb) (values : Values (verb_kinds verb)) → parts_of_form (verb_form caller verb values) ≡ Asked caller verb values
verb_parts caller verbs.Open values = refl
verb_parts caller verbs.Mkdir values = refl
verb_parts caller verbs.Unlink values = refl
verb_parts caller verbs.Rmdir values = refl
verb_parts caller verbs.Rename values = refl
verb_parts caller verbs.Read values = refl
verb_parts caller verbs.Write values = refl
verb_parts caller verbs.Pread values = refl
verb_parts caller verbs.Pwrite values = refl
verb_parts caller verbs.TryPwrite values = refl
verb_parts caller verbs.Lseek values = refl
verb_parts caller verbs.Ftruncate values = refl
verb_parts caller verbs.Close values = refl
verb_parts caller verbs.Fsync values = refl
verb_parts caller verbs.Post values = refl
verb_parts caller verbs.Serve values = refl

order_parts : (order : Order) (values : Values (order_kinds order)) → parts_of_form (order_form order values) ≡ Ordered order values
order_parts orders.Dispatch values = refl
order_parts orders.Apply values = refl
order_parts orders.Finish values = refl
order_parts orders.Skip values = refl
order_parts orders.Trim values = refl
order_parts orders.Settle values = refl
order_parts orders.Turn values = refl
order_parts orders.Drain values = refl
order_parts orders.Caller values = refl
order_parts orders.Queue values = refl
order_parts orders.Stop values = refl
order_parts orders.Crash values = refl
order_parts orders.Mount values = refl
order_parts orders.Fail values = refl
order_parts orders.FailRead values = refl
order_parts orders.Cut values = refl

form_parts : (form : Form) → form_from (parts_of_form form) ≡ form
form_parts (forms.Open caller path flags mode) = refl
form_parts (forms.Mkdir caller path mode) = refl
form_parts (forms.Unlink caller path) = refl
form_parts (forms.Rmdir caller path) = refl
form_parts (forms.Rename caller from to) = refl
form_parts (forms.Read caller fd count) = refl
form_parts (forms.Write caller fd bytes) = refl
form_parts (forms.Pread caller fd offset count) = refl
form_parts (forms.Pwrite caller fd offset bytes) = refl
form_parts (forms.TryPwrite caller fd offset bytes) = refl
form_parts (forms.Lseek caller fd seek) = refl
form_parts (forms.Ftruncate caller fd len) = refl
form_parts (forms.Close caller fd) = refl
form_parts (forms.Fsync caller fd) = refl
form_parts (forms.Post caller fd offset count) = refl
form_parts (forms.Serve caller fd place) = refl
form_parts (forms.Dispatch ino place) = refl
form_parts (forms.Apply ino place) = refl
form_parts (forms.Finish ino place) = refl
form_parts (forms.Skip ino place) = refl
form_parts (forms.Trim ino) = refl
form_parts (forms.Settle ino) = refl
form_parts forms.Turn = refl
form_parts forms.Drain = refl
form_parts (forms.Caller caller uid gid) = refl
form_parts (forms.Queue caller fd) = refl
form_parts (forms.Stop step) = refl
form_parts (forms.Crash pick) = refl
form_parts forms.Mount = refl
form_parts (forms.Fail device step) = refl
form_parts (forms.FailRead device step) = refl
form_parts (forms.Cut step pick) = refl

-- ---- the words of verbs and orders

named-word_of : {X : Type 0} (word_of : X → List ℕ) (items : List X) (word : List ℕ) (item : X) → named word_of items word ≡ Some item → word ≡ word_of item
named-word_of word_of [] word item e = absurd (none-some _ e)
named-word_of {X} word_of (first ∷ items) word item e = chosen (bytes_eq word (word_of first)) refl e (named-word_of word_of items word item) where
  chosen : (b : Bool) → bytes_eq word (word_of first) ≡ b → cond b (Some first) (named word_of items word) ≡ Some item →
      (named word_of items word ≡ Some item → word ≡ word_of item) → word ≡ word_of item
  chosen true is f others = (bytes_eq-Decides word (word_of first)).0 is ∙ ap word_of (same_Some _ _ f)
  chosen false is f others = others f

or_else-either : {X : Type 0} (one other : Option X) (x : X) (P : Type 0) → or_else one other ≡ Some x → (one ≡ Some x → P) → (other ≡ Some x → P) → P
or_else-either None other x P e first second = second e
or_else-either (Some y) other x P e first second = first e

verb_of-word : (word : List ℕ) (verb : Verb) → verb_of word ≡ Some verb → word ≡ verb_word verb
unfolding verb_of_names verb_of_bytes verb_of_files
verb_of-word word verb e =
    or_else-either _ _ verb (word ≡ verb_word verb) e (λ f. named-word_of verb_word names_verbs word verb f) (λ e1. or_else-either _ _ verb (word ≡ verb_word verb) e1 (λ f. named-word_of verb_word bytes_verbs word verb f) (λ e2. named-word_of verb_word files_verbs word verb e2))

order_of-word : (word : List ℕ) (order : Order) → order_of word ≡ Some order → word ≡ order_word order
unfolding order_of_workers order_of_runs
order_of-word word order e =
    or_else-either _ _ order (word ≡ order_word order) e (λ f. named-word_of order_word workers_orders word order f) (λ e1. named-word_of order_word runs_orders word order e1)

verb_of-again : (verb : Verb) → verb_of (verb_word verb) ≡ Some verb
unfolding verb_of_names verb_of_bytes verb_of_files
verb_of-again verbs.Open = refl
verb_of-again verbs.Mkdir = refl
verb_of-again verbs.Unlink = refl
verb_of-again verbs.Rmdir = refl
verb_of-again verbs.Rename = refl
verb_of-again verbs.Read = refl
verb_of-again verbs.Write = refl
verb_of-again verbs.Pread = refl
verb_of-again verbs.Pwrite = refl
verb_of-again verbs.TryPwrite = refl
verb_of-again verbs.Lseek = refl
verb_of-again verbs.Ftruncate = refl
verb_of-again verbs.Close = refl
verb_of-again verbs.Fsync = refl
verb_of-again verbs.Post = refl
verb_of-again verbs.Serve = refl

order_of-again : (order : Order) → order_of (order_word order) ≡ Some order
unfolding order_of_workers order_of_runs
order_of-again orders.Dispatch = refl
order_of-again orders.Apply = refl
order_of-again orders.Finish = refl
order_of-again orders.Skip = refl
order_of-again orders.Trim = refl
order_of-again orders.Settle = refl
order_of-again orders.Turn = refl
order_of-again orders.Drain = refl
order_of-again orders.Caller = refl
order_of-again orders.Queue = refl
order_of-again orders.Stop = refl
order_of-again orders.Crash = refl
order_of-again orders.Mount = refl
order_of-again orders.Fail = refl
order_of-again orders.FailRead = refl
order_of-again orders.Cut = refl

order_no_number : (order : Order) → number_of 1 callers (order_word order) ≡ None
unfolding number_of
order_no_number orders.Dispatch = refl
order_no_number orders.Apply = refl
order_no_number orders.Finish = refl
order_no_number orders.Skip = refl
order_no_number orders.Trim = refl
order_no_number orders.Settle = refl
order_no_number orders.Turn = refl
order_no_number orders.Drain = refl
order_no_number orders.Caller = refl
order_no_number orders.Queue = refl
order_no_number orders.Stop = refl
order_no_number orders.Crash = refl
order_no_number orders.Mount = refl
order_no_number orders.Fail = refl
order_no_number orders.FailRead = refl
order_no_number orders.Cut = refl

-- ---- what is read is spelled

abbrev ArePartsWords : Parts → List (List ℕ) → Type 0
ArePartsWords parts words = SpellAll (kinds_of parts) (values_of parts) words

spell_key : (text word : List ℕ) → word ≡ text → Spells (Key text) tt (word ∷ [])
spell_key text word is = record { is_value = tt; are_words = inl (ap (λ (w : List ℕ). w ∷ []) is) }

after_order-takes : (word : List ℕ) (words : List (List ℕ)) (form : Form) → after_order word words ≡ Some form → AreFormWords form (word ∷ words)
unfolding after_order
after_order-takes word words form e =
    let found = bind_some (order_of word) (λ order. read (order_kinds order) (order_form order) words) form e in
    let made = read-takes (order_kinds found.0) (order_form found.0) words form found.2 in
    let spelled : ArePartsWords (Ordered found.0 made.values) (word ∷ words) =
    (word ∷ [], (words, (refl, spell_key (order_word found.0) word (order_of-word word found.0 found.1), made.spelled))) in
    subst (λ (f : Form). AreFormWords f (word ∷ words)) made.is_made
    (subst (λ (parts : Parts). ArePartsWords parts (word ∷ words)) (sym (order_parts found.0 made.values)) spelled)

spell_caller : (caller : ℕ) (word : List ℕ) → IsDecimal 1 callers caller word → Spells caller_number caller (word ∷ [])
spell_caller caller word h = record { is_value = (h.low, h.high, h.small); are_words = inl (ap (λ (w : List ℕ). w ∷ []) h.text) }

after_caller-takes : (caller : ℕ) (word : List ℕ) (words : List (List ℕ)) (form : Form) → IsDecimal 1 callers caller word →
    after_caller caller words ≡ Some form → AreFormWords form (word ∷ words)
unfolding after_caller
after_caller-takes caller word [] form h e = absurd (none-some _ e)
after_caller-takes caller word (second ∷ words) form h e =
    let found = bind_some (verb_of second) (λ verb. read (verb_kinds verb) (verb_form caller verb) words) form e in
    let made = read-takes (verb_kinds found.0) (verb_form caller found.0) words form found.2 in
    let key = spell_key (verb_word found.0) second (verb_of-word second found.0 found.1) in
    let spelled : ArePartsWords (Asked caller found.0 made.values) (word ∷ second ∷ words) =
    (word ∷ [], (second ∷ words, (refl, spell_caller caller word h, (second ∷ [], (words, (refl, key, made.spelled)))))) in
    subst (λ (f : Form). AreFormWords f (word ∷ second ∷ words)) made.is_made
    (subst (λ (parts : Parts). ArePartsWords parts (word ∷ second ∷ words)) (sym (verb_parts caller found.0 made.values)) spelled)

after_first-takes : (o : Option ℕ) (word : List ℕ) (words : List (List ℕ)) (form : Form) → number_of 1 callers word ≡ o →
    after_first o word words ≡ Some form → AreFormWords form (word ∷ words)
after_first-takes None word words form is e = after_order-takes word words form e
after_first-takes (Some caller) word words form is e = after_caller-takes caller word words form (number_of-takes 1 callers word caller is) e

pub form_of-takes : (words : List (List ℕ)) (form : Form) → form_of words ≡ Some form → AreFormWords form words
unfolding form_of
form_of-takes [] form e = absurd (none-some _ e)
form_of-takes (word ∷ words) form e = after_first-takes (number_of 1 callers word) word words form refl e

-- ---- what is spelled is read

parts-again : (parts : Parts) (words : List (List ℕ)) → ArePartsWords parts words → form_of words ≡ Some (form_from parts)
unfolding form_of after_order after_caller
parts-again (Asked caller verb values) words h =
    let p = h.1.1 in
    let q = p.2.1.1 in
    let first = canonical caller_number caller h.0 (λ o. o) p.1 in
    let second = canonical (Key (verb_word verb)) tt p.2.0 (λ o. o) q.1 in
    let number = number_of-again 1 callers (decimal caller) caller (record { text = refl; low = p.1.is_value.0; high = p.1.is_value.1; small = p.1.is_value.2 }) in
    rw (p.0, first, q.0, second, number, verb_of-again verb) (read-again (verb_kinds verb) (verb_form caller verb) p.2.1.0 values q.2)
parts-again (Ordered order values) words h =
    let p = h.1.1 in
    let first = canonical (Key (order_word order)) tt h.0 (λ o. o) p.1 in
    rw (p.0, first, order_no_number order, order_of-again order) (read-again (order_kinds order) (order_form order) h.1.0 values p.2)

pub form_of-again : (form : Form) (words : List (List ℕ)) → AreFormWords form words → form_of words ≡ Some form
form_of-again form words h = parts-again (parts_of_form form) words h ∙ ap Some (form_parts form)

-- a line spells one form
pub IsForm-one : (a b : Form) (text : List ℕ) → IsForm a text → IsForm b text → a ≡ b
IsForm-one a b text h k = same_Some _ _ (sym (form_of-again a (words_of text) h) ∙ form_of-again b (words_of text) k)
