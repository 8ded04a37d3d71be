-- Reading a line from left to right, word by word, by the table of forms.
use Rattle.std.specs.Prelude.{◌≡◌, ℕ, List, [], ◌∷◌, Option, Some, None, if◌then◌else◌}
use Rattle.std.specs.Str.{bytes_eq}
use Rattle.cfs_words.specs.Reading.{◌>>=◌, number_of, word_at, read}
use Rattle.cfs_script.specs.declared.form.Form.{Form}
use Rattle.cfs_script.specs.declared.verb.Verb.{Verb}
use Rattle.cfs_script.specs.declared.verb.Verb.TheVariants as verbs
use Rattle.cfs_script.specs.declared.order.Order.{Order}
use Rattle.cfs_script.specs.declared.order.Order.TheVariants as orders
use Rattle.cfs_script.specs.Table.{callers, verb_word, verb_kinds, verb_form, order_word, order_kinds, order_form}

-- the first of the items whose word this is
abbrev pub named : {X : Type 0} → (X → List ℕ) → List X → List ℕ → Option X
named word_of [] word = None
named word_of (item ∷ items) word =
    if bytes_eq word (word_of item) then Some item else named word_of items word

abbrev pub or_else : {X : Type 0} → Option X → Option X → Option X
or_else (Some x) other = Some x
or_else None other = other

-- ---- verbs and orders, in groups of at most eight

abbrev pub names_verbs : List Verb
names_verbs = verbs.Open ∷ verbs.Mkdir ∷ verbs.Unlink ∷ verbs.Rmdir ∷ verbs.Rename ∷ []

unfoldable pub verb_of_names : List ℕ → Option Verb
verb_of_names word = named verb_word names_verbs word

abbrev pub bytes_verbs : List Verb
bytes_verbs =
    verbs.Read ∷ verbs.Write ∷ verbs.Pread ∷ verbs.Pwrite ∷ verbs.TryPwrite ∷ verbs.Lseek
    ∷ verbs.Ftruncate ∷ []

unfoldable pub verb_of_bytes : List ℕ → Option Verb
verb_of_bytes word = named verb_word bytes_verbs word

abbrev pub files_verbs : List Verb
files_verbs = verbs.Close ∷ verbs.Fsync ∷ verbs.Post ∷ verbs.Serve ∷ []

unfoldable pub verb_of_files : List ℕ → Option Verb
verb_of_files word = named verb_word files_verbs word

abbrev pub verb_of : List ℕ → Option Verb
verb_of word = or_else (verb_of_names word) (or_else (verb_of_bytes word) (verb_of_files word))

abbrev pub workers_orders : List Order
workers_orders =
    orders.Dispatch ∷ orders.Apply ∷ orders.Finish ∷ orders.Skip ∷ orders.Trim ∷ orders.Settle
    ∷ orders.Turn ∷ orders.Drain ∷ []

unfoldable pub order_of_workers : List ℕ → Option Order
order_of_workers word = named order_word workers_orders word

abbrev pub runs_orders : List Order
runs_orders =
    orders.Caller ∷ orders.Queue ∷ orders.Stop ∷ orders.Crash ∷ orders.Mount ∷ orders.Fail
    ∷ orders.FailRead ∷ orders.Cut ∷ []

unfoldable pub order_of_runs : List ℕ → Option Order
order_of_runs word = named order_word runs_orders word

abbrev pub order_of : List ℕ → Option Order
order_of word = or_else (order_of_workers word) (order_of_runs word)

-- ---- the line

abbrev pub order_read : Order → List (List ℕ) → Option Form
order_read order words = read (order_kinds order) (order_form order) words

abbrev pub verb_read : ℕ → Verb → List (List ℕ) → Option Form
verb_read caller verb words = read (verb_kinds verb) (verb_form caller verb) words

unfoldable pub after_order : List ℕ → List (List ℕ) → Option Form
after_order word words = do
  order ← order_of word
  order_read order words

unfoldable pub after_caller : ℕ → List (List ℕ) → Option Form
after_caller caller words = do
  word ← word_at words
  verb ← verb_of word.0
  verb_read caller verb word.1

abbrev pub after_first : Option ℕ → List ℕ → List (List ℕ) → Option Form
after_first None word words = after_order word words
after_first (Some caller) word words = after_caller caller words

unfoldable pub form_of : List (List ℕ) → Option Form
form_of words = do
  word ← word_at words
  after_first (number_of 1 callers word.0) word.0 word.1
