-- The table of forms: one line a form in each definition. Reading and printing both follow it.
use Rattle.std.specs.Prelude.{◌≡◌, ℕ, List, [], ◌∷◌, codes}
use Rattle.cfs_words.specs.Parts.{words_of, joined}
use Rattle.cfs_words.specs.Values.{largest_number}
use Rattle.cfs_words.specs.Spelling.{Kind, Key, Number, Path, Opening, Mode, Payload, Whence, Target, Values, AreValues, all_words, SpellAll}
use Rattle.cfs_script.specs.declared.form.Form.{Form}
use Rattle.cfs_script.specs.declared.form.Form.TheVariants as forms
use Rattle.cfs_script.specs.declared.verb.Verb.{Verb}
use Rattle.cfs_script.specs.declared.verb.Verb.TheVariants as verbs
use Rattle.cfs_script.specs.declared.order.Order.{Order}
use Rattle.cfs_script.specs.declared.order.Order.TheVariants as orders

-- the largest number of a caller
abbrev pub callers : ℕ
callers = 16

abbrev pub caller_number : Kind
caller_number = Number 1 callers

abbrev pub any_number : Kind
any_number = Number 0 largest_number

abbrev pub from_one : Kind
from_one = Number 1 largest_number

-- ---- lines that begin with a caller's number

-- the word of a verb
abbrev pub verb_word : Verb → List ℕ
verb_word verbs.Open = codes "open"
verb_word verbs.Mkdir = codes "mkdir"
verb_word verbs.Unlink = codes "unlink"
verb_word verbs.Rmdir = codes "rmdir"
verb_word verbs.Rename = codes "rename"
verb_word verbs.Read = codes "read"
verb_word verbs.Write = codes "write"
verb_word verbs.Pread = codes "pread"
verb_word verbs.Pwrite = codes "pwrite"
verb_word verbs.TryPwrite = codes "try_pwrite"
verb_word verbs.Lseek = codes "lseek"
verb_word verbs.Ftruncate = codes "ftruncate"
verb_word verbs.Close = codes "close"
verb_word verbs.Fsync = codes "fsync"
verb_word verbs.Post = codes "post"
verb_word verbs.Serve = codes "serve"

-- the kinds of the words behind it
abbrev pub verb_kinds : Verb → List Kind
verb_kinds verbs.Open = Path ∷ Opening ∷ []
verb_kinds verbs.Mkdir = Path ∷ Mode ∷ []
verb_kinds verbs.Unlink = Path ∷ []
verb_kinds verbs.Rmdir = Path ∷ []
verb_kinds verbs.Rename = Path ∷ Path ∷ []
verb_kinds verbs.Read = any_number ∷ any_number ∷ []
verb_kinds verbs.Write = any_number ∷ Payload ∷ []
verb_kinds verbs.Pread = any_number ∷ any_number ∷ any_number ∷ []
verb_kinds verbs.Pwrite = any_number ∷ any_number ∷ Payload ∷ []
verb_kinds verbs.TryPwrite = any_number ∷ any_number ∷ Payload ∷ []
verb_kinds verbs.Lseek = any_number ∷ Whence ∷ []
verb_kinds verbs.Ftruncate = any_number ∷ any_number ∷ []
verb_kinds verbs.Close = any_number ∷ []
verb_kinds verbs.Fsync = any_number ∷ []
verb_kinds verbs.Post = any_number ∷ any_number ∷ any_number ∷ []
verb_kinds verbs.Serve = any_number ∷ any_number ∷ []

-- ---- lines that begin with an order

-- the word of an order
abbrev pub order_word : Order → List ℕ
order_word orders.Dispatch = codes "dispatch"
order_word orders.Apply = codes "apply"
order_word orders.Finish = codes "finish"
order_word orders.Skip = codes "skip"
order_word orders.Trim = codes "trim"
order_word orders.Settle = codes "settle"
order_word orders.Turn = codes "turn"
order_word orders.Drain = codes "drain"
order_word orders.Caller = codes "caller"
order_word orders.Queue = codes "queue"
order_word orders.Stop = codes "stop"
order_word orders.Crash = codes "crash"
order_word orders.Mount = codes "mount"
order_word orders.Fail = codes "fail"
order_word orders.FailRead = codes "failread"
order_word orders.Cut = codes "cut"

-- the kinds of the words behind it
abbrev pub order_kinds : Order → List Kind
order_kinds orders.Dispatch = any_number ∷ any_number ∷ []
order_kinds orders.Apply = any_number ∷ any_number ∷ []
order_kinds orders.Finish = any_number ∷ any_number ∷ []
order_kinds orders.Skip = any_number ∷ any_number ∷ []
order_kinds orders.Trim = any_number ∷ []
order_kinds orders.Settle = any_number ∷ []
order_kinds orders.Turn = []
order_kinds orders.Drain = []
order_kinds orders.Caller = caller_number ∷ any_number ∷ any_number ∷ []
order_kinds orders.Queue = caller_number ∷ any_number ∷ []
order_kinds orders.Stop = from_one ∷ []
order_kinds orders.Crash = any_number ∷ []
order_kinds orders.Mount = []
order_kinds orders.Fail = Target ∷ from_one ∷ []
order_kinds orders.FailRead = Target ∷ from_one ∷ []
order_kinds orders.Cut = from_one ∷ any_number ∷ []

-- ---- forms and their words

-- what a form has: the caller and its verb, or the order, and the values behind it
pub data Parts : Type 0 where
  Asked : ℕ → (verb : Verb) → Values (verb_kinds verb) → Parts
  Ordered : (order : Order) → Values (order_kinds order) → Parts

abbrev pub parts_of_form : Form → Parts
parts_of_form (forms.Open caller path flags mode) =
    Asked caller verbs.Open (path, ((flags, mode), tt))
parts_of_form (forms.Mkdir caller path mode) = Asked caller verbs.Mkdir (path, (mode, tt))
parts_of_form (forms.Unlink caller path) = Asked caller verbs.Unlink (path, tt)
parts_of_form (forms.Rmdir caller path) = Asked caller verbs.Rmdir (path, tt)
parts_of_form (forms.Rename caller from to) = Asked caller verbs.Rename (from, (to, tt))
parts_of_form (forms.Read caller fd count) = Asked caller verbs.Read (fd, (count, tt))
parts_of_form (forms.Write caller fd bytes) = Asked caller verbs.Write (fd, (bytes, tt))
parts_of_form (forms.Pread caller fd offset count) =
    Asked caller verbs.Pread (fd, (offset, (count, tt)))
parts_of_form (forms.Pwrite caller fd offset bytes) =
    Asked caller verbs.Pwrite (fd, (offset, (bytes, tt)))
parts_of_form (forms.TryPwrite caller fd offset bytes) =
    Asked caller verbs.TryPwrite (fd, (offset, (bytes, tt)))
parts_of_form (forms.Lseek caller fd seek) = Asked caller verbs.Lseek (fd, (seek, tt))
parts_of_form (forms.Ftruncate caller fd len) = Asked caller verbs.Ftruncate (fd, (len, tt))
parts_of_form (forms.Close caller fd) = Asked caller verbs.Close (fd, tt)
parts_of_form (forms.Fsync caller fd) = Asked caller verbs.Fsync (fd, tt)
parts_of_form (forms.Post caller fd offset count) =
    Asked caller verbs.Post (fd, (offset, (count, tt)))
parts_of_form (forms.Serve caller fd place) = Asked caller verbs.Serve (fd, (place, tt))
parts_of_form (forms.Dispatch ino place) = Ordered orders.Dispatch (ino, (place, tt))
parts_of_form (forms.Apply ino place) = Ordered orders.Apply (ino, (place, tt))
parts_of_form (forms.Finish ino place) = Ordered orders.Finish (ino, (place, tt))
parts_of_form (forms.Skip ino place) = Ordered orders.Skip (ino, (place, tt))
parts_of_form (forms.Trim ino) = Ordered orders.Trim (ino, tt)
parts_of_form (forms.Settle ino) = Ordered orders.Settle (ino, tt)
parts_of_form forms.Turn = Ordered orders.Turn tt
parts_of_form forms.Drain = Ordered orders.Drain tt
parts_of_form (forms.Caller caller uid gid) = Ordered orders.Caller (caller, (uid, (gid, tt)))
parts_of_form (forms.Queue caller fd) = Ordered orders.Queue (caller, (fd, tt))
parts_of_form (forms.Stop step) = Ordered orders.Stop (step, tt)
parts_of_form (forms.Crash pick) = Ordered orders.Crash (pick, tt)
parts_of_form forms.Mount = Ordered orders.Mount tt
parts_of_form (forms.Fail device step) = Ordered orders.Fail (device, (step, tt))
parts_of_form (forms.FailRead device step) = Ordered orders.FailRead (device, (step, tt))
parts_of_form (forms.Cut step pick) = Ordered orders.Cut (step, (pick, tt))

-- the form of a caller, a verb and its values
abbrev pub verb_form : ℕ → (verb : Verb) → Values (verb_kinds verb) → Form
verb_form caller verbs.Open values = forms.Open caller values.0 values.1.0.0 values.1.0.1
verb_form caller verbs.Mkdir values = forms.Mkdir caller values.0 values.1.0
verb_form caller verbs.Unlink values = forms.Unlink caller values.0
verb_form caller verbs.Rmdir values = forms.Rmdir caller values.0
verb_form caller verbs.Rename values = forms.Rename caller values.0 values.1.0
verb_form caller verbs.Read values = forms.Read caller values.0 values.1.0
verb_form caller verbs.Write values = forms.Write caller values.0 values.1.0
verb_form caller verbs.Pread values = forms.Pread caller values.0 values.1.0 values.1.1.0
verb_form caller verbs.Pwrite values = forms.Pwrite caller values.0 values.1.0 values.1.1.0
verb_form caller verbs.TryPwrite values = forms.TryPwrite caller values.0 values.1.0 values.1.1.0
verb_form caller verbs.Lseek values = forms.Lseek caller values.0 values.1.0
verb_form caller verbs.Ftruncate values = forms.Ftruncate caller values.0 values.1.0
verb_form caller verbs.Close values = forms.Close caller values.0
verb_form caller verbs.Fsync values = forms.Fsync caller values.0
verb_form caller verbs.Post values = forms.Post caller values.0 values.1.0 values.1.1.0
verb_form caller verbs.Serve values = forms.Serve caller values.0 values.1.0

abbrev pub order_form : (order : Order) → Values (order_kinds order) → Form
order_form orders.Dispatch values = forms.Dispatch values.0 values.1.0
order_form orders.Apply values = forms.Apply values.0 values.1.0
order_form orders.Finish values = forms.Finish values.0 values.1.0
order_form orders.Skip values = forms.Skip values.0 values.1.0
order_form orders.Trim values = forms.Trim values.0
order_form orders.Settle values = forms.Settle values.0
order_form orders.Turn values = forms.Turn
order_form orders.Drain values = forms.Drain
order_form orders.Caller values = forms.Caller values.0 values.1.0 values.1.1.0
order_form orders.Queue values = forms.Queue values.0 values.1.0
order_form orders.Stop values = forms.Stop values.0
order_form orders.Crash values = forms.Crash values.0
order_form orders.Mount values = forms.Mount
order_form orders.Fail values = forms.Fail values.0 values.1.0
order_form orders.FailRead values = forms.FailRead values.0 values.1.0
order_form orders.Cut values = forms.Cut values.0 values.1.0

abbrev pub kinds_of : Parts → List Kind
kinds_of (Asked caller verb values) = caller_number ∷ Key (verb_word verb) ∷ verb_kinds verb
kinds_of (Ordered order values) = Key (order_word order) ∷ order_kinds order

abbrev pub values_of : (parts : Parts) → Values (kinds_of parts)
values_of (Asked caller verb values) = (caller, (tt, values))
values_of (Ordered order values) = (tt, values)

-- the words spell the form
abbrev pub AreFormWords : Form → List (List ℕ) → Type 0
AreFormWords form words =
    SpellAll (kinds_of (parts_of_form form)) (values_of (parts_of_form form)) words

-- the line spells the form: one space stands between two words
abbrev pub IsForm : Form → List ℕ → Type 0
IsForm form text = AreFormWords form (words_of text)

-- the form's numbers are within their bounds, and all else can be spelled
abbrev pub IsFormValue : Form → Type 0
IsFormValue form = AreValues (kinds_of (parts_of_form form)) (values_of (parts_of_form form))

-- the canonical line of a form
abbrev pub form_text : Form → List ℕ
form_text form =
    joined 32 (all_words (kinds_of (parts_of_form form)) (values_of (parts_of_form form)))
