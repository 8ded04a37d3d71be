-- A run keeps the order of its lines.
use Rattle.std.proofs.Common.{◌≡◌, ℕ, ◌+◌, ◌≤◌, ◌==◌, Some, List, [], ◌∷◌, ◌++◌, length, map, take}
use Rattle.std.proofs.Common.{max, arith, refl, sym, ap, ◌∙◌, append_assoc, append-nil}
use Rattle.std.proofs.Common.{length-append, Bool, true, false, cond}
use Rattle.std.specs.declared.option.Option.{Option}
use Rattle.std.specs.Option.{option_to_list}
use Rattle.std.specs.Prelude.{◌&&◌, nat_le}
use Rattle.std.specs.List.{filter}
use Rattle.std.proofs.lemmas.List.{map-append, take_all}
use Rattle.std.proofs.lemmas.List.Elements.{filter-append}
use Rattle.cfs_file.specs.declared.answer.Answer.{Answer}
use Rattle.cfs_file.specs.declared.answer.Answer.TheVariants as answers
use Rattle.cfs_file.specs.declared.entry.Entry.{Entry}
use Rattle.cfs_file.specs.declared.request.Request.{Request}
use Rattle.cfs_file.specs.declared.request.Request.TheVariants as requests
use Rattle.cfs_file.specs.declared.sizes.TheConstants.{LONGEST_FILE}
use Rattle.cfs_file.specs.File.{IsFile, answer, effect, put}
use Rattle.cfs_file.specs.Log.{IsLegal, file_of}
use Rattle.cfs_file.proofs.Logs.{IsLegal-none, IsLegal-snoc}
use Rattle.cfs_file.proofs.Positions.{put-writes}
use Rattle.cfs_script.specs.declared.form.Form.{Form}
use Rattle.cfs_script.specs.declared.form.Form.TheVariants as forms
use Rattle.cfs_script.specs.declared.line.Line.{Line}
use Rattle.cfs_words.proofs.Numbers.{and_parts, leb-true}
use Rattle.cfs_top.specs.Stage.{last_offset, most_bytes, is_transfer, is_served, are_served}
use Rattle.cfs_top.specs.declared.out_line.OutLine.{OutLine}
use Rattle.cfs_top.specs.declared.world.TheConstants.{FILE}
use Rattle.cfs_top.specs.Answers.{printed, given, given_by}
use Rattle.cfs_top.specs.Order.{is_request, is_request_of, numbers, lines_in, KeepsOrder}
use Rattle.cfs_top.specs.Play.{Admits, Does, Run}

-- ---- which lines the entries come from

-- the lines that the entries which pass a test come from
abbrev pub chosen : (Entry → Bool) → List Entry → List ℕ
chosen q log = lines_in (filter q log)

-- a test of entries and a test of forms say the same of an admitted request
pub record Agrees (q : Entry → Bool) (p : Form → Bool) : Type 0 where
  pub others : (form : Form) → is_request form ≡ false → p form ≡ false
  pub wrote : (place line c fd offset : ℕ) (bytes : List ℕ) →
      q (record { ino = FILE; place = place; caller = c; line = line; request = requests.Write offset bytes }) ≡ p (forms.Pwrite c fd offset bytes)
  pub read : (place line c fd offset count : ℕ) →
      q (record { ino = FILE; place = place; caller = c; line = line; request = requests.Read offset count }) ≡ p (forms.Pread c fd offset count)

kept_alike : (b c : Bool) (entry : Entry) (line : Line) → b ≡ c → entry.line ≡ line.number →
    lines_in (cond b (entry ∷ []) []) ≡ map (λ l. l.number) (cond c (line ∷ []) [])
kept_alike true true entry line same is = ap (λ n. n ∷ []) is
kept_alike true false entry line same is = cc
kept_alike false true entry line same is = cc
kept_alike false false entry line same is = refl

numbers_none : (p : Form → Bool) (line : Line) → p line.form ≡ false → numbers p (line ∷ []) ≡ []
numbers_none p line off = rw off refl

numbers-cons : (p : Form → Bool) (line : Line) (lines : List Line) → numbers p (line ∷ lines) ≡ numbers p (line ∷ []) ++ numbers p lines
numbers-cons p line lines = at (p line.form)
  where
    at : (b : Bool) → map (λ l. l.number) (cond b (line ∷ filter (λ l. p l.form) lines) (filter (λ l. p l.form) lines))
        ≡ map (λ l. l.number) (cond b (line ∷ []) []) ++ map (λ l. l.number) (filter (λ l. p l.form) lines)
    at true = refl
    at false = refl

chosen-step : (q : Entry → Bool) (p : Form → Bool) → Agrees q p → (old : List Entry) (number : ℕ) (form : Form) (reply : Option OutLine) (new : List Entry) →
    Does old number form reply new → chosen q new ≡ chosen q old ++ numbers p (record { number = number; form = form } ∷ [])
chosen-step q p agrees old number (forms.Pwrite c fd offset bytes) reply new does =
    let entry : Entry = record { ino = FILE; place = length old + 1; caller = c; line = number; request = requests.Write offset bytes } in
    rw (does.entry, filter-append q old (entry ∷ []), map-append (λ (e : Entry). e.line) (filter q old) (filter q (entry ∷ [])))
    (ap (λ more. chosen q old ++ more) (kept_alike _ _ entry (record { number = number; form = forms.Pwrite c fd offset bytes }) (agrees.wrote (length old + 1) number c fd offset bytes) refl))
chosen-step q p agrees old number (forms.Pread c fd offset count) reply new does =
    let entry : Entry = record { ino = FILE; place = length old + 1; caller = c; line = number; request = requests.Read offset count } in
    rw (does.entry, filter-append q old (entry ∷ []), map-append (λ (e : Entry). e.line) (filter q old) (filter q (entry ∷ [])))
    (ap (λ more. chosen q old ++ more) (kept_alike _ _ entry (record { number = number; form = forms.Pread c fd offset count }) (agrees.read (length old + 1) number c fd offset count) refl))
chosen-step q p agrees old number form reply new does =
    rw (does.1, numbers_none p (record { number = number; form = form }) (agrees.others form refl)) (sym (append-nil (chosen q old)))

pub chosen-run : (q : Entry → Bool) (p : Form → Bool) → Agrees q p → (old : List Entry) (lines : List Line) (outs : List OutLine) (new : List Entry) →
    Run old lines outs new → chosen q new ≡ chosen q old ++ numbers p lines
chosen-run q p agrees old [] outs new run = rw run.1 (sym (append-nil (chosen q old)))
chosen-run q p agrees old (line ∷ lines) outs new run =
    let mid : List Entry = run.1.0 in
    let step : chosen q mid ≡ chosen q old ++ numbers p (line ∷ []) = chosen-step q p agrees old line.number line.form run.0 mid run.1.1.1.0 in
    let rest : chosen q new ≡ chosen q mid ++ numbers p lines = chosen-run q p agrees mid lines run.1.1.0 new run.1.1.1.1.0 in
    rest ∙ ap (λ front. front ++ numbers p lines) step ∙ append_assoc (chosen q old) (numbers p (line ∷ [])) (numbers p lines)
    ∙ ap (λ more. chosen q old ++ more) (sym (numbers-cons p line lines))

filter-all : (log : List Entry) → filter (λ _. true) log ≡ log
filter-all [] = refl
filter-all (entry ∷ log) = ap (λ rest. entry ∷ rest) (filter-all log)

requests_agree : Agrees (λ _. true) is_request
requests_agree = record { others = λ form e. e; wrote = λ place line c fd offset bytes. refl; read = λ place line c fd offset count. refl }

own_others : (caller : ℕ) (form : Form) → is_request form ≡ false → is_request_of caller form ≡ false
own_others caller (forms.Pwrite c fd offset bytes) e = absurd cc
own_others caller (forms.Pread c fd offset count) e = absurd cc
own_others caller form e = refl

own_agree : (caller : ℕ) → Agrees (λ entry. entry.caller == caller) (is_request_of caller)
own_agree caller = record { others = own_others caller; wrote = λ place line c fd offset bytes. refl; read = λ place line c fd offset count. refl }

-- ---- the log is legal

-- a write within the longest file
abbrev pub IsWithin : Form → Type 0
IsWithin (forms.Pwrite c fd offset bytes) = offset + length bytes ≤ LONGEST_FILE
IsWithin _ = Unit {0}

abbrev pub AreWithin : List Line → Type 0
AreWithin [] = Unit {0}
AreWithin (line ∷ lines) = IsWithin line.form × AreWithin lines

-- what a request was answered is what is read from what was printed
given_by-printed : (ino place : ℕ) (reply : Answer) → given_by (printed ino place reply) ≡ Some reply ∷ []
given_by-printed ino place (answers.Wrote offset count) = refl
given_by-printed ino place (answers.Got bytes) = refl
given_by-printed ino place answers.Done = refl

given-append : (xs ys : List OutLine) → given (xs ++ ys) ≡ given xs ++ given ys
given-append [] ys = refl
given-append (x ∷ xs) ys = ap (λ rest. given_by x.answer ++ rest) (given-append xs ys) ∙ sym (append_assoc (given_by x.answer) (given xs) (given ys))

-- a legal log, with one answer an entry
pub record IsAnswered (log : List Entry) (replies : List (Option Answer)) : Type 0 where
  pub legal : IsLegal [] log replies
  pub long : length replies ≡ length log

file_within : (log : List Entry) (replies : List (Option Answer)) → IsLegal [] log replies → IsFile (file_of [] log)
file_within log replies legal = let whole : take (length log) log ≡ log = take_all (length log) log (omega arith) in
    rw whole at (legal.files (length log) (omega arith))

put_within : (file bytes : List ℕ) (offset : ℕ) → IsFile file → offset + length bytes ≤ LONGEST_FILE → IsFile (put file offset bytes)
put_within file bytes offset is within = let size : length (put file offset bytes) ≡ max (length file) (offset + length bytes) = (put-writes file offset bytes).size in
    omega arith

answered-admits : (old : List Entry) (replies : List (Option Answer)) (line caller : ℕ) (request : Request) (reply : Option OutLine) (new : List Entry) →
    IsAnswered old replies → IsFile (effect (file_of [] old) request) → Admits old line caller request reply new → IsAnswered new (replies ++ given (option_to_list reply))
answered-admits old replies line caller request reply new is file admits =
    let entry : Entry = record { ino = FILE; place = length old + 1; caller = caller; line = line; request = request } in
    let one : given (option_to_list reply) ≡ Some (answer (file_of [] old) request) ∷ [] =
    rw admits.reply_is (append-nil (given_by (printed FILE (length old + 1) (answer (file_of [] old) request))) ∙ given_by-printed FILE (length old + 1) (answer (file_of [] old) request)) in
    rw (one, admits.entry) (record {
      legal = IsLegal-snoc [] old replies entry is.legal is.long refl file;
      long = omega (arith, length-append replies (Some (answer (file_of [] old) request) ∷ []), length-append old (entry ∷ []), is.long);
    })

answered-step : (old : List Entry) (replies : List (Option Answer)) (number : ℕ) (form : Form) (reply : Option OutLine) (new : List Entry) →
    IsAnswered old replies → IsWithin form → Does old number form reply new → IsAnswered new (replies ++ given (option_to_list reply))
answered-step old replies number (forms.Open c path flags mode) reply new is within does = rw (does.0, does.1, append-nil replies) is
answered-step old replies number (forms.Pwrite c fd offset bytes) reply new is within does =
    answered-admits old replies number c (requests.Write offset bytes) reply new is (put_within _ bytes offset (file_within old replies is.legal) within) does
answered-step old replies number (forms.Pread c fd offset count) reply new is within does =
    answered-admits old replies number c (requests.Read offset count) reply new is (file_within old replies is.legal) does
answered-step old replies number form reply new is within does = rw (does.0, does.1, append-nil replies) is

pub answered-run : (old : List Entry) (replies : List (Option Answer)) (lines : List Line) (outs : List OutLine) (new : List Entry) →
    IsAnswered old replies → AreWithin lines → Run old lines outs new → IsAnswered new (replies ++ given outs)
answered-run old replies [] outs new is within run = rw (run.0, run.1, append-nil replies) is
answered-run old replies (line ∷ lines) outs new is within run =
    let mid : List Entry = run.1.0 in
    let others : List OutLine = run.1.1.0 in
    let step : IsAnswered mid (replies ++ given (option_to_list run.0)) = answered-step old replies line.number line.form run.0 mid is within.0 run.1.1.1.0 in
    let rest : IsAnswered new ((replies ++ given (option_to_list run.0)) ++ given others) = answered-run mid _ lines others new step within.1 run.1.1.1.1.0 in
    rw (run.1.1.1.1.1, given-append (option_to_list run.0) others, ← append_assoc replies (given (option_to_list run.0)) (given others)) rest

-- ---- scripts

served_within : (before : ℕ) (form : Form) → is_served before form ≡ true → IsWithin form
served_within before (forms.Pwrite c fd offset bytes) e =
    let first = and_parts (is_transfer before c fd offset) (nat_le 1 (length bytes) && nat_le (length bytes) most_bytes) e in
    let p = and_parts (nat_le 2 before) (c == 1 && (fd == 0 && nat_le offset last_offset)) first.0 in
    let q = and_parts (c == 1) (fd == 0 && nat_le offset last_offset) p.1 in
    let r = and_parts (fd == 0) (nat_le offset last_offset) q.1 in
    let few = and_parts (nat_le 1 (length bytes)) (nat_le (length bytes) most_bytes) first.1 in
    omega (arith, leb-true _ _ r.1, leb-true _ _ few.1)
served_within before form e = tt

all_within : (before : ℕ) (lines : List Line) → are_served before lines ≡ true → AreWithin lines
all_within before [] e = tt
all_within before (line ∷ lines) e =
    let both = and_parts (is_served before line.form) (are_served (before + 1) lines) e in
    (served_within before line.form both.0, all_within (before + 1) lines both.1)

-- the run of a script that is served keeps the order of its lines
pub KeepsOrder-run : (lines : List Line) (outs : List OutLine) (log : List Entry) → are_served 0 lines ≡ true → Run [] lines outs log → KeepsOrder lines outs log
KeepsOrder-run lines outs log served run = record {
  legal = (answered-run [] [] lines outs log (record { legal = IsLegal-none [] (omega arith); long = refl }) (all_within 0 lines served) run).legal;
  once = ap lines_in (sym (filter-all log)) ∙ chosen-run (λ _. true) is_request requests_agree [] lines outs log run;
  own = λ caller. chosen-run (λ entry. entry.caller == caller) (is_request_of caller) (own_agree caller) [] lines outs log run;
}
