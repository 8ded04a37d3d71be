-- Runs in sequence, and what they write.
use Rattle.std.proofs.Common.{◌≡◌, ℕ, ◌+◌, Some, None, List, [], ◌∷◌, ◌++◌, length, take, drop, get_or, ◌<◌, arith, refl, sym, ap, ◌∙◌, append_assoc, append-nil, length-append}
use Rattle.std.specs.declared.option.Option.{Option}
use Rattle.std.specs.Option.{option_to_list}
use Rattle.std.specs.Prelude.{Result, Ok, Err, OnErr}
use Rattle.std.specs.Io.KnownBytes.{Appends}
use Rattle.std.proofs.KnownBytes.{Appends-trans}
use Rattle.std.proofs.Math.Seq.{take-append-add}
use Rattle.std.proofs.lemmas.List.{take-append-le, take_more, take-append-drop}
use Rattle.cfs_io.specs.Streams.{AppendsFront}
use Rattle.cfs_file.specs.declared.entry.Entry.{Entry}
use Rattle.cfs_file.specs.declared.request.Request.{Request}
use Rattle.cfs_file.specs.declared.request.Request.TheVariants as requests
use Rattle.cfs_script.specs.declared.form.Form.{Form}
use Rattle.cfs_script.specs.declared.form.Form.TheVariants as forms
use Rattle.cfs_script.specs.declared.line.Line.{Line}
use Rattle.cfs_top.specs.declared.out_line.OutLine.{OutLine}
use Rattle.cfs_top.specs.Play.{Admits, Does, Step, Run, PlaysAll, PlaysFront}
use Rattle.cfs_top.specs.Text.{line_text, texts}

pub texts-append : (xs ys : List OutLine) → texts (xs ++ ys) ≡ texts xs ++ texts ys
texts-append [] ys = refl
texts-append (x ∷ xs) ys = ap (λ rest. line_text x ++ rest) (texts-append xs ys) ∙ sym (append_assoc (line_text x) (texts xs) (texts ys))

-- one run after another
pub Run-append : (old : List Entry) (xs ys : List Line) (outs others : List OutLine) (mid new : List Entry) →
    Run old xs outs mid → Run mid ys others new → Run old (xs ++ ys) (outs ++ others) new
Run-append old [] ys outs others mid new first second = rw (first.0, ← first.1) second
Run-append old (x ∷ xs) ys outs others mid new first second =
    let reply : Option OutLine = first.0 in
    let after : List Entry = first.1.0 in
    let more : List OutLine = first.1.1.0 in (
      reply,
      (
        after,
        (
          more ++ others,
          (
            first.1.1.1.0,
            (
              Run-append after xs ys more others mid new first.1.1.1.1.0 second,
              rw (first.1.1.1.1.1) (append_assoc (option_to_list reply) more others),
            ),
          ),
        ),
      ),
    )

-- every line can be played
pub Step-goes_on : (old : List Entry) (line : Line) → (reply : Option OutLine) × ((new : List Entry) × Step old line reply new)
Step-goes_on old line = does old line.number line.form
  where
    admits : (old : List Entry) (number caller : ℕ) (request : Request) → (reply : Option OutLine) × ((new : List Entry) × Admits old number caller request reply new)
    admits old number caller request = (_, (_, record { entry = refl; reply_is = refl }))

    does : (old : List Entry) (number : ℕ) (form : Form) → (reply : Option OutLine) × ((new : List Entry) × Does old number form reply new)
    does old number (forms.Open caller path flags mode) = (_, (old, (refl, refl)))
    does old number (forms.Pwrite caller fd offset bytes) = admits old number caller (requests.Write offset bytes)
    does old number (forms.Pread caller fd offset count) = admits old number caller (requests.Read offset count)
    does old number form = (None, (old, (refl, refl)))

pub Run-goes_on : (old : List Entry) (lines : List Line) → (outs : List OutLine) × ((new : List Entry) × Run old lines outs new)
Run-goes_on old [] = ([], (old, (refl, refl)))
Run-goes_on old (line ∷ lines) =
    let step : (reply : Option OutLine) × ((mid : List Entry) × Step old line reply mid) = Step-goes_on old line in
    let rest : (outs : List OutLine) × ((new : List Entry) × Run step.1.0 lines outs new) = Run-goes_on step.1.0 lines in
    (option_to_list step.0 ++ rest.0, (rest.1.0, (step.0, (step.1.0, (rest.0, (step.1.1, (rest.1.1, refl)))))))

-- what holds anyway holds after an error
pub on_err : {T E : Type 0} (result : Result T E) (P : Type 0) → P → OnErr result P
on_err (Ok x) P p = tt
on_err (Err e) P p = p

-- nothing was written
pub Appends-none : (written : Option (List ℕ)) → Appends written written []
Appends-none None = tt
Appends-none (Some bytes) = sym (append-nil bytes)

-- a front of nothing
pub AppendsFront-none : (written : Option (List ℕ)) (text : List ℕ) → AppendsFront written written text
AppendsFront-none written text = (0, omega arith, Appends-none written)

-- a front of a text is one of the text with more behind
pub AppendsFront-more : (before after : Option (List ℕ)) (text more : List ℕ) → AppendsFront before after text → AppendsFront before after (text ++ more)
AppendsFront-more before after text more front =
    (front.0, omega (arith, length-append text more), rw (take-append-le front.0 text more front.1) front.2)

-- a text, and a front of what comes behind it
pub AppendsFront-behind : (before mid after : Option (List ℕ)) (text more : List ℕ) →
    Appends before mid text → AppendsFront mid after more → AppendsFront before after (text ++ more)
AppendsFront-behind before mid after text more all front = (
  length text + front.0,
  omega (arith, length-append text more),
  rw (take-append-add text more front.0) (Appends-trans before mid after _ _ all front.2),
)

-- nothing written yet is a front
pub PlaysFront-none : (old : List Entry) (lines : List Line) (written : Option (List ℕ)) → PlaysFront old lines written written
PlaysFront-none old lines written =
    let all : (outs : List OutLine) × ((new : List Entry) × Run old lines outs new) = Run-goes_on old lines in
    record { outs = all.0; new = all.1.0; run = all.1.1; written = AppendsFront-none written (texts all.0) }

-- a line that answers, and a front of its text
pub PlaysFront-line : (old new : List Entry) (line : Line) (out : OutLine) (text : List ℕ) (before after : Option (List ℕ)) →
    Step old line (Some out) new → text ≡ line_text out → AppendsFront before after text → PlaysFront old (line ∷ []) before after
PlaysFront-line old new line out text before after step is front = record {
  outs = out ∷ [];
  new = new;
  run = (Some out, (new, ([], (step, ((refl, refl), refl)))));
  written = AppendsFront-more before after (line_text out) [] (rw is at front);
}

-- a line that answers, and its text
pub PlaysAll-line : (old new : List Entry) (line : Line) (out : OutLine) (text : List ℕ) (before after : Option (List ℕ)) →
    Step old line (Some out) new → text ≡ line_text out → Appends before after text → PlaysAll old (line ∷ []) new before after
PlaysAll-line old new line out text before after step is all = record {
  outs = out ∷ [];
  run = (Some out, (new, ([], (step, ((refl, refl), refl)))));
  written = rw (append-nil (line_text out)) (rw is at all);
}

-- a line that does not answer
pub PlaysAll-silent : (old new : List Entry) (line : Line) (written : Option (List ℕ)) → Step old line None new → PlaysAll old (line ∷ []) new written written
PlaysAll-silent old new line written step = record {
  outs = [];
  run = (None, (new, ([], (step, ((refl, refl), refl)))));
  written = Appends-none written;
}

-- lines after lines
pub PlaysAll-append : (old mid new : List Entry) (xs ys : List Line) (before between after : Option (List ℕ)) →
    PlaysAll old xs mid before between → PlaysAll mid ys new between after → PlaysAll old (xs ++ ys) new before after
PlaysAll-append old mid new xs ys before between after first second = record {
  outs = first.outs ++ second.outs;
  run = Run-append old xs ys first.outs second.outs mid new first.run second.run;
  written = rw (texts-append first.outs second.outs) (Appends-trans before between after _ _ first.written second.written);
}

-- lines, and a front of what comes behind them
pub PlaysFront-behind : (old mid : List Entry) (xs ys : List Line) (before between after : Option (List ℕ)) →
    PlaysAll old xs mid before between → PlaysFront mid ys between after → PlaysFront old (xs ++ ys) before after
PlaysFront-behind old mid xs ys before between after first second = record {
  outs = first.outs ++ second.outs;
  new = second.new;
  run = Run-append old xs ys first.outs second.outs mid second.new first.run second.run;
  written = rw (texts-append first.outs second.outs) (AppendsFront-behind before between after _ _ first.written second.written);
}

-- a front of some lines is one of these with more behind
pub PlaysFront-more : (old : List Entry) (xs ys : List Line) (before after : Option (List ℕ)) →
    PlaysFront old xs before after → PlaysFront old (xs ++ ys) before after
PlaysFront-more old xs ys before after front =
    let rest : (outs : List OutLine) × ((new : List Entry) × Run front.new ys outs new) = Run-goes_on front.new ys in
    record {
      outs = front.outs ++ rest.0;
      new = rest.1.0;
      run = Run-append old xs ys front.outs rest.0 front.new rest.1.0 front.run rest.1.1;
      written = rw (texts-append front.outs rest.0) (AppendsFront-more before after _ _ front.written);
    }

-- a list is what stands before a place, the element there, and what stands behind it
pub around : {X : Type 0} (xs : List X) (i : ℕ) (x : X) → i < length xs → x ≡ get_or xs i x → (take i xs ++ x ∷ []) ++ drop (i + 1) xs ≡ xs
around xs i x within is =
    let taken : take (i + 1) xs ≡ take i xs ++ x ∷ [] = take_more xs i x within ∙ ap (λ y. take i xs ++ y ∷ []) (sym is) in
    ap (λ front. front ++ drop (i + 1) xs) (sym taken) ∙ take-append-drop (i + 1) xs
