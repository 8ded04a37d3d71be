-- The script of a workload keeps all rules of the scripts of `play`.
use Rattle.std.proofs.Common.{◌≡◌, ℕ, zero, suc, ◌+◌, ◌*◌, ◌%◌, ◌<◌, ◌≤◌, Bool, true, false, List, [], ◌∷◌, ◌++◌, length, cond, arith, refl, sym, subst, ap, ◌∙◌, length-append}
use Rattle.std.specs.Prelude.{All, IsTrue, replicate}
use Rattle.std.specs.List.{flat_map}
use Rattle.std.proofs.lemmas.List.Elements.{All-replicate}
use Rattle.cfs_words.specs.Values.{IsOpening}
use Rattle.cfs_script.specs.declared.command.Command.TheVariants.{Play}
use Rattle.cfs_script.specs.declared.form.Form.{Form}
use Rattle.cfs_script.specs.declared.form.Form.TheVariants as forms
use Rattle.cfs_script.specs.Table.{IsFormValue}
use Rattle.cfs_script.specs.Session.{Seen, nothing, knows, allows, after, Keeps}
use Rattle.cfs_script.specs.Script.{forms_of, AreFormValues, IsLawful}
use Rattle.cfs_gen.specs.declared.drawn.Drawn.{Drawn}
use Rattle.cfs_gen.specs.declared.kind.Kind.{Kind}
use Rattle.cfs_gen.specs.declared.kind.Kind.TheVariants.{Write, Read, Sync}
use Rattle.cfs_gen.specs.Draws.{draw_at, state_after, drawn_from}
use Rattle.cfs_gen.specs.Kinds.{kind_at}
use Rattle.cfs_gen.specs.Lines.{numbered}
use Rattle.cfs_gen.specs.Workload.{all_callers, introduced, file_path, file_flags, file_opened, opened, closed, form_asked, request_forms, requests_below, workload}
use Rattle.cfs_gen.proofs.Files.{file_path_fits}
use Rattle.cfs_gen.proofs.Numbering.{forms_of-numbered, numbered-Ascends}

-- all eight callers were introduced
abbrev introduced_all : Seen
introduced_all = record { callers = all_callers; cut = false }

-- a form that can be spelled, may stand behind the callers' lines, and introduces nobody
record Fits (form : Form) : Type 0 where
  value : IsFormValue form
  allowed : IsTrue (allows Play introduced_all form)
  same : after introduced_all form ≡ introduced_all

abbrev AllFit : List Form → Type 0
AllFit [] = Unit {0}
AllFit (form ∷ forms) = Fits form × AllFit forms

AllFit-append : (a b : List Form) → AllFit a → AllFit b → AllFit (a ++ b)
AllFit-append [] b h k = k
AllFit-append (form ∷ a) b h k = (h.0, AllFit-append a b h.1 k)

-- ---- one form

known : (caller : ℕ) → 1 ≤ caller → caller ≤ 8 → IsTrue (knows introduced_all caller)
known zero low high = absurd (omega arith)
known (suc zero) low high = refl
known (suc (suc zero)) low high = refl
known (suc (suc (suc zero))) low high = refl
known (suc (suc (suc (suc zero)))) low high = refl
known (suc (suc (suc (suc (suc zero))))) low high = refl
known (suc (suc (suc (suc (suc (suc zero)))))) low high = refl
known (suc (suc (suc (suc (suc (suc (suc zero))))))) low high = refl
known (suc (suc (suc (suc (suc (suc (suc (suc zero)))))))) low high = refl
known (suc (suc (suc (suc (suc (suc (suc (suc (suc n))))))))) low high = absurd (omega arith)

file_opened_fits : (caller file : ℕ) → 1 ≤ caller → caller ≤ 8 → file ≤ 8 → Fits (file_opened caller file)
file_opened_fits caller file low high h =
    let opening : IsOpening file_flags 420 = record { access = refl; bits = omega arith; unmade = λ e. absurd (cc) } in
    record {
      value = ((low, omega arith, omega arith), (tt, (file_path_fits file h, (opening, tt))));
      allowed = known caller low high;
      same = refl;
    }

close_fits : (caller fd : ℕ) → 1 ≤ caller → caller ≤ 8 → fd ≤ 1 → Fits (forms.Close caller fd)
close_fits caller fd low high h = record {
  value = ((low, omega arith, omega arith), (tt, ((omega arith, omega arith, omega arith), tt)));
  allowed = known caller low high;
  same = refl;
}

turn_fits : Fits forms.Turn
turn_fits = record { value = (tt, tt); allowed = refl; same = refl }

drain_fits : Fits forms.Drain
drain_fits = record { value = (tt, tt); allowed = refl; same = refl }

-- what a request draws is within these bounds
record IsWithin (drawn : Drawn) : Type 0 where
  fd : drawn.fd ≤ 1
  offset : drawn.offset ≤ 61440
  len : drawn.length ≤ 4096

form_asked_fits : (kind : Kind) (caller : ℕ) (drawn : Drawn) → 1 ≤ caller → caller ≤ 8 → IsWithin drawn → Fits (form_asked kind caller drawn)
form_asked_fits Write caller drawn low high h = record {
  value = (
    (low, omega arith, omega arith),
    (
      tt,
      (
        (omega arith, omega arith, omega arith),
        (
          (omega arith, omega arith, omega arith),
          (All-replicate (λ b. b < 256) drawn.length (64 + caller) (omega arith), tt),
        ),
      ),
    ),
  );
  allowed = known caller low high;
  same = refl;
}
form_asked_fits Read caller drawn low high h = record {
  value = ((low, omega arith, omega arith), (tt, ((omega arith, omega arith, omega arith), ((omega arith, omega arith, omega arith), ((omega arith, omega arith, omega arith), tt)))));
  allowed = known caller low high;
  same = refl;
}
form_asked_fits Sync caller drawn low high h = record {
  value = ((low, omega arith, omega arith), (tt, ((omega arith, omega arith, omega arith), tt)));
  allowed = known caller low high;
  same = refl;
}

-- ---- all forms

drawn_within : (state : ℕ) → IsWithin (drawn_from state)
drawn_within state = record { fd = omega arith; offset = omega arith; len = omega arith }

turns_fit : (b : Bool) → AllFit (cond b (forms.Turn ∷ []) [])
turns_fit true = (turn_fits, tt)
turns_fit false = tt

request_fits : (index state : ℕ) → AllFit (request_forms index (drawn_from state))
request_fits index state =
    let drawn = drawn_from state in
    (form_asked_fits (kind_at index) (1 + index % 8) drawn (omega arith) (omega arith) (drawn_within state), turns_fit drawn.has_turn)

requests_fit : (seed count : ℕ) → AllFit (requests_below seed count)
unfolding requests_below
requests_fit seed zero = tt
requests_fit seed (suc index) =
    AllFit-append (requests_below seed index) (request_forms index (drawn_from (state_after seed (4 * index)))) (requests_fit seed index) (request_fits index (state_after seed (4 * index)))

-- callers of a workload
abbrev AreCallers : List ℕ → Type 0
AreCallers [] = Unit {0}
AreCallers (caller ∷ callers) = (1 ≤ caller) × (caller ≤ 8) × AreCallers callers

all_are_callers : AreCallers all_callers
all_are_callers = (
  omega arith,
  omega arith,
  (
    omega arith,
    omega arith,
    (
      omega arith,
      omega arith,
      (
        omega arith,
        omega arith,
        (omega arith, omega arith, (omega arith, omega arith, (omega arith, omega arith, (omega arith, omega arith, tt)))),
      ),
    ),
  ),
)

opened_fit : (callers : List ℕ) → AreCallers callers → AllFit (flat_map opened callers)
opened_fit [] h = tt
opened_fit (caller ∷ callers) h =
    (file_opened_fits caller caller h.0 h.1 h.1, (file_opened_fits caller 0 h.0 h.1 (omega arith), opened_fit callers h.2))

closed_fit : (callers : List ℕ) → AreCallers callers → AllFit (flat_map closed callers)
closed_fit [] h = tt
closed_fit (caller ∷ callers) h =
    (close_fits caller 0 h.0 h.1 (omega arith), (close_fits caller 1 h.0 h.1 (omega arith), closed_fit callers h.2))

abbrev behind_callers : ℕ → ℕ → List Form
behind_callers seed count = flat_map opened all_callers ++ (requests_below seed count ++ (forms.Drain ∷ flat_map closed all_callers))

behind_callers_fit : (seed count : ℕ) → AllFit (behind_callers seed count)
behind_callers_fit seed count =
    AllFit-append (flat_map opened all_callers) (requests_below seed count ++ (forms.Drain ∷ flat_map closed all_callers)) (opened_fit all_callers all_are_callers)
    (AllFit-append (requests_below seed count) (forms.Drain ∷ flat_map closed all_callers) (requests_fit seed count) (drain_fits, closed_fit all_callers all_are_callers))

-- ---- the whole script

abbrev AreValueForms : List Form → Type 0
AreValueForms [] = Unit {0}
AreValueForms (form ∷ forms) = IsFormValue form × AreValueForms forms

values-fit : (forms : List Form) → AllFit forms → AreValueForms forms
values-fit [] h = tt
values-fit (form ∷ forms) h = (h.0.value, values-fit forms h.1)

introduced_values : (callers : List ℕ) (rest : List Form) → AreCallers callers → AreValueForms rest → AreValueForms (flat_map introduced callers ++ rest)
introduced_values [] rest h k = k
introduced_values (caller ∷ callers) rest h k = (
  (tt, ((h.0, omega (arith, h.1), omega (arith, h.1)), ((omega arith, omega arith, omega arith), ((omega arith, omega arith, omega arith), tt)))),
  introduced_values callers rest h.2 k,
)

numbered_values : (n : ℕ) (forms : List Form) → AreValueForms forms → AreFormValues (numbered n forms)
numbered_values n [] h = tt
numbered_values n (form ∷ forms) h = (h.0, numbered_values (n + 1) forms h.1)

fit-keep : (forms : List Form) → AllFit forms → Keeps Play introduced_all forms
fit-keep [] h = tt
fit-keep (form ∷ forms) h =
    (h.0.allowed, subst (λ (seen : Seen). Keeps Play seen forms) (sym h.0.same) (fit-keep forms h.1))

length-turn : (b : Bool) → length (cond b (forms.Turn ∷ []) []) ≤ 1
length-turn true = omega arith
length-turn false = omega arith

length-requests : (seed count : ℕ) → length (requests_below seed count) ≤ 2 * count
unfolding requests_below
length-requests seed zero = omega arith
length-requests seed (suc index) =
    let drawn = drawn_from (state_after seed (4 * index)) in
    omega (arith, length-requests seed index, length-append (requests_below seed index) (request_forms index drawn), length-turn drawn.has_turn)

length-behind : (seed count : ℕ) → length (behind_callers seed count) ≤ 2 * count + 33
length-behind seed count =
    omega (arith, length-append (requests_below seed count) (forms.Drain ∷ flat_map closed all_callers), length-requests seed count)

pub workload_lawful : (seed count : ℕ) → count ≤ 32000 → IsLawful Play (numbered 1 (workload seed count))
unfolding workload
workload_lawful seed count few =
    let all = workload seed count in
    let fit = behind_callers_fit seed count in
    let keep : Keeps Play nothing all = (refl, (refl, (refl, (refl, (refl, (refl, (refl, (refl, fit-keep (behind_callers seed count) fit)))))))) in
    record {
      values = numbered_values 1 all (introduced_values all_callers (behind_callers seed count) all_are_callers (values-fit (behind_callers seed count) fit));
      numbers = numbered-Ascends 1 all (omega (arith, length-behind seed count));
      order = subst (λ (fs : List Form). Keeps Play nothing fs) (sym (forms_of-numbered 1 all)) keep;
    }
