-- One caller, or one request, more.
use Rattle.std.proofs.Common.{◌≡◌, ℕ, zero, suc, ◌+◌, ◌*◌, ◌<◌, List, [], ◌∷◌, ◌++◌, length, get_or, take, add-one, arith, append_assoc, refl, sym, ap, ◌∙◌}
use Rattle.std.specs.List.{flat_map}
use Rattle.std.proofs.lemmas.List.{flat_map_more, take_more}
use Rattle.cfs_script.specs.declared.form.Form.{Form}
use Rattle.cfs_script.specs.declared.form.Form.TheVariants as forms
use Rattle.cfs_script.specs.declared.line.Line.{Line}
use Rattle.cfs_gen.specs.Draws.{state_after, drawn_from}
use Rattle.cfs_gen.specs.Lines.{numbered}
use Rattle.cfs_gen.specs.Workload.{all_callers, introduced, opened, closed, request_forms, requests_below, workload}

pub caller_more : (f : ℕ → List Form) (old now new : List Form) (callers : List ℕ) (i : ℕ) → i < length callers →
    now ≡ old ++ flat_map f (take i callers) → new ≡ now ++ f (get_or callers i 0) → new ≡ old ++ flat_map f (take (i + 1) callers)
caller_more f old now new callers i lt before step =
    step ∙ ap (λ (forms : List Form). forms ++ f (get_or callers i 0)) before
    ∙ flat_map_more f old (take i callers) (get_or callers i 0)
    ∙ ap (λ (cs : List ℕ). old ++ flat_map f cs) (sym (take_more callers i 0 lt))

-- four draws more
pub draws_more : (seed i : ℕ) → state_after (state_after seed (4 * i)) 4 ≡ state_after seed (4 * (i + 1))
unfolding state_after
draws_more seed i =
    let e : 4 * (i + 1) ≡ suc (suc (suc (suc (4 * i)))) = omega arith in
    rw e refl

pub request_more : (seed i state : ℕ) (old now new : List Form) → state ≡ state_after seed (4 * i) → now ≡ old ++ requests_below seed i →
    new ≡ now ++ request_forms i (drawn_from state) → new ≡ old ++ requests_below seed (i + 1)
unfolding requests_below
request_more seed i state old now new is before step =
    let more = request_forms i (drawn_from (state_after seed (4 * i))) in
    step ∙ ap (λ (s : ℕ). now ++ request_forms i (drawn_from s)) is ∙ ap (λ (forms : List Form). forms ++ more) before
    ∙ append_assoc old (requests_below seed i) more ∙ ap (λ (k : ℕ). old ++ requests_below seed k) (sym (add-one i))

five_parts : (a b c d e : List Form) → (((a ++ b) ++ c) ++ d) ++ e ≡ a ++ (b ++ (c ++ (d ++ e)))
five_parts a b c d e = simp append_assoc

-- what was added one after another is the workload
pub workload_lines : (seed count : ℕ) (lines : List Line) (empty known opens asked drained all : List Form) → empty ≡ [] →
    known ≡ empty ++ flat_map introduced all_callers → opens ≡ known ++ flat_map opened all_callers → asked ≡ opens ++ requests_below seed count →
    drained ≡ asked ++ forms.Drain ∷ [] → all ≡ drained ++ flat_map closed all_callers → lines ≡ numbered 1 all →
    lines ≡ numbered 1 (workload seed count)
unfolding workload
workload_lines seed count lines empty known opens asked drained all e0 e1 e2 e3 e4 e5 is =
    let begin = flat_map introduced all_callers in
    let files = flat_map opened all_callers in
    let requests = requests_below seed count in
    let end = flat_map closed all_callers in
    let known_is : known ≡ begin = e1 ∙ ap (λ (fs : List Form). fs ++ begin) e0 in
    let open_is : opens ≡ begin ++ files = e2 ∙ ap (λ (fs : List Form). fs ++ files) known_is in
    let asked_is : asked ≡ (begin ++ files) ++ requests = e3 ∙ ap (λ (fs : List Form). fs ++ requests) open_is in
    let drained_is : drained ≡ ((begin ++ files) ++ requests) ++ forms.Drain ∷ [] = e4 ∙ ap (λ (fs : List Form). fs ++ forms.Drain ∷ []) asked_is in
    let whole = e5 ∙ ap (λ (fs : List Form). fs ++ end) drained_is ∙ five_parts begin files requests (forms.Drain ∷ []) end in
    is ∙ ap (λ (fs : List Form). numbered 1 fs) whole
