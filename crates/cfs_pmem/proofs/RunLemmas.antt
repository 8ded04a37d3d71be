-- A call over a meter is the run of its operations, and what a stop makes of it.
use Rattle.std.proofs.Common.{ℕ, zero, suc, ◌-◌, ◌<◌, ◌≤◌, ◌≡◌, ◌∙◌, ◌||◌, true, false, not, Result, Ok, Err, List, [], ◌∷◌, ◌++◌, length, drop, inl, inr, refl, sym, ap, subst, arith, if◌then◌else◌}
use Rattle.std.proofs.lemmas.Bool.{cases_lt, ne_eqb}
use Rattle.cfs_pmem.specs.declared.trace.Asked.{Asked}
use Rattle.cfs_pmem.specs.declared.meter.Supply.{Supply}
use Rattle.cfs_pmem.specs.declared.meter.Supply.TheVariants.{Until, Off}
use Rattle.cfs_pmem.specs.Meter.{supply_of, plans_of, supply_after, plans_after, is_off, refuses, answer, IsAnswered}
use Rattle.cfs_pmem.specs.Operations.{Ask, LastFails, all_allowed, last_refused, Does}
use Rattle.cfs_pmem.specs.Runs.{Run, then_answered, next, run_ops, IsRun, HasLeft, AllWrite, StopsAt, Passes}

-- where all was allowed

pub run_all : {Op : Type 0} (asks : Op → Ask) (ops : List Op) (asked : List Asked) → IsAnswered (all_allowed asks ops ++ asked)
    → run_ops asks ops asked ≡ record { ok = true; asked = all_allowed asks ops ++ asked; left = 0 }
run_all asks [] asked h = refl
run_all asks (op ∷ before) asked h =
    ap (λ run. next (asks op) run) (run_all asks before asked h.1)
    ∙ ap (λ allowed. then_answered (asks op) allowed (all_allowed asks before ++ asked)) (sym h.0)

-- where the next one was refused

run_refused : {Op : Type 0} (asks : Op → Ask) (ops : List Op) (asked : List Asked) → 0 < length ops → IsAnswered (last_refused asks ops ++ asked)
    → run_ops asks ops asked ≡ record { ok = false; asked = last_refused asks ops ++ asked; left = 0 }
run_refused asks [] asked l h = absurd (omega arith)
run_refused asks (op ∷ before) asked l h =
    ap (λ run. next (asks op) run) (run_all asks before asked h.1)
    ∙ ap (λ allowed. then_answered (asks op) allowed (all_allowed asks before ++ asked)) (sym h.0)

pub run_front : {Op : Type 0} (asks : Op → Ask) (left : ℕ) (ops : List Op) (asked : List Asked) → left < length ops → IsAnswered (last_refused asks (drop left ops) ++ asked)
    → run_ops asks ops asked ≡ record { ok = false; asked = last_refused asks (drop left ops) ++ asked; left = left }
run_front asks zero [] asked l h = absurd (omega arith)
run_front asks zero (op ∷ before) asked l h = run_refused asks (op ∷ before) asked l h
run_front asks (suc left) [] asked l h = absurd (omega arith)
run_front asks (suc left) (op ∷ before) asked l h = ap (λ run. next (asks op) run) (run_front asks left before asked (omega arith) h)

pub is_run : {Op State T E : Type 0} {asks : Op → Ask} {done : Op → State → State} {Fails : Op → State → State → Type 0} {ops : List Op}
    {asked_old asked_new : List Asked} {old new : State} (result : Result T E)
    → IsAnswered asked_new → Does asks done Fails ops result asked_old old asked_new new → IsRun asks done Fails ops result asked_old old asked_new new
is_run {Op} {State} {T} {E} {asks} {done} {Fails} {ops} {asked_old} {asked_new} {old} {new} (Ok t) right does =
    let run = run_all asks ops asked_old (subst (λ s. IsAnswered s) does.all.asked right) in
    record { ok = sym (ap (λ (r : Run). r.ok) run); asked = does.all.asked ∙ sym (ap (λ (r : Run). r.asked) run); all = does.all.state; front = tt }
is_run {Op} {State} {T} {E} {asks} {done} {Fails} {ops} {asked_old} {asked_new} {old} {new} (Err e) right does =
    let run = run_front asks does.front.left ops asked_old does.front.within (subst (λ s. IsAnswered s) does.front.asked right) in
    record {
      ok = sym (ap (λ (r : Run). r.ok) run);
      asked = does.front.asked ∙ sym (ap (λ (r : Run). r.asked) run);
      all = tt;
      front = subst (λ n. LastFails done Fails (drop n ops) old new) (sym (ap (λ (r : Run). r.left) run)) does.front.state;
    }

-- A stop that lets m writing steps pass.

until_more : (m : ℕ) → supply_after true (Until (suc m)) ≡ Until m
until_more m =
    ap (λ b. if b then Off else Until (suc m - 1)) (ne_eqb (suc m) 0 (λ e. absurd (omega arith))) ∙ ap (λ n. Until n) (omega arith)

-- with no plans the stop alone answers
by_stop : (ask : Ask) (asked : List Asked) (after : Supply) → supply_after ask.writing (supply_of asked) ≡ after → plans_of asked ≡ []
    → answer ask.device ask.writing asked ≡ not (is_off after || false)
by_stop ask asked after e none =
    ap (λ ps. not (refuses ask.device ask.writing (supply_of asked) ps)) none ∙ ap (λ s. not (is_off s || false)) e

after_writing : (ask : Ask) (asked : List Asked) (m : ℕ) → ask.writing ≡ true → supply_of asked ≡ Until m → supply_after ask.writing (supply_of asked) ≡ supply_after true (Until m)
after_writing ask asked m writes is = ap (λ w. supply_after w (supply_of asked)) writes ∙ ap (λ s. supply_after true s) is

plans_stay : (ask : Ask) (asked : List Asked) → plans_of asked ≡ [] → plans_after ask.device ask.writing (plans_of asked) ≡ []
plans_stay ask asked none = ap (λ ps. plans_after ask.device ask.writing ps) none

-- What a run has come to where the stop did not come.
record Passing {Op : Type 0} (asks : Op → Ask) (m : ℕ) (ops : List Op) (asked : List Asked) : Type 0 where
  ok : (run_ops asks ops asked).ok ≡ true
  left : HasLeft (m - length ops) (run_ops asks ops asked).asked

passing : {Op : Type 0} (asks : Op → Ask) (m : ℕ) (ops : List Op) (asked : List Asked) → AllWrite asks ops → HasLeft m asked → length ops ≤ m → Passing asks m ops asked
passing asks m [] asked all h l = record { ok = refl; left = subst (λ n. HasLeft n asked) (omega arith) h }
passing asks m (op ∷ before) asked all h l =
    let rest = passing asks m before asked all.1 h (omega arith) in
    let run : Run = run_ops asks before asked in
    let k : ℕ = m - suc (length before) in
    let count : m - length before ≡ suc k = omega arith in
    let after : supply_after (asks op).writing (supply_of run.asked) ≡ Until k =
    after_writing (asks op) run.asked (suc k) all.0 (rest.left.supply ∙ ap (λ n. Until n) count) ∙ until_more k in
    let allowed : answer (asks op).device (asks op).writing run.asked ≡ true = by_stop (asks op) run.asked (Until k) after rest.left.plans in
    let is : next (asks op) run ≡ then_answered (asks op) true run.asked =
    ap (λ b. if b then then_answered (asks op) (answer (asks op).device (asks op).writing run.asked) run.asked else record { ok = false; asked = run.asked; left = suc run.left }) rest.ok
    ∙ ap (λ b. then_answered (asks op) b run.asked) allowed in
    record {
      ok = ap (λ (r : Run). r.ok) is;
      left = subst (λ (r : Run). HasLeft k r.asked) (sym is) record { supply = after; plans = plans_stay (asks op) run.asked rest.left.plans };
    }

-- and where it came
record Stopping {Op : Type 0} (asks : Op → Ask) (m : ℕ) (ops : List Op) (asked : List Asked) : Type 0 where
  ok : (run_ops asks ops asked).ok ≡ false
  left : (run_ops asks ops asked).left ≡ length ops - suc m
  off : supply_of (run_ops asks ops asked).asked ≡ Off

stopping : {Op : Type 0} (asks : Op → Ask) (m : ℕ) (ops : List Op) (asked : List Asked) → AllWrite asks ops → HasLeft m asked → m < length ops → Stopping asks m ops asked
stopping asks m [] asked all h l = absurd (omega arith)
stopping asks m (op ∷ before) asked all h l =
    let run : Run = run_ops asks before asked in
    elim (cases_lt m (length before)) as (λ _. Stopping asks m (op ∷ before) asked) [
      | inl within ↦
          let rest = stopping asks m before asked all.1 h within in
          let is : next (asks op) run ≡ record { ok = false; asked = run.asked; left = suc run.left } =
          ap (λ b. if b then then_answered (asks op) (answer (asks op).device (asks op).writing run.asked) run.asked else record { ok = false; asked = run.asked; left = suc run.left }) rest.ok in
          record { ok = ap (λ (r : Run). r.ok) is; left = ap (λ (r : Run). r.left) is ∙ omega (arith, rest.left); off = ap (λ (r : Run). supply_of r.asked) is ∙ rest.off }
      | inr here ↦
          let rest = passing asks m before asked all.1 h (omega arith) in
          let none : m - length before ≡ 0 = omega arith in
          let after : supply_after (asks op).writing (supply_of run.asked) ≡ Off =
          after_writing (asks op) run.asked 0 all.0 (rest.left.supply ∙ ap (λ n. Until n) none) in
          let refused : answer (asks op).device (asks op).writing run.asked ≡ false = by_stop (asks op) run.asked Off after rest.left.plans in
          let is : next (asks op) run ≡ then_answered (asks op) false run.asked =
          ap (λ b. if b then then_answered (asks op) (answer (asks op).device (asks op).writing run.asked) run.asked else record { ok = false; asked = run.asked; left = suc run.left }) rest.ok
          ∙ ap (λ b. then_answered (asks op) b run.asked) refused in
          record { ok = ap (λ (r : Run). r.ok) is; left = ap (λ (r : Run). r.left) is ∙ omega arith; off = ap (λ (r : Run). supply_of r.asked) is ∙ after }
    ]

-- a stop within the call
pub meets_stop : {Op State T E : Type 0} {asks : Op → Ask} {done : Op → State → State} {Fails : Op → State → State → Type 0} (m : ℕ) {ops : List Op}
    {asked_old asked_new : List Asked} {old new : State} (result : Result T E) → m < length ops → AllWrite asks ops → HasLeft m asked_old
    → IsAnswered asked_new → Does asks done Fails ops result asked_old old asked_new new → StopsAt done Fails m ops result old asked_new new
meets_stop {Op} {State} {T} {E} {asks} {done} {Fails} m {ops} {asked_old} {asked_new} {old} {new} (Ok t) l all h right does =
    let run = is_run (Ok t) right does in
    let stop = stopping asks m ops asked_old all h l in
    let wrong : true ≡ false = run.ok ∙ stop.ok in
    absurd (cc)
meets_stop {Op} {State} {T} {E} {asks} {done} {Fails} m {ops} {asked_old} {asked_new} {old} {new} (Err e) l all h right does =
    let run = is_run (Err e) right does in
    let stop = stopping asks m ops asked_old all h l in
    record {
      err = refl;
      state = subst (λ n. LastFails done Fails (drop n ops) old new) stop.left run.front;
      off = ap (λ s. supply_of s) run.asked ∙ stop.off;
    }

-- a stop behind it
pub all_passed : {Op State T E : Type 0} {asks : Op → Ask} {done : Op → State → State} {Fails : Op → State → State → Type 0} (m : ℕ) {ops : List Op}
    {asked_old asked_new : List Asked} {old new : State} (result : Result T E) → length ops ≤ m → AllWrite asks ops → HasLeft m asked_old
    → IsAnswered asked_new → Does asks done Fails ops result asked_old old asked_new new → Passes done m ops result old asked_new new
all_passed {Op} {State} {T} {E} {asks} {done} {Fails} m {ops} {asked_old} {asked_new} {old} {new} (Ok t) l all h right does =
    let run = is_run (Ok t) right does in
    let passes = passing asks m ops asked_old all h l in
    record { ok = refl; state = run.all; left = subst (λ s. HasLeft (m - length ops) s) (sym run.asked) passes.left }
all_passed {Op} {State} {T} {E} {asks} {done} {Fails} m {ops} {asked_old} {asked_new} {old} {new} (Err e) l all h right does =
    let run = is_run (Err e) right does in
    let passes = passing asks m ops asked_old all h l in
    let wrong : false ≡ true = run.ok ∙ passes.ok in
    absurd (cc)
