-- What a call does over a meter, as a function of the meter's history before it.
use Rattle.std.specs.Prelude.{ℕ, suc, ◌-◌, ◌≡◌, Bool, true, false, List, [], ◌∷◌, length, drop, Result, is_ok, is_err, OnOk, OnErr, if◌then◌else◌}
use Rattle.cfs_pmem.specs.declared.trace.Asked.{Asked}
use Rattle.cfs_pmem.specs.declared.meter.Supply.TheVariants.{Until, Off}
use Rattle.cfs_pmem.specs.Meter.{supply_of, plans_of, answer}
use Rattle.cfs_pmem.specs.Operations.{Ask, answered, after_all, LastFails}

-- whether all operations so far went well, the history behind them, and how many were not come to
pub record Run : Type 0 where
  pub ok : Bool
  pub asked : List Asked
  pub left : ℕ

-- the run with one more operation, which is not come to where one failed
abbrev pub then_answered : Ask → Bool → List Asked → Run
then_answered ask allowed asked =
    record { ok = allowed; asked = answered ask allowed ∷ asked; left = 0 }

abbrev pub next : Ask → Run → Run
next ask run =
    if run.ok then then_answered ask (answer ask.device ask.writing run.asked) run.asked
    else record { ok = false; asked = run.asked; left = suc run.left }

abbrev pub run_ops : {Op : Type 0} → (Op → Ask) → List Op → List Asked → Run
run_ops asks [] asked = record { ok = true; asked = asked; left = 0 }
run_ops asks (op ∷ before) asked = next (asks op) (run_ops asks before asked)

-- The call is the run of its operations.
pub record IsRun {Op State T E : Type 0} (asks : Op → Ask) (done : Op → State → State)
    (Fails : Op → State → State → Type 0) (ops : List Op)
    (result : Result T E) (asked_old : List Asked) (old : State) (asked_new : List Asked)
    (new : State) : Type 0 where
  pub ok : is_ok result ≡ (run_ops asks ops asked_old).ok
  pub asked : asked_new ≡ (run_ops asks ops asked_old).asked
  pub all : OnOk result (new ≡ after_all done ops old)
  pub front : OnErr result
      (LastFails done Fails (drop (run_ops asks ops asked_old).left ops) old new)

-- a stop lets m more writing steps pass, and there are no plans
pub record HasLeft (m : ℕ) (asked : List Asked) : Type 0 where
  pub supply : supply_of asked ≡ Until m
  pub plans : plans_of asked ≡ []

abbrev pub AllWrite : {Op : Type 0} → (Op → Ask) → List Op → Type 0
AllWrite asks [] = Unit {0}
AllWrite asks (op ∷ before) = ((asks op).writing ≡ true) × AllWrite asks before

-- Such a stop came within the call: its first m operations were done, the next one failed, and the
-- power is off.
pub record StopsAt {Op State T E : Type 0} (done : Op → State → State)
    (Fails : Op → State → State → Type 0) (m : ℕ) (ops : List Op)
    (result : Result T E) (old : State) (asked_new : List Asked) (new : State) : Type 0 where
  pub err : is_err result ≡ true
  pub state : LastFails done Fails (drop (length ops - suc m) ops) old new
  pub off : supply_of asked_new ≡ Off

-- Such a stop did not come: all was done, and the stop is nearer by as many steps.
pub record Passes {Op State T E : Type 0} (done : Op → State → State) (m : ℕ) (ops : List Op)
    (result : Result T E) (old : State) (asked_new : List Asked) (new : State) : Type 0 where
  pub ok : is_ok result ≡ true
  pub state : new ≡ after_all done ops old
  pub left : HasLeft (m - length ops) asked_new
