-- Without stops and plans no line answers that a device failed.
use Rattle.std.proofs.Common.{◌≡◌, ℕ, Bool, true, false, not, Option, Some, None, List, [], ◌∷◌, ◌++◌, refl, sym, ap, ◌∙◌, subst, if◌then◌else◌}
use Rattle.std.specs.Prelude.{Result, Ok, Err}
use Rattle.cfs_pmem.specs.declared.meter.Plan.{Plan}
use Rattle.cfs_pmem.specs.declared.meter.Supply.{Supply}
use Rattle.cfs_pmem.specs.declared.meter.Supply.TheVariants.{Steady}
use Rattle.cfs_pmem.specs.Meter.{is_off, plans_after, plans_of, refuses, supply_after, supply_of}
use Rattle.cfs_script.specs.declared.form.Form.{Form}
use Rattle.cfs_script.specs.declared.form.Form.TheVariants as forms
use Rattle.cfs_script.specs.declared.line.Line.{Line}
use Rattle.cfs_print.specs.declared.out_line.OutLine.{OutLine}
use Rattle.cfs_print.specs.declared.printed.Printed.{Printed}
use Rattle.cfs_print.specs.declared.printed.Printed.TheVariants as answers
use Rattle.cfs_meaning.specs.Drive.{Attempt, Block, Drive, Op, Word, asks, attempt, is_allowed, made, noted, refused}
use Rattle.cfs_meaning.specs.World.{World}
use Rattle.cfs_meaning.specs.Laws.{AreGiven, CalmRunsAnswer, IsCalm, IsGiven, is_calm}
use Rattle.cfs_meaning.specs.Play.{Step, does, goes_on, printed, run_ends, steps_so, unless_off}
use Rattle.cfs_meaning.specs.Ways.{Fault, Halt, Says, Waits}
use Rattle.cfs_meaning.proofs.Keeping.{IsSaid, Keeps, keep-give, keep-then}
use Rattle.cfs_meaning.proofs.Worlds.{EndsAs, NameLaw, WorldLaw, law_of, moves, requests_of}
use Rattle.cfs_meaning.proofs.KeptLines.{IsGivenIfAny, is_plain, kept-plain}
use Rattle.cfs_meaning.proofs.Lines.{Mounts, kept-mounting}

-- ---- operations of a calm drive

unrefused : (device : ℕ) (writing : Bool) (supply : Supply) (plans : List Plan) →
    supply ≡ Steady → plans ≡ [] → not (refuses device writing supply plans) ≡ true
unrefused device writing supply plans steady none =
    ap (λ (s : Supply). not (refuses device writing s plans)) steady
    ∙ ap (λ (p : List Plan). not (refuses device writing Steady p)) none

allowed : (op : Op) (drive : Drive) → IsCalm drive → is_allowed op drive ≡ true
allowed op drive calm =
    unrefused (asks op drive).device (asks op drive).writing (supply_of drive.asked)
    (plans_of drive.asked) calm.steady calm.unplanned

still : (op : Op) (drive : Drive) → IsCalm drive → IsCalm (made op (noted op true drive))
still (Word r op) drive calm = record {
  steady = ap (supply_after _) calm.steady;
  unplanned = ap (plans_after _ _) calm.unplanned;
}
still (Block b op) drive calm = record {
  steady = ap (supply_after _) calm.steady;
  unplanned = ap (plans_after _ _) calm.unplanned;
}

abbrev pub IsDone : Attempt → Type 0
IsDone it = (it.whole ≡ true) × IsCalm it.drive

pub all-allowed : (ops : List Op) (drive : Drive) → IsCalm drive → IsDone (attempt ops drive)
unfolding attempt
all-allowed [] drive calm = (refl, calm)
all-allowed (op ∷ ops) drive calm =
    subst (λ b. IsDone (if b then attempt ops (made op (noted op true drive))
    else record { whole = false; drive = refused op (noted op false drive) }))
    (sym (allowed op drive calm))
    (all-allowed ops (made op (noted op true drive)) (still op drive calm))

-- ---- the law

abbrev IsNoFault : Halt → Type 0
IsNoFault Fault = ⊥
IsNoFault (Waits place) = Unit {0}
IsNoFault (Says answer) = IsGiven answer

said-given : (answer : Printed) → IsSaid answer → IsGiven answer
said-given answers.Faulty said = said
said-given answers.Stopped said = said
said-given (answers.Got ino place bytes) said = tt
said-given other said = tt

clash : true ≡ false → ⊥
clash is = absurd (cc)

abbrev calm_law : ℕ → WorldLaw
calm_law line = record {
  fact = record {
    Holds = λ w. IsCalm w.drive;
    MayBe = λ b. b ≡ true;
    MayEnd = IsNoFault;
    tries = λ ops world holds. all-allowed ops world.drive holds;
    quiet = λ old new q holds. subst IsCalm (sym q.drive) holds;
    fault = λ may. absurd (clash (sym may));
    waits = λ place. tt;
    says = said-given;
  };
  line = line;
  comes = λ ino e world own may_be holds. holds;
}

calm-names : (line : ℕ) → NameLaw (calm_law line)
calm-names line = record {
  asks = λ c request rec step world is holds. holds;
  opens = λ c change world holds. holds;
}

-- ---- mounts

calm-mounts : (line : ℕ) → Mounts (calm_law line)
calm-mounts line = record { fails = λ world holds. holds; leaves = λ world holds. holds }

-- ---- lines

kept-rest : (line : ℕ) (form : Form) → is_calm form ≡ true → is_plain form ≡ false →
    Keeps (law_of (calm_law line)).base IsGivenIfAny (does line form)
kept-rest line (forms.Caller c uid gid) calm rough =
    keep-then (record { means = moves (calm_law line).fact (λ here holds. holds) }) (λ u a.
    keep-give tt)
kept-rest line (forms.Crash k) calm rough =
    keep-then (keep-then (record {
      means = moves (calm_law line).fact (λ here holds.
          record { steady = refl; unplanned = refl });
    }) (λ u a. keep-give tt))
    (λ answer given. keep-give given)
kept-rest line forms.Mount calm rough = kept-mounting (calm_law line) (calm-mounts line)
kept-rest line form calm rough = absurd (cc)

kept-line : (line : ℕ) (form : Form) → is_calm form ≡ true →
    Keeps (law_of (calm_law line)).base IsGivenIfAny (does line form)
kept-line line form calm = by-kind (is_plain form) refl
  where
    by-kind : (plain : Bool) → is_plain form ≡ plain →
        Keeps (law_of (calm_law line)).base IsGivenIfAny (does line form)
    by-kind true is =
        kept-plain (law_of (calm_law line)) (requests_of (calm_law line) (calm-names line)) form is
    by-kind false is = kept-rest line form calm is

-- ---- what is printed

on-given : (world : World) (answer : Printed) → IsCalm world.drive → IsGiven answer →
    IsGiven (unless_off world answer)
on-given world answer calm given =
    subst (λ b. IsGiven (if b then answers.Stopped else answer))
    (sym (ap is_off calm.steady)) given

printed-given : (number : ℕ) (world : World) (end : Result (Option Printed) Halt) →
    IsCalm world.drive → EndsAs (calm_law number).fact IsGivenIfAny end →
    AreGiven (printed number world end)
printed-given number world (Ok None) calm given = tt
printed-given number world (Ok (Some answer)) calm given = (on-given world answer calm given, tt)
printed-given number world (Err Fault) calm given = absurd given
printed-given number world (Err (Waits place)) calm given = (on-given world _ calm tt, tt)
printed-given number world (Err (Says answer)) calm given = (on-given world answer calm given, tt)

both-given : (one other : List OutLine) → AreGiven one → AreGiven other → AreGiven (one ++ other)
both-given [] other a b = b
both-given (out ∷ outs) other a b = (a.0, both-given outs other a.1 b)

step-given : {old new : World} {line : Line} {out : List OutLine} → IsCalm old.drive →
    is_calm line.form ≡ true → Step line old out new → AreGiven out × IsCalm new.drive
step-given {new = new} {line = line} calm quiet (steps_so end way) =
    let kept = (kept-line line.number line.form quiet).means.by _ end new calm way in
    (printed-given line.number new end kept.1 kept.0, kept.1)

pub calm-runs : CalmRunsAnswer
calm-runs old new [] [] calm lines run_ends = (tt, calm)
calm-runs old new lines outs calm quiet
    (goes_on {mid = mid} {lines = rest} {here = here} {later = later} step more) =
    let first = step-given calm quiet.0 step in
    let others = calm-runs mid new rest later first.1 quiet.1 more in
    (both-given here later first.0 others.0, others.1)
