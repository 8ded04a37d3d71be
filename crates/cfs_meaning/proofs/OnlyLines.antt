-- A script has one list of answers.
use Rattle.std.proofs.Common.{◌≡◌, ◌∙◌, ℕ, Bool, true, false, List, [], ◌∷◌, ◌++◌, refl, sym, ap, subst}
use Rattle.std.specs.Prelude.{Result, Ok, Err}
use Rattle.cfs_core.specs.declared.event.Event.{Event}
use Rattle.cfs_print.specs.declared.printed.Printed.TheVariants.{PendingRead}
use Rattle.cfs_print.specs.declared.out_line.OutLine.{OutLine}
use Rattle.cfs_requests.specs.Steps.{NameRequest}
use Rattle.cfs_script.specs.declared.form.Form.{Form}
use Rattle.cfs_script.specs.declared.line.Line.{Line}
use Rattle.cfs_meaning.specs.World.{Down, Failed, Phase, Up, World}
use Rattle.cfs_meaning.specs.Names.{ask, free_record}
use Rattle.cfs_meaning.specs.NameSteps.{refusal_of}
use Rattle.cfs_meaning.specs.Inode.{Comes, comes}
use Rattle.cfs_meaning.specs.Files.{Defers, defers, faults, serves}
use Rattle.cfs_meaning.specs.Laws.{AnswersAreOnly, IsGiven, is_mount}
use Rattle.cfs_meaning.specs.Play.{Run, Step, does, goes_on, mount, mount_line, printed, run_ends, steps_so}
use Rattle.cfs_meaning.specs.Ways.{Changes, Fault, Halt, Says, Waits, Way}
use Rattle.cfs_meaning.proofs.Keeping.{Any, Keeps, keep-each, keep-give, keep-known, keep-look, keep-say, keep-then}
use Rattle.cfs_meaning.proofs.Kept.{Law, Requests}
use Rattle.cfs_meaning.proofs.KeptLines.{IsGivenIfAny}
use Rattle.cfs_meaning.proofs.KeptNames.{kept-store}
use Rattle.cfs_meaning.proofs.Worlds.{refusal-given}
use Rattle.cfs_meaning.proofs.Lines.{Powers, kept-form, kept-home, only-mount}
use Rattle.cfs_meaning.proofs.Only.{Single, changes-only, err-ok, ok-err, single_base}
use Rattle.cfs_meaning.proofs.OnlyHelps.{helps-only}

-- ---- events, requests on names, and reads that wait

single-change : {change : World → World} → Single Any (Changes change)
single-change = record { only = changes-only; value = λ old end new way a is. tt }

pub comes-only : {ino : ℕ} {e : Event} (old : World) (one other : Result (Unit {0}) Halt)
    (new also : World) → Comes ino e old one new → Comes ino e old other also →
    (one ≡ other) × (new ≡ also)
comes-only old one other new also (comes may_be) (comes may_be') = (refl, refl)

single-ask : (line c : ℕ) (request : NameRequest) → Keeps single_base Any (ask c line request)
single-ask line c request =
    keep-look (λ w.
    keep-then (keep-known _ _ (refusal-given w (refusal_of w.names.now request (free_record w))))
    (λ step is.
    keep-then (keep-each _ (kept-store single_base)) (λ u a.
    keep-then (record { means = single-change }) (λ u a. keep-give tt))))

-- a wait of a read, as its line says it
abbrev waited : ℕ → ℕ → Result (List ℕ) Halt → Result (List ℕ) Halt
waited ino place (Err (Waits q)) = Err (Says (PendingRead ino place q))
waited ino place other = other

abbrev is_fault : Result (List ℕ) Halt → Bool
is_fault (Err Fault) = true
is_fault other = false

abbrev waits_on : ℕ → Result (List ℕ) Halt
waits_on q = Err (Waits q)

abbrev faulted : Result (List ℕ) Halt
faulted = Err Fault

no-fault : {C : Type 0} (q : ℕ) → waits_on q ≡ faulted → C
no-fault q is = let wrong : false ≡ true = ap is_fault is in absurd (cc)

pub defers-only : {ino place : ℕ} {way : Way (List ℕ)} {move : World → World} → Single Any way →
    (old : World) (one other : Result (List ℕ) Halt) (new also : World) →
    Defers ino place way move old one new → Defers ino place way move old other also →
    (one ≡ other) × (new ≡ also)
defers-only {move = move} w old one other new also (serves {new = m} {bytes = b} x)
    (serves {new = n} {bytes = c} y) =
    let same = w.only old (Ok b) (Ok c) m n x y in (same.0, ap move same.1)
defers-only w old one other new also (serves {new = m} {bytes = b} x)
    (defers {new = n} {q = q} y) =
    ok-err b (Waits q) (w.only old (Ok b) (Err (Waits q)) m n x y).0
defers-only w old one other new also (serves {new = m} {bytes = b} x) (faults {new = n} y) =
    ok-err b Fault (w.only old (Ok b) (Err Fault) m n x y).0
defers-only w old one other new also (defers {new = m} {q = p} x) (serves {new = n} {bytes = c} y) =
    err-ok (Waits p) c (w.only old (Err (Waits p)) (Ok c) m n x y).0
defers-only {ino} {place} {move = move} w old one other new also (defers {new = m} {q = p} x)
    (defers {new = n} {q = q} y) =
    let same = w.only old (waits_on p) (waits_on q) m n x y in
    (ap (waited ino place) same.0, ap move same.1)
defers-only w old one other new also (defers {new = m} {q = p} x) (faults {new = n} y) =
    no-fault p (w.only old (waits_on p) faulted m n x y).0
defers-only w old one other new also (faults {new = m} x) (serves {new = n} {bytes = c} y) =
    err-ok Fault c (w.only old (Err Fault) (Ok c) m n x y).0
defers-only w old one other new also (faults {new = m} x) (defers {new = n} {q = q} y) =
    no-fault q (sym (w.only old faulted (waits_on q) m n x y).0)
defers-only w old one other new also (faults {new = m} x) (faults {new = n} y) =
    w.only old faulted faulted m n x y

abbrev single_law : ℕ → Law
single_law line = record {
  base = single_base;
  line = line;
  comes = λ ino e own. record { only = comes-only; value = λ old end new way a is. tt };
  helps = λ ino skipped jobs place.
      record { only = helps-only skipped jobs; value = λ old end new way a is. tt };
  defers = λ ino place way move kept quiet.
      record { only = defers-only kept; value = λ old end new way a is. tt };
}

single-requests : (line : ℕ) → Requests (single_law line)
single-requests line = record {
  asks = λ c request. (single-ask line c request).means;
  opens = λ c change. single-change;
}

-- ---- lines

single-powers : (line : ℕ) → Powers (single_law line)
single-powers line = record {
  joins = λ c uid gid. single-change;
  stops = λ n. single-change;
  plans = λ device writing k. single-change;
  crashes = λ k. single-change;
}

single-mount : Keeps single_base IsGiven mount
single-mount =
    keep-look (λ w.
    keep-then (record { means = single-change }) (λ u a.
    keep-then (kept-home single_base) (λ u a.
    keep-then (record { means = single-change }) (λ u a. keep-give tt))))

single-phase : (phase : Phase) → Keeps single_base IsGiven (mount_line phase)
single-phase Up = keep-say tt
single-phase Down = single-mount
single-phase Failed = keep-say tt

single-line : (line : ℕ) (form : Form) → Keeps single_base IsGivenIfAny (does line form)
single-line line form = by-kind (is_mount form) refl
  where
    by-kind : (mounts : Bool) → is_mount form ≡ mounts →
        Keeps single_base IsGivenIfAny (does line form)
    by-kind false is =
        kept-form (single_law line) (single-requests line) (single-powers line) form is
    by-kind true is =
        subst (λ f. Keeps single_base IsGivenIfAny (does line f)) (sym (only-mount form is))
        (keep-then (keep-look (λ w. single-phase w.phase)) (λ answer given. keep-give given))

step-only : {old one other : World} {line : Line} {out also : List OutLine} →
    Step line old out one → Step line old also other → (out ≡ also) × (one ≡ other)
step-only {old} {one} {other} {line} (steps_so end way) (steps_so end' way') =
    let same = (single-line line.number line.form).means.only old end end' one other way way' in (
      ap (λ w. printed line.number w end) same.1 ∙ ap (printed line.number other) same.0,
      same.1,
    )

pub answers-only : AnswersAreOnly
answers-only old one other [] outs others run_ends run_ends = (refl, refl)
answers-only old one other (line ∷ lines) outs others
    (goes_on {mid = mid} {here = here} {later = later} step rest)
    (goes_on {mid = mid'} {here = here'} {later = later'} step' rest') =
    let first = step-only step step' in
    let there : Run mid lines later' other =
    subst (λ w. Run w lines later' other) (sym first.1) rest' in
    let more = answers-only mid one other lines later later' rest there in
    (ap (λ o. o ++ later) first.0 ∙ ap (λ o. here' ++ o) more.0, more.1)
