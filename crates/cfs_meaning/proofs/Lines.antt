-- The lines of power, of the crash and of callers, beside those that work on files and the tree.
use Rattle.std.proofs.Common.{◌≡◌, ℕ, Bool, true, false, Option, Some, List, [], ◌∷◌, refl, sym, ap}
use Rattle.std.proofs.Common.{subst}
use Rattle.std.specs.Prelude.{Result, Ok, Err}
use Rattle.cfs_print.specs.declared.printed.Printed.{Printed}
use Rattle.cfs_print.specs.declared.printed.Printed.TheVariants as answers
use Rattle.cfs_words.specs.declared.device.Device.{Device}
use Rattle.cfs_script.specs.declared.form.Form.{Form}
use Rattle.cfs_script.specs.declared.form.Form.TheVariants as forms
use Rattle.cfs_script.specs.declared.line.Line.{Line}
use Rattle.cfs_print.specs.declared.out_line.OutLine.{OutLine}
use Rattle.cfs_meaning.specs.World.{Down, Failed, Phase, Up, World, with_drive}
use Rattle.cfs_meaning.specs.Mounting.{mount_steps}
use Rattle.cfs_meaning.specs.Laws.{IsGiven, is_mount}
use Rattle.cfs_meaning.specs.Play.{Run, crash_in, does, goes_on, joined, mount, mount_failed}
use Rattle.cfs_meaning.specs.Play.{mount_line, mounted, plan, planned, run_ends, steps_so, stopped}
use Rattle.cfs_meaning.specs.Ways.{Changes, Fault, Halt, Says, ends, follows, gives, halts, now}
use Rattle.cfs_meaning.proofs.Keeping.{Any, Base, Keeps, keep-each, keep-give, keep-known}
use Rattle.cfs_meaning.proofs.Keeping.{keep-look, keep-say, keep-steps, keep-then, keep-when}
use Rattle.cfs_meaning.proofs.KeptLines.{IsGivenIfAny, is_plain, kept-plain}
use Rattle.cfs_meaning.proofs.Kept.{Law, Requests}
use Rattle.cfs_meaning.proofs.Worlds.{EndsAs, WorldLaw, law_of, moves}

-- what stops, plans, crashes and callers change is kept to
pub record Powers (law : Law) : Type 0 where
  pub joins : (c uid gid : ℕ) → law.base.Means Any (Changes (joined c uid gid))
  pub stops : (n : ℕ) → law.base.Means Any (Changes (with_drive (stopped n)))
  pub plans : (device : ℕ) (writing : Bool) (k : ℕ) →
      law.base.Means Any (Changes (with_drive (planned device writing k)))
  pub crashes : (k : ℕ) → law.base.Means Any (Changes (crash_in k))

kept-plan : (law : Law) → Powers law → (device : Device) (writing : Bool) (k : ℕ) →
    Keeps law.base IsGiven (plan device writing k)
kept-plan law powers device writing k =
    keep-look (λ w.
    keep-then (keep-known _ _ tt) (λ number is.
    keep-then (record { means = powers.plans number writing k }) (λ u a. keep-give tt)))

pub kept-power : (law : Law) → Powers law → (form : Form) → is_plain form ≡ false →
    is_mount form ≡ false → Keeps law.base IsGivenIfAny (does law.line form)
kept-power law powers (forms.Caller c uid gid) rough other =
    keep-then (record { means = powers.joins c uid gid }) (λ u a. keep-give tt)
kept-power law powers (forms.Stop n) rough other =
    keep-then (keep-then (record { means = powers.stops n }) (λ u a. keep-give tt))
    (λ answer given. keep-give given)
kept-power law powers (forms.Crash k) rough other =
    keep-then (keep-then (record { means = powers.crashes k }) (λ u a. keep-give tt))
    (λ answer given. keep-give given)
kept-power law powers forms.Mount rough other = absurd (cc)
kept-power law powers (forms.Fail device k) rough other =
    keep-then (kept-plan law powers device true k) (λ answer given. keep-give given)
kept-power law powers (forms.FailRead device k) rough other =
    keep-then (kept-plan law powers device false k) (λ answer given. keep-give given)
kept-power law powers form rough other = absurd (cc)

-- every line but a mount
pub kept-form : (law : Law) → Requests law → Powers law → (form : Form) →
    is_mount form ≡ false → Keeps law.base IsGivenIfAny (does law.line form)
kept-form law requests powers form other = by-kind (is_plain form) refl
  where
    by-kind : (plain : Bool) → is_plain form ≡ plain →
        Keeps law.base IsGivenIfAny (does law.line form)
    by-kind true is = kept-plain law requests form is
    by-kind false is = kept-power law powers form is other

-- ---- mounts

-- the steps of a mount
pub kept-home : (base : Base) → Keeps base Any mount_steps
kept-home base =
    keep-look (λ w.
    keep-then keep-steps (λ u a.
    keep-then keep-steps (λ u a.
    keep-then (keep-each _ (λ node. keep-each _ (λ entry.
    keep-look (λ here.
    keep-then keep-steps (λ u a.
    keep-then (keep-when _ keep-steps) (λ u a. keep-steps)))))) (λ u a.
    keep-then keep-steps (λ u a. keep-steps)))))

pub only-mount : (form : Form) → is_mount form ≡ true → form ≡ forms.Mount
only-mount forms.Mount is = refl
only-mount form is = absurd (cc)

-- what a mount changes is kept to
pub record Mounts (law : WorldLaw) : Type 0 where
  pub fails : (world : World) → law.fact.Holds world → law.fact.Holds (mount_failed world)
  pub leaves : (world : World) → law.fact.Holds world → law.fact.Holds (mounted world)

kept-mount : (law : WorldLaw) → Mounts law → Keeps (law_of law).base IsGiven mount
kept-mount law mounts =
    keep-look (λ w.
    keep-then (record { means = moves law.fact mounts.fails }) (λ u a.
    keep-then (kept-home (law_of law).base) (λ u a.
    keep-then (record { means = moves law.fact mounts.leaves }) (λ u a. keep-give tt))))

kept-phase : (law : WorldLaw) → Mounts law → (phase : Phase) →
    Keeps (law_of law).base IsGiven (mount_line phase)
kept-phase law mounts Up = keep-say tt
kept-phase law mounts Down = kept-mount law mounts
kept-phase law mounts Failed = keep-say tt

pub kept-mounting : (law : WorldLaw) → Mounts law →
    Keeps (law_of law).base IsGivenIfAny (does law.line forms.Mount)
kept-mounting law mounts =
    keep-then (keep-look (λ w. kept-phase law mounts w.phase)) (λ answer given. keep-give given)

-- each line keeps the law, mounts too
pub kept-each : (law : WorldLaw) → Requests (law_of law) → Powers (law_of law) → Mounts law →
    (form : Form) → Keeps (law_of law).base IsGivenIfAny (does law.line form)
kept-each law requests powers mounts form = by-kind (is_mount form) refl
  where
    by-kind : (mount : Bool) → is_mount form ≡ mount →
        Keeps (law_of law).base IsGivenIfAny (does law.line form)
    by-kind false is = kept-form (law_of law) requests powers form is
    by-kind true is =
        subst (λ f. Keeps (law_of law).base IsGivenIfAny (does law.line f))
        (sym (only-mount form is)) (kept-mounting law mounts)

-- what each line keeps, a run keeps
pub kept-run : (P : World → Type 0) → ((line : ℕ) (form : Form) (old : World)
    (end : Result (Option Printed) Halt) (new : World) → P old → does line form old end new →
    P new) → (old new : World) (lines : List Line) (outs : List OutLine) →
    Run old lines outs new → P old → P new
kept-run P each old new [] outs run_ends holds = holds
kept-run P each old new (line ∷ lines) outs
    (goes_on {mid = mid} {later = later} (steps_so end way) rest) holds =
    kept-run P each mid new lines later rest
    (each line.number line.form old end mid holds way)

says-mounted : (phase : Phase) → phase ≡ Up → (old : World) (end : Result Printed Halt)
    (new : World) → mount_line phase old end new →
    (end ≡ Err (Says answers.Mounted)) × (new ≡ old)
says-mounted Up is old end new halts = (refl, refl)
says-mounted Down is old end new way = absurd (cc)
says-mounted Failed is old end new way = absurd (cc)

-- it changes nothing
pub mount-up : (line : ℕ) (old : World) (end : Result (Option Printed) Halt) (new : World) →
    old.phase ≡ Up → does line forms.Mount old end new →
    (end ≡ Err (Says answers.Mounted)) × (new ≡ old)
mount-up line old end new up (ends (ends way)) = elim way [ ]
mount-up line old end new up (ends {halt = halt} (follows now rest)) =
    let says = says-mounted old.phase up old (Err halt) new rest in
    (ap again says.0, says.1)
  where
    again : Result Printed Halt → Result (Option Printed) Halt
    again (Ok answer) = Ok (Some answer)
    again (Err h) = Err h
mount-up line old end new up (follows {a = a} (follows now rest) gives) =
    let says = says-mounted old.phase up old (Ok a) new rest in absurd (cc)

says-kept : (law : WorldLaw) (end : Result (Option Printed) Halt) →
    end ≡ Err (Says answers.Mounted) →
    EndsAs law.fact IsGivenIfAny end
says-kept law (Ok answer) is = absurd (cc)
says-kept law (Err halt) is =
    subst law.fact.MayEnd (sym (ap halt-of is)) (law.fact.says answers.Mounted tt)
  where
    halt-of : Result (Option Printed) Halt → Halt
    halt-of (Ok answer) = Fault
    halt-of (Err h) = h

-- each line of a mounted store keeps the law
pub line-kept : (law : WorldLaw) → Requests (law_of law) → Powers (law_of law) → (form : Form)
    (old : World)
    (end : Result (Option Printed) Halt) (new : World) → old.phase ≡ Up → law.fact.Holds old →
    does law.line form old end new → EndsAs law.fact IsGivenIfAny end × law.fact.Holds new
line-kept law requests powers form old end new up holds way = by-kind (is_mount form) refl
  where
    by-kind : (mount : Bool) → is_mount form ≡ mount →
        EndsAs law.fact IsGivenIfAny end × law.fact.Holds new
    by-kind false is =
        (kept-form (law_of law) requests powers form is).means.by old end new holds way
    by-kind true is =
        let here : does law.line forms.Mount old end new =
        subst (λ f. does law.line f old end new) (only-mount form is) way in
        let same = mount-up law.line old end new up here in
        (says-kept law end same.0, subst law.fact.Holds (sym same.1) holds)
