-- A line that mounts, and leaves devices that have everything home, makes a world that they show.
use Rattle.std.proofs.Common.{◌≡◌, ℕ, Bool, true, false, Option, List, [], ◌∷◌, refl, sym, ap, ◌∙◌}
use Rattle.std.proofs.Common.{subst}
use Rattle.std.specs.Prelude.{Result, Ok, Err}
use Rattle.cfs_dir.specs.declared.node.Node.{Node}
use Rattle.cfs_print.specs.declared.printed.Printed.{Printed}
use Rattle.cfs_meaning.specs.Drive.{Op}
use Rattle.cfs_meaning.specs.World.{Down, Failed, Phase, Up, World}
use Rattle.cfs_meaning.specs.Mounting.{bring_home, mount_steps}
use Rattle.cfs_meaning.specs.Home.{Begins, IsHome, MountsShow}
use Rattle.cfs_meaning.specs.Play.{does, mount, mount_line, mounted, steps_so, told}
use Rattle.cfs_meaning.specs.Ways.{Halt, Now, Way, each, steps, when, ◌>>=◌}
use Rattle.cfs_meaning.proofs.Homes.{homes-are-shown}
use Rattle.cfs_meaning.proofs.Hoare.{Leaves, leave-changes, leave-end, leave-give, leave-look}
use Rattle.cfs_meaning.proofs.Hoare.{leave-then, leave-tries, leave-unless, leave-weaker}
use Rattle.cfs_meaning.proofs.Total.{IfEnds}

-- ---- a mount that has not come to its end has failed

abbrev HasFailed : World → Type 0
HasFailed world = world.phase ≡ Failed

abbrev Fails : {A : Type 0} → Way A → Type 0
Fails way = Leaves HasFailed (λ a. HasFailed) HasFailed way

fail-look : {A : Type 0} {next : World → Way A} → ((x : World) → Fails (next x)) →
    Fails (Now >>= next)
fail-look more =
    leave-look (λ x.
    leave-weaker {P = HasFailed} (λ w holds. holds.1) (λ a w q. q) (λ w e. e) (more x))

fail-steps : (ops : List Op) → Fails (steps ops)
fail-steps ops =
    leave-then {Q = λ b. HasFailed} (leave-tries (λ w failed. failed)) (λ b.
    leave-unless b (λ w failed. failed) (λ w failed. failed))

fail-when : (test : Bool) {way : Way (Unit {0})} → Fails way → Fails (when test way)
fail-when true one = one
fail-when false one = leave-give (λ w failed. failed)

fail-each : {A : Type 0} (items : List A) {way : A → Way (Unit {0})} → ((a : A) → Fails (way a)) →
    Fails (each items way)
fail-each [] one = leave-give (λ w failed. failed)
fail-each (a ∷ items) one = leave-then {Q = λ u. HasFailed} (one a) (λ u. fail-each items one)

fail-bring : (node : Node) (entry : ℕ × ℕ) → Fails (bring_home node entry)
fail-bring node entry =
    fail-look (λ x.
    leave-then {Q = λ u. HasFailed} (fail-steps _) (λ u.
    leave-then {Q = λ v. HasFailed} (fail-when _ (fail-steps _)) (λ v. fail-steps _)))

fail-mount : Fails mount_steps
fail-mount =
    fail-look (λ x.
    leave-then {Q = λ a. HasFailed} (fail-steps _) (λ a.
    leave-then {Q = λ b. HasFailed} (fail-steps _) (λ b.
    leave-then {Q = λ c. HasFailed}
    (fail-each _ (λ node. fail-each _ (λ entry. fail-bring node entry))) (λ c.
    leave-then {Q = λ d. HasFailed} (fail-steps _) (λ d. fail-steps _)))))

-- ---- the line

-- it was made by a mount
abbrev IsMade : World → Type 0
IsMade world = (x : World) × (world ≡ mounted x)

mount-made : Leaves (λ w. Unit {0}) (λ answer. IsMade) HasFailed mount
mount-made =
    leave-look (λ x.
    leave-then {Q = λ u. HasFailed} (leave-changes (λ w holds. refl)) (λ u.
    leave-then {Q = λ v. HasFailed} fail-mount (λ v.
    leave-then {Q = λ t. IsMade} (leave-changes (λ w failed. (w, refl))) (λ t.
    leave-give (λ w made. made)))))

line-made : Leaves (λ w. w.phase ≡ Down) (λ answer. IsMade) HasFailed
    (told (Now >>= (λ w. mount_line w.phase)))
line-made =
    leave-then {Q = λ answer. IsMade} (leave-look (λ x. by-phase x x.phase refl)) (λ answer.
    leave-give (λ w made. made))
  where
    by-phase : (x : World) (phase : Phase) → x.phase ≡ phase →
        Leaves (λ w. (w ≡ x) × (w.phase ≡ Down)) (λ answer. IsMade) HasFailed (mount_line phase)
    by-phase x Up is =
        leave-end (λ w holds.
        let wrong : Down ≡ Up = sym holds.1 ∙ ap (λ (v : World). v.phase) holds.0 ∙ is in
        absurd (cc))
    by-phase x Down is =
        leave-weaker {P = λ w. Unit {0}} (λ w holds. tt) (λ a w q. q) (λ w e. e) mount-made
    by-phase x Failed is =
        leave-end (λ w holds.
        let wrong : Down ≡ Failed = sym holds.1 ∙ ap (λ (v : World). v.phase) holds.0 ∙ is in
        absurd (cc))

made-begins : (end : Result (Option Printed) Halt) (new : World) →
    IfEnds (λ answer. IsMade) HasFailed end new → new.phase ≡ Up → IsHome new.drive → Begins new
made-begins (Ok answer) new made up home =
    subst Begins (sym made.1)
    (homes-are-shown made.0.callers made.0.drive
    (subst IsHome (ap (λ (w : World). w.drive) made.1) home))
made-begins (Err halt) new failed up home =
    let wrong : Failed ≡ Up = sym failed ∙ up in absurd (cc)

pub mounts-show : MountsShow
mounts-show old new line out is down (steps_so end way) up home =
    made-begins end new
    (line-made.by old end new down (subst (λ f. does line.number f old end new) is way)) up home
