-- A call behind a call.
use Rattle.std.proofs.Common.{◌≡◌, ◌++◌, inl, inr, List, [], ◌∷◌, refl, subst, sym, ℕ}
use Rattle.cfs_core.specs.declared.event.Event.{Event}
use Rattle.cfs_core.specs.declared.inode_core.Core.{Core}
use Rattle.cfs_core.specs.After.{after}
use Rattle.cfs_core.specs.Run.{IsRun, after_all}
use Rattle.cfs_pmem.specs.declared.trace.Asked.{Asked}
use Rattle.cfs_pmem.proofs.AllMomentLemmas.{all_after, all_weaker}
use Rattle.cfs_medium.specs.Shows.{Recovers}
use Rattle.cfs_medium.specs.World.{Remains, World}
use Rattle.cfs_inode.specs.Makes.{AnyBetween, AreEnough, Makes}

run-both : (core : Core) (first second : List Event) → IsRun core first →
    IsRun (after_all core first) second → IsRun core (first ++ second)
run-both core [] second one two = two
run-both core (event ∷ first) second one two =
    (one.0, run-both (after core event) first second one.1 two)

all-both : (core : Core) (first second : List Event) →
    after_all core (first ++ second) ≡ after_all (after_all core first) second
all-both core [] second = refl
all-both core (event ∷ first) second = all-both (after core event) first second

enough-first : (n : ℕ) (core : Core) (first second : List Event) →
    AreEnough n core (first ++ second) → AreEnough n core first
enough-first n core [] [] enough = enough
enough-first n core [] (event ∷ second) enough = enough.0
enough-first n core (event ∷ first) second enough =
    (enough.0, enough-first n (after core event) first second enough.1)

enough-second : (n : ℕ) (core : Core) (first second : List Event) →
    AreEnough n core (first ++ second) → AreEnough n (after_all core first) second
enough-second n core [] second enough = enough
enough-second n core (event ∷ first) second enough =
    enough-second n (after core event) first second enough.1

between-first : (P : Core → Type 0) (core : Core) (first second : List Event) →
    AnyBetween P core first → AnyBetween P core (first ++ second)
between-first P core [] [] any = any
between-first P core [] (event ∷ second) any = inl any
between-first P core (event ∷ first) second (inl here) = inl here
between-first P core (event ∷ first) second (inr (inl during)) = inr (inl during)
between-first P core (event ∷ first) second (inr (inr later)) =
    inr (inr (between-first P (after core event) first second later))

between-second : (P : Core → Type 0) (core : Core) (first second : List Event) →
    AnyBetween P (after_all core first) second → AnyBetween P core (first ++ second)
between-second P core [] second any = any
between-second P core (event ∷ first) second any =
    inr (inr (between-second P (after core event) first second any))

pub makes-then : (ino : ℕ) (P Q Z : Core → World → Type 0) (first second : List Event)
    (asked_old asked_mid asked_new : List Asked) → Makes ino P first asked_old asked_mid Q →
    Makes ino Q second asked_mid asked_new Z →
    Makes ino P (first ++ second) asked_old asked_new Z
makes-then ino P Q Z first second asked_old asked_mid asked_new one two = λ core world holds.
    let made = one core world holds in
    let rest = two (after_all core first) made.world made.stands in
    record {
      run = run-both core first second made.run rest.run;
      world = rest.world;
      moments = λ n enough.
          let before : (remains : Remains) →
          AnyBetween (λ c. Recovers ino n c remains) core first →
          AnyBetween (λ c. Recovers ino n c remains) core (first ++ second) =
          λ remains any. between-first (λ c. Recovers ino n c remains) core first second any in
          let behind : (remains : Remains) →
          AnyBetween (λ c. Recovers ino n c remains) (after_all core first) second →
          AnyBetween (λ c. Recovers ino n c remains) core (first ++ second) =
          λ remains any. between-second (λ c. Recovers ino n c remains) core first second any in
          all_after
          (all_weaker before (made.moments n (enough-first n core first second enough)))
          (all_weaker behind (rest.moments n (enough-second n core first second enough)));
      stands = subst (λ c. Z c rest.world) (sym (all-both core first second)) rest.stands;
    }
