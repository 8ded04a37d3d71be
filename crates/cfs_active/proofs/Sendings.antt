-- A job that is given out comes behind the others.
use Rattle.std.proofs.Common.{◌≡◌, ◌≤◌, ◌<◌, ℕ, List, [], ◌∷◌, ◌++◌, Ok, Err, arith}
use Rattle.std.proofs.Common.{if◌then◌else◌, subst, sym}
use Rattle.std.specs.Prelude.{OnErr, Result, is_ok}
use Rattle.std.proofs.lemmas.List.{append-nil}
use Rattle.cfs_core.specs.declared.event.Event.TheVariants as events
use Rattle.cfs_job.specs.Views.{JobView}
use Rattle.cfs_pmem.specs.declared.trace.Asked.{Asked}
use Rattle.cfs_inode.specs.Makes.{Made, Makes}
use Rattle.cfs_inode.specs.Stands.{Together}
use Rattle.cfs_active.specs.Makes.{QuietlyMakes}
use Rattle.cfs_active.specs.View.{ActiveView}
use Rattle.cfs_active.proofs.Knowns.{made-as}
use Rattle.cfs_active.proofs.Orders.{to-back}

pub sent-behind : (place : ℕ) (old new : ActiveView) (job : JobView) →
    new.jobs ≡ old.jobs ++ job ∷ [] →
    ((asked : List Asked) (jobs : List JobView) →
    Makes old.state.ino (Together old.state jobs) (events.Dispatch place ∷ []) asked asked
    (Together new.state (job ∷ jobs))) →
    QuietlyMakes (events.Dispatch place ∷ []) old new
sent-behind place old new job are makes = λ asked core world together.
    subst (λ (js : List JobView). Made old.state.ino (events.Dispatch place ∷ [])
    (Together new.state js) core asked world asked) (sym are)
    (made-as old.state.ino (events.Dispatch place ∷ [])
    (Together new.state (job ∷ (old.jobs ++ []))) (Together new.state (old.jobs ++ job ∷ []))
    core asked world asked
    (λ c w behind. to-back new.state old.jobs job [] c w behind)
    (makes asked (old.jobs ++ []) core world
    (subst (λ (js : List JobView). Together old.state js core world)
    (sym (append-nil old.jobs)) together)))

-- where there is room the list is longer by one
pub pushed : {X E : Type 0} (result : Result (Unit {0}) E) (now more less : List X) (most many : ℕ) →
    now ≡ (if◌then◌else◌ (is_ok result) more less) → OnErr result (most ≤ many) → many < most →
    now ≡ more
pushed (Ok done) now more less most many is full room = is
pushed (Err error) now more less most many is full room = absurd (omega (arith, full, room))
