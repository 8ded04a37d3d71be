-- What a meter keeps true has one proof at most, as a ghost field asks.
use Rattle.std.specs.Prelude.{Bool, List, [], ◌∷◌}
use Rattle.std.proofs.Props.{props}
use Rattle.cfs_pmem.specs.declared.trace.Asked.{Asked}
use Rattle.cfs_pmem.specs.declared.trace.Asked.TheVariants.{Step, Stopped, Planned, Revived}
use Rattle.cfs_pmem.specs.declared.meter.Plan.{Plan}
use Rattle.cfs_pmem.specs.declared.meter.Supply.{Supply}
use Rattle.cfs_pmem.specs.Meter.{IsAnswered, IsMetered}

pub answered_prop : (asked : List Asked) → IsProp (IsAnswered asked)
answered_prop [] = hlevel props
answered_prop (Step device writing allowed ∷ before) =
    let rest = answered_prop before in hlevel (rest, props)
answered_prop (Stopped n ∷ before) = let rest = answered_prop before in hlevel (rest, props)
answered_prop (Planned device writing k ∷ before) =
    let rest = answered_prop before in hlevel (rest, props)
answered_prop (Revived ∷ before) = let rest = answered_prop before in hlevel (rest, props)

pub metered_prop : {asked : List Asked} {armed : Bool} {supply : Supply} {plans : List Plan}
    → IsProp (IsMetered asked armed supply plans)
metered_prop = hlevel (answered_prop, props)
