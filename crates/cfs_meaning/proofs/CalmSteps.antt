-- Operations of a calm drive are done, and its lines print their answers.
use Rattle.std.proofs.Common.{true, List, [], ◌∷◌, Some, ap, subst, if◌then◌else◌}
use Rattle.std.specs.Prelude.{Ok}
use Rattle.cfs_pmem.specs.Meter.{is_off}
use Rattle.cfs_print.specs.declared.printed.Printed.{Printed}
use Rattle.cfs_print.specs.declared.printed.Printed.TheVariants as answers
use Rattle.cfs_script.specs.declared.line.Line.{Line}
use Rattle.cfs_meaning.specs.Drive.{Drive, Op, attempt}
use Rattle.cfs_meaning.specs.World.{World}
use Rattle.cfs_meaning.specs.Laws.{IsCalm}
use Rattle.cfs_meaning.specs.Play.{Step, does, steps_so}
use Rattle.cfs_meaning.specs.Ways.{Tries, follows, gives, steps, tried}
use Rattle.cfs_meaning.proofs.Calm.{all-allowed}

-- ---- calm operations

pub done_by : List Op → Drive → Drive
done_by ops drive = (attempt ops drive).drive

pub next-calm : (ops : List Op) (drive : Drive) → IsCalm drive → IsCalm (done_by ops drive)
unfolding done_by
next-calm ops drive calm = (all-allowed ops drive calm).1

pub try-calm : {ops : List Op} {w : World} → IsCalm w.drive →
    Tries ops w (Ok true) (record w { drive = done_by ops w.drive })
unfolding done_by
try-calm {ops} {w} calm =
    subst (λ b. Tries ops w (Ok b) (record w { drive = (attempt ops w.drive).drive }))
    (all-allowed ops w.drive calm).0 tried

pub steps-calm : {ops : List Op} {w : World} → IsCalm w.drive →
    steps ops w (Ok tt) (record w { drive = done_by ops w.drive })
steps-calm calm = follows (try-calm calm) gives

-- where the power is on, a line prints its answer
pub prints : {line : Line} {old new : World} {answer : Printed} → IsCalm new.drive →
    does line.number line.form old (Ok (Some answer)) new →
    Step line old (record { number = line.number; answer = answer } ∷ []) new
prints {line} {old} {new} {answer} calm way =
    subst (λ out. Step line old out new)
    (ap (λ b. record { number = line.number; answer = if b then answers.Stopped else answer } ∷ [])
    (ap is_off calm.steady)) (steps_so (Ok (Some answer)) way)
