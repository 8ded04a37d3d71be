use Rattle.std.proofs.Common.{length}
use Rattle.cfs_granted.specs.View.{life_view}
use Rattle.cfs_granted.proofs.Detachings.{IsDropping}
use Rattle.cfs_granted.proofs.life.Life.drop_under.Given as goal

abbrev pub invariant-loop-reader : goal.invariant-loop-reader
invariant-loop-reader l =
    IsDropping l.number (life_view l.initial.self) (life_view l.self)

abbrev pub decreases-loop-reader : goal.decreases-loop-reader
decreases-loop-reader l = length l.self.readers.items
