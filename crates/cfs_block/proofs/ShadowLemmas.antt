-- A block over two: its steps are those of both, and what it holds is what the first one holds.
use Rattle.std.proofs.Common.{◌∙◌, List, ◌++◌, sym, ap, arith, append_assoc, length-append}
use Rattle.cfs_pmem.specs.declared.trace.Asked.{Asked}
use Rattle.cfs_pmem.specs.Asks.{AsksSome}
use Rattle.cfs_pmem.specs.Images.{Seen, devices_of}
use Rattle.cfs_pmem.proofs.AskLemmas.{own_both, steps_left, steps_right}
use Rattle.cfs_block.specs.BlockImages.{BlockStep}
use Rattle.cfs_block.specs.Shadows.{beside}

-- a call on the first alone
pub asks_first : (first second : Seen BlockStep) {old new : List Asked} → AsksSome (devices_of first) old new → AsksSome (devices_of (beside first second)) old new
asks_first first second a = record { made = a.made; some = a.some; own = steps_left (devices_of first) (devices_of second) a.made a.own; is = a.is }

-- a call on the second, and then one on the first
pub asks_both : (first second : Seen BlockStep) {old mid new : List Asked} → AsksSome (devices_of second) old mid → AsksSome (devices_of first) mid new → AsksSome (devices_of (beside first second)) old new
asks_both first second {old} {mid} {new} b a = record {
  made = a.made ++ b.made;
  some = omega (arith, length-append a.made b.made, a.some);
  own = own_both (devices_of (beside first second)) a.made b.made (steps_left (devices_of first) (devices_of second) a.made a.own) (steps_right (devices_of first) (devices_of second) b.made b.own);
  is = a.is ∙ ap (λ s. a.made ++ s) b.is ∙ sym (append_assoc a.made b.made old);
}
