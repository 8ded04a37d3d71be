use Rattle.std.proofs.Common.{◌≡◌, ◌++◌, drop}
use Rattle.cfs_slot.specs.Words.{bytes_of}
use Rattle.cfs_medium.proofs.recovery.push_area.Given as goal

abbrev pub invariant-loop-word : goal.invariant-loop-word
invariant-loop-word l = l.bytes.items ++ bytes_of (drop l.word-index l.word-items) ≡ l.fn.bytes.items ++ bytes_of l.word-items
