use Rattle.std.proofs.Common.{◌≡◌, drop}
use Rattle.cfs_medium.specs.Store.{taken_through}
use Rattle.cfs_medium.proofs.recovery.take_through.Given as goal

abbrev pub invariant-loop-entry : goal.invariant-loop-entry
invariant-loop-entry l = taken_through l.file (drop l.entry-index l.entries) ≡ taken_through l.initial.file l.entries
