use Rattle.std.proofs.Common.{◌≡◌, drop}
use Rattle.std.specs.List.{filter_map}
use Rattle.cfs_medium.specs.Store.{taken_through}
use Rattle.cfs_dump.specs.Reads.{request_in}
use Rattle.cfs_dump.proofs.replay.take_through.Given as goal

abbrev pub invariant-loop-entry : goal.invariant-loop-entry
invariant-loop-entry l =
    taken_through l.file (filter_map (request_in l.bytes l.ino) (drop l.entry-index l.entries))
    ≡ taken_through l.initial.file (filter_map (request_in l.bytes l.ino) l.entries)
