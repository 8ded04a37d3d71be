use Rattle.std.proofs.Common.{◌≡◌, ◌++◌, take}
use Rattle.std.specs.List.{flat_map}
use Rattle.cfs_gen.specs.Workload.{opened}
use Rattle.cfs_gen.proofs.session.open_files.Given as goal

abbrev pub invariant-callers : goal.invariant-callers
invariant-callers l = l.draft ≡ l.initial.draft ++ flat_map opened (take l.caller-index l.caller-items)
