use Rattle.std.proofs.Common.{drop}
use Rattle.cfs_plan.specs.Files.{IsRecordMap, files_of}
use Rattle.cfs_states.proofs.files.records_of.Given as goal

abbrev pub invariant-loop-k : goal.invariant-loop-k
invariant-loop-k l = IsRecordMap (files_of (drop l.k l.nodes)) l.records
