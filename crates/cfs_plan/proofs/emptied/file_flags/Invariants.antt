use Rattle.std.proofs.Common.{◌≡◌, length, take}
use Rattle.cfs_plan.specs.Files.{HasFiles, files_of}
use Rattle.cfs_plan.proofs.emptied.file_flags.Given as goal

abbrev pub invariant-loop-node : goal.invariant-loop-node
invariant-loop-node l = record {
  len : length l.flags.items ≡ l.count;
  flags : HasFiles (files_of (take l.node-index l.nodes)) l.flags.items;
}
