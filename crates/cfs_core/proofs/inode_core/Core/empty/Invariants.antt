use Rattle.std.proofs.Common.{◌≡◌, length, true}
use Rattle.std.specs.List.{list_all}
use Rattle.cfs_core.specs.Words.{is_off}
use Rattle.cfs_core.proofs.inode_core.Core.empty.Given as goal

abbrev pub invariant-loop-block : goal.invariant-loop-block
invariant-loop-block l = record {
  blocks : length l.tags ≡ l.block;
  off : list_all is_off l.tags ≡ true;
}
