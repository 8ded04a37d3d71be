use Rattle.std.proofs.Common.{◌≡◌, ◌+◌, ◌≤◌, length, take}
use Rattle.indexmap.specs.IndexMap.{index_map_len, spare}
use Rattle.cfs_dir.specs.Table.{IsIndex, nodes_of}
use Rattle.cfs_dir.proofs.tree.rename.fill.Given as goal

abbrev pub invariant-loop-rec : goal.invariant-loop-rec
invariant-loop-rec l = record {
  indexed : IsIndex (nodes_of (take l.rec l.nodes)) l.index;
  count : index_map_len l.index ≡ length (nodes_of (take l.rec l.nodes));
  room : length (nodes_of l.nodes) ≤ index_map_len l.index + spare l.index;
}
