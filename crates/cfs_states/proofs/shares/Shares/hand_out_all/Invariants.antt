use Rattle.std.proofs.Common.{◌≡◌, ◌++◌, length, map}
use Rattle.std.specs.Prelude.{filter}
use Rattle.cfs_block.specs.MemoryBlocks.{seen_of}
use Rattle.cfs_states.specs.Shares.{free_in, handed, views_of}
use Rattle.cfs_states.specs.Stored.{is_free_block}
use Rattle.cfs_states.proofs.shares.Shares.hand_out_all.Given as goal

abbrev pub invariant-loop-block : goal.invariant-loop-block
invariant-loop-block l = record {
  shares : views_of l.self ≡ handed l.records (map seen_of l.yielded) 0 (views_of l.initial.self);
  free : free_in l.self ≡ free_in l.initial.self ++ filter is_free_block l.yielded;
  count : length l.self.of_records.items ≡ length l.initial.self.of_records.items;
}
