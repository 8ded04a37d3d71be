use Rattle.std.proofs.Common.{◌≡◌, ℕ, List, map}
use Rattle.cfs_inode.specs.New.{MappedSeen}
use Rattle.cfs_states.specs.Loads.{AreOrders, sizes_in, states_by, states_in}
use Rattle.cfs_states.specs.Shares.{region_of, share_view}
use Rattle.cfs_states.proofs.load.load_all.Given as goal

abbrev pub invariant-loop-share : goal.invariant-loop-share
invariant-loop-share l = record {
  states : (ordered : ℕ → List MappedSeen) → AreOrders 0 (map share_view l.yielded) ordered →
      states_in l.loaded ≡ states_by 0 (map share_view l.yielded) ordered;
  sizes : sizes_in l.loaded ≡ map region_of (map share_view l.yielded);
}
