use Rattle.std.proofs.Common.{take}
use Rattle.cfs_slot.specs.Regions.{devices_in, of_slots}
use Rattle.cfs_long.specs.Chain.{AreChain}
use Rattle.cfs_long.proofs.room.are_chain.Given as goal

abbrev pub invariant-loop-at : goal.invariant-loop-at
invariant-loop-at g l = record {
  so_far : AreChain (take l.at (devices_in g.R.Region.seen (of_slots l.slots)));
}
