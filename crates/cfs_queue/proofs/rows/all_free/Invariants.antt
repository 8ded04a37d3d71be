use Rattle.std.proofs.Common.{◌+◌, ◌≤◌, ◌≡◌, ◌++◌, length, map, reverse}
use Rattle.cfs_vec.specs.Items.{items_of}
use Rattle.cfs_queue.specs.Queue.{free}
use Rattle.cfs_queue.specs.Rows.{seen_all}
use Rattle.cfs_queue.proofs.rows.all_free.Given as goal

abbrev pub invariant-loop-slot : goal.invariant-loop-slot
invariant-loop-slot g l = record {
  moved : seen_all l.rows.items ++ map (λ s. free s.region) (reverse (items_of l.slots)) ≡ map (λ s. free s.region) (items_of l.fn.slots);
  room : length l.rows.items + length (items_of l.slots) ≤ 16;
}

abbrev pub decreases-loop-slot : goal.decreases-loop-slot
decreases-loop-slot g l = length (items_of l.slots)
