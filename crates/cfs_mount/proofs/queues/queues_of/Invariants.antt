use Rattle.std.proofs.Common.{◌≡◌, ◌*◌, drop}
use Rattle.std.specs.Vec.Iter.{into_iter_items}
use Rattle.cfs_mount.specs.Queues.{free_queues}
use Rattle.cfs_mount.proofs.queues.queues_of.Given as goal

abbrev pub invariant-loop-number : goal.invariant-loop-number
invariant-loop-number l = record {
  left : into_iter_items l.left ≡ drop (16 * l.number) l.fn.slots.items;
  made : l.queues.items ≡ free_queues l.fn.slots.items l.number;
}
