use Rattle.std.proofs.Common.{◌≡◌, take}
use Rattle.cfs_queue.specs.Queue.{places_in}
use Rattle.cfs_queue.specs.Rows.{seen_all}
use Rattle.cfs_queue.proofs.rows.sorted_places.Given as goal

abbrev pub invariant-loop-row : goal.invariant-loop-row
invariant-loop-row g l = l.places.items ≡ places_in (seen_all (take l.row-index l.rows))
