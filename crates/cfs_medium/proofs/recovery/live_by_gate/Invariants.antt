use Rattle.std.proofs.Common.{◌≡◌, ◌-◌, length}
use Rattle.std.specs.List.{filter_map, range_with_len}
use Rattle.cfs_medium.specs.Store.{by_gate, entry_at}
use Rattle.cfs_medium.proofs.recovery.live_by_gate.Given as goal

abbrev pub invariant-loop-at : goal.invariant-loop-at
invariant-loop-at l =
    l.entries.items ≡ by_gate (filter_map (entry_at l.ino l.slots) (range_with_len l.at (length l.slots - l.at)))
