use Rattle.std.proofs.Common.{◌≡◌, ◌-◌, length}
use Rattle.std.specs.List.{filter_map, range_with_len}
use Rattle.cfs_survey.specs.Live.{entry_in, in_order}
use Rattle.cfs_survey.proofs.slots.gather.Given as goal

abbrev pub invariant-loop-slot : goal.invariant-loop-slot
invariant-loop-slot l =
    l.entries.items ≡ in_order (filter_map (entry_in l.nodes l.slots)
    (range_with_len l.slot (length l.slots - l.slot)))
