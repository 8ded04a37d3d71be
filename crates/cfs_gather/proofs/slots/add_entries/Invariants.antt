use Rattle.std.proofs.Common.{◌≡◌, ◌++◌, map}
use Rattle.std.specs.List.{flat_map}
use Rattle.cfs_active.specs.Memory.{words_seen}
use Rattle.cfs_inode.specs.View.{held_of, told_entry}
use Rattle.cfs_gather.specs.Seens.{slots_of_entry}
use Rattle.cfs_gather.proofs.slots.add_entries.Given as goal

abbrev pub invariant-loop-entry : goal.invariant-loop-entry
invariant-loop-entry l =
    map words_seen l.regions.items ≡ map words_seen l.initial.regions.items
    ++ flat_map slots_of_entry (map (told_entry (held_of words_seen)) l.yielded)
