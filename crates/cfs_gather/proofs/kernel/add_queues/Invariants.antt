use Rattle.std.proofs.Common.{◌≡◌, ◌++◌, map}
use Rattle.std.specs.List.{flat_map}
use Rattle.cfs_active.specs.Memory.{words_seen}
use Rattle.cfs_gather.specs.Seens.{free_at}
use Rattle.cfs_gather.proofs.kernel.add_queues.Given as goal

abbrev pub invariant-loop-queue : goal.invariant-loop-queue
invariant-loop-queue l =
    map words_seen l.regions.items ≡ map words_seen l.initial.regions.items
    ++ flat_map (free_at words_seen) l.yielded
