use Rattle.std.proofs.Common.{◌≡◌, ◌++◌, map}
use Rattle.std.specs.List.{flat_map}
use Rattle.cfs_active.specs.Memory.{words_seen}
use Rattle.cfs_gather.specs.Seens.{seens_in_staged}
use Rattle.cfs_gather.proofs.slots.add_all_staged.Given as goal

abbrev pub invariant-loop-staged : goal.invariant-loop-staged
invariant-loop-staged l =
    map words_seen l.regions.items ≡ map words_seen l.initial.regions.items
    ++ flat_map (λ staged. seens_in_staged words_seen staged) l.yielded
