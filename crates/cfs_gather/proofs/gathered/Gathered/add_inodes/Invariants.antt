use Rattle.std.proofs.Common.{◌≡◌, ◌++◌, map}
use Rattle.std.specs.List.{flat_map}
use Rattle.cfs_active.specs.View.{active_view}
use Rattle.cfs_gather.specs.Gathered.{bytes_in, words_in}
use Rattle.cfs_gather.specs.Seens.{blocks_in_active, seens_in_active}
use Rattle.cfs_gather.proofs.gathered.Gathered.add_inodes.Given as goal

abbrev pub invariant-loop-active : goal.invariant-loop-active
invariant-loop-active l = record {
  regions : words_in l.self ≡ words_in l.initial.self
      ++ flat_map seens_in_active (map active_view l.yielded);
  blocks : bytes_in l.self ≡ bytes_in l.initial.self
      ++ flat_map blocks_in_active (map active_view l.yielded);
}
