use Rattle.std.proofs.Common.{◌≡◌, ◌++◌, map}
use Rattle.cfs_gather.proofs.regions.add_all.Given as goal

abbrev pub invariant-loop-region : goal.invariant-loop-region
invariant-loop-region g l =
    map g.R.Region.seen l.regions.items ≡
    map g.R.Region.seen l.initial.regions.items ++ map g.R.Region.seen l.yielded
