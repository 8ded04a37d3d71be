use Rattle.std.proofs.Common.{◌≡◌, ◌++◌, length, map, reverse}
use Rattle.cfs_vec.specs.Items.{items_of}
use Rattle.cfs_gather.proofs.regions.add_fixed.Given as goal

abbrev pub invariant-loop-region : goal.invariant-loop-region
invariant-loop-region g l =
    map g.R.Region.seen l.regions.items ++ map g.R.Region.seen (reverse (items_of l.more)) ≡
    map g.R.Region.seen l.fn.regions.items ++ map g.R.Region.seen (items_of l.fn.more)

abbrev pub decreases-loop-region : goal.decreases-loop-region
decreases-loop-region g l = length (items_of l.more)
