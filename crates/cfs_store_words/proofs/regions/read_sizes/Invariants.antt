use Rattle.std.proofs.Common.{◌≡◌, map}
use Rattle.cfs_pmem.specs.Images.{IsImage}
use Rattle.cfs_store_words.specs.Leaves.{LeavesEach}
use Rattle.cfs_store_words.specs.Rows.{first_word, rows_from}
use Rattle.cfs_store_words.proofs.regions.read_sizes.Given as goal

abbrev pub invariant-loop-k : goal.invariant-loop-k
invariant-loop-k g l = record {
  leaves : LeavesEach IsImage (g.P.Power.asked l.initial.power)
      (map g.R.Region.seen l.initial.regions) (g.P.Power.asked l.power)
      (map g.R.Region.seen l.regions);
  counts : map g.R.Region.faults l.regions ≡ map g.R.Region.faults l.initial.regions;
  sizes : l.sizes.items
      ≡ map first_word (rows_from 67 l.k (map g.R.Region.seen l.initial.regions));
}
