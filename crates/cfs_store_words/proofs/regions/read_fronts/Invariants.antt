use Rattle.std.proofs.Common.{◌≡◌, map, take}
use Rattle.cfs_pmem.specs.Images.{IsImage}
use Rattle.cfs_store_words.specs.Leaves.{LeavesEach}
use Rattle.cfs_store_words.specs.Rows.{rows_from}
use Rattle.cfs_store_words.proofs.regions.read_fronts.Given as goal

abbrev pub invariant-loop-k : goal.invariant-loop-k
invariant-loop-k g l = record {
  leaves : LeavesEach IsImage (g.P.Power.asked l.initial.power)
      (map g.R.Region.seen l.initial.regions) (g.P.Power.asked l.power)
      (map g.R.Region.seen l.regions);
  counts : map g.R.Region.faults l.regions ≡ map g.R.Region.faults l.initial.regions;
  rows : l.rows.items
      ≡ map (take g.row.N) (rows_from l.first l.k (map g.R.Region.seen l.initial.regions));
}
