use Rattle.std.proofs.Common.{◌≡◌, length, map, take}
use Rattle.cfs_pmem.specs.Images.{IsImage}
use Rattle.cfs_store_words.specs.Leaves.{LeavesEach}
use Rattle.cfs_store_words.specs.Rows.{row_at}
use Rattle.cfs_store_words.proofs.regions.read_front.Given as goal

abbrev pub invariant-loop-at : goal.invariant-loop-at
invariant-loop-at g l = record {
  leaves : LeavesEach IsImage (g.P.Power.asked l.initial.power)
      (map g.R.Region.seen l.initial.regions) (g.P.Power.asked l.power)
      (map g.R.Region.seen l.regions);
  counts : map g.R.Region.faults l.regions ≡ map g.R.Region.faults l.initial.regions;
  size : length l.words ≡ length l.initial.words;
  read : take l.at l.words ≡ take l.at (row_at (map g.R.Region.seen l.initial.regions) l.place);
}
