use Rattle.std.proofs.Common.{◌≡◌, List, map, take}
use Rattle.cfs_pmem.specs.Images.{Seen}
use Rattle.cfs_pmem.specs.Objects.{all_devices}
use Rattle.cfs_block.specs.BlockImages.{BlockStep}
use Rattle.cfs_home.specs.Calls.{MountMoments}
use Rattle.cfs_home.specs.Disks.{Disk, File}
use Rattle.cfs_recover.specs.Begins.{Stands, both}
use Rattle.cfs_recover.specs.Swept.{AreDead, all_shut, with_shut}
use Rattle.cfs_recover.specs.Words.{HaveFirstWords, lengths_of}
use Rattle.cfs_recover.proofs.sweep.close_dead.Given as goal

abbrev pub invariant-loop-at : goal.invariant-loop-at
invariant-loop-at g l = record {
  so_far : map g.R.Region.seen l.regions
      ≡ with_shut (take l.at-index l.places) (map g.R.Region.seen l.initial.regions);
  words : HaveFirstWords (map g.R.Region.seen l.regions);
  moments : (files : List File) (start first : Disk) (blocks : List (Seen BlockStep)) →
      Stands files start first (map g.R.Region.seen l.initial.regions) blocks →
      AreDead files first l.places →
      MountMoments files start
      (g.P.Power.asked l.initial.power) (both (map g.R.Region.seen l.initial.regions) blocks)
      (g.P.Power.asked l.power) (both (map g.R.Region.seen l.regions) blocks);
  stands : (files : List File) (start first : Disk) (blocks : List (Seen BlockStep)) →
      Stands files start first (map g.R.Region.seen l.initial.regions) blocks →
      AreDead files first l.places →
      Stands files start (all_shut (take l.at-index l.places) first)
      (map g.R.Region.seen l.regions) blocks;
  lengths : lengths_of (map g.R.Region.seen l.regions)
      ≡ lengths_of (map g.R.Region.seen l.initial.regions);
  devices : all_devices (map g.R.Region.seen l.regions)
      ≡ all_devices (map g.R.Region.seen l.initial.regions);
  counts : map g.R.Region.faults l.regions ≡ map g.R.Region.faults l.initial.regions;
}
