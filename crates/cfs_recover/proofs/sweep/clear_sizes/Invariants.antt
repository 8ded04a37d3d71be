use Rattle.std.proofs.Common.{◌≡◌, List, map, take}
use Rattle.cfs_pmem.specs.Images.{Seen}
use Rattle.cfs_pmem.specs.Objects.{all_devices}
use Rattle.cfs_block.specs.BlockImages.{BlockStep}
use Rattle.cfs_home.specs.Calls.{MountMoments}
use Rattle.cfs_home.specs.Disks.{Disk, File}
use Rattle.cfs_recover.specs.Begins.{Stands, both}
use Rattle.cfs_recover.specs.Swept.{AreNoNodes, all_empty, with_no_sizes}
use Rattle.cfs_recover.specs.Words.{HaveFirstWords, lengths_of}
use Rattle.cfs_recover.proofs.sweep.clear_sizes.Given as goal

abbrev pub invariant-loop-node : goal.invariant-loop-node
invariant-loop-node g l = record {
  so_far : map g.R.Region.seen l.regions
      ≡ with_no_sizes (take l.node-index l.nodes) (map g.R.Region.seen l.initial.regions);
  words : HaveFirstWords (map g.R.Region.seen l.regions);
  moments : (files : List File) (start first : Disk) (blocks : List (Seen BlockStep)) →
      Stands files start first (map g.R.Region.seen l.initial.regions) blocks →
      AreNoNodes files l.nodes →
      MountMoments files start
      (g.P.Power.asked l.initial.power) (both (map g.R.Region.seen l.initial.regions) blocks)
      (g.P.Power.asked l.power) (both (map g.R.Region.seen l.regions) blocks);
  stands : (files : List File) (start first : Disk) (blocks : List (Seen BlockStep)) →
      Stands files start first (map g.R.Region.seen l.initial.regions) blocks →
      AreNoNodes files l.nodes →
      Stands files start (all_empty (take l.node-index l.nodes) first)
      (map g.R.Region.seen l.regions) blocks;
  lengths : lengths_of (map g.R.Region.seen l.regions)
      ≡ lengths_of (map g.R.Region.seen l.initial.regions);
  devices : all_devices (map g.R.Region.seen l.regions)
      ≡ all_devices (map g.R.Region.seen l.initial.regions);
  counts : map g.R.Region.faults l.regions ≡ map g.R.Region.faults l.initial.regions;
}
