use Rattle.std.proofs.Common.{◌≡◌, List, map, take}
use Rattle.cfs_pmem.specs.Images.{Seen, WordStep}
use Rattle.cfs_pmem.specs.Objects.{all_devices}
use Rattle.cfs_home.specs.Calls.{MountMoments}
use Rattle.cfs_home.specs.Disks.{Disk, File}
use Rattle.cfs_recover.specs.Begins.{Stands, both}
use Rattle.cfs_recover.specs.Untagged.{AreNoTags, all_untagged, with_untagged}
use Rattle.cfs_recover.proofs.tags.untag.Given as goal

abbrev pub invariant-loop-at : goal.invariant-loop-at
invariant-loop-at g l = record {
  so_far : map g.B.Block.seen l.blocks
      ≡ with_untagged (take l.at-index l.places) (map g.B.Block.seen l.initial.blocks);
  moments : (files : List File) (start first : Disk) (regions : List (Seen WordStep)) →
      Stands files start first regions (map g.B.Block.seen l.initial.blocks) →
      AreNoTags files first l.places →
      MountMoments files start
      (g.P.Power.asked l.initial.power) (both regions (map g.B.Block.seen l.initial.blocks))
      (g.P.Power.asked l.power) (both regions (map g.B.Block.seen l.blocks));
  stands : (files : List File) (start first : Disk) (regions : List (Seen WordStep)) →
      Stands files start first regions (map g.B.Block.seen l.initial.blocks) →
      AreNoTags files first l.places →
      Stands files start (all_untagged (take l.at-index l.places) first) regions
      (map g.B.Block.seen l.blocks);
  devices : all_devices (map g.B.Block.seen l.blocks)
      ≡ all_devices (map g.B.Block.seen l.initial.blocks);
  numbers : map g.B.Block.number l.blocks ≡ map g.B.Block.number l.initial.blocks;
  counts : map g.B.Block.faults l.blocks ≡ map g.B.Block.faults l.initial.blocks;
}
