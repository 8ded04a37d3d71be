use Rattle.std.proofs.Common.{ℕ, ◌≡◌, ◌<◌, ◌++◌, List, length, map, drop, get_or}
use Rattle.cfs_block.specs.Devices.{numbers_of}
use Rattle.cfs_home.specs.Calls.{MountMoments}
use Rattle.cfs_home.specs.Disks.{Disk, File}
use Rattle.cfs_recover.specs.Begins.{Stands, both}
use Rattle.cfs_recover.specs.Words.{lengths_of}
use Rattle.cfs_replay.specs.declared.pending.Pending.{Pending}
use Rattle.cfs_replay.specs.Entries.{AreInOrder, CanReplay, HaveLeft}
use Rattle.cfs_replay.specs.Pieces.{tags_in}
use Rattle.cfs_replay.proofs.entries.replay_entries.Given as goal

abbrev pub invariant-loop-pending : goal.invariant-loop-pending
invariant-loop-pending g l = record {
  moments : (files : List File) (start first : Disk) →
      Stands files start first (map g.R.Region.seen l.initial.regions)
      (map g.B.Block.seen l.initial.blocks) →
      AreInOrder files first.slots first.blocks l.entries →
      MountMoments files start (g.P.Power.asked l.initial.power)
      (both (map g.R.Region.seen l.initial.regions) (map g.B.Block.seen l.initial.blocks))
      (g.P.Power.asked l.power)
      (both (map g.R.Region.seen l.regions) (map g.B.Block.seen l.blocks));
  left : (files : List File) (start first : Disk) →
      Stands files start first (map g.R.Region.seen l.initial.regions)
      (map g.B.Block.seen l.initial.blocks) →
      AreInOrder files first.slots first.blocks l.entries →
      HaveLeft files start first (drop l.pending-index l.entries)
      (map g.R.Region.seen l.regions) (map g.B.Block.seen l.blocks);
  lengths : lengths_of (map g.R.Region.seen l.regions)
      ≡ lengths_of (map g.R.Region.seen l.initial.regions);
  tags : tags_in (map g.B.Block.seen l.blocks)
      ≡ tags_in (map g.B.Block.seen l.initial.blocks);
  can : (k : ℕ) (d : Pending) → k < length l.entries →
      CanReplay l.found (tags_in (map g.B.Block.seen l.blocks))
      (map g.R.Region.seen l.regions) (get_or l.entries k d);
  devices : numbers_of (both (map g.R.Region.seen l.regions) (map g.B.Block.seen l.blocks))
      ≡ numbers_of (both (map g.R.Region.seen l.initial.regions)
      (map g.B.Block.seen l.initial.blocks));
  size : length l.buffer ≡ 65536;
  numbers : map g.B.Block.number l.blocks ≡ map g.B.Block.number l.initial.blocks;
  counts : map g.R.Region.faults l.regions ++ map g.B.Block.faults l.blocks
      ≡ map g.R.Region.faults l.initial.regions ++ map g.B.Block.faults l.initial.blocks;
}
