-- A block that is seen as the first of two, and whose calls make steps on both.
use Rattle.std.specs.Prelude.{◌++◌}
use Rattle.cfs_pmem.specs.Images.{Seen, devices_of}
use Rattle.cfs_block.specs.BlockImages.{BlockStep}

abbrev pub beside : Seen BlockStep → Seen BlockStep → Seen BlockStep
beside first second = record {
  device = first.device;
  also = first.also ++ devices_of second;
  history = first.history;
}
