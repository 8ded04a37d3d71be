-- Devices in memory, as they are seen.
use Rattle.cfs_pmem.specs.Images.{MemoryRegion, Seen, WordStep}

abbrev pub words_seen : MemoryRegion → Seen WordStep
words_seen region = region.seen
