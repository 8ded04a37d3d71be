use Rattle.cfs_image.specs.Reading.{AreRegionsOf}
use Rattle.cfs_image.proofs.read.read_regions.Given as goal

abbrev pub invariant-loop-device : goal.invariant-loop-device
invariant-loop-device l = AreRegionsOf l.bytes l.device l.regions.items
