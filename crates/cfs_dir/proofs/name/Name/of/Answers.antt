use Rattle.cfs_dir.specs.Padding.{IsPadded-written}
use Rattle.cfs_dir.proofs.name.Name.of.Goals as goal

pub invariant_of-result : goal.invariant_of-result
invariant_of-result c = IsPadded-written _ _ c.copy_from_slice.ensures.after c.requires.short c.requires.readable
