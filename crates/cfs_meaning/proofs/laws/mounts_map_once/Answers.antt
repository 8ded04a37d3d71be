use Rattle.cfs_meaning.proofs.MappedOnce.{mounts-map-once}
use Rattle.cfs_meaning.proofs.laws.mounts_map_once.Goals as goal

pub returns : goal.returns
returns c = mounts-map-once
