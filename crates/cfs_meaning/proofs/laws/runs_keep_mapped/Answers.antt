use Rattle.cfs_meaning.proofs.Mapping.{runs-keep-mapped}
use Rattle.cfs_meaning.proofs.laws.runs_keep_mapped.Goals as goal

pub returns : goal.returns
returns c = runs-keep-mapped
