use Rattle.cfs_print.proofs.Told.{output_told}
use Rattle.cfs_print.proofs.laws.outputs_are_told.Goals as goal

pub returns : goal.returns
returns c = output_told
