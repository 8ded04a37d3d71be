use Rattle.cfs_dir.proofs.Tables.{table_told}
use Rattle.cfs_dir.proofs.laws.tables_are_told.Goals as goal

pub returns : goal.returns
returns c = table_told
