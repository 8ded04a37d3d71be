use Rattle.std.proofs.Common.{refl}
use Rattle.cfs_store_words.proofs.Calls.{lacked}
use Rattle.cfs_store_words.proofs.regions.read_table.Goals as goal

pub returns-in_err-table-clause-cause : goal.returns-in_err-table-clause-cause
returns-in_err-table-clause-cause g c = lacked _ _ _ c.from_residual.ensures.1 refl
