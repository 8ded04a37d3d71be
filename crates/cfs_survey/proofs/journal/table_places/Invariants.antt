use Rattle.std.proofs.Common.{◌≡◌, map}
use Rattle.std.specs.List.{range_with_len}
use Rattle.cfs_survey.specs.Tables.{row_at}
use Rattle.cfs_survey.proofs.journal.table_places.Given as goal

abbrev pub invariant-loop-rec : goal.invariant-loop-rec
invariant-loop-rec l = l.places.items ≡ map (row_at l.table_at) (range_with_len 0 l.rec)
