use Rattle.std.proofs.Common.{◌≡◌, ◌-◌}
use Rattle.std.specs.Prelude.{None}
use Rattle.cfs_image.specs.Checks.{damage_of}
use Rattle.cfs_survey.specs.Faults.{checks_from}
use Rattle.cfs_survey.specs.Fields.{root_checks}
use Rattle.cfs_survey.specs.Tables.{nodes_below, record_checks, row, row_at}
use Rattle.cfs_survey.proofs.table.read_records.Given as goal

abbrev pub invariant-loop-rec : goal.invariant-loop-rec
invariant-loop-rec l = record {
  root : damage_of (root_checks (row_at l.at 0) (row l.words 0)) ≡ None;
  sound : damage_of (checks_from (record_checks l.at l.words) 1 (l.rec - 1)) ≡ None;
  nodes : l.nodes.items ≡ nodes_below l.words l.rec;
}
