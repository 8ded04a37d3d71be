use Rattle.std.proofs.Common.{◌≡◌, ◌+◌, ◌*◌}
use Rattle.cfs_dir.specs.Words.{table_words}
use Rattle.cfs_ckpt.proofs.TableLemmas.{HasPut}
use Rattle.cfs_ckpt.proofs.table.write_table.Given as goal

abbrev pub invariant-loop-rec : goal.invariant-loop-rec
invariant-loop-rec g l = record {
  put : HasPut g.R.Region.obeys_power (table_words l.tree) (1 + 12 * l.rec)
      (g.P.Power.asked l.fn.power) (g.R.Region.seen l.fn.region) (g.P.Power.asked l.power) (g.R.Region.seen l.region);
  faults : g.R.Region.faults l.region ≡ g.R.Region.faults l.fn.region;
}
