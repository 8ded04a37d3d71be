use Rattle.std.proofs.Common.{◌≡◌}
use Rattle.cfs_pmem.specs.WordOps.{HasWritten}
use Rattle.cfs_pmem.proofs.region.write_words.Given as goal

abbrev pub invariant-loop-i : goal.invariant-loop-i
invariant-loop-i g l = record {
  written : HasWritten g.R.Region.obeys_power l.from l.words l.i
      (g.P.Power.asked l.initial.power) (g.R.Region.seen l.initial.region) (g.P.Power.asked l.power) (g.R.Region.seen l.region);
  faults : g.R.Region.faults l.region ≡ g.R.Region.faults l.initial.region;
}
