use Rattle.std.proofs.Common.{◌≡◌, length}
use Rattle.cfs_pmem.specs.WordOps.{HasWritten}
use Rattle.cfs_slot.specs.Operations.{payload_words}
use Rattle.cfs_slot.specs.Staging.{words_for}
use Rattle.cfs_slot.proofs.staging.write_payload.Given as goal

abbrev pub invariant-loop-k : goal.invariant-loop-k
invariant-loop-k g l = record {
  written : HasWritten g.R.Region.obeys_power 6 (payload_words (words_for (length l.payload)) l.payload) l.k
      (g.P.Power.asked l.initial.power) (g.R.Region.seen l.initial.region) (g.P.Power.asked l.power) (g.R.Region.seen l.region);
  faults : g.R.Region.faults l.region ≡ g.R.Region.faults l.initial.region;
}
