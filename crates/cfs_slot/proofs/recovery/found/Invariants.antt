use Rattle.std.proofs.Common.{ℕ, ◌≡◌, ◌<◌, get_or, length}
use Rattle.cfs_pmem.specs.Images.{words_of}
use Rattle.cfs_slot.specs.Reading.{HasRead}
use Rattle.cfs_slot.proofs.recovery.found.Given as goal

abbrev pub invariant-loop-at : goal.invariant-loop-at
invariant-loop-at g l = record {
  read : HasRead g.R.Region.obeys_power l.at (g.P.Power.asked l.initial.power) (g.R.Region.seen l.initial.region) (g.P.Power.asked l.power) (g.R.Region.seen l.region);
  faults : g.R.Region.faults l.region ≡ g.R.Region.faults l.initial.region;
  size : length l.words ≡ 6;
  words : (k : ℕ) → k < l.at → get_or l.words k 0 ≡ get_or (words_of (g.R.Region.seen l.initial.region)) k 0;
}
