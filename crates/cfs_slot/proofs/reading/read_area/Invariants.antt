use Rattle.std.proofs.Common.{ℕ, ◌-◌, ◌*◌, ◌/◌, ◌+◌, ◌<◌, ◌≤◌, ◌≡◌, get_or, length}
use Rattle.cfs_pmem.specs.Images.{devices_of, words_of}
use Rattle.cfs_slot.specs.Payload.{reads_from}
use Rattle.cfs_slot.specs.Words.{area_of}
use Rattle.cfs_slot.proofs.AreaLemmas.{AreRead}
use Rattle.cfs_slot.proofs.reading.read_area.Given as goal

abbrev pub invariant-loop-k : goal.invariant-loop-k
invariant-loop-k g l =
    let first = l.from / 8 in let old = g.R.Region.seen l.initial.region in
    record {
      read : AreRead g.R.Region.obeys_power (reads_from old.device (6 + first) (l.k - first)) (devices_of old) (g.P.Power.asked l.initial.power) (g.P.Power.asked l.power);
      seen : g.R.Region.seen l.region ≡ old;
      faults : g.R.Region.faults l.region ≡ g.R.Region.faults l.initial.region;
      size : length l.area ≡ 4096;
      bytes : (i : ℕ) → 8 * first ≤ i → i < 8 * l.k → get_or l.area i 0 ≡ get_or (area_of (words_of old)) i 0;
    }
