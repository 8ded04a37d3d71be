use Rattle.std.proofs.Common.{ℕ, ◌*◌, ◌<◌, ◌≡◌, length, map, get_or}
use Rattle.std.specs.List.{flat_map}
use Rattle.cfs_slot.specs.Words.{area_of}
use Rattle.cfs_replay.specs.Reading.{LeavesAll, words_at}
use Rattle.cfs_replay.proofs.payload.read_payload.Given as goal

abbrev pub invariant-loop-k : goal.invariant-loop-k
invariant-loop-k g l = record {
  leaves : LeavesAll (g.P.Power.asked l.initial.power) (map g.R.Region.seen l.initial.regions)
      (g.P.Power.asked l.power) (map g.R.Region.seen l.regions);
  counts : map g.R.Region.faults l.regions ≡ map g.R.Region.faults l.initial.regions;
  size : length l.buffer ≡ 65536;
  bytes : (i : ℕ) → i < 8 * l.k → get_or l.buffer i 0
      ≡ get_or (flat_map area_of (map (words_at (map g.R.Region.seen l.initial.regions)) l.places))
      i 0;
}
