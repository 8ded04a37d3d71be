use Rattle.std.proofs.Common.{◌≡◌, ◌<◌, ℕ, map, get_or}
use Rattle.cfs_pmem.specs.Images.{Seen, WordStep, IsImage, words_of}
use Rattle.cfs_image.specs.Crash.{region_left, after_region}
use Rattle.cfs_image.proofs.Crashing.{IsLeft}
use Rattle.cfs_image.proofs.crash.crash_regions.Given as goal

abbrev pub invariant-loop-region : goal.invariant-loop-region
invariant-loop-region l = record {
  left : IsLeft region_left after_region l.initial.pick (map (λ region. region.seen) l.initial.region-items) l.pick (map (λ region. region.seen) l.region-items) l.region-index;
  images : (k : ℕ) (d e : Seen WordStep) → k < l.region-index → IsImage (get_or (map (λ region. region.seen) l.initial.region-items) k d).history (words_of (get_or (map (λ region. region.seen) l.region-items) k e));
  faults : map (λ region. region.faults) l.region-items ≡ map (λ region. region.faults) l.initial.region-items;
}
