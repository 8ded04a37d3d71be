use Rattle.std.proofs.Common.{◌≡◌}
use Rattle.cfs_image.specs.Layout.{region_words}
use Rattle.cfs_gather_tests.specs.InOrder.{device_of, size_of}
use Rattle.cfs_gather_tests.proofs.Follows.{FollowsSoFar}
use Rattle.cfs_gather_tests.proofs.medium.are_regions.Given as goal

abbrev pub invariant-loop-region : goal.invariant-loop-region
invariant-loop-region l = record {
  at : l.device ≡ l.region-index;
  devices : FollowsSoFar device_of (λ number. number) 0 l.regions l.region-index;
  sizes : FollowsSoFar size_of region_words 0 l.regions l.region-index;
}
