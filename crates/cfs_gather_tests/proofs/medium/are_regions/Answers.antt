use Rattle.std.proofs.Common.{◌≡◌, ◌+◌, ◌∙◌, arith, ap, length, sym}
use Rattle.cfs_image.specs.Layout.{region_words}
use Rattle.cfs_gather_tests.specs.InOrder.{device_of, size_of}
use Rattle.cfs_gather_tests.proofs.Follows.{follows_more}
use Rattle.cfs_gather_tests.proofs.medium.are_regions.Goals as goal

pub loop-region-preserved : goal.loop-region-preserved
loop-region-preserved c =
    let at : 0 + c.loop-region.region-index ≡ c.loop-region.device =
    omega (arith, c.loop-region.invariant.at) in
    let device : device_of c.region-item.result ≡ c.loop-region.device =
    omega (arith, c.device.ensures, c.if-device.false) in
    let size : size_of c.region-item.result ≡ region_words c.loop-region.device =
    ap length (sym c.words.ensures) ∙ (c.if-words-region_words.false ∙ c.region_words.ensures) in record {
      at = omega (arith, c.loop-region.invariant.at);
      devices = follows_more device_of (λ number. number) 0 c.loop-region.device
          c.args.regions.now c.loop-region.region-index c.region-item.result
          c.loop-region-test.true c.region-item.is at c.loop-region.invariant.devices device;
      sizes = follows_more size_of region_words 0 c.loop-region.device c.args.regions.now
          c.loop-region.region-index c.region-item.result c.loop-region-test.true c.region-item.is
          at c.loop-region.invariant.sizes size;
    }
