use Rattle.std.proofs.Common.{arith, ℕ, ◌≡◌, ◌+◌, ◌-◌, ◌*◌, ◌∙◌, take, drop, ap}
use Rattle.cfs_image.specs.Layout.{region_at, region_words}
use Rattle.cfs_image.proofs.Readings.{regions_more}
use Rattle.cfs_image.proofs.read.read_regions.Goals as goal

pub loop-device-preserved : goal.loop-device-preserved
loop-device-preserved c =
    let device : ℕ = c.loop-device.device in
    let from : ℕ = c.region_at-from.result in
    let at : from ≡ region_at device = c.region_at-from.ensures in
    let words : c.region_words.result ≡ region_words device = c.region_words.ensures in
    let size : from + 8 * c.region_words.result - from ≡ 8 * region_words device = omega arith in
    rw c.in_ok-push.ensures.items
    (regions_more c.args.bytes.now device c.loop-device.regions.items c.in_ok-read_region.field-0 c.loop-device.invariant
    (c.in_ok-read_region.ensures.words ∙ ap (λ (n : ℕ). take n (drop from c.args.bytes.now)) size
    ∙ ap (λ (place : ℕ). take (8 * region_words device) (drop place c.args.bytes.now)) at)
    c.in_ok-read_region.ensures.size c.in_ok-read_region.ensures.device c.in_ok-read_region.ensures.fit c.in_ok-read_region.ensures.untouched)
