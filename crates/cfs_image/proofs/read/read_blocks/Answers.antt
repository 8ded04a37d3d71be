use Rattle.std.proofs.Common.{arith, ℕ, ◌≡◌, ◌+◌, ◌-◌, ◌∙◌, take, drop, ap}
use Rattle.cfs_image.specs.Layout.{block_at}
use Rattle.cfs_image.proofs.Readings.{blocks_more}
use Rattle.cfs_image.proofs.read.read_blocks.Goals as goal

pub loop-number-preserved : goal.loop-number-preserved
loop-number-preserved c =
    let number : ℕ = c.loop-number.number in
    let from : ℕ = c.block_at-from.result in
    let at : from ≡ block_at c.args.queues number = c.block_at-from.ensures in
    let size : from + 4104 - from ≡ 4104 = omega arith in
    rw c.in_ok-push.ensures.items
    (blocks_more c.args.bytes.now c.args.queues number c.loop-number.blocks.items c.in_ok-read_block.field-0 c.loop-number.invariant
    (c.in_ok-read_block.ensures.content ∙ ap (λ (n : ℕ). take n (drop from c.args.bytes.now)) size
    ∙ ap (λ (place : ℕ). take 4104 (drop place c.args.bytes.now)) at)
    (c.in_ok-read_block.ensures.device ∙ ap (λ (first : ℕ). first + number) c.region_count-first.ensures)
    c.in_ok-read_block.ensures.number c.in_ok-read_block.ensures.fit c.in_ok-read_block.ensures.untouched)
