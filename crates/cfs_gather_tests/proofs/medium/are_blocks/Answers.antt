use Rattle.std.proofs.Common.{◌≡◌, ◌+◌, arith}
use Rattle.cfs_block.specs.MemoryBlocks.{number_of}
use Rattle.cfs_gather_tests.specs.InOrder.{block_device_of}
use Rattle.cfs_gather_tests.proofs.Follows.{follows_more}
use Rattle.cfs_gather_tests.proofs.medium.are_blocks.Goals as goal

pub loop-block-preserved : goal.loop-block-preserved
loop-block-preserved c =
    let device : block_device_of c.block-item.result ≡ 339 + c.loop-block.number =
    omega (arith, c.device.ensures, c.if-device-number.false) in
    let number : number_of c.block-item.result ≡ c.loop-block.number =
    omega (arith, c.number.ensures, c.if-number.false) in record {
      at = omega (arith, c.loop-block.invariant.at);
      devices = follows_more block_device_of (λ number. number) 339 (339 + c.loop-block.number)
          c.args.blocks.now c.loop-block.block-index c.block-item.result c.loop-block-test.true
          c.block-item.is (omega (arith, c.loop-block.invariant.at))
          c.loop-block.invariant.devices device;
      numbers = follows_more number_of (λ number. number) 0 c.loop-block.number c.args.blocks.now
          c.loop-block.block-index c.block-item.result c.loop-block-test.true c.block-item.is
          (omega (arith, c.loop-block.invariant.at)) c.loop-block.invariant.numbers number;
    }
