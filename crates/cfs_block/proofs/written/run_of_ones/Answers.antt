use Rattle.std.proofs.Common.{arith}
use Rattle.std.proofs.Math.Pow.{pow_mono}
use Rattle.cfs_block.proofs.written.run_of_ones.Goals as goal

pub overflow_sub-result : goal.overflow_sub-result
overflow_sub-result c = omega (arith, pow_mono {i = c.args.low} {j = c.args.high} c.requires.order)
