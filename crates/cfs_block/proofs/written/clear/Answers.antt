use Rattle.std.proofs.Common.{◌<◌, length, arith}
use Rattle.cfs_block.proofs.Bits.{clearing_none, clearing_more, clearing_all}
use Rattle.cfs_block.proofs.written.clear.Goals as goal

pub loop-i-init : goal.loop-i-init
loop-i-init c = clearing_none c.args.dirty.from c.args.dirty.to c.args.written.now.items c.requires.within

pub loop-i-preserved : goal.loop-i-preserved
loop-i-preserved c =
    let within : c.loop-i.i < length c.loop-i.written.items = omega arith in
    clearing_more c.args.dirty.to c.args.written.now.items c.loop-i.written.items c.loop-i.i c.loop-i.invariant within

pub returns-clause-bits : goal.returns-clause-bits
returns-clause-bits c = clearing_all c.args.dirty.to c.args.written.now.items c.loop-i.written.items c.loop-i.i c.loop-i.invariant (omega arith)
