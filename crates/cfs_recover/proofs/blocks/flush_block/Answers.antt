use Rattle.std.proofs.Common.{get_or}
use Rattle.cfs_recover.proofs.BlockCalls.{cause-of, devices-same_at, flush-beside, flush-devices}
use Rattle.cfs_recover.proofs.BlockCalls.{flush-is, flush-moments, map-same_at, on-ok}
use Rattle.cfs_recover.proofs.blocks.flush_block.Goals as goal

pub returns-clause-ok : goal.returns-clause-ok
returns-clause-ok g c =
    on-ok c.flush.result
    (flush-is g.B.Block.seen c.args.blocks.now c.args.at c.index-blocks-at.result
    c.flush.new.self c.requires.place)
    c.flush.ensures.ok

pub returns-clause-beside : goal.returns-clause-beside
returns-clause-beside g c =
    let see = g.B.Block.seen in
    let xs = c.args.blocks.now in
    let x = get_or xs c.args.at c.index-blocks-at.result in
    flush-beside see xs c.args.at c.index-blocks-at.result c.flush.new.self c.requires.place
    c.requires.distinct
    (flush-moments c.flush.result (see x) (see c.flush.new.self) (g.met.B.Block.full x)
    c.flush.ensures.ok c.flush.ensures.err c.flush.ensures.asks)

pub returns-clause-devices : goal.returns-clause-devices
returns-clause-devices g c =
    let see = g.B.Block.seen in
    let xs = c.args.blocks.now in
    let x = get_or xs c.args.at c.index-blocks-at.result in
    devices-same_at see xs c.args.at c.index-blocks-at.result c.flush.new.self c.requires.place
    (flush-devices c.flush.result (see x) (see c.flush.new.self) c.flush.ensures.ok
    c.flush.ensures.err)

pub returns-clause-numbers : goal.returns-clause-numbers
returns-clause-numbers g c =
    map-same_at g.B.Block.number c.args.blocks.now c.args.at c.index-blocks-at.result
    c.flush.new.self c.requires.place c.flush.ensures.number

pub returns-clause-cause : goal.returns-clause-cause
returns-clause-cause g c =
    cause-of g.B.Block.faults c.args.blocks.now c.args.at c.index-blocks-at.result
    c.flush.new.self c.flush.result c.requires.place c.flush.ensures.cause
