use Rattle.std.proofs.Common.{get_or, length}
use Rattle.cfs_recover.proofs.BlockCalls.{cause-of, devices-same_at, map-same_at, on-ok}
use Rattle.cfs_recover.proofs.BlockCalls.{write-beside, write-devices, write-is, write-moments}
use Rattle.cfs_recover.proofs.blocks.write_block.Goals as goal

pub returns-clause-ok : goal.returns-clause-ok
returns-clause-ok g c =
    let bytes = c.args.bytes.now in
    on-ok c.write.result
    (write-is g.B.Block.seen c.args.blocks.now c.args.at c.index-blocks-at.result
    c.write.new.self c.args.from bytes c.requires.place)
    c.write.ensures.ok

pub returns-clause-beside : goal.returns-clause-beside
returns-clause-beside g c =
    let see = g.B.Block.seen in
    let xs = c.args.blocks.now in
    let bytes = c.args.bytes.now in
    let x = get_or xs c.args.at c.index-blocks-at.result in
    write-beside see xs c.args.at c.args.from (length bytes) c.index-blocks-at.result
    c.write.new.self c.requires.place c.requires.distinct
    (write-moments g.B.Block.keeps_refused c.write.result c.args.from bytes (see x)
    (see c.write.new.self) (g.met.B.Block.full x) c.requires.fits c.write.ensures.ok
    c.write.ensures.err c.write.ensures.asks)

pub returns-clause-devices : goal.returns-clause-devices
returns-clause-devices g c =
    let see = g.B.Block.seen in
    let xs = c.args.blocks.now in
    let x = get_or xs c.args.at c.index-blocks-at.result in
    devices-same_at see xs c.args.at c.index-blocks-at.result c.write.new.self c.requires.place
    (write-devices g.B.Block.keeps_refused c.write.result c.args.from c.args.bytes.now (see x)
    (see c.write.new.self) c.write.ensures.ok c.write.ensures.err)

pub returns-clause-numbers : goal.returns-clause-numbers
returns-clause-numbers g c =
    map-same_at g.B.Block.number c.args.blocks.now c.args.at c.index-blocks-at.result
    c.write.new.self c.requires.place c.write.ensures.number

pub returns-clause-cause : goal.returns-clause-cause
returns-clause-cause g c =
    cause-of g.B.Block.faults c.args.blocks.now c.args.at c.index-blocks-at.result
    c.write.new.self c.write.result c.requires.place c.write.ensures.cause
