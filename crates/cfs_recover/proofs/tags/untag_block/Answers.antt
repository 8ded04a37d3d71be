use Rattle.std.proofs.Common.{get_or, sym, subst}
use Rattle.cfs_pmem.specs.Images.{Seen}
use Rattle.cfs_pmem.specs.Moments.{Moments}
use Rattle.cfs_pmem.proofs.ObjectLemmas.{seen_at-map}
use Rattle.cfs_block.specs.BlockImages.{BlockStep, IsBlockImage, IsTaggedFrom}
use Rattle.cfs_recover.proofs.BlockCalls.{cause-of, devices-same_at, map-same_at, on-ok, one-block}
use Rattle.cfs_recover.proofs.Untagged.{tag-devices, untag-is}
use Rattle.cfs_recover.proofs.tags.untag_block.Goals as goal

pub returns-clause-ok : goal.returns-clause-ok
returns-clause-ok g c =
    on-ok c.retag.result
    (untag-is g.B.Block.seen c.args.blocks.now c.args.at c.index-blocks-at.result
    c.retag.new.block c.requires.place)
    c.retag.ensures.set.ok

pub returns-clause-moments : goal.returns-clause-moments
returns-clause-moments g c =
    let see = g.B.Block.seen in
    let xs = c.args.blocks.now in
    let was = see (get_or xs c.args.at c.index-blocks-at.result) in
    one-block see xs c.args.at c.index-blocks-at.result c.retag.new.block c.requires.place
    c.requires.distinct
    (subst (λ (old : Seen BlockStep). Moments IsBlockImage (IsTaggedFrom old 0)
    (g.P.Power.asked c.args.power.now) was (g.P.Power.asked c.retag.new.power)
    (see c.retag.new.block))
    (sym (seen_at-map see xs c.args.at c.index-blocks-at.result c.requires.place))
    c.retag.ensures.set.moments)

pub returns-clause-devices : goal.returns-clause-devices
returns-clause-devices g c =
    let see = g.B.Block.seen in
    let xs = c.args.blocks.now in
    devices-same_at see xs c.args.at c.index-blocks-at.result c.retag.new.block c.requires.place
    (tag-devices g.B.Block.keeps_refused c.retag.result
    (see (get_or xs c.args.at c.index-blocks-at.result)) (see c.retag.new.block)
    c.retag.ensures.set.ok c.retag.ensures.set.err)

pub returns-clause-numbers : goal.returns-clause-numbers
returns-clause-numbers g c =
    map-same_at g.B.Block.number c.args.blocks.now c.args.at c.index-blocks-at.result
    c.retag.new.block c.requires.place c.retag.ensures.number

pub returns-clause-cause : goal.returns-clause-cause
returns-clause-cause g c =
    cause-of g.B.Block.faults c.args.blocks.now c.args.at c.index-blocks-at.result
    c.retag.new.block c.retag.result c.requires.place c.retag.ensures.cause
