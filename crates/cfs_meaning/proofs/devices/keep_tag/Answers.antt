use Rattle.std.proofs.Common.{Bool, subst}
use Rattle.cfs_pmem.specs.Meters.{asked_of}
use Rattle.cfs_block.specs.BlockOps.{DoesBlock, retag_ops}
use Rattle.cfs_meaning.proofs.Attempts.{attempts-block}
use Rattle.cfs_meaning.proofs.devices.keep_tag.Goals as goal

pub returns-clause-attempts : goal.returns-clause-attempts
returns-clause-attempts g c = λ obeys keeps.
    attempts-block (retag_ops c.args.tag) c.retag.result
    (asked_of c.args.meter.now) (asked_of c.retag.new.power)
    (g.B.Block.seen c.args.block.now) (g.B.Block.seen c.retag.new.block)
    c.retag.new.power.metered.answered
    (subst (λ (k : Bool). DoesBlock k (retag_ops c.args.tag) c.retag.result
    (asked_of c.args.meter.now) (g.B.Block.seen c.args.block.now)
    (asked_of c.retag.new.power) (g.B.Block.seen c.retag.new.block)) keeps
    (c.retag.ensures.set.does obeys))
