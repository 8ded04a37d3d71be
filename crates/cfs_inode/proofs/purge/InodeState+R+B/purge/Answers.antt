use Rattle.std.proofs.Common.{◌∙◌, refl, sym, true}
use Rattle.cfs_inode.specs.Purges.{purge_end}
use Rattle.cfs_inode.specs.View.{state_view}
use Rattle.cfs_inode.proofs.Purges.{purge-stands, purge-tells, state-in-use}
use Rattle.cfs_inode.proofs.purge.InodeState+R+B.purge.Goals as goal

pub returns-then-is_in_use-clause-purges : goal.returns-then-is_in_use-clause-purges
returns-then-is_in_use-clause-purges g c = (
  state-in-use g.R.Region.seen g.B.Block.seen c.args.self.now true
      (sym c.is_in_use.ensures ∙ c.if-is_in_use.true),
  refl,
  refl,
)

pub returns-in-Some-clause-tells : goal.returns-in-Some-clause-tells
returns-in-Some-clause-tells g c =
    let words = g.R.Region.seen in
    let seen = g.B.Block.seen in
    purge-tells g.R.Region.obeys_power g.B.Block.obeys_power g.B.Block.keeps_refused
    (purge_end seen c.purge_block.result) (g.P.Power.asked c.args.power.now)
    (state_view words seen c.args.self.now) (g.P.Power.asked c.purge_block.new.power)
    (state_view words seen c.purge_block.new.self) c.requires c.purge_block.ensures

pub returns-in-Some-clause-stands : goal.returns-in-Some-clause-stands
returns-in-Some-clause-stands g c =
    let words = g.R.Region.seen in
    let seen = g.B.Block.seen in
    purge-stands g.R.Region.obeys_power g.B.Block.obeys_power g.B.Block.keeps_refused
    (purge_end seen c.purge_block.result) (g.P.Power.asked c.args.power.now)
    (state_view words seen c.args.self.now) (g.P.Power.asked c.purge_block.new.power)
    (state_view words seen c.purge_block.new.self) c.requires c.purge_block.ensures

pub returns-in-None-clause-tells : goal.returns-in-None-clause-tells
returns-in-None-clause-tells g c =
    let words = g.R.Region.seen in
    let seen = g.B.Block.seen in
    purge-tells g.R.Region.obeys_power g.B.Block.obeys_power g.B.Block.keeps_refused
    (purge_end seen c.purge_size.result) (g.P.Power.asked c.args.power.now)
    (state_view words seen c.args.self.now) (g.P.Power.asked c.purge_size.new.power)
    (state_view words seen c.purge_size.new.self) c.requires c.purge_size.ensures

pub returns-in-None-clause-stands : goal.returns-in-None-clause-stands
returns-in-None-clause-stands g c =
    let words = g.R.Region.seen in
    let seen = g.B.Block.seen in
    purge-stands g.R.Region.obeys_power g.B.Block.obeys_power g.B.Block.keeps_refused
    (purge_end seen c.purge_size.result) (g.P.Power.asked c.args.power.now)
    (state_view words seen c.args.self.now) (g.P.Power.asked c.purge_size.new.power)
    (state_view words seen c.purge_size.new.self) c.requires c.purge_size.ensures
