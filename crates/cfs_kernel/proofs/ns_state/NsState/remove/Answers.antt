use Rattle.std.proofs.Common.{rules, false}
use Rattle.cfs_kernel.proofs.Performing.{spent}
use Rattle.cfs_kernel.proofs.ns_state.NsState.remove.Goals as goal

pub returns-in_default-clause-performed : goal.returns-in_default-clause-performed
returns-in_default-clause-performed g c node is =
    spent g.R.Region.seen g.R.Region.faults g.R.Region.obeys_power false c.args.self.now (g.P.Power.asked c.args.power.now) _ _ _ (search rules)
