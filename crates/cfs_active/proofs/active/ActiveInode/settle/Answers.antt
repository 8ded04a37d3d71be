use Rattle.cfs_block.specs.MemoryBlocks.{seen_of}
use Rattle.cfs_inode.specs.View.{state_view}
use Rattle.cfs_active.specs.Memory.{words_seen}
use Rattle.cfs_active.specs.View.{ActiveView, active_view}
use Rattle.std.proofs.Common.{true}
use Rattle.cfs_inode.specs.Ends.{end_of, settle_events}
use Rattle.cfs_active.proofs.Keepings.{keeps-settle}
use Rattle.cfs_active.proofs.Knowns.{stays-known}
use Rattle.cfs_active.proofs.active.ActiveInode.settle.Goals as goal

pub invariant_of-self : goal.invariant_of-self
invariant_of-self g c =
    let old = active_view c.args.self.now in
    let new : ActiveView = record old {
      state = state_view words_seen seen_of c.settle.new.self;
    } in
    let end = end_of words_seen c.settle.result in
    let asked_old = g.P.Power.asked c.args.power.now in
    let asked_new = g.P.Power.asked c.settle.new.power in record {
      known = stays-known (settle_events end) asked_old asked_new old new
          (keeps-settle true end asked_old old.state asked_new new.state c.settle.ensures.settles)
          (c.settle.ensures.makes old.jobs) c.args.self.now.known;
    }

pub returns-clause-makes : goal.returns-clause-makes
returns-clause-makes g c = c.settle.ensures.makes (active_view c.args.self.now).jobs
