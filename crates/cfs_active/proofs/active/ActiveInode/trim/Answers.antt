use Rattle.cfs_block.specs.MemoryBlocks.{seen_of}
use Rattle.cfs_inode.specs.View.{state_view}
use Rattle.cfs_active.specs.Memory.{words_seen}
use Rattle.cfs_active.specs.View.{ActiveView, active_view}
use Rattle.std.proofs.Common.{true}
use Rattle.cfs_tracker.specs.Trim.{next_trim}
use Rattle.cfs_inode.specs.Trims.{trim_end, trim_events}
use Rattle.cfs_active.proofs.Keepings.{keeps-trim}
use Rattle.cfs_active.proofs.Knowns.{stays-known}
use Rattle.cfs_active.proofs.active.ActiveInode.trim.Goals as goal

pub invariant_of-self : goal.invariant_of-self
invariant_of-self g c =
    let old = active_view c.args.self.now in
    let new : ActiveView = record old {
      state = state_view words_seen seen_of c.trim.new.self;
    } in
    let end = trim_end seen_of c.trim.result in
    let asked_old = g.P.Power.asked c.args.power.now in
    let asked_new = g.P.Power.asked c.trim.new.power in record {
      known = stays-known (trim_events (next_trim old.state.tracker) end) asked_old asked_new old
          new
          (keeps-trim true true end asked_old old.state asked_new new.state c.trim.ensures.trims)
          (c.trim.ensures.makes old.jobs) c.args.self.now.known;
    }

pub returns-clause-makes : goal.returns-clause-makes
returns-clause-makes g c = c.trim.ensures.makes (active_view c.args.self.now).jobs
