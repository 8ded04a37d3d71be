use Rattle.cfs_block.specs.MemoryBlocks.{seen_of}
use Rattle.cfs_inode.specs.View.{state_view}
use Rattle.cfs_active.specs.Memory.{words_seen}
use Rattle.cfs_active.specs.View.{ActiveView, active_view}
use Rattle.std.proofs.Common.{[], ◌∷◌, None, ap, refl}
use Rattle.cfs_core.specs.declared.event.Event.TheVariants as events
use Rattle.cfs_inode.specs.View.{StateView}
use Rattle.cfs_active.proofs.Keepings.{keeps-same}
use Rattle.cfs_active.proofs.Knowns.{stays-known}
use Rattle.cfs_active.proofs.active.ActiveInode.drop_read.Goals as goal

pub invariant_of-self : goal.invariant_of-self
invariant_of-self c =
    let old = active_view c.args.self.now in
    let new : ActiveView = record old {
      state = state_view words_seen seen_of c.drop_read.new.self;
    } in record {
      known = stays-known (events.Serve c.args.place None ∷ []) [] [] old new
          (keeps-same old.state _ new.state c.drop_read.ensures.view refl refl refl)
          (c.drop_read.ensures.makes [] old.jobs) c.args.self.now.known;
    }

pub returns-clause-view : goal.returns-clause-view
returns-clause-view c =
    ap (λ (s : StateView). record (active_view c.args.self.now) { state = s })
    c.drop_read.ensures.view

pub returns-clause-makes : goal.returns-clause-makes
returns-clause-makes c = λ asked. c.drop_read.ensures.makes asked (active_view c.args.self.now).jobs
