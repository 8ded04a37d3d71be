use Rattle.cfs_states.specs.Loads.{sizes_in, states_in}
use Rattle.cfs_states.specs.Shares.{share_view}
use Rattle.cfs_states.proofs.Orders.{loaded-more, regions-more}
use Rattle.cfs_states.proofs.load.load_all.Goals as goal

pub loop-share-preserved : goal.loop-share-preserved
loop-share-preserved c = record {
  states = λ ordered are.
      loaded-more share_view c.loop-share.yielded c.in-Some.share
      (states_in c.loop-share.loaded) (states_in c.add.new.self) ordered are
      (λ before. c.loop-share.invariant.states ordered before)
      (λ own is. c.in_ok-add.ensures.states own is);
  sizes = regions-more share_view c.loop-share.yielded c.in-Some.share
      (sizes_in c.loop-share.loaded) (sizes_in c.add.new.self) c.loop-share.invariant.sizes
      c.in_ok-add.ensures.sizes;
}
