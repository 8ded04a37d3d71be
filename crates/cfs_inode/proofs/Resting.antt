-- A call that does nothing.
use Rattle.std.proofs.Common.{List, []}
use Rattle.cfs_pmem.specs.declared.trace.Asked.{Asked}
use Rattle.cfs_pmem.proofs.AllMomentLemmas.{all_begun}
use Rattle.cfs_inode.specs.Makes.{CallMakes}
use Rattle.cfs_inode.specs.View.{StateView}
use Rattle.cfs_medium.proofs.LiveLeft.{shown-recovers}
use Rattle.cfs_inode.proofs.Goods.{good}

pub rests : (state : StateView) (asked : List Asked) → CallMakes [] asked state asked state
rests state asked = λ jobs core world together. record {
  run = tt;
  world = world;
  moments = λ n bound.
      all_begun asked world tt
      (shown-recovers state.ino n core world (good core together.stands.follows.reached)
      together.stands.shows bound);
  stands = together;
}
