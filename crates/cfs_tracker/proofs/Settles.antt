-- The request in doubt is closed.
use Rattle.std.proofs.Common.{◌≡◌, Option, None, Some, refl, true}
use Rattle.std.specs.Prelude.{is_some}
use Rattle.cfs_core.specs.declared.doubt.Doubt.{Doubt}
use Rattle.cfs_core.specs.declared.event.Event.TheVariants as events
use Rattle.cfs_core.specs.declared.inode_core.Core.{Core}
use Rattle.cfs_core.specs.May.{may}
use Rattle.cfs_core.specs.After.{after}
use Rattle.cfs_core_laws.specs.Reached.IsReached.{comes}
use Rattle.cfs_tracker.specs.declared.in_doubt.InDoubt.{InDoubt}
use Rattle.cfs_tracker.specs.View.{TrackerView}
use Rattle.cfs_tracker.specs.Follows.{DoubtStands, Follows}
use Rattle.cfs_tracker.specs.Settle.{settled}

doubt-there : {D : Type 0} (mine : Option (InDoubt D)) (doubt : Option Doubt) →
    DoubtStands mine doubt → is_some mine ≡ true → is_some doubt ≡ true
doubt-there None doubt stands h = cc
doubt-there (Some mine) None stands h = absurd stands
doubt-there (Some mine) (Some doubt) stands h = refl

pub follows-settled : {S D B : Type 0} (view : TrackerView S D B) (core : Core) →
    is_some view.doubt ≡ true → Follows view core →
    (may core events.Settle ≡ true) × Follows (settled view) (after core events.Settle)
follows-settled view core h follows =
    let there = doubt-there view.doubt core.doubt follows.doubt h in
    let may_be : may core events.Settle ≡ true = rw (follows.up, there) refl in (
      may_be,
      record {
        reached = comes core events.Settle follows.reached may_be;
        up = follows.up;
        count = follows.count;
        long = follows.long;
        size = follows.size;
        sure = follows.sure;
        entries = follows.entries;
        rise = follows.rise;
        reads_rise = follows.reads_rise;
        syncs = follows.syncs;
        many = follows.many;
        cells = follows.cells;
        lent = follows.lent;
        doubt = tt;
      },
    )
