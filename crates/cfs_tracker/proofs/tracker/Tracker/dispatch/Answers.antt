use Rattle.std.proofs.Common.{◌∙◌, refl}
use Rattle.cfs_tracker.specs.View.{view_of}
use Rattle.cfs_tracker.proofs.Dispatching.{first-kept, follows-dispatched, ready-blocks, second-kept, second-tile, taking}
use Rattle.cfs_tracker.proofs.HandedOut.{handed-out}
use Rattle.cfs_tracker.proofs.Putting.{same-view}
use Rattle.cfs_tracker.proofs.tracker.Tracker.dispatch.Goals as goal

pub lend-one-requires : goal.lend-one-requires
lend-one-requires g c =
    let view = view_of c.args.self.now in
    first-kept view c.args.first c.args.second (ready-blocks view c.args.place c.args.first c.args.second c.requires.ready c.requires.still)

pub lend-two-requires : goal.lend-two-requires
lend-two-requires g c =
    let view = view_of c.args.self.now in
    rw c.lend-one.ensures.items
    (second-kept view c.args.place c.args.first c.args.second (ready-blocks view c.args.place c.args.first c.args.second c.requires.ready c.requires.still))

pub returns-clause-second : goal.returns-clause-second
returns-clause-second g c =
    let view = view_of c.args.self.now in
    c.lend-two.ensures.tile
    ∙ (rw c.lend-one.ensures.items
    (second-tile view c.args.place c.args.first c.args.second (ready-blocks view c.args.place c.args.first c.args.second c.requires.ready c.requires.still)))

pub returns-clause-follows : goal.returns-clause-follows
returns-clause-follows g c = λ core follows.
    let view = view_of c.args.self.now in
    let blocks = ready-blocks view c.args.place c.args.first c.args.second c.requires.ready
    c.requires.still in
    let takes = follows-dispatched view core c.args.place c.args.first c.args.second
    (taking view c.args.place c.args.first c.args.second c.requires.ready) blocks follows in
    let out = c.send.ensures.items in
    let one = c.lend-one.ensures.items in
    let two = c.lend-two.ensures.items in
    (takes.0, same-view (rw (out, two, one) refl) takes.1)

pub returns-clause-ascend : goal.returns-clause-ascend
returns-clause-ascend g c =
    (ready-blocks (view_of c.args.self.now) c.args.place c.args.first c.args.second c.requires.ready c.requires.still).apart

pub returns-clause-out : goal.returns-clause-out
returns-clause-out g c =
    let view = view_of c.args.self.now in
    let blocks = ready-blocks view c.args.place c.args.first c.args.second c.requires.ready c.requires.still in
    rw (c.send.ensures.items, c.lend-one.ensures.tile, returns-clause-second g c)
    (handed-out view c.args.place c.args.first c.args.second
    (taking view c.args.place c.args.first c.args.second c.requires.ready) blocks)
