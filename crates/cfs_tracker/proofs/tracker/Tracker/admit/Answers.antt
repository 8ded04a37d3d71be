use Rattle.std.proofs.Common.{◌≡◌, ◌∙◌, ◌++◌, ◌∷◌, [], ap, refl}
use Rattle.cfs_tracker.specs.Admit.{pending}
use Rattle.cfs_tracker.specs.View.{view_of}
use Rattle.cfs_tracker.proofs.Putting.{same-view}
use Rattle.cfs_tracker.proofs.Admissions.{follows-admitted}
use Rattle.cfs_tracker.proofs.tracker.Tracker.admit.Goals as goal

pub returns-clause-follows : goal.returns-clause-follows
returns-clause-follows g c = λ core entry follows next same.
    let admits = follows-admitted (view_of c.args.self.now) core c.args.request.now entry c.args.grant c.args.slots c.requires.admits follows next same in
    let items : c.push.new.self.items ≡ c.args.self.now.entries.items ++ pending c.args.request.now c.args.grant c.args.slots (view_of c.args.self.now) ∷ [] =
    c.in-Ok.ensures.items ∙ ap (λ e. c.args.self.now.entries.items ++ e ∷ []) c.pending-pending.ensures in
    (admits.0, same-view (rw (items, c.long_after-self.ensures) refl) admits.1)
