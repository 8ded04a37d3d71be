use Rattle.std.proofs.Common.{◌+◌, ◌≤◌, arith, None, Some, subst, sym, ℕ}
use Rattle.cfs_inode.specs.Covering.{is_marked}
use Rattle.cfs_inode.specs.View.{state_view}
use Rattle.cfs_inode.proofs.Coverings.{HasMarked, at-most-one, marked-all, marked-next, marked-none}
use Rattle.cfs_inode.proofs.Coverings.{named-is}
use Rattle.cfs_inode.proofs.CoverTells.{state-next}
use Rattle.cfs_inode.proofs.covering.InodeState+R+B.mark_covered.Goals as goal

pub loop-place-init : goal.loop-place-init
loop-place-init g c =
    marked-none g.R.Region.obeys_power c.args.by (g.P.Power.asked c.args.power.now)
    (state_view g.R.Region.seen g.B.Block.seen c.args.self.now)

pub overflow_add-marked : goal.overflow_add-marked
overflow_add-marked g c =
    let now = state_view g.R.Region.seen g.B.Block.seen c.loop-place.self in
    let named = state-next g.R.Region.seen g.B.Block.seen c.loop-place.self c.args.by
    c.loop-place.after (Some c.in-Some.place) c.in-Some.ensures in
    let is = named-is now.tracker c.args.by c.loop-place.after c.in-Some.place named in
    let one : c.count-marked.result ≤ 1 =
    at-most-one (is_marked c.mark.result) c.count-marked.result c.count-marked.ensures in
    omega (arith, is.above, is.below, one, c.loop-place.invariant.few, c.ranges.by.fits)

pub loop-place-smaller : goal.loop-place-smaller
loop-place-smaller g c =
    let now = state_view g.R.Region.seen g.B.Block.seen c.loop-place.self in
    let named = state-next g.R.Region.seen g.B.Block.seen c.loop-place.self c.args.by
    c.loop-place.after (Some c.in-Some.place) c.in-Some.ensures in
    let is = named-is now.tracker c.args.by c.loop-place.after c.in-Some.place named in
    omega (arith, is.above, is.below, c.ranges.by.fits)

pub loop-place-preserved : goal.loop-place-preserved
loop-place-preserved g c =
    let seen = g.R.Region.seen in
    let bytes = g.B.Block.seen in
    let asked_old = g.P.Power.asked c.args.power.now in
    let old = state_view seen bytes c.args.self.now in
    let asked_new = g.P.Power.asked c.mark.new.power in
    let new = state_view seen bytes c.mark.new.self in
    let named = state-next seen bytes c.loop-place.self c.args.by c.loop-place.after
    (Some c.in-Some.place) c.in-Some.ensures in
    subst (λ (n : ℕ). HasMarked g.R.Region.obeys_power c.args.by c.in-Some.place
    (c.loop-place.marked + n) asked_old old asked_new new) (sym c.count-marked.ensures)
    (marked-next g.R.Region.obeys_power c.args.by c.loop-place.after c.loop-place.marked
    c.in-Some.place c.mark.result asked_old old (g.P.Power.asked c.loop-place.power)
    (state_view seen bytes c.loop-place.self) asked_new new c.loop-place.invariant named
    c.mark.ensures.marks c.mark.ensures.makes)

pub returns : goal.returns
returns g c =
    let seen = g.R.Region.seen in
    let bytes = g.B.Block.seen in
    marked-all g.R.Region.obeys_power c.args.by c.loop-place.after c.loop-place.marked
    (g.P.Power.asked c.args.power.now) (state_view seen bytes c.args.self.now)
    (g.P.Power.asked c.loop-place.power) (state_view seen bytes c.loop-place.self)
    c.loop-place.invariant
    (state-next seen bytes c.loop-place.self c.args.by c.loop-place.after None
    c.in_default.ensures)
