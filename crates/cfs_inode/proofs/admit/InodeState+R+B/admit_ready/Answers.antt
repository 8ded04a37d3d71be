use Rattle.std.proofs.Common.{◌∙◌, ap, sym, subst, ℕ}
use Rattle.cfs_slot.specs.Regions.{of_staged}
use Rattle.cfs_slot.specs.Words.{grant_of}
use Rattle.cfs_pmem.specs.Images.{words_of}
use Rattle.cfs_inode.specs.Admitting.{ReadyMakes, admitted, count_in, offset_in}
use Rattle.cfs_inode.specs.Placing.{staged_seens}
use Rattle.cfs_inode.specs.View.{state_view}
use Rattle.cfs_inode.proofs.Admittings.{ready-doubted, ready-opened}
use Rattle.cfs_inode.proofs.admit.InodeState+R+B.admit_ready.Goals as goal

pub returns-in-Ok : goal.returns-in-Ok
returns-in-Ok g c =
    let seen = g.R.Region.seen in
    let bytes = g.B.Block.seen in
    let grant = grant_of (words_of (seen (of_staged c.args.staged))) in
    let staged = staged_seens seen c.args.staged in
    let asked_old = g.P.Power.asked c.args.power.now in
    let old = state_view seen bytes c.args.self.now in
    let asked_new = g.P.Power.asked c.mark_covered.new.power in
    let new = state_view seen bytes c.mark_covered.new.self in
    subst (λ (n : ℕ). ReadyMakes g.R.Region.obeys_power c.args.request.now grant staged
    (admitted c.in-Ok.place c.offset_in-offset.result n c.mark_covered.result) asked_old old
    asked_new new) (sym c.count_in-count.ensures)
    (subst (λ (n : ℕ). ReadyMakes g.R.Region.obeys_power c.args.request.now grant staged
    (admitted c.in-Ok.place n (count_in c.args.request.now) c.mark_covered.result) asked_old
    old asked_new new) (sym (c.offset_in-offset.ensures ∙ ap (λ (n : ℕ).
    offset_in c.args.request.now n) c.length.ensures))
    (ready-opened g.R.Region.obeys_power c.args.request.now grant staged c.in-Ok.place
    c.mark_covered.result asked_old old (g.P.Power.asked c.open.new.power)
    (state_view seen bytes c.open.new.self) asked_new new c.in-Ok.ensures.opens
    c.in-Ok.ensures.makes c.mark_covered.ensures))

pub returns-in-Err : goal.returns-in-Err
returns-in-Err g c =
    let seen = g.R.Region.seen in
    let bytes = g.B.Block.seen in
    ready-doubted g.R.Region.obeys_power c.args.request.now
    (grant_of (words_of (seen (of_staged c.args.staged)))) (staged_seens seen c.args.staged)
    (g.P.Power.asked c.args.power.now) (state_view seen bytes c.args.self.now)
    (g.P.Power.asked c.open.new.power) (state_view seen bytes c.open.new.self)
    c.in-Err.ensures.opens c.in-Err.ensures.makes
