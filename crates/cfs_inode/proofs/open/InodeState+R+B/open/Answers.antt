use Rattle.std.proofs.Common.{◌≡◌, ◌∙◌, ◌+◌, ap, ℕ, ◌∷◌, map, false, Err, Ok, subst, sym}
use Rattle.cfs_slot.specs.Reads.{regions_of}
use Rattle.cfs_slot.specs.Regions.{of_doubt, of_live, of_staged, tails_of_doubt, tails_of_staged}
use Rattle.cfs_slot.specs.Words.{grant_of}
use Rattle.cfs_pmem.specs.Images.{words_of}
use Rattle.cfs_tracker.specs.View.{view_of}
use Rattle.cfs_inode.specs.Heads.{OpensGate}
use Rattle.cfs_inode.specs.Opening.{AdmitMakes, with_admitted, with_doubted}
use Rattle.cfs_inode.specs.View.{StateView, held_of, seens_of, state_view}
use Rattle.cfs_inode.proofs.Heads.{slots-err, slots-ok}
use Rattle.cfs_inode.proofs.Openings.{open-failed, open-kept}
use Rattle.cfs_inode.proofs.Readies.{ready, told-may}
use Rattle.cfs_inode.proofs.States.{state-admitted, state-doubted}
use Rattle.cfs_inode.proofs.open.InodeState+R+B.open.Goals as goal

pub returns-in-Ok-clause-opens : goal.returns-in-Ok-clause-opens
returns-in-Ok-clause-opens g c =
    let seen = g.R.Region.seen in
    let old = state_view seen g.B.Block.seen c.args.self.now in
    let slots = map seen (regions_of c.in-Ok.live) in
    let place : c.count-place.result + 1 ≡ c.admit.result =
    ap (λ (n : ℕ). n + 1) c.count-place.ensures ∙ sym c.admit.ensures.place in
    let gate = slots-ok seen (of_staged c.args.staged) (of_live c.in-Ok.live)
    (tails_of_staged c.args.staged) (regions_of c.in-Ok.live) c.in-Ok.live c.in-Ok.ensures.set
    (ap (λ ts. of_live c.in-Ok.live ∷ ts) c.in-Ok.ensures.tails) in (
      slots,
      c.admit.ensures.place,
      (
        subst (λ (p : ℕ). OpensGate g.R.Region.obeys_power p (Ok tt)
            (g.P.Power.asked c.args.power.now)
            (map seen (of_staged c.args.staged ∷ tails_of_staged c.args.staged))
            (g.P.Power.asked c.open_gate.new.power) slots) place gate,
        state-admitted seen g.B.Block.seen c.args.self.now c.admit.new.self c.args.request.now
            c.grant-grant.result c.in-Ok.live c.admit.ensures.view
            ∙ ap (λ (grant : ℕ). with_admitted c.args.request.now grant (held_of seen c.in-Ok.live) old)
            c.grant-grant.ensures
            ∙ ap (λ (p : ℕ). with_admitted c.args.request.now
            (grant_of (words_of (seen (of_staged c.args.staged))))
            (record { place = p; slots = slots }) old) (c.in-Ok.ensures.place ∙ place),
      ),
    )

pub returns-in-Ok-clause-makes : goal.returns-in-Ok-clause-makes
returns-in-Ok-clause-makes g c =
    let seen = g.R.Region.seen in
    let old = state_view seen g.B.Block.seen c.args.self.now in
    let did = returns-in-Ok-clause-opens g c in
    open-kept old
    (state_view seen g.B.Block.seen (record c.args.self.now { tracker = c.admit.new.self }))
    c.args.request.now (grant_of (words_of (seen (of_staged c.args.staged))))
    (map seen (of_staged c.args.staged ∷ tails_of_staged c.args.staged)) g.R.Region.obeys_power
    (g.P.Power.asked c.args.power.now) (g.P.Power.asked c.open_gate.new.power) c.admit.result did.0
    (told-may (held_of seen) (seens_of seen) g.B.Block.seen (view_of c.args.self.now.tracker)
    c.args.request.now c.requires.admits)
    (ready seen old c.args.request.now (of_staged c.args.staged) (tails_of_staged c.args.staged)
    c.args.staged.closed c.args.staged.unmarked c.args.staged.size c.requires.sure c.requires.file
    c.requires.holds c.staged_stands_whole.ensures)
    did.1 did.2.0 did.2.1

pub returns-in-Err-clause-opens : goal.returns-in-Err-clause-opens
returns-in-Err-clause-opens g c =
    let seen = g.R.Region.seen in
    let old = state_view seen g.B.Block.seen c.args.self.now in
    let slots = seens_of seen c.in-Err.doubt in
    let place : c.count-place.result + 1 ≡ (view_of c.args.self.now.tracker).count + 1 =
    ap (λ (n : ℕ). n + 1) c.count-place.ensures in
    let gate = slots-err seen (of_staged c.args.staged) (of_doubt c.in-Err.doubt)
    (tails_of_staged c.args.staged)
    (of_doubt c.in-Err.doubt ∷ tails_of_doubt c.in-Err.doubt) c.in-Err.doubt
    c.in-Err.ensures.set
    (ap (λ ts. of_doubt c.in-Err.doubt ∷ ts) c.in-Err.ensures.tails) in (
      slots,
      (
        subst (λ (p : ℕ). OpensGate g.R.Region.obeys_power p (Err tt)
            (g.P.Power.asked c.args.power.now)
            (map seen (of_staged c.args.staged ∷ tails_of_staged c.args.staged))
            (g.P.Power.asked c.open_gate.new.power) slots) place gate,
        state-doubted seen g.B.Block.seen c.args.self.now c.doubt.new.self c.args.request.now
            c.grant-grant.result c.in-Err.doubt c.doubt.ensures.view
            ∙ ap (λ (grant : ℕ). with_doubted c.args.request.now grant slots old)
            c.grant-grant.ensures,
      ),
    )

pub returns-in-Err-clause-makes : goal.returns-in-Err-clause-makes
returns-in-Err-clause-makes g c =
    let seen = g.R.Region.seen in
    let old = state_view seen g.B.Block.seen c.args.self.now in
    let did = returns-in-Err-clause-opens g c in
    let grant = grant_of (words_of (seen (of_staged c.args.staged))) in
    let asked_old = g.P.Power.asked c.args.power.now in
    let asked_new = g.P.Power.asked c.open_gate.new.power in
    subst (λ (s : StateView). AdmitMakes c.args.request.now grant false asked_old old asked_new s)
    (sym did.1.1)
    (open-failed old c.args.request.now grant
    (map seen (of_staged c.args.staged ∷ tails_of_staged c.args.staged)) g.R.Region.obeys_power
    asked_old asked_new did.0
    (told-may (held_of seen) (seens_of seen) g.B.Block.seen (view_of c.args.self.now.tracker)
    c.args.request.now c.requires.admits)
    (ready seen old c.args.request.now (of_staged c.args.staged) (tails_of_staged c.args.staged)
    c.args.staged.closed c.args.staged.unmarked c.args.staged.size c.requires.sure c.requires.file
    c.requires.holds c.staged_stands_whole.ensures)
    did.1.0)
