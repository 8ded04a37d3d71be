use Rattle.std.proofs.Common.{◌≡◌, ◌∙◌, ap, map, Ok, Err, subst, sym, true, false, ℕ}
use Rattle.std.specs.Option.{option_map}
use Rattle.cfs_core.specs.May.{is_change}
use Rattle.cfs_core.specs.Medium.{placed}
use Rattle.cfs_file.specs.Span.{span}
use Rattle.cfs_pmem.specs.Images.{words_of}
use Rattle.cfs_slot.specs.Regions.{of_staged, tails_of_staged, words_in}
use Rattle.cfs_slot.specs.Words.{request_of, with_offset}
use Rattle.cfs_tracker.specs.View.{view_of}
use Rattle.cfs_inode.specs.Heads.{SetsOffset}
use Rattle.cfs_inode.specs.Placing.{IsStagedFor, Places, staged_seens}
use Rattle.cfs_inode.specs.View.{seens_of, state_view, told_doubt}
use Rattle.cfs_inode.proofs.Heads.{heads-err, heads-ok, sets-err, sets-ok}
use Rattle.cfs_inode.proofs.Offsets.{offset-made}
use Rattle.cfs_inode.proofs.Placings.{placed-append, placed-other}
use Rattle.cfs_inode.proofs.Resting.{rests}
use Rattle.cfs_inode.proofs.placing.InodeState+R+B.place.Goals as goal

pub returns-in-Ok-clause-places : goal.returns-in-Ok-clause-places
returns-in-Ok-clause-places g c =
    let words = g.R.Region.seen in
    let long = (view_of c.args.self.now.tracker).long in
    let asked_old = g.P.Power.asked c.args.power.now in
    let asked_new = g.P.Power.asked c.set_offset.new.power in
    let old = staged_seens words c.args.staged.now in
    let new = staged_seens words c.set_offset.new.self in
    subst (λ r. Places g.R.Region.obeys_power r long true asked_old old asked_new new)
    (sym c.in-Append.is)
    (subst (λ (n : ℕ). SetsOffset g.R.Region.obeys_power n (Ok tt) asked_old old asked_new new)
    c.length.ensures
    (heads-ok (words (of_staged c.args.staged.now)) (words (of_staged c.set_offset.new.self))
    (map words (tails_of_staged c.args.staged.now))
    (map words (tails_of_staged c.set_offset.new.self)) c.in-Ok.field-0
    (ap (λ ts. map words ts) c.in-Ok.ensures.tails) c.in-Ok.ensures.set))

pub returns-in-Ok-clause-makes : goal.returns-in-Ok-clause-makes
returns-in-Ok-clause-makes g c =
    let words = g.R.Region.seen in
    offset-made (state_view words g.B.Block.seen c.args.self.now)
    (words (of_staged c.args.staged.now)) (words (of_staged c.set_offset.new.self))
    (map words (tails_of_staged c.args.staged.now)) 2 c.length.result g.R.Region.obeys_power (Ok tt)
    (g.P.Power.asked c.args.power.now) (g.P.Power.asked c.set_offset.new.power)
    (ap (λ d. option_map (told_doubt (seens_of words)) d) c.requires.settled)
    c.args.staged.now.closed (sets-ok c.in-Ok.field-0 c.in-Ok.ensures.set)

pub returns-in-Ok-clause-placed : goal.returns-in-Ok-clause-placed
returns-in-Ok-clause-placed g c = λ is_true.
    let words = g.R.Region.seen in
    let long = (view_of c.args.self.now.tracker).long in
    let was = request_of (words_of (words (of_staged c.args.staged.now)))
    (words_in words (tails_of_staged c.args.staged.now)) in
    let now = request_of (words_of (words (of_staged c.set_offset.new.self)))
    (words_in words (tails_of_staged c.set_offset.new.self)) in
    let change = subst (λ r. is_change r ≡ true) c.in-Append.is c.requires.change in
    let held = subst (λ r. IsStagedFor r was) c.in-Append.is c.requires.staged in
    let set : now ≡ with_offset long was =
    c.in-Ok.ensures.request ∙ ap (λ (n : ℕ). with_offset n was) c.length.ensures in
    record {
      holds = subst (λ r. now ≡ placed (span r long) r) (sym c.in-Append.is)
          (placed-append c.in-Append.bytes long held.0 was now change held.1 set);
      sure = c.in-Ok.ensures.set.sure;
    }

pub returns-in-Err-clause-places : goal.returns-in-Err-clause-places
returns-in-Err-clause-places g c =
    let words = g.R.Region.seen in
    let long = (view_of c.args.self.now.tracker).long in
    let asked_old = g.P.Power.asked c.args.power.now in
    let asked_new = g.P.Power.asked c.set_offset.new.power in
    let old = staged_seens words c.args.staged.now in
    let new = staged_seens words c.set_offset.new.self in
    subst (λ r. Places g.R.Region.obeys_power r long false asked_old old asked_new new)
    (sym c.in-Append.is)
    (subst (λ (n : ℕ). SetsOffset g.R.Region.obeys_power n (Err tt) asked_old old asked_new new)
    c.length.ensures
    (heads-err (words (of_staged c.args.staged.now)) (words (of_staged c.set_offset.new.self))
    (map words (tails_of_staged c.args.staged.now))
    (map words (tails_of_staged c.set_offset.new.self)) c.in-Err.field-0
    (ap (λ ts. map words ts) c.in-Err.ensures.tails) c.in-Err.ensures.set))

pub returns-in-Err-clause-makes : goal.returns-in-Err-clause-makes
returns-in-Err-clause-makes g c =
    let words = g.R.Region.seen in
    offset-made (state_view words g.B.Block.seen c.args.self.now)
    (words (of_staged c.args.staged.now)) (words (of_staged c.set_offset.new.self))
    (map words (tails_of_staged c.args.staged.now)) 2 c.length.result g.R.Region.obeys_power
    (Err tt) (g.P.Power.asked c.args.power.now) (g.P.Power.asked c.set_offset.new.power)
    (ap (λ d. option_map (told_doubt (seens_of words)) d) c.requires.settled)
    c.args.staged.now.closed (sets-err c.in-Err.field-0 c.in-Err.ensures.set)

pub returns-in-Write-clause-makes : goal.returns-in-Write-clause-makes
returns-in-Write-clause-makes g c =
    rests (state_view g.R.Region.seen g.B.Block.seen c.args.self.now)
    (g.P.Power.asked c.args.power.now)

pub returns-in-Write-clause-placed : goal.returns-in-Write-clause-placed
returns-in-Write-clause-placed g c = λ is_true.
    let words = g.R.Region.seen in
    placed-other c.args.request.now (view_of c.args.self.now.tracker).long
    (words (of_staged c.args.staged.now))
    (request_of (words_of (words (of_staged c.args.staged.now)))
    (words_in words (tails_of_staged c.args.staged.now)))
    (λ same. (let clash = sym same ∙ c.in-Write.is in cc)) c.requires.staged c.requires.sure

pub returns-in-Truncate-clause-makes : goal.returns-in-Truncate-clause-makes
returns-in-Truncate-clause-makes g c =
    rests (state_view g.R.Region.seen g.B.Block.seen c.args.self.now)
    (g.P.Power.asked c.args.power.now)

pub returns-in-Truncate-clause-placed : goal.returns-in-Truncate-clause-placed
returns-in-Truncate-clause-placed g c = λ is_true.
    let words = g.R.Region.seen in
    placed-other c.args.request.now (view_of c.args.self.now.tracker).long
    (words (of_staged c.args.staged.now))
    (request_of (words_of (words (of_staged c.args.staged.now)))
    (words_in words (tails_of_staged c.args.staged.now)))
    (λ same. (let clash = sym same ∙ c.in-Truncate.is in cc)) c.requires.staged c.requires.sure

pub returns-in-Read-clause-makes : goal.returns-in-Read-clause-makes
returns-in-Read-clause-makes g c =
    rests (state_view g.R.Region.seen g.B.Block.seen c.args.self.now)
    (g.P.Power.asked c.args.power.now)

pub returns-in-Read-clause-placed : goal.returns-in-Read-clause-placed
returns-in-Read-clause-placed g c = λ is_true.
    let words = g.R.Region.seen in
    placed-other c.args.request.now (view_of c.args.self.now.tracker).long
    (words (of_staged c.args.staged.now))
    (request_of (words_of (words (of_staged c.args.staged.now)))
    (words_in words (tails_of_staged c.args.staged.now)))
    (λ same. (let clash = sym same ∙ c.in-Read.is in cc)) c.requires.staged c.requires.sure

pub returns-in-Sync-clause-makes : goal.returns-in-Sync-clause-makes
returns-in-Sync-clause-makes g c =
    rests (state_view g.R.Region.seen g.B.Block.seen c.args.self.now)
    (g.P.Power.asked c.args.power.now)

pub returns-in-Sync-clause-placed : goal.returns-in-Sync-clause-placed
returns-in-Sync-clause-placed g c = λ is_true.
    let words = g.R.Region.seen in
    placed-other c.args.request.now (view_of c.args.self.now.tracker).long
    (words (of_staged c.args.staged.now))
    (request_of (words_of (words (of_staged c.args.staged.now)))
    (words_in words (tails_of_staged c.args.staged.now)))
    (λ same. (let clash = sym same ∙ c.in-Sync.is in cc)) c.requires.staged c.requires.sure
