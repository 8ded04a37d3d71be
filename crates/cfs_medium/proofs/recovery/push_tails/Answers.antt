use Rattle.std.proofs.Common.{◌∙◌, ◌++◌, ◌*◌, ◌/◌, ap, arith, List, ℕ}
use Rattle.cfs_medium.proofs.Slots.{read_at}
use Rattle.cfs_medium.proofs.Tails.{tails_from-all, tails_turn}
use Rattle.cfs_medium.proofs.recovery.push_tails.Goals as goal

pub loop-number-init : goal.loop-number-init
loop-number-init c =
    rw c.word_at-tails.ensures
    (ap (λ (xs : List ℕ). c.args.bytes.now.items ++ xs)
    (tails_from-all c.args.slots.now c.args.at c.as_slice.result.now
    (c.as_slice.ensures ∙ read_at c.args.slots.now c.args.at c.index-slots-at.result c.index-slots-at.is c.requires)))

pub loop-number-preserved : goal.loop-number-preserved
loop-number-preserved c =
    tails_turn c.args.slots.now (c.args.at / 16 * 16) c.loop-number.number c.loop-number.tails c.loop-number.bytes.items
    c.push_tail.new.bytes.items (omega arith) c.in_ok-push_tail.ensures ∙ c.loop-number.invariant
