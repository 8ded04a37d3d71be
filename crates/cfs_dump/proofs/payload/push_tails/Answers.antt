use Rattle.std.proofs.Common.{◌∙◌, ◌++◌, ◌*◌, ◌/◌, ap, arith, List, ℕ}
use Rattle.cfs_dump.specs.Stores.{slots_in}
use Rattle.cfs_dump.proofs.Tails.{tails_from-all, tails_turn}
use Rattle.cfs_dump.proofs.payload.push_tails.Goals as goal

pub loop-number-init : goal.loop-number-init
loop-number-init c =
    ap (λ (xs : List ℕ). c.args.payload.now.items ++ xs)
    (tails_from-all (slots_in c.args.bytes.now) (c.args.slot / 16 * 16) c.args.tails)

pub loop-number-preserved : goal.loop-number-preserved
loop-number-preserved c =
    tails_turn (slots_in c.args.bytes.now) (c.args.slot / 16 * 16) c.loop-number.number
    c.loop-number.rest c.loop-number.payload.items c.push_tail.new.payload.items (omega arith)
    c.in_ok-push_tail.ensures
    ∙ c.loop-number.invariant
