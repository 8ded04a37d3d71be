use Rattle.std.proofs.Common.{◌∙◌, ◌-◌, arith, sym}
use Rattle.cfs_medium.proofs.Slots.{read_at, turn_dead, turn_live}
use Rattle.cfs_medium.proofs.recovery.live_by_gate.Goals as goal

pub loop-at-preserved-in-Continue-branch-2 : goal.loop-at-preserved-in-Continue-branch-2
loop-at-preserved-in-Continue-branch-2 c =
    turn_live c.args.ino c.args.slots.now c.loop-at.at c.as_slice-words.result.now c.word_at.result c.in_ok-request.request
    c.loop-at.entries.items c.put_by_gate.new.entries.items (omega (arith, c.loop-at-test.true)) (omega arith)
    (c.as_slice-words.ensures ∙ read_at c.args.slots.now (c.loop-at.at - 1) c.index-slots-at.result c.index-slots-at.is (omega arith))
    (sym c.is_live.ensures ∙ c.if-is_live.true) c.word_at.ensures c.in_ok-request.ensures c.loop-at.invariant c.in_ok-put_by_gate.ensures

pub loop-at-preserved : goal.loop-at-preserved
loop-at-preserved c =
    turn_dead c.args.ino c.args.slots.now c.loop-at.at c.as_slice-words.result.now c.loop-at.entries.items
    (omega (arith, c.loop-at-test.true)) (omega arith)
    (c.as_slice-words.ensures ∙ read_at c.args.slots.now (c.loop-at.at - 1) c.index-slots-at.result c.index-slots-at.is (omega arith))
    (sym c.is_live.ensures ∙ c.if-is_live.false) c.loop-at.invariant
