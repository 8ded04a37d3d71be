use Rattle.std.proofs.Common.{rules, ◌≡◌, ◌+◌, length, refl}
use Rattle.cfs_fresh.proofs.Whole.{whole_more}
use Rattle.cfs_fresh.proofs.state.queues_to.Goals as goal

pub loop-number-preserved : goal.loop-number-preserved
loop-number-preserved c = record {
  count = (let more : length c.push.new.self.items ≡ length c.loop-number.queues.items + 1 = search rules in rw more (rw c.loop-number.invariant.count refl));
  whole = whole_more c.loop-number.queues.items c.push.new.self.items c.loop-number.number c.in_ok-queue.field-0 c.loop-number.invariant.whole c.loop-number.invariant.count
      c.in_ok-queue.ensures.number c.in_ok-queue.ensures.whole c.in_ok-push.ensures.items;
}
