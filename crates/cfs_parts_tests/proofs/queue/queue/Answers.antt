use Rattle.cfs_vec.specs.Items.{items_of}
use Rattle.cfs_slot.specs.Regions.{of_slot}
use Rattle.cfs_queue.specs.Queue.{first_of}
use Rattle.cfs_queue.proofs.TestLemmas.{one_more, slot_more}
use Rattle.cfs_parts_tests.proofs.queue.queue.Goals as goal

pub loop-at-preserved : goal.loop-at-preserved
loop-at-preserved c =
    let old = items_of c.loop-at.slots in
    let new = items_of c.push.new.self in
    let slot = c.in_ok-slot.field-0 in record {
      devices = slot_more (λ s. of_slot s) (λ r. r.seen.device) c.loop-at.at (first_of c.args.number) old new slot c.push.ensures
          c.loop-at.invariant.devices c.in_ok-slot.ensures;
      count = one_more c.loop-at.at old new slot c.push.ensures c.loop-at.invariant.count;
    }
