use Rattle.cfs_vec.specs.Items.{items_of}
use Rattle.cfs_slot.specs.declared.slot.Slot.{Slot}
use Rattle.std.proofs.Common.{map}
use Rattle.cfs_gather.proofs.ListLemmas.{all_turned}
use Rattle.cfs_gather.proofs.regions.add_slots.Goals as goal

pub loop-slot-init : goal.loop-slot-init
loop-slot-init g c =
    all_turned g.R.Region.seen (λ (s : Slot g.row.R.Denot g.R.Region). s.region)
    (map g.R.Region.seen c.args.regions.now.items) (items_of c.args.slots)
    (items_of c.reverse.new.self) c.reverse.ensures.items
