use Rattle.std.proofs.Common.{◌≡◌, ◌∙◌, ◌+◌, ◌-◌, ap, length, arith}
use Rattle.std.specs.List.{filter_map, range_with_len}
use Rattle.std.specs.Option.{option_map_or}
use Rattle.cfs_survey.specs.Live.{entry_in, in_order, put_live}
use Rattle.cfs_survey.proofs.LiveLemmas.{live_more}
use Rattle.cfs_survey.proofs.slots.gather.Goals as goal

pub loop-slot-preserved : goal.loop-slot-preserved
loop-slot-preserved c =
    let nodes = c.args.nodes.now in
    let slots = c.args.slots.now in
    let found = c.loop-slot.entries.items in
    let next : c.loop-slot.slot ≡ c.loop-slot.slot - 1 + 1 = omega (arith, c.loop-slot-test.true) in
    live_more nodes slots (c.loop-slot.slot - 1) (length slots - c.loop-slot.slot)
    (length slots - (c.loop-slot.slot - 1)) found c.put_some.new.entries.items
    (omega (arith, c.loop-slot-test.true))
    (c.loop-slot.invariant ∙ ap (λ k. in_order (filter_map (entry_in nodes slots)
    (range_with_len k (length slots - c.loop-slot.slot)))) next)
    (c.in_ok-put_some.ensures ∙ ap (λ e. option_map_or (λ entry. put_live entry found) e found)
    c.entry_in.ensures)
