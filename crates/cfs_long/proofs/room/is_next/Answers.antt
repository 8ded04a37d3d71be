use Rattle.std.proofs.Common.{ℕ, ◌-◌, ◌<◌, ◌≡◌, ◌∙◌, ◌↔◌, List, length, get_or, map, sym, ap, subst, arith}
use Rattle.std.proofs.Math.ListN.{get_or-map}
use Rattle.std.proofs.lemmas.List.{get_or_read, length-map}
use Rattle.std.specs.Prelude.{IsTrue}
use Rattle.cfs_vec.specs.Items.{items_of}
use Rattle.cfs_slot.specs.declared.slot.Slot.{Slot}
use Rattle.cfs_slot.specs.Regions.{devices_in, of_slots}
use Rattle.cfs_long.specs.Chain.{IsAbove}
use Rattle.cfs_long.proofs.room.is_next.Given.{Over}
use Rattle.cfs_long.proofs.room.is_next.Goals as goal

-- the device of the slot at a place
device_at : (g : Over) (slots : List (Slot g.row.R.Denot g.R.Region)) (k d : ℕ) (slot : Slot g.row.R.Denot g.R.Region) → k < length slots → slot ≡ get_or slots k slot → d ≡ (g.R.Region.seen slot.region).device
    → d ≡ get_or (devices_in g.R.Region.seen (map (λ (s : Slot g.row.R.Denot g.R.Region). s.region) slots)) k 0
device_at g slots k d slot l at is =
    let region = λ (s : Slot g.row.R.Denot g.R.Region). s.region in
    let device = λ (r : g.row.R.Denot). (g.R.Region.seen r).device in
    let there : get_or (map device (map region slots)) k (device slot.region) ≡ device slot.region =
    get_or-map device (map region slots) k slot.region ∙ ap (λ r. device r) (get_or-map region slots k slot ∙ ap (λ (s : Slot g.row.R.Denot g.R.Region). s.region) (sym at)) in
    is ∙ get_or_read (map device (map region slots)) k (device slot.region) (omega (arith, l, length-map (map region slots) device, length-map slots region)) (sym there) 0

pub at-below-requires : goal.at-below-requires
at-below-requires g c = omega (arith, c.requires.some, c.requires.within, length-map (items_of c.args.slots.now) (λ (s : Slot g.row.R.Denot g.R.Region). s.region))

pub at-next-requires : goal.at-next-requires
at-next-requires g c = omega (arith, c.requires.within, length-map (items_of c.args.slots.now) (λ (s : Slot g.row.R.Denot g.R.Region). s.region))

pub returns : goal.returns
returns g c =
    let slots = items_of c.args.slots.now in
    let devices = devices_in g.R.Region.seen (of_slots c.args.slots.now) in
    let size = length-map slots (λ (s : Slot g.row.R.Denot g.R.Region). s.region) in
    let first = device_at g slots (c.args.at - 1) c.device-first.result c.at-below.result.now (omega (arith, c.requires.some, c.requires.within, size)) c.at-below.ensures c.device-first.ensures in
    let above = device_at g slots c.args.at c.device-above.result c.at-next.result.now (omega (arith, c.requires.within, size)) c.at-next.ensures c.device-above.ensures in
    subst (λ a. IsTrue c.is_above.result ↔ IsAbove a (get_or devices c.args.at 0)) first
    (subst (λ b. IsTrue c.is_above.result ↔ IsAbove c.device-first.result b) above c.is_above.ensures)
