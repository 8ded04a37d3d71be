use Rattle.std.proofs.Common.{◌∙◌, ◌∷◌, [], ◌++◌, length, map, reverse, refl, ap, arith, length-append}
use Rattle.std.proofs.lemmas.List.{length-map}
use Rattle.std.specs.Option.{option_to_list}
use Rattle.cfs_vec.specs.Items.{items_of}
use Rattle.cfs_slot.specs.declared.slot.Slot.{Slot}
use Rattle.cfs_slot.specs.Regions.{of_slot}
use Rattle.cfs_slot.proofs.SlotsLemmas.{all_moved, one_moved}
use Rattle.cfs_long.proofs.lists.with_slots.Goals as goal

pub loop-slot-init : goal.loop-slot-init
loop-slot-init g c = record {
  moved = refl;
  room = omega (arith, c.requires, length-map (items_of c.args.slots) (λ (s : Slot g.row.R.Denot g.R.Region). s.region), length-map (items_of c.args.others) (λ (s : Slot g.row.R.Denot g.R.Region). s.region));
}

pub loop-slot-preserved : goal.loop-slot-preserved
loop-slot-preserved g c =
    let inv = c.loop-slot.invariant in
    let popped = c.pop.ensures.items ∙ ap (λ o. items_of c.pop.new.self ++ option_to_list o) c.in-Some.is in
    let slot = c.in-Some.slot in
    record {
      moved = ap (λ xs. map (λ (s : Slot g.row.R.Denot g.R.Region). s.region) xs ++ map (λ (s : Slot g.row.R.Denot g.R.Region). of_slot s) (reverse (items_of c.pop.new.self))) c.push.ensures
          ∙ one_moved (λ (s : Slot g.row.R.Denot g.R.Region). s.region) (λ (s : Slot g.row.R.Denot g.R.Region). s.region) (items_of c.loop-slot.slots) (items_of c.loop-slot.others) (items_of c.pop.new.self) slot slot refl popped
          ∙ inv.moved;
      room = omega (
        arith,
        inv.room,
        ap (λ xs. length xs) c.push.ensures,
        length-append (items_of c.loop-slot.slots) (slot ∷ []),
        ap (λ xs. length xs) popped,
        length-append (items_of c.pop.new.self) (slot ∷ []),
      );
    }

pub returns : goal.returns
returns g c =
    all_moved (λ (s : Slot g.row.R.Denot g.R.Region). of_slot s) _ _ (items_of c.loop-slot.others) c.in_default.ensures.none c.loop-slot.invariant.moved
