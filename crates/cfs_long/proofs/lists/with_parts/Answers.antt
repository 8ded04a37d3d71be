use Rattle.std.proofs.Common.{◌∙◌, ◌∷◌, [], ◌++◌, length, map, reverse, ap, arith, length-append}
use Rattle.std.proofs.lemmas.List.{length-map, length-reverse, reverse-reverse}
use Rattle.std.specs.Option.{option_to_list}
use Rattle.cfs_vec.specs.Items.{items_of}
use Rattle.cfs_slot.specs.declared.slot.Slot.{Slot}
use Rattle.cfs_slot.specs.declared.part.Part.{Part}
use Rattle.cfs_slot.specs.Regions.{of_part, of_slots}
use Rattle.cfs_slot.proofs.SlotsLemmas.{all_moved, one_moved}
use Rattle.cfs_long.proofs.lists.with_parts.Goals as goal

pub loop-part-init : goal.loop-part-init
loop-part-init g c =
    let turned = ap (λ ps. reverse ps) c.reverse.ensures.items ∙ reverse-reverse (items_of c.args.parts) in
    record {
      moved = ap (λ ps. of_slots c.args.slots ++ map (λ (p : Part g.row.R.Denot g.R.Region). of_part p) ps) turned;
      room = omega (
        arith,
        c.requires,
        length-map (items_of c.args.slots) (λ (s : Slot g.row.R.Denot g.R.Region). s.region),
        length-map (items_of c.args.parts) (λ (p : Part g.row.R.Denot g.R.Region). p.region),
        ap (λ ps. length ps) c.reverse.ensures.items,
        length-reverse (items_of c.args.parts),
      );
    }

pub loop-part-preserved : goal.loop-part-preserved
loop-part-preserved g c =
    let inv = c.loop-part.invariant in
    let popped = c.pop.ensures.items ∙ ap (λ o. items_of c.pop.new.self ++ option_to_list o) c.in-Some.is in
    let slot = c.cancel.result in
    record {
      moved = ap (λ xs. map (λ (s : Slot g.row.R.Denot g.R.Region). s.region) xs ++ map (λ (p : Part g.row.R.Denot g.R.Region). of_part p) (reverse (items_of c.pop.new.self))) c.push.ensures
          ∙ one_moved (λ (s : Slot g.row.R.Denot g.R.Region). s.region) (λ (p : Part g.row.R.Denot g.R.Region). p.region) (items_of c.loop-part.slots) (items_of c.loop-part.parts) (items_of c.pop.new.self) slot c.in-Some.part c.cancel.ensures popped
          ∙ inv.moved;
      room = omega (
        arith,
        inv.room,
        ap (λ xs. length xs) c.push.ensures,
        length-append (items_of c.loop-part.slots) (slot ∷ []),
        ap (λ xs. length xs) popped,
        length-append (items_of c.pop.new.self) (c.in-Some.part ∷ []),
      );
    }

pub returns : goal.returns
returns g c =
    all_moved (λ (p : Part g.row.R.Denot g.R.Region). of_part p) _ _ (items_of c.loop-part.parts) c.in_default.ensures.none c.loop-part.invariant.moved
