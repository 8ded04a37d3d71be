use Rattle.std.proofs.Common.{◌∙◌, ◌∷◌, [], ◌++◌, List, length, map, refl, reverse, ap, arith, length-append}
use Rattle.std.proofs.lemmas.List.{reverse-reverse}
use Rattle.std.specs.Option.{option_to_list}
use Rattle.cfs_vec.specs.Items.{items_of}
use Rattle.cfs_slot.specs.declared.slot.Slot.{Slot}
use Rattle.cfs_slot.proofs.SlotsLemmas.{all_moved, one_moved}
use Rattle.cfs_queue.specs.declared.kept.Kept.{Kept}
use Rattle.cfs_queue.specs.declared.kept.Kept.TheVariants.{Free}
use Rattle.cfs_queue.specs.Queue.{free}
use Rattle.cfs_queue.specs.Rows.{seen_all, seen_as}
use Rattle.cfs_queue.proofs.RowLemmas.{free_map}
use Rattle.cfs_queue.proofs.rows.all_free.Goals as goal

pub loop-slot-init : goal.loop-slot-init
loop-slot-init g c = record {
  moved = ap (λ (rows : List (Kept g.row.R.Denot g.R.Region)). seen_all rows ++ map (λ (s : Slot g.row.R.Denot g.R.Region). free s.region) (reverse (items_of c.reverse.new.self))) c.new-rows.ensures
      ∙ ap (λ (slots : List (Slot g.row.R.Denot g.R.Region)). map (λ (s : Slot g.row.R.Denot g.R.Region). free s.region) slots)
      (ap (λ (slots : List (Slot g.row.R.Denot g.R.Region)). reverse slots) c.reverse.ensures.items ∙ reverse-reverse (items_of c.args.slots));
  room = omega (arith, c.reverse.ensures.fits, ap (λ (rows : List (Kept g.row.R.Denot g.R.Region)). length rows) c.new-rows.ensures);
}

pub loop-slot-preserved : goal.loop-slot-preserved
loop-slot-preserved g c =
    let inv = c.loop-slot.invariant in
    let popped = c.pop.ensures.items ∙ ap (λ o. items_of c.pop.new.self ++ option_to_list o) c.in-Some.is in
    let slot : Slot g.row.R.Denot g.R.Region = c.in-Some.slot in
    let row : Kept g.row.R.Denot g.R.Region = Free slot in
    record {
      moved = ap (λ (rows : List (Kept g.row.R.Denot g.R.Region)). seen_all rows ++ map (λ (s : Slot g.row.R.Denot g.R.Region). free s.region) (reverse (items_of c.pop.new.self))) c.push.ensures.items
          ∙ one_moved (λ (row : Kept g.row.R.Denot g.R.Region). seen_as row) (λ (s : Slot g.row.R.Denot g.R.Region). free s.region) c.loop-slot.rows.items (items_of c.loop-slot.slots) (items_of c.pop.new.self) row slot refl popped
          ∙ inv.moved;
      room = omega (
        arith,
        inv.room,
        ap (λ (rows : List (Kept g.row.R.Denot g.R.Region)). length rows) c.push.ensures.items,
        length-append c.loop-slot.rows.items (row ∷ []),
        ap (λ (slots : List (Slot g.row.R.Denot g.R.Region)). length slots) popped,
        length-append (items_of c.pop.new.self) (slot ∷ []),
      );
    }

pub returns : goal.returns
returns g c =
    all_moved (λ (s : Slot g.row.R.Denot g.R.Region). free s.region) _ _ (items_of c.loop-slot.slots) c.in_default.ensures.none c.loop-slot.invariant.moved
    ∙ free_map (λ (s : Slot g.row.R.Denot g.R.Region). s.region) (items_of c.args.slots)
