use Rattle.std.proofs.Common.{◌≡◌, ◌∙◌, ◌∷◌, [], ◌++◌, length, map, reverse, ap, arith, length-append}
use Rattle.std.specs.Option.{option_to_list}
use Rattle.cfs_vec.specs.Items.{items_of}
use Rattle.cfs_slot.specs.declared.part.Part.{Part}
use Rattle.cfs_slot.specs.Regions.{of_part}
use Rattle.cfs_slot.proofs.SlotsLemmas.{all_moved, none_moved, one_taken}
use Rattle.cfs_slot.proofs.slots.all_regions.Goals as goal

pub loop-part-init : goal.loop-part-init
loop-part-init g c =
    let first : items_of c.push.new.self ≡ c.args.head ∷ [] = c.push.ensures ∙ ap (λ xs. xs ++ c.args.head ∷ []) c.new-regions.ensures in
    record {
      moved = ap (λ xs. xs ++ map (λ (p : Part g.row.R.Denot g.R.Region). of_part p) (reverse (items_of c.reverse.new.self))) first
          ∙ none_moved (λ (r : g.row.R.Denot). r) (λ (p : Part g.row.R.Denot g.R.Region). p.region) c.args.head (items_of c.args.tails) (items_of c.reverse.new.self) c.reverse.ensures.items;
      room = omega (arith, c.reverse.ensures.fits, ap (λ xs. length xs) first);
    }

pub loop-part-preserved : goal.loop-part-preserved
loop-part-preserved g c =
    let inv = c.loop-part.invariant in
    let popped = c.pop.ensures.items ∙ ap (λ o. items_of c.pop.new.self ++ option_to_list o) c.in-Some.is in
    let region = c.into_parts.result in
    let pushed = c.push-in-Some.ensures ∙ ap (λ r. items_of c.loop-part.regions ++ r ∷ []) c.into_parts.ensures in
    record {
      moved = ap (λ xs. xs ++ map (λ (p : Part g.row.R.Denot g.R.Region). of_part p) (reverse (items_of c.pop.new.self))) pushed
          ∙ one_taken (λ (p : Part g.row.R.Denot g.R.Region). p.region) (items_of c.loop-part.regions) (items_of c.loop-part.tails) (items_of c.pop.new.self) c.in-Some.part popped
          ∙ inv.moved;
      room = omega (
        arith,
        inv.room,
        ap (λ xs. length xs) c.push-in-Some.ensures,
        length-append (items_of c.loop-part.regions) (region ∷ []),
        ap (λ xs. length xs) popped,
        length-append (items_of c.pop.new.self) (c.in-Some.part ∷ []),
      );
    }

pub returns : goal.returns
returns g c =
    all_moved (λ (p : Part g.row.R.Denot g.R.Region). of_part p) _ _ (items_of c.loop-part.tails) c.in_default.ensures.none c.loop-part.invariant.moved
