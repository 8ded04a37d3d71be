use Rattle.std.proofs.Common.{◌≡◌, ◌∙◌, ◌++◌, ◌∷◌, [], List, length, map, sym, ap, subst, arith, length-append}
use Rattle.std.proofs.lemmas.List.{map-append}
use Rattle.cfs_vec.specs.Items.{items_of}
use Rattle.cfs_slot.specs.declared.slot.Slot.{Slot}
use Rattle.cfs_slot.specs.Regions.{of_slots}
use Rattle.cfs_queue.specs.declared.kept.Kept.{Kept}
use Rattle.cfs_queue.specs.Queue.{free_in}
use Rattle.cfs_queue.specs.Rows.{seen_all}
use Rattle.cfs_queue.specs.Taking.{TakesMany, took_none}
use Rattle.cfs_queue.proofs.RowLemmas.{took_more}
use Rattle.cfs_queue.proofs.rows.take_lowest.Goals as goal

pub loop-init : goal.loop-init
loop-init g c =
    let none : of_slots c.new-slots.result ≡ [] = ap (λ (slots : List (Slot g.row.R.Denot g.R.Region)). map (λ (s : Slot g.row.R.Denot g.R.Region). s.region) slots) c.new-slots.ensures in
    record {
      taken = subst (λ slots. TakesMany (seen_all c.args.rows.now.items) slots (seen_all c.args.rows.now.items)) (sym none) took_none;
      count = ap length none;
    }

pub loop-preserved : goal.loop-preserved
loop-preserved g c =
    let pushed : of_slots c.push.new.self ≡ of_slots c.loop.slots ++ c.in-Some.slot.region ∷ [] =
    ap (λ (slots : List (Slot g.row.R.Denot g.R.Region)). map (λ (s : Slot g.row.R.Denot g.R.Region). s.region) slots) c.push.ensures
    ∙ map-append (λ (s : Slot g.row.R.Denot g.R.Region). s.region) (items_of c.loop.slots) (c.in-Some.slot ∷ []) in
    record {
      taken = subst (λ slots. TakesMany (seen_all c.args.rows.now.items) slots (seen_all c.take_first.new.rows.items)) (sym pushed) (took_more c.loop.invariant.taken c.in-Some.ensures.first);
      count = omega (arith, ap length pushed, length-append (of_slots c.loop.slots) (c.in-Some.slot.region ∷ []), c.loop.invariant.count);
    }

pub returns-in_default-clause-taken : goal.returns-in_default-clause-taken
returns-in_default-clause-taken g c =
    subst (λ (rows : List (Kept g.row.R.Denot g.R.Region)). TakesMany (seen_all c.args.rows.now.items) (of_slots c.loop.slots) (seen_all rows))
    (sym (ap (λ v. v.items) c.in_default.ensures.unchanged)) c.loop.invariant.taken

pub returns-in_default-clause-all : goal.returns-in_default-clause-all
returns-in_default-clause-all g c = λ few.
    ap (λ (rows : List (Kept g.row.R.Denot g.R.Region)). free_in (seen_all rows)) (ap (λ v. v.items) c.in_default.ensures.unchanged) ∙ c.in_default.ensures.none
