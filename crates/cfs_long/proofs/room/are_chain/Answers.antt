use Rattle.std.proofs.Common.{◌≡◌, ◌∙◌, Bool, true, false, List, length, map, refl, sym, subst, arith}
use Rattle.std.proofs.lemmas.List.{length-map, take_all}
use Rattle.cfs_vec.specs.Items.{items_of}
use Rattle.cfs_slot.specs.declared.slot.Slot.{Slot}
use Rattle.cfs_slot.specs.Regions.{devices_in, of_slots}
use Rattle.cfs_long.specs.Chain.{AreChain}
use Rattle.cfs_long.proofs.ShapeLemmas.{chain_first, chain_more, chain_one, is_none, is_some, never, none_chain}
use Rattle.cfs_long.proofs.room.are_chain.Given.{Over}
use Rattle.cfs_long.proofs.room.are_chain.Goals as goal

many : (g : Over) (slots : List (Slot g.row.R.Denot g.R.Region)) → length (devices_in g.R.Region.seen (map (λ (s : Slot g.row.R.Denot g.R.Region). s.region) slots)) ≡ length slots
many g slots =
    length-map (map (λ (s : Slot g.row.R.Denot g.R.Region). s.region) slots) (λ (r : g.row.R.Denot). (g.R.Region.seen r).device) ∙ length-map slots (λ (s : Slot g.row.R.Denot g.R.Region). s.region)

both : (b : Bool) → b ≡ true → b ≡ false → ⊥
both b t f = cc

pub returns-then-is_empty : goal.returns-then-is_empty
returns-then-is_empty g c =
    never (none_chain (devices_in g.R.Region.seen (of_slots c.args.slots.now))
    (many g (items_of c.args.slots.now) ∙ is_none (length (items_of c.args.slots.now)) (sym c.is_empty.ensures ∙ c.if-is_empty.true)))

pub loop-at-init : goal.loop-at-init
loop-at-init g c = record {
  so_far = chain_first (devices_in g.R.Region.seen (of_slots c.args.slots.now))
      (omega (arith, many g (items_of c.args.slots.now), is_some (length (items_of c.args.slots.now)) (sym c.is_empty.ensures ∙ c.if-is_empty.false)));
}

pub loop-at-preserved : goal.loop-at-preserved
loop-at-preserved g c = record {
  so_far = chain_more (devices_in g.R.Region.seen (of_slots c.args.slots.now)) c.loop-at.at (omega (arith, c.loop-at.auto.at))
      (omega (arith, many g (items_of c.args.slots.now), c.loop-at-test.true, c.len-at-end.ensures.value)) c.loop-at.invariant.so_far
      (c.is_next.ensures.0 c.if-not-is_next.false);
}

pub returns-then-not-is_next : goal.returns-then-not-is_next
returns-then-not-is_next g c =
    never (λ chain. both c.is_next.result (c.is_next.ensures.1 (chain_one (devices_in g.R.Region.seen (of_slots c.args.slots.now)) c.loop-at.at (omega (arith, c.loop-at.auto.at))
    (omega (arith, many g (items_of c.args.slots.now), c.loop-at-test.true, c.len-at-end.ensures.value)) chain)) c.if-not-is_next.true)

pub returns : goal.returns
returns g c = (
  λ e. subst (λ ds. AreChain ds) (take_all c.loop-at.at (devices_in g.R.Region.seen (of_slots c.args.slots.now)) (omega (arith, many g (items_of c.args.slots.now), c.loop-at-test.false, c.len-at-end.ensures.value))) c.loop-at.invariant.so_far,
  λ chain. refl,
)
