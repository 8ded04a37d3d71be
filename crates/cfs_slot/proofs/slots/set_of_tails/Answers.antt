use Rattle.std.proofs.Common.{ℕ, ◌+◌, ◌^◌, ◌<◌, ◌≤◌, ◌≡◌, ◌∙◌, List, length, get_or, map, sym, ap, arith}
use Rattle.std.proofs.Math.ListN.{get_or-map}
use Rattle.std.proofs.Math.Pow.{pow_mono}
use Rattle.std.proofs.lemmas.List.{length-map}
use Rattle.std.proofs.lemmas.Nat.{one_shl}
use Rattle.cfs_vec.specs.Items.{items_of}
use Rattle.cfs_slot.specs.declared.part.Part.{Part}
use Rattle.cfs_slot.specs.Regions.{of_parts, slot_numbers}
use Rattle.cfs_slot.specs.Tails.{number_of}
use Rattle.cfs_slot.proofs.SlotsLemmas.{set_more}
use Rattle.cfs_slot.proofs.slots.set_of_tails.Goals as goal

pub loop-at-preserved : goal.loop-at-preserved
loop-at-preserved g c =
    let inv = c.loop-at.invariant in
    let at : ℕ = c.loop-at.at in
    let n : ℕ = c.number.result in
    let parts : List (Part g.row.R.Denot g.R.Region) = items_of c.args.tails.now in
    let part : Part g.row.R.Denot g.R.Region = c.at.result.now in
    let region = λ (p : Part g.row.R.Denot g.R.Region). p.region in
    let number = λ (r : g.row.R.Denot). number_of (g.R.Region.seen r).device in
    let numbers : List ℕ = slot_numbers g.R.Region.seen (of_parts c.args.tails.now) in
    let size : length numbers ≡ length parts = length-map (map region parts) number ∙ length-map parts region in
    let l : at < length numbers = omega (arith, size, c.loop-at-test.true, c.len-at-end.ensures.value) in
    let is : n ≡ number part.region = c.number.ensures.value ∙ ap (λ d. number_of d) c.device.ensures in
    let there : get_or numbers at (number part.region) ≡ number part.region =
    get_or-map number (map region parts) at part.region ∙ ap (λ r. number r) (get_or-map region parts at part ∙ ap (λ (p : Part g.row.R.Denot g.R.Region). p.region) (sym c.at.ensures)) in
    let found : n ≡ get_or numbers at n = is ∙ sym there ∙ ap (λ d. get_or numbers at d) (sym is) in
    let below : n < 16 = c.number.ensures.below in
    let few : n ≤ 15 = omega arith in
    let most : 2 ^ n ≤ 2 ^ 15 = pow_mono few in
    record {
      value = ap (λ m. c.loop-at.set + m) (one_shl n 64 (omega arith)) ∙ ap (λ s. s + 2 ^ n) inv.value ∙ sym (set_more numbers at n l found);
      few = omega (arith, one_shl n 64 (omega arith), inv.few, most);
    }
