use Rattle.std.proofs.Common.{ℕ, ◌∙◌, ◌≡◌, ◌≤◌, List, [], ◌∷◌, take, length, map, refl, ap, subst, arith}
use Rattle.std.proofs.lemmas.List.{length-take-le}
use Rattle.std.proofs.lemmas.Simd.{map-map}
use Rattle.cfs_vec.specs.Items.{items_of}
use Rattle.cfs_slot.specs.declared.part.Part.{Part}
use Rattle.std.proofs.Math.ListN.{set}
use Rattle.cfs_pmem.specs.Images.{words_of}
use Rattle.cfs_pmem.proofs.MomentLemmas.{at_end}
use Rattle.cfs_slot.specs.Regions.{devices_in, of_parts, words_in, slot_numbers}
use Rattle.cfs_slot.specs.Staging.{staged_payload}
use Rattle.cfs_slot.specs.Tails.{number_of, numbers_in, set_of}
use Rattle.cfs_slot.specs.Words.{mark_of, grant_of}
use Rattle.cfs_slot.proofs.StagedLemmas.{AreSlots, long_bounds, head_holds, head_is, staged_long}
use Rattle.cfs_slot.proofs.TailLemmas.{numbers_in_set}
use Rattle.cfs_slot.proofs.WritingLemmas.{writes_err, writes_ok}
use Rattle.cfs_slot.proofs.slot.Slot.stage_head.Given.{Over}
use Rattle.cfs_slot.proofs.slot.Slot.stage_head.Goals as goal

pub overflow_sub-kind : goal.overflow_sub-kind
overflow_sub-kind g c =
    let size : length c.staged_payload-payload.result.now ≡ length (staged_payload c.args.request.now) = ap (λ (bs : List ℕ). length bs) c.staged_payload-payload.ensures in
    omega (arith, size, (long_bounds c.args.request.now c.requires.long).0)

pub slice_bounds-first-end : goal.slice_bounds-first-end
slice_bounds-first-end g c =
    let payload : List ℕ = c.staged_payload-payload.result.now in
    let size : length payload ≡ length (staged_payload c.args.request.now) = ap (λ (bs : List ℕ). length bs) c.staged_payload-payload.ensures in
    let long : 4096 ≤ length payload = omega (arith, size, (long_bounds c.args.request.now c.requires.long).0) in
    omega (arith, long, length-take-le 4096 payload long)

pub write_slot-requires-clause-few : goal.write_slot-requires-clause-few
write_slot-requires-clause-few g c =
    let payload : List ℕ = c.staged_payload-payload.result.now in
    let size : length payload ≡ length (staged_payload c.args.request.now) = ap (λ (bs : List ℕ). length bs) c.staged_payload-payload.ensures in
    let long : 4096 ≤ length payload = omega (arith, size, (long_bounds c.args.request.now c.requires.long).0) in
    omega (arith, long, length-take-le 4096 payload long)

pub invariant_of-result : goal.invariant_of-result
invariant_of-result g c =
    let writes = c.in-Ok.ensures.writes in
    record {
      size = writes.size ∙ c.args.self.size;
      closed = at_end writes.moments;
      unmarked = λ image h. ap (λ ws. mark_of ws) (writes.sure image h) ∙ c.in-Ok.ensures.holds.mark_is;
      granted = λ image h. ap (λ ws. grant_of ws) (writes.sure image h) ∙ c.in-Ok.ensures.holds.grant_is;
      whole = λ image h. ap (λ ws. set ws 3 0) (writes.sure image h);
    }

pub invariant_of-result-in-Err : goal.invariant_of-result-in-Err
invariant_of-result-in-Err g c = record {
  size = c.in-Err.ensures.writes.size ∙ c.args.self.size;
  closed = at_end c.in-Err.ensures.writes.moments;
}

-- each tail is a slot
slots_of : (g : Over) (parts : List (Part g.row.R.Denot g.R.Region)) → AreSlots (words_in g.R.Region.seen (map (λ (p : Part g.row.R.Denot g.R.Region). p.region) parts))
slots_of g [] = tt
slots_of g (part ∷ parts) = (part.size, slots_of g parts)

pub returns-in-Ok-clause-staged : goal.returns-in-Ok-clause-staged
returns-in-Ok-clause-staged g c =
    let words = words_of (g.R.Region.seen c.write_slot.new.region) in
    let tails = of_parts c.args.tails in
    let numbers = slot_numbers g.R.Region.seen tails in
    let first = (g.R.Region.seen c.args.self.region).device in
    let devices = devices_in g.R.Region.seen tails in
    let same : map (λ d. number_of d) devices ≡ numbers = map-map (λ d. number_of d) (λ (r : g.row.R.Denot). (g.R.Region.seen r).device) tails in
    let numbers_are : numbers_in (set_of numbers) ≡ numbers = subst (λ ns. numbers_in (set_of ns) ≡ ns) same (numbers_in_set first devices c.requires.above) in
    staged_long c.args.ino c.args.request.now c.args.grant (set_of numbers) numbers words (words_in g.R.Region.seen tails) c.requires.long numbers_are
    (c.in-Ok.ensures.writes.size ∙ c.args.self.size) (slots_of g (items_of c.args.tails)) c.requires.parts
    (head_holds c.args.ino c.args.grant c.args.request.now numbers c.staged_offset.result c.set_of_tails.result c.staged_payload-payload.result.now
    (take 4096 c.staged_payload-payload.result.now) words c.staged_offset.ensures c.set_of_tails.ensures.value c.staged_payload-payload.ensures refl c.in-Ok.ensures.holds)

pub returns-in-Ok-clause-writes : goal.returns-in-Ok-clause-writes
returns-in-Ok-clause-writes g c =
    writes_ok _ (head_is c.args.ino c.args.grant c.args.request.now (slot_numbers g.R.Region.seen (of_parts c.args.tails)) c.staged_offset.result c.set_of_tails.result
    c.staged_payload-payload.result.now (take 4096 c.staged_payload-payload.result.now) c.staged_offset.ensures c.set_of_tails.ensures.value c.staged_payload-payload.ensures refl)
    c.in-Ok.ensures.writes

pub returns-in-Err-clause-writes : goal.returns-in-Err-clause-writes
returns-in-Err-clause-writes g c =
    writes_err _ (head_is c.args.ino c.args.grant c.args.request.now (slot_numbers g.R.Region.seen (of_parts c.args.tails)) c.staged_offset.result c.set_of_tails.result
    c.staged_payload-payload.result.now (take 4096 c.staged_payload-payload.result.now) c.staged_offset.ensures c.set_of_tails.ensures.value c.staged_payload-payload.ensures refl)
    c.in-Err.ensures.writes
