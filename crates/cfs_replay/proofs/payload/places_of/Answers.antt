use Rattle.std.proofs.Common.{ℕ, ◌+◌, ◌-◌, ◌*◌, ◌/◌, ◌∷◌, map, arith}
use Rattle.cfs_slot.specs.Tails.{numbers_from, numbers_in}
use Rattle.cfs_replay.proofs.Payloads.{places-done, places-more}
use Rattle.cfs_replay.proofs.payload.places_of.Goals as goal

pub loop-number-preserved : goal.loop-number-preserved
loop-number-preserved c = record {
  parts = places-more (λ (n : ℕ). 323 + (c.args.slot / 16 * 16 + n)) (16 - c.loop-number.number)
      (16 - (c.loop-number.number + 1)) c.loop-number.number c.loop-number.rest _
      c.loop-number.places.items c.note_place.new.places.items
      ((323 + c.args.slot)
      ∷ map (λ (n : ℕ). 323 + (c.args.slot / 16 * 16 + n)) (numbers_from 16 0 c.args.tails))
      (omega arith) (omega arith) c.loop-number.invariant.parts c.note_place.ensures.items;
  few = omega arith;
}

pub returns : goal.returns
unfolding numbers_in
returns c =
    places-done (λ (n : ℕ). 323 + (c.args.slot / 16 * 16 + n)) (16 - c.loop-number.number)
    c.loop-number.number c.loop-number.rest c.loop-number.places.items
    ((323 + c.args.slot)
    ∷ map (λ (n : ℕ). 323 + (c.args.slot / 16 * 16 + n)) (numbers_from 16 0 c.args.tails))
    (omega arith) c.loop-number.invariant.parts
