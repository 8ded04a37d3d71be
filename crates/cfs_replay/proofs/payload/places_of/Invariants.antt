use Rattle.std.proofs.Common.{ℕ, ◌+◌, ◌-◌, ◌*◌, ◌/◌, ◌≡◌, ◌≤◌, ◌∷◌, ◌++◌, length, map}
use Rattle.cfs_slot.specs.Tails.{numbers_from}
use Rattle.cfs_replay.proofs.payload.places_of.Given as goal

abbrev pub invariant-loop-number : goal.invariant-loop-number
invariant-loop-number l = record {
  parts : (323 + l.slot)
      ∷ map (λ (n : ℕ). 323 + (l.slot / 16 * 16 + n)) (numbers_from 16 0 l.tails)
      ≡ l.places.items
      ++ map (λ (n : ℕ). 323 + (l.slot / 16 * 16 + n))
      (numbers_from (16 - l.number) l.number l.rest);
  few : length l.places.items ≤ l.number + 1;
}
