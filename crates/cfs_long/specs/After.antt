-- The regions of slots, and after a call, in order.
use Rattle.std.specs.Prelude.{Result, Ok, Err, ℕ, List, ◌∷◌, map, reverse}
use Rattle.cfs_vec.specs.declared.fixed_vec.FixedVec.{FixedVec}
use Rattle.cfs_vec.specs.Items.{items_of}
use Rattle.cfs_slot.specs.declared.slot.Slot.{Slot}
use Rattle.cfs_slot.specs.declared.part.Part.{Part}
use Rattle.cfs_slot.specs.declared.staged.Staged.{Staged}
use Rattle.cfs_slot.specs.Regions.{of_slots, of_parts, of_staged, tails_of_staged}

-- of slots of which the last one comes first
abbrev pub from_last : {R : Type 0} {g : _} {N : ℕ} → FixedVec (Slot R g) N → List R
from_last {R} {g} slots = map (λ (s : Slot R g). s.region) (reverse (items_of slots))

abbrev pub after_tails : {R : Type 0} {g : _} {N M : ℕ}
    → Result (FixedVec (Part R g) N) (FixedVec (Slot R g) M) → List R
after_tails (Ok parts) = of_parts parts
after_tails (Err slots) = of_slots slots

abbrev pub after_chain : {R : Type 0} {g : _} {M : ℕ}
    → Result (Staged R g) (FixedVec (Slot R g) M) → List R
after_chain (Ok staged) = of_staged staged ∷ tails_of_staged staged
after_chain (Err slots) = of_slots slots
