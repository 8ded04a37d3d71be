-- The regions of slots, and of what a call on a slot answers.
use Rattle.std.specs.Prelude.{ℕ, Result, Ok, Err, List, ◌∷◌, map}
use Rattle.std.proofs.Math.ListN.{get_or}
use Rattle.cfs_pmem.specs.Images.{Seen, WordStep, words_of}
use Rattle.cfs_vec.specs.declared.fixed_vec.FixedVec.{FixedVec}
use Rattle.cfs_vec.specs.Items.{items_of}
use Rattle.cfs_slot.specs.declared.slot.Slot.{Slot}
use Rattle.cfs_slot.specs.declared.part.Part.{Part}
use Rattle.cfs_slot.specs.declared.staged.Staged.{Staged}
use Rattle.cfs_slot.specs.declared.live.Live.{Live}
use Rattle.cfs_slot.specs.declared.doubt.Doubt.{Doubt}
use Rattle.cfs_slot.specs.Tails.{number_of}

abbrev pub of_slot : {R : Type 0} {g : _} → Slot R g → R
of_slot slot = slot.region

abbrev pub of_part : {R : Type 0} {g : _} → Part R g → R
of_part part = part.region

-- of a request that takes several slots, the head's region
abbrev pub of_staged : {R : Type 0} {g : _} → Staged R g → R
of_staged staged = staged.region

abbrev pub of_live : {R : Type 0} {g : _} → Live R g → R
of_live live = live.region

abbrev pub of_doubt : {R : Type 0} {g : _} → Doubt R g → R
of_doubt doubt = doubt.region

-- the regions of slots, in order
abbrev pub of_slots : {R : Type 0} {g : _} {N : ℕ} → FixedVec (Slot R g) N → List R
of_slots {R} {g} slots = map (λ (s : Slot R g). s.region) (items_of slots)

abbrev pub of_parts : {R : Type 0} {g : _} {N : ℕ} → FixedVec (Part R g) N → List R
of_parts {R} {g} parts = map (λ (p : Part R g). p.region) (items_of parts)

-- the regions of its tails
abbrev pub tails_of_staged : {R : Type 0} {g : _} → Staged R g → List R
tails_of_staged staged = of_parts staged.tails

abbrev pub tails_of_live : {R : Type 0} {g : _} → Live R g → List R
tails_of_live live = of_parts live.tails

abbrev pub tails_of_doubt : {R : Type 0} {g : _} → Doubt R g → List R
tails_of_doubt doubt = of_parts doubt.tails

-- after `stage`
abbrev pub after_stage : {R : Type 0} {g : _} → Result (Staged R g) (Slot R g) → R
after_stage (Ok staged) = staged.region
after_stage (Err slot) = slot.region

-- after `stage_part`
abbrev pub after_part : {R : Type 0} {g : _} → Result (Part R g) (Slot R g) → R
after_part (Ok part) = part.region
after_part (Err slot) = slot.region

-- after `stage_head`
abbrev pub after_head : {R : Type 0} {g : _} {N : ℕ}
    → Result (Staged R g) (Slot R g × FixedVec (Part R g) N) → R
after_head (Ok staged) = staged.region
after_head (Err refused) = refused.0.region

abbrev pub tails_after_head : {R : Type 0} {g : _} {N : ℕ}
    → Result (Staged R g) (Slot R g × FixedVec (Part R g) N) → List R
tails_after_head (Ok staged) = of_parts staged.tails
tails_after_head (Err refused) = of_parts refused.1

-- after `open_gate`
abbrev pub after_open : {R : Type 0} {g : _} → Result (Live R g) (Doubt R g) → R
after_open (Ok live) = live.region
after_open (Err doubt) = doubt.region

abbrev pub tails_after_open : {R : Type 0} {g : _} → Result (Live R g) (Doubt R g) → List R
tails_after_open (Ok live) = of_parts live.tails
tails_after_open (Err doubt) = of_parts doubt.tails

-- after `settle`: all slots, the head first
abbrev pub after_settle : {R : Type 0} {g : _} {N : ℕ}
    → Result (FixedVec (Slot R g) N) (Doubt R g) → List R
after_settle (Ok slots) = of_slots slots
after_settle (Err doubt) = doubt.region ∷ of_parts doubt.tails

-- after `close_gate`
abbrev pub after_close : {R : Type 0} {g : _} {N : ℕ}
    → Result (FixedVec (Slot R g) N) (Live R g) → List R
after_close (Ok slots) = of_slots slots
after_close (Err live) = live.region ∷ of_parts live.tails

-- the head's region among them, which there is
abbrev pub head_of : {R : Type 0} → R → List R → R
head_of before regions = get_or regions 0 before

-- the place that the gate was opened with
abbrev pub place_of : {R : Type 0} {g : _} → Live R g → ℕ
place_of live = live.place

-- What regions hold, where `seen` tells it of each.

abbrev pub words_in : {R : Type 0} → (R → Seen WordStep) → List R → List (List ℕ)
words_in seen regions = map (λ r. words_of (seen r)) regions

abbrev pub devices_in : {R : Type 0} → (R → Seen WordStep) → List R → List ℕ
devices_in seen regions = map (λ r. (seen r).device) regions

abbrev pub slot_numbers : {R : Type 0} → (R → Seen WordStep) → List R → List ℕ
slot_numbers seen regions = map (λ r. number_of (seen r).device) regions
