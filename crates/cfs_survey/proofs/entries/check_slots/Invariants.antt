use Rattle.std.proofs.Common.{◌≡◌}
use Rattle.std.specs.Prelude.{None, is_some, nat_eq}
use Rattle.std.specs.HashMap.{get}
use Rattle.cfs_image.specs.Checks.{damage_of}
use Rattle.cfs_survey.specs.Faults.{checks_from}
use Rattle.cfs_survey.specs.Slots.{slot_checks}
use Rattle.cfs_survey.proofs.entries.check_slots.Given as goal

abbrev pub invariant-loop-slot : goal.invariant-loop-slot
invariant-loop-slot l =
    damage_of (checks_from
    (slot_checks l.at l.nodes (λ tag. is_some (get nat_eq l.blocks tag)) l.slots) 0 l.slot) ≡ None
