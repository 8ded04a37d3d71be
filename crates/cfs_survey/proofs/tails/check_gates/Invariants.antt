use Rattle.std.proofs.Common.{◌≡◌, take}
use Rattle.std.specs.Prelude.{None}
use Rattle.std.specs.List.{flat_map}
use Rattle.cfs_image.specs.Checks.{damage_of}
use Rattle.cfs_survey.specs.Slots.{tail_checks}
use Rattle.cfs_survey.proofs.tails.check_gates.Given as goal

abbrev pub invariant-loop-number : goal.invariant-loop-number
invariant-loop-number l =
    damage_of (flat_map (tail_checks l.at l.slots l.from) (take l.number-index l.numbers)) ≡ None
