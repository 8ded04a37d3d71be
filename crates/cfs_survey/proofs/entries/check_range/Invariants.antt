use Rattle.std.proofs.Common.{◌≡◌, ◌-◌}
use Rattle.std.specs.Prelude.{None, is_some, nat_eq}
use Rattle.std.specs.HashMap.{get}
use Rattle.cfs_image.specs.Checks.{damage_of}
use Rattle.cfs_survey.specs.Faults.{checks_from}
use Rattle.cfs_survey.specs.Slots.{block_checks}
use Rattle.cfs_survey.proofs.entries.check_range.Given as goal

abbrev pub invariant-loop-block : goal.invariant-loop-block
invariant-loop-block l =
    damage_of (checks_from (block_checks l.at (λ tag. is_some (get nat_eq l.blocks tag)) l.words)
    l.first (l.block - l.first)) ≡ None
