use Rattle.std.proofs.Common.{◌≡◌, take}
use Rattle.std.specs.Prelude.{None}
use Rattle.std.specs.List.{flat_map}
use Rattle.cfs_image.specs.Checks.{damage_of}
use Rattle.cfs_survey.specs.Sizes.{size_checks}
use Rattle.cfs_survey.proofs.sizes.check_sizes.Given as goal

abbrev pub invariant-loop-node : goal.invariant-loop-node
invariant-loop-node l =
    damage_of (flat_map (size_checks l.at l.sizes) (take l.node-index l.nodes)) ≡ None
