use Rattle.std.proofs.Common.{◌≡◌, take}
use Rattle.std.specs.Prelude.{None}
use Rattle.cfs_image.specs.Checks.{damage_of}
use Rattle.cfs_survey.proofs.places.check_places.Given as goal
use Rattle.std.specs.List.{flat_map}
use Rattle.cfs_survey.specs.Places.{place_checks}
use Rattle.cfs_survey.specs.Tables.{row_at}

abbrev pub invariant-loop-node : goal.invariant-loop-node
invariant-loop-node l =
    damage_of (flat_map (λ node. place_checks (row_at l.at node.rec) l.nodes node) (take l.node-index l.nodes)) ≡ None
