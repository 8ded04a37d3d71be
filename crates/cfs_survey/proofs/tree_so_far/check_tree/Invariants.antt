use Rattle.std.proofs.Common.{◌≡◌, get_or, take}
use Rattle.std.specs.Prelude.{None}
use Rattle.cfs_image.specs.Checks.{damage_of}
use Rattle.std.specs.List.{flat_map}
use Rattle.cfs_survey.specs.Places.{place_checks}
use Rattle.cfs_survey.proofs.tree_so_far.check_tree.Given as goal

abbrev pub invariant-loop-node : goal.invariant-loop-node
invariant-loop-node l =
    damage_of
    (flat_map (λ node. place_checks (get_or l.places node.rec 0) l.nodes node)
    (take l.node-index l.nodes)) ≡ None
