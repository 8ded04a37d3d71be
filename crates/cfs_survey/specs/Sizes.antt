-- The checks of the size words, one of each record. `at` is the offset of the first one.
use Rattle.std.specs.Prelude.{ℕ, ◌+◌, ◌*◌, List, [], ◌∷◌, get_or, if◌then◌else◌}
use Rattle.std.specs.List.{flat_map}
use Rattle.cfs_dir.specs.declared.node.Node.{Node}
use Rattle.cfs_dir.specs.Namespace.{is_directory}
use Rattle.cfs_image.specs.Checks.{Check}
use Rattle.cfs_survey.specs.Faults.{at_most}

abbrev pub size_checks : ℕ → List ℕ → Node → List Check
size_checks at sizes node =
    if is_directory node.kind then []
    else at_most 1048576 (at + 8 * node.rec) (get_or sizes node.rec 0) ∷ []

-- the size of each file of these nodes, in their order
unfoldable pub sizes_checks : ℕ → List ℕ → List Node → List Check
sizes_checks at sizes nodes = flat_map (size_checks at sizes) nodes
