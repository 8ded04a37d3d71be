-- A tree as far as its changes have been read, and one that was read.
use Rattle.cfs_dir.specs.Namespace.{Namespace}
use Rattle.cfs_survey.specs.declared.recovered.Recovered.{Recovered}
use Rattle.cfs_survey.specs.declared.tree_so_far.TreeSoFar.{TreeSoFar}
use Rattle.std.specs.Prelude.{ℕ, List}

abbrev pub tree_of : TreeSoFar → Namespace
tree_of tree = record { nodes = tree.nodes.items; next = tree.next }

abbrev pub places_of : TreeSoFar → List ℕ
places_of tree = tree.places.items

abbrev pub found_tree : Recovered → Namespace
found_tree found = record { nodes = found.nodes.items; next = found.next }
