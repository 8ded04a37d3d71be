use Rattle.std.proofs.Common.{◌≡◌, [], ◌∷◌, ◌++◌, drop}
use Rattle.cfs_dir.specs.Step.{place_of, walk}
use Rattle.cfs_dir.proofs.tree.Tree.place.Given as goal

abbrev pub invariant-loop-name : goal.invariant-loop-name
invariant-loop-name l =
    place_of l.self.nodes l.credential l.path ≡ walk l.self.nodes l.credential l.directory (drop l.name-index l.directories ++ l.last ∷ [])
