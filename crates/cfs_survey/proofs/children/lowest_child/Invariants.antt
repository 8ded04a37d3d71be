use Rattle.std.proofs.Common.{◌≡◌, drop}
use Rattle.cfs_survey.specs.Changes.{lowest_child}
use Rattle.cfs_survey.proofs.children.lowest_child.Given as goal

abbrev pub invariant-loop-at : goal.invariant-loop-at
invariant-loop-at l = l.lowest ≡ lowest_child (drop l.at l.nodes) l.parent
