use Rattle.cfs_survey.specs.SoFar.{tree_of}
use Rattle.cfs_survey.specs.Changes.{number_of}
use Rattle.cfs_survey.proofs.ChangeLemmas.{found_rec, removed_tree}
use Rattle.cfs_survey.proofs.tree_so_far.TreeSoFar.remove.Goals as goal

pub returns-clause-tree : goal.returns-clause-tree
returns-clause-tree c =
    removed_tree (tree_of c.args.self.now) c.args.words.now c.drop_node.new.nodes.items
    c.in_ok-held.held.rec c.requires.operation
    (found_rec c.deref.result.now (number_of c.args.words.now) c.in_ok-held.held
    c.in_ok-held.ensures.node) c.drop_node.ensures

pub removal-requires-clause-number : goal.removal-requires-clause-number
removal-requires-clause-number c =
    found_rec c.deref.result.now (number_of c.args.words.now) c.in_ok-held.held
    c.in_ok-held.ensures.node
