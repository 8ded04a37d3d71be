use Rattle.cfs_tree.proofs.Lists.{closes, shows}
use Rattle.cfs_tree.proofs.span_tree.SpanTree.new.Goals as goal

pub invariant_of-result : goal.invariant_of-result
invariant_of-result c = closes _ _ _ c.new.ensures

pub returns : goal.returns
returns c = shows _ _ _ c.new.ensures
