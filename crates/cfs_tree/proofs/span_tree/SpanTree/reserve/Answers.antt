use Rattle.std.proofs.Common.{◌∙◌, ap}
use Rattle.cfs_tree.proofs.Lists.{closes, shows}
use Rattle.cfs_tree.proofs.span_tree.SpanTree.reserve.Goals as goal

pub invariant_of-self : goal.invariant_of-self
invariant_of-self c = let u = c.reserve.ensures.holds _ _ c.self.invariant in closes _ _ _ u.0

pub returns-clause-spans : goal.returns-clause-spans
returns-clause-spans c =
    let u = c.reserve.ensures.holds _ _ c.self.invariant in
    shows _ _ _ u.0 ∙ u.1 ∙ ap (λ v. v.spans) c.self.view_is
