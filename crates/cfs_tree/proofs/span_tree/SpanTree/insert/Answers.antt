use Rattle.std.proofs.Common.{◌∙◌, ap}
use Rattle.cfs_tree.specs.Spans.{span_at, insert_in_order}
use Rattle.cfs_tree.proofs.Lists.{unkept-is, closes, shows}
use Rattle.cfs_tree.proofs.span_tree.SpanTree.insert.Goals as goal

pub insert-requires-clause-new : goal.insert-requires-clause-new
insert-requires-clause-new c =
    unkept-is c.self.inside.store c.self.inside.root _ c.self.invariant c.args.place (ap (λ v. span_at v.spans c.args.place) c.self.view_is ∙ c.requires.new)

pub invariant_of-self : goal.invariant_of-self
invariant_of-self c = let u = c.insert.ensures.kept _ c.self.invariant in closes _ _ u.0 u.1

pub returns-clause-spans : goal.returns-clause-spans
returns-clause-spans c =
    let u = c.insert.ensures.kept _ c.self.invariant in
    shows _ _ u.0 u.1 ∙ u.2 ∙ ap (λ v. insert_in_order (c.args.place, c.args.span) v.spans) c.self.view_is
