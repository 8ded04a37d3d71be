use Rattle.std.proofs.Common.{◌∙◌, sym, ap}
use Rattle.cfs_tree.specs.Spans.{span_at}
use Rattle.cfs_tree.proofs.Lists.{span_at-is, found-fits}
use Rattle.cfs_tree.proofs.span_tree.SpanTree.find.Goals as goal

pub returns-clause-exact : goal.returns-clause-exact
returns-clause-exact g c =
    c.find.ensures.exact ∙ sym (span_at-is c.self.inside.store c.self.inside.root _ c.self.invariant c.args.place)
    ∙ ap (λ v. span_at v.spans c.args.place) c.self.view_is

pub returns-clause-fit : goal.returns-clause-fit
returns-clause-fit g c = found-fits c.self.inside.store c.self.inside.root _ c.self.invariant c.args.place c.find.result c.find.ensures.exact
