use Rattle.std.proofs.Common.{ap, subst, List, ℕ, ◌-◌}
use Rattle.cfs_file.specs.declared.span.Span.{Span}
use Rattle.cfs_tree.specs.Spans.{IsLeast, OverlapsBetween, IsWithinBound}
use Rattle.cfs_tree.specs.Holding.{list_of, tree_under}
use Rattle.cfs_tree.proofs.Lists.{overlap-least, within_bound, can_search}
use Rattle.cfs_tree.proofs.span_tree.SpanTree.first_overlap_between.Goals as goal

pub least_under-requires : goal.least_under-requires
least_under-requires g c =
    (_, can_search c.self.inside.store c.self.inside.root _ c.self.invariant _ _ _ _ c.in-Some.search c.in-Some.ensures)

pub returns-in-Some-clause-least : goal.returns-in-Some-clause-least
returns-in-Some-clause-least g c =
    let P : List (ℕ × Span) → Type 0 = λ w. IsLeast (OverlapsBetween w c.args.span.now c.args.after c.args.before) c.least_under.result in
    let can = can_search c.self.inside.store c.self.inside.root _ c.self.invariant _ _ _ _ c.in-Some.search c.in-Some.ensures in
    subst P (ap (λ v. v.spans) c.self.view_is)
    (overlap-least c.self.inside.store c.self.inside.root _ c.self.invariant _ _ _ c.in-Some.search c.in-Some.ensures c.least_under.result
    (c.least_under.ensures.found _ can).least)

pub returns-in-Some-clause-cost : goal.returns-in-Some-clause-cost
returns-in-Some-clause-cost g c =
    let P : List (ℕ × Span) → Type 0 = λ w. IsWithinBound w c.args.span.now (c.least_under.new.steps - c.args.steps.now) in
    let Q : Span → Type 0 = λ w. IsWithinBound (list_of c.self.inside.store (tree_under c.self.inside.store.nodes.items c.self.inside.root)).spans w (c.least_under.new.steps - c.args.steps.now) in
    let can = can_search c.self.inside.store c.self.inside.root _ c.self.invariant _ _ _ _ c.in-Some.search c.in-Some.ensures in
    subst P (ap (λ v. v.spans) c.self.view_is)
    (subst Q c.in-Some.ensures.same_asked (within_bound c.self.inside.store c.self.inside.root _ c.self.invariant _ _ (c.least_under.ensures.found _ can).bound))
