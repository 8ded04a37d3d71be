use Rattle.std.proofs.Common.{◌∙◌, ap, sym, subst, refl, List, ℕ}
use Rattle.std.specs.Prelude.{IsSome}
use Rattle.cfs_file.specs.declared.span.Span.{Span}
use Rattle.cfs_tree.specs.Spans.{without_place, span_at}
use Rattle.cfs_tree.specs.Holding.{list_of, tree_under}
use Rattle.cfs_tree.proofs.Lists.{closes, shows, missing-is, present-is, without_place-absent}
use Rattle.cfs_tree.proofs.span_tree.SpanTree.remove.Goals as goal

pub invariant_of-self-in-Some : goal.invariant_of-self-in-Some
invariant_of-self-in-Some c = let u = c.in-Some.ensures.kept _ c.self.invariant in closes _ _ _ u.1.1

pub returns-in-None-clause-kept : goal.returns-in-None-clause-kept
returns-in-None-clause-kept c =
    let u = c.in-None.ensures.kept _ c.self.invariant in
    let none = missing-is c.self.inside.store c.self.inside.root _ c.self.invariant c.args.place u.0 in
    let is = ap (λ v. span_at v.spans c.args.place) (sym c.self.view_is) ∙ none in
    (λ h. absurd (cc (h)), λ h. rw is at h)

pub returns-in-None-clause-spans : goal.returns-in-None-clause-spans
returns-in-None-clause-spans c =
    let u = c.in-None.ensures.kept _ c.self.invariant in
    let none = missing-is c.self.inside.store c.self.inside.root _ c.self.invariant c.args.place u.0 in
    ap (λ s. (list_of s (tree_under s.nodes.items c.self.inside.root)).spans) u.1
    ∙ sym (without_place-absent c.args.place _ none) ∙ ap (λ v. without_place c.args.place v.spans) c.self.view_is

pub returns-in-Some-clause-kept : goal.returns-in-Some-clause-kept
returns-in-Some-clause-kept c =
    let u = c.in-Some.ensures.kept _ c.self.invariant in
    let P : List (ℕ × Span) → Type 0 = λ w. IsSome (span_at w c.args.place) in
    (λ h. subst P (ap (λ v. v.spans) c.self.view_is) (present-is c.self.inside.store c.self.inside.root _ c.self.invariant c.args.place u.0), λ h. refl)

pub returns-in-Some-clause-spans : goal.returns-in-Some-clause-spans
returns-in-Some-clause-spans c =
    let u = c.in-Some.ensures.kept _ c.self.invariant in
    shows _ _ _ u.1.1 ∙ u.1.2 ∙ ap (λ v. without_place c.args.place v.spans) c.self.view_is
