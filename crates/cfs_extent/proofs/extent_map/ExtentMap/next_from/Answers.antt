use Rattle.std.proofs.Common.{◌<◌, min, sym, ap, ◌∙◌, subst, vec_capacity}
use Rattle.std.specs.FinMap as map
use Rattle.std.proofs.lemmas.Option.{IfSome_then}
use Rattle.cfs_extent.specs.Extents.{Extents, IsNextFrom}
use Rattle.cfs_extent.proofs.Views.{if_none, next_is, none_from}
use Rattle.cfs_extent.proofs.Held.{key_has}
use Rattle.cfs_extent.proofs.extent_map.ExtentMap.next_from.Goals as goal

pub returns-clause-next : goal.returns-clause-next
returns-clause-next g c =
    IfSome_then c.next_from.result c.next_from.ensures.next (λ next h.
    let P : Extents _ → Type 0 = λ e. IsNextFrom e.held c.args.k next in
    subst P c.self.view_is
    (next_is c.self.inside.runs.list c.self.inside.blocks.items
    (min (vec_capacity c.self.inside.blocks) c.self.inside.runs.room) c.args.k next
    c.self.invariant.0 h))

pub returns-clause-none : goal.returns-clause-none
returns-clause-none g c =
    if_none c.next_from.result c.next_from.ensures.none (λ h q le.
    ap (λ e. map.contains_key e.held q) (sym c.self.view_is)
    ∙ none_from c.self.inside.runs.list c.self.inside.blocks.items
    (min (vec_capacity c.self.inside.blocks) c.self.inside.runs.room) c.args.k h q le)

pub returns-clause-within : goal.returns-clause-within
returns-clause-within g c q has =
    key_has c.self.inside.runs.list c.self.inside.blocks.items (λ n. n < 256) q
    c.next_from.ensures.ascending.below
    (ap (λ e. map.contains_key e.held q) c.self.view_is ∙ has)
