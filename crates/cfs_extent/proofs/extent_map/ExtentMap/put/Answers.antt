use Rattle.std.proofs.Common.{◌-◌, Some, min, ap, ◌∙◌, vec_capacity}
use Rattle.std.specs.FinMap as map
use Rattle.cfs_extent.proofs.Views.{absent_number, min_same, put_view, same_view}
use Rattle.cfs_extent.proofs.extent_map.ExtentMap.put.Goals as goal

pub add-at-requires-clause-absent : goal.add-at-requires-clause-absent
add-at-requires-clause-absent g c =
    absent_number c.self.inside.runs.list c.self.inside.blocks.items
    (min (vec_capacity c.self.inside.blocks) c.self.inside.runs.room) c.args.k c.self.invariant.0
    (ap (λ e. map.get e.held c.args.k) c.self.view_is ∙ c.requires.unmapped)

pub returns : goal.returns
returns g c =
    same_view (ap (λ n. n.list) c.add-at.ensures.added) c.insert_within.ensures.items
    (min_same _ _ _ _ c.insert_within.ensures.room (ap (λ n. n.room) c.add-at.ensures.added))
    ∙ put_view c.self.inside.runs.list c.self.inside.blocks.items
    (min (vec_capacity c.self.inside.blocks) c.self.inside.runs.room) c.add-at.result c.args.k
    (Some c.args.block) c.self.invariant.0 c.add-at.ensures.within
    (absent_number c.self.inside.runs.list c.self.inside.blocks.items
    (min (vec_capacity c.self.inside.blocks) c.self.inside.runs.room) c.args.k c.self.invariant.0
    (ap (λ e. map.get e.held c.args.k) c.self.view_is ∙ c.requires.unmapped))
    ∙ ap (λ e. record { held = map.insert e.held c.args.k (Some c.args.block); spare = e.spare - 1 })
    c.self.view_is
