use Rattle.std.proofs.Common.{min, ap, ◌∙◌, vec_capacity}
use Rattle.std.specs.FinMap as map
use Rattle.cfs_extent.proofs.Views.{found_key}
use Rattle.cfs_extent.proofs.extent_map.ExtentMap.is_mapped.Goals as goal

pub returns : goal.returns
returns g c =
    c.is_some.ensures
    ∙ found_key c.self.inside.runs.list c.self.inside.blocks.items
    (min (vec_capacity c.self.inside.blocks) c.self.inside.runs.room) c.args.k c.find.result
    c.self.invariant.0 c.find.ensures.there c.find.ensures.absent
    ∙ ap (λ e. map.contains_key e.held c.args.k) c.self.view_is
