use Rattle.std.proofs.Common.{sym, ap, ◌∙◌, subst}
use Rattle.std.specs.FinMap as map
use Rattle.cfs_extent.specs.Runs.{Numbers, RisesFrom}
use Rattle.cfs_extent.proofs.Held.{values-held}
use Rattle.cfs_extent.proofs.Places.{rises}
use Rattle.cfs_extent.proofs.extent_map.ExtentMap.into_parts.Goals as goal

pub returns : goal.returns
returns g c =
    sym (values-held c.self.inside.runs.list c.self.inside.blocks.items c.self.invariant.0
    (let P : Numbers → Type 0 = λ n. RisesFrom 0 n.list in
    subst P c.drop.view_is (rises 0 c.drop.inside.runs.items c.drop.invariant)))
    ∙ ap (λ e. map.values e.held) c.self.view_is
