use Rattle.std.proofs.Common.{◌∙◌, Some, None, cond, ap}
use Rattle.std.specs.FinMap as map
use Rattle.std.specs.FinMap.{get-insert}
use Rattle.std.proofs.lemmas.Cmp.{nat_cmp_total}
use Rattle.cfs_extent.proofs.Held.{tie-refl}
use Rattle.cfs_parts_bench.proofs.extent.again.Goals as goal

pub put_back-requires : goal.put_back-requires
put_back-requires c =
    let held = c.args.map.now.held in
    let k = c.args.k in
    ap (λ m. map.get m.held k) c.in-Some.ensures.lent
    ∙ get-insert nat_cmp_total held k None k
    ∙ ap (λ t. cond t (Some None) (map.get held k)) (tie-refl k)
