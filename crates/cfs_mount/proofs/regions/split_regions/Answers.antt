use Rattle.std.proofs.Common.{◌∙◌, ap, arith, drop, take}
use Rattle.std.proofs.lemmas.List.{drop-take, take-take}
use Rattle.cfs_mount.proofs.regions.split_regions.Goals as goal

pub returns-clause-records : goal.returns-clause-records
returns-clause-records c =
    c.in_ok-records.ensures.tail
    ∙ ap (λ regions. drop 3 regions) (c.in_ok-sizes.ensures.items
    ∙ ap (λ regions. take 67 regions) c.in_ok-slots.ensures.items
    ∙ take-take 67 323 c.args.regions.items (omega arith))
    ∙ drop-take 3 64 c.args.regions.items

pub returns-clause-sizes : goal.returns-clause-sizes
returns-clause-sizes c =
    c.in_ok-sizes.ensures.tail
    ∙ ap (λ regions. drop 67 regions) c.in_ok-slots.ensures.items
    ∙ drop-take 67 256 c.args.regions.items
