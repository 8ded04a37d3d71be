use Rattle.std.proofs.Common.{List, [], ◌∷◌, map}
use Rattle.cfs_vec.specs.Items.{items_of}
use Rattle.cfs_slot.specs.declared.part.Part.{Part}
use Rattle.cfs_slot.specs.Regions.{tails_of_staged}
use Rattle.cfs_long.proofs.WholeLemmas.{AllSure, stands_whole}
use Rattle.cfs_long.proofs.laws.staged_stands_whole.Given.{Over}
use Rattle.cfs_long.proofs.laws.staged_stands_whole.Goals as goal

parts_sure : (g : Over) (parts : List (Part g.row.R.Denot g.R.Region)) → AllSure g.R.Region.seen (map (λ (p : Part g.row.R.Denot g.R.Region). p.region) parts)
parts_sure g [] = tt
parts_sure g (part ∷ parts) = (part.sure, parts_sure g parts)

pub returns : goal.returns
returns g c =
    let staged = c.args.staged.now in
    stands_whole g.R.Region.seen staged.region (tails_of_staged staged) (c.requires, parts_sure g (items_of staged.tails))
