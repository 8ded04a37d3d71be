use Rattle.std.proofs.Common.{◌∙◌, [], ◌∷◌, Some, sym, ap, subst}
use Rattle.cfs_vec.specs.Cells.{somes, AreFull}
use Rattle.cfs_vec.proofs.CellLemmas.{full_more, somes-append}
use Rattle.cfs_vec.proofs.fixed_vec.FixedVec.push.Goals as goal

pub invariant_of-self : goal.invariant_of-self
invariant_of-self g c = record {
  full = subst (λ cells. AreFull cells) (sym c.push.ensures.items) (full_more c.args.self.now.cells.items c.args.item c.args.self.now.full);
}

pub returns : goal.returns
returns g c = ap (λ cells. somes cells) c.push.ensures.items ∙ somes-append c.args.self.now.cells.items (Some c.args.item ∷ [])
