use Rattle.std.proofs.Common.{◌∙◌, ap, get_or, arith}
use Rattle.cfs_vec.proofs.CellLemmas.{full_at, none_not_at}
use Rattle.cfs_vec.proofs.fixed_vec.FixedVec.at.Goals as goal

pub unreachable-requires : goal.unreachable-requires
unreachable-requires g c = none_not_at c.args.self.now.cells.items c.args.index c.index-as_slice-index.result c.args.self.now.full (omega (arith, c.args.self.now.full))
    (c.index-as_slice-index.is ∙ ap (λ cells. get_or cells c.args.index c.index-as_slice-index.result) c.as_slice.ensures.value) c.in-None.is

pub returns : goal.returns
returns g c = full_at c.args.self.now.cells.items c.args.index c.index-as_slice-index.result c.in-Some.item c.args.self.now.full (omega (arith, c.args.self.now.full))
    (c.index-as_slice-index.is ∙ ap (λ cells. get_or cells c.args.index c.index-as_slice-index.result) c.as_slice.ensures.value) c.in-Some.is
