use Rattle.std.proofs.Common.{None, min, arith, sym, ap, ◌∙◌, set, vec_capacity}
use Rattle.std.specs.FinMap as map
use Rattle.std.proofs.lemmas.Option.{slice_get_within}
use Rattle.cfs_extent.specs.Extents.{block_at, extents_of}
use Rattle.cfs_extent.proofs.Views.{block_absent, block_view, on_some, set_view}
use Rattle.cfs_extent.proofs.extent_map.ExtentMap.lend.Goals as goal

pub returns-in_err-at-clause-block : goal.returns-in_err-at-clause-block
returns-in_err-at-clause-block g c =
    c.from_residual.ensures
    ∙ sym (ap (λ e. block_at e.held c.args.k) (sym c.self.view_is)
    ∙ block_absent c.self.inside.runs.list c.self.inside.blocks.items
    (min (vec_capacity c.self.inside.blocks) c.self.inside.runs.room) c.args.k
    c.in_err-at.ensures.absent)

pub index_mut-requires : goal.index_mut-requires
index_mut-requires g c =
    omega (
      arith,
      slice_get_within c.self.inside.runs.list _ _ c.in_ok-at.ensures.there.there,
      c.self.invariant.0,
    )

pub returns-clause-block : goal.returns-clause-block
returns-clause-block g c =
    c.take.ensures.value
    ∙ sym (ap (λ e. block_at e.held c.args.k) (sym c.self.view_is)
    ∙ block_view c.self.inside.runs.list c.self.inside.blocks.items
    (min (vec_capacity c.self.inside.blocks) c.self.inside.runs.room) c.in_ok-at.at c.args.k
    c.index_mut.result.now c.self.invariant.0 c.in_ok-at.ensures.there c.index_mut.ensures.value)

pub returns-clause-lent : goal.returns-clause-lent
returns-clause-lent g c =
    on_some c.take.result
    (ap (λ w. extents_of c.self.inside.runs.list (set c.self.inside.blocks.items c.in_ok-at.at w)
    (min (vec_capacity c.self.inside.blocks) c.self.inside.runs.room)) c.take.ensures.after
    ∙ set_view c.self.inside.runs.list c.self.inside.blocks.items
    (min (vec_capacity c.self.inside.blocks) c.self.inside.runs.room) c.in_ok-at.at c.args.k
    c.index_mut.result.now None c.self.invariant.0 c.in_ok-at.ensures.there
    c.index_mut.ensures.value
    ∙ ap (λ e. record { held = map.insert e.held c.args.k None; spare = e.spare }) c.self.view_is)
